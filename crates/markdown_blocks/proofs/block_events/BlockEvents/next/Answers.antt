use Rattle.std.proofs.Common.{List, ◌∷◌, ap, subst, ◌∙◌, arith}
use Rattle.markdown_blocks.specs.events.Events.{Event, leaf, seen_leaf}
use Rattle.markdown_blocks.specs.events.Given.{BlockLeft, GivesBlock}
use Rattle.markdown_blocks.proofs.block_events.GivenLemmas.{leaf_given, none_given, if_none}
use Rattle.markdown_blocks.proofs.block_events.BlockEvents.next.Goals as goal

pub returns-in_err-leaf-clause-none : goal.returns-in_err-leaf-clause-none
returns-in_err-leaf-clause-none c =
    if_none _ c.from_residual.result (none_given c.args.containers.now c.args.content.now c.args.self.now c.in_default.ensures.ended
    (omega (arith, c.in_default.ensures.begun)) (rw c.in_default.ensures.none at c.in_err-leaf.ensures.none))

pub returns-clause-event : goal.returns-clause-event
returns-clause-event c =
    let outer = c.args.containers.now in
    let content = c.args.content.now in
    let same = c.in_default.ensures.none in
    let block = seen_leaf c.in_ok-leaf.leaf in
    subst (λ (l : BlockLeft). (later : List Event) → GivesBlock outer content c.next_leaf.new.self later
    → GivesBlock outer content l (leaf block ∷ later)) same
    (leaf_given outer content c.next_container.new.self (ap (λ (l : BlockLeft). l.ending) same ∙ c.in_default.ensures.ended)
    (omega (arith, ap (λ (l : BlockLeft). l.begun) same, c.in_default.ensures.begun))
    c.next_leaf.new.self block c.in_ok-leaf.ensures.leaf c.in_ok-leaf.ensures.same)

pub returns-clause-used : goal.returns-clause-used
returns-clause-used c = rw c.in_default.ensures.none at c.in_ok-leaf.ensures.used
