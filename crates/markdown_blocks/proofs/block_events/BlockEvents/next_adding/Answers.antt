use Rattle.std.proofs.Common.{List, ◌∷◌, ap, subst, ◌∙◌, arith}
use Rattle.markdown_blocks.specs.events.Events.{Event, leaf, seen_leaf}
use Rattle.markdown_blocks.specs.events.Given.{BlockLeft, GivesBlock}
use Rattle.markdown_blocks.proofs.block_events.GivenLemmas.{leaf_given}
use Rattle.markdown_blocks.proofs.block_events.BlockEvents.next_adding.Goals as goal

pub returns-in-Some-2-clause-event : goal.returns-in-Some-2-clause-event
returns-in-Some-2-clause-event c =
    let outer = c.args.containers.now in
    let content = c.args.content.now in
    let same = c.in_default.ensures.none in
    let block = seen_leaf c.in-Some-2.leaf in
    subst (λ (l : BlockLeft). (later : List Event) → GivesBlock outer content c.next_leaf_adding.new.self later
    → GivesBlock outer content l (leaf block ∷ later)) same
    (leaf_given outer content c.next_container.new.self (ap (λ (l : BlockLeft). l.ending) same ∙ c.in_default.ensures.ended)
    (omega (arith, ap (λ (l : BlockLeft). l.begun) same, c.in_default.ensures.begun))
    c.next_leaf_adding.new.self block (rw c.in-Some-2.is at c.in_ok-leaf.ensures.leaf) c.in_ok-leaf.ensures.same)

pub returns-in-Some-2-clause-used : goal.returns-in-Some-2-clause-used
returns-in-Some-2-clause-used c = rw (c.in_default.ensures.none, c.in-Some-2.is) at c.in_ok-leaf.ensures.used
