use Rattle.std.proofs.Common.{◌≡◌, ◌+◌, length, drop, subst, ap, ◌∙◌, arith, inr}
use Rattle.markdown_blocks.specs.declared.blocks.BlockKind.TheVariants.{Definition}
use Rattle.markdown_blocks.specs.events.Events.{seen_leaf, leaf_of, first_lines, later_lines}
use Rattle.markdown_blocks.specs.events.Given.{BlockLeft}
use Rattle.markdown_blocks.proofs.block_events.GivenLemmas.{own_leaf, definition_leaf}
use Rattle.markdown_blocks.proofs.block_events.PartLemmas.{some_taken, fewer_lines}
use Rattle.markdown_blocks.proofs.block_events.BlockEvents.next_leaf.Goals as goal

pub returns-in_default-clause-leaf : goal.returns-in_default-clause-leaf
returns-in_default-clause-leaf c =
    let v = c.self.view_is in
    let outer = c.args.containers.now in
    let content = c.args.content.now in
    own_leaf outer content c.args.self.now c.take_all.new.self (seen_leaf c.take_all.result)
    (rw (c.content_from.ensures ∙ ap (λ (l : BlockLeft). drop l.used content) v) at c.in_default.ensures.none)
    (λ none. omega (arith, c.if-self-eq0.false, c.self.invariant.2, ap length (ap (λ (l : BlockLeft). l.part.lines) v ∙ none)))
    c.take_all.ensures.leaf c.take_all.ensures.none

pub returns-in_default-clause-used : goal.returns-in_default-clause-used
returns-in_default-clause-used c =
    let none = rw (c.content_from.ensures ∙ ap (λ (l : BlockLeft). drop l.used c.args.content.now) c.self.view_is) at c.in_default.ensures.none in
    inr (none, ap (λ (l : BlockLeft). l.used) c.take_all.ensures.same)

pub take_lines-requires : goal.take_lines-requires
take_lines-requires c = some_taken _ c.in-Some.taken _ c.in-Some.ensures.found.3 c.in-Some.ensures.some

pub returns-clause-leaf : goal.returns-clause-leaf
returns-clause-leaf c =
    let v = c.self.view_is in
    let outer = c.args.containers.now in
    let content = c.args.content.now in
    let taken = c.in-Some.taken in
    let counted = c.self.invariant.2 in
    let found = rw (c.content_from.ensures ∙ ap (λ (l : BlockLeft). drop l.used content) v) at c.in-Some.ensures.found in
    definition_leaf outer content c.args.self.now c.take_lines.new.self (seen_leaf c.take_lines.result) found.0 taken found.1 found.2 found.3.counted
    (λ none. omega (arith, c.if-self-eq0.false, counted, ap length (ap (λ (l : BlockLeft). l.part.lines) v ∙ none)))
    (subst (λ (l : BlockLeft). seen_leaf c.take_lines.result ≡ leaf_of Definition (first_lines taken.lines l.part)) v c.take_lines.ensures.leaf)
    (subst (λ (l : BlockLeft). c.take_lines.new.self
    ≡ record l { part = later_lines outer taken.lines l.part; used = l.used + taken.bytes }) v c.take_lines.ensures.rest)

pub returns-clause-fewer : goal.returns-clause-fewer
returns-clause-fewer c =
    let counted = c.self.invariant.2 in
    let found = c.in-Some.ensures.found in
    rw (← c.self.view_is, c.take_lines.ensures.rest) (fewer_lines c.in-Some.taken.lines _
    (some_taken _ c.in-Some.taken _ found.3 c.in-Some.ensures.some)
    (λ none. omega (arith, c.if-self-eq0.false, counted, ap length none)))
