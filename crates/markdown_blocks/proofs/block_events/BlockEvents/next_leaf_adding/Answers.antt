use Rattle.std.proofs.Common.{◌≡◌, ◌+◌, length, drop, subst, sym, ap, ◌∙◌, arith, inr}
use Rattle.markdown_blocks.specs.declared.blocks.BlockKind.TheVariants.{Definition}
use Rattle.markdown_blocks.specs.events.Events.{seen_leaf, leaf_of, first_lines, later_lines}
use Rattle.markdown_blocks.specs.events.Given.{BlockLeft}
use Rattle.markdown_blocks.specs.link_definitions.LinkDefinitions.{AreAddedBetween}
use Rattle.markdown_blocks.proofs.block_events.GivenLemmas.{own_leaf, definition_leaf}
use Rattle.markdown_blocks.proofs.block_events.PartLemmas.{some_taken, fewer_lines}
use Rattle.markdown_blocks.proofs.link_definitions.NamedLemmas.{none_added, added_later}
use Rattle.markdown_blocks.proofs.block_events.BlockEvents.next_leaf_adding.Goals as goal

pub returns-in_default-clause-leaf : goal.returns-in_default-clause-leaf
returns-in_default-clause-leaf c =
    let v = c.self.view_is in
    let content = c.args.content.now in
    own_leaf c.args.containers.now content c.args.self.now c.take_all.new.self (seen_leaf c.take_all.result)
    (rw (c.in_default.is, c.content_from.ensures ∙ ap (λ (l : BlockLeft). drop l.used content) v) at c.in_ok-found.ensures.none)
    (λ none. omega (arith, c.if-self-eq0.false, c.self.invariant.2, ap length (ap (λ (l : BlockLeft). l.part.lines) v ∙ none)))
    c.take_all.ensures.leaf c.take_all.ensures.none

pub returns-in_default-clause-used : goal.returns-in_default-clause-used
returns-in_default-clause-used c =
    let left = c.content_from.ensures ∙ ap (λ (l : BlockLeft). drop l.used c.args.content.now) c.self.view_is in
    inr (rw (c.in_default.is, left) at c.in_ok-found.ensures.none, ap (λ (l : BlockLeft). l.used) c.take_all.ensures.same)

pub returns-in_default-clause-added : goal.returns-in_default-clause-added
returns-in_default-clause-added c =
    none_added c.args.self.now.used _ c.args.content.now c.args.known.now _ (ap (λ (l : BlockLeft). l.used) c.take_all.ensures.same)
    (rw c.in_default.is at c.in_ok-found.ensures.unchanged)

pub take_lines-leaf-requires : goal.take_lines-leaf-requires
take_lines-leaf-requires c =
    let found = rw c.in-Some.is at c.in_ok-found.ensures.found in
    some_taken _ c.in-Some.found _ found.3 (rw c.in-Some.is at c.in_ok-found.ensures.some)

pub returns-clause-leaf : goal.returns-clause-leaf
returns-clause-leaf c =
    let v = c.self.view_is in
    let outer = c.args.containers.now in
    let content = c.args.content.now in
    let taken = c.in-Some.found in
    let counted = c.self.invariant.2 in
    let found = rw (c.in-Some.is, c.content_from.ensures ∙ ap (λ (l : BlockLeft). drop l.used content) v) at c.in_ok-found.ensures.found in
    definition_leaf outer content c.args.self.now c.take_lines-leaf.new.self (seen_leaf c.take_lines-leaf.result) found.0 taken found.1 found.2 found.3.counted
    (λ none. omega (arith, c.if-self-eq0.false, counted, ap length (ap (λ (l : BlockLeft). l.part.lines) v ∙ none)))
    (subst (λ (l : BlockLeft). seen_leaf c.take_lines-leaf.result ≡ leaf_of Definition (first_lines taken.lines l.part)) v c.take_lines-leaf.ensures.leaf)
    (subst (λ (l : BlockLeft). c.take_lines-leaf.new.self
    ≡ record l { part = later_lines outer taken.lines l.part; used = l.used + taken.bytes }) v c.take_lines-leaf.ensures.rest)

pub returns-clause-fewer : goal.returns-clause-fewer
returns-clause-fewer c =
    let counted = c.self.invariant.2 in
    let found = rw c.in-Some.is at c.in_ok-found.ensures.found in
    rw (← c.self.view_is, c.take_lines-leaf.ensures.rest) (fewer_lines c.in-Some.found.lines _
    (some_taken _ c.in-Some.found _ found.3 (rw c.in-Some.is at c.in_ok-found.ensures.some))
    (λ none. omega (arith, c.if-self-eq0.false, counted, ap length none)))

pub returns-clause-added : goal.returns-clause-added
returns-clause-added c =
    let content = c.args.content.now in
    let v = c.self.view_is in
    let used : c.take_lines-leaf.new.self.used ≡ c.args.self.now.used + c.in-Some.found.bytes =
    ap (λ (l : BlockLeft). l.used) c.take_lines-leaf.ensures.rest ∙ ap (λ (l : BlockLeft). l.used + c.in-Some.found.bytes) v in
    subst (λ n. AreAddedBetween c.args.self.now.used n content c.args.known.now c.add_next.new.self) (sym used)
    (added_later c.args.self.now.used c.in-Some.found.bytes content c.content_from.result.now c.args.known.now c.add_next.new.self
    (c.content_from.ensures ∙ ap (λ (l : BlockLeft). drop l.used content) v)
    (rw c.in-Some.is at c.in_ok-found.ensures.added))
