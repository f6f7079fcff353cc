use Rattle.std.proofs.Common.{◌≡◌, ◌∙◌, sym, ◌+◌, ◌∷◌, drop}
use Rattle.markdown_scanners_tree.specs.line.State.{unscanned}
use Rattle.markdown_scanners_tree.proofs.line.StepLemmas.{definition_taken, definition_refused, begins_with-other, begins_with-first}
use Rattle.markdown_scanners_tree.proofs.line.LineStart.scan_definition_list_definition_marker_with_indent.Goals as goal

pub returns-then-ne-clause-step : goal.returns-then-ne-clause-step
returns-then-ne-clause-step c =
    let old = c.args.self.now in
    let other = begins_with-other c.next_byte.result (unscanned old)
    (drop (old.offset + 1) old.bytes) 58 c.next_byte.ensures.byte c.next_byte.ensures.none
    (sym c.ne.ensures ∙ c.if-ne.true) in
    λ none. definition_refused c.args.indent old c.next_byte.ensures.phase none other

pub returns-clause-step : goal.returns-clause-step
returns-clause-step c none =
    let old = c.args.self.now in
    let first : unscanned old ≡ 58 ∷ drop (old.offset + 1) old.bytes =
    begins_with-first c.next_byte.result (unscanned old) (drop (old.offset + 1) old.bytes) 58 c.next_byte.ensures.byte
    (sym c.ne.ensures ∙ c.if-ne.false) in
    let space = c.scan_definition_space-columns in
    definition_taken c.args.indent space.result old space.new.self c.next_byte.ensures.phase none first
    (rw c.pass_byte.ensures at space.ensures.columns) (rw c.pass_byte.ensures at space.ensures.state)
    (rw c.pass_byte.ensures at space.ensures.rest)
