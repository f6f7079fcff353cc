use Rattle.std.proofs.Common.{◌∙◌, sym}
use Rattle.markdown_scanners_tree.proofs.SomeExactlyLemmas.{SomeExactly-from_none}
use Rattle.markdown_scanners_tree.proofs.scanners.reference_definitions.DefinitionLemmas.{after_bracket, no_label, label_with_colon, no_colon, cut_opened, cut_closed, cut_named}
use Rattle.markdown_scanners_tree.proofs.scanners.reference_definitions.scan_label_and_colon.Goals as goal

pub returns-in_err-length-clause-found : goal.returns-in_err-length-clause-found
returns-in_err-length-clause-found c =
    let cut = c.in_ok-inside.ensures.cases in
    SomeExactly-from_none _ c.from_residual-in_err-length.ensures
    (no_label c.args.bytes.now c.in_ok-inside.inside.now (after_bracket _ _ cut.0 cut.1) c.in_err-length.ensures.found)

pub returns-then-begins_with_colon-clause-found : goal.returns-then-begins_with_colon-clause-found
returns-then-begins_with_colon-clause-found c =
    let cut = c.in_ok-inside.ensures.cases in
    label_with_colon c.args.bytes.now c.in_ok-inside.inside.now (after_bracket _ _ cut.0 cut.1) c.in_ok-length.length
    c.in_ok-length.ensures.found (sym c.begins_with_colon.ensures ∙ c.if-begins_with_colon.true)

pub returns-else-begins_with_colon-clause-found : goal.returns-else-begins_with_colon-clause-found
returns-else-begins_with_colon-clause-found c =
    let cut = c.in_ok-inside.ensures.cases in
    no_colon c.args.bytes.now c.in_ok-inside.inside.now (after_bracket _ _ cut.0 cut.1) c.in_ok-length.length
    c.in_ok-length.ensures.only (sym c.begins_with_colon.ensures ∙ c.if-begins_with_colon.false)

pub returns-then-begins_with_colon-clause-begins : goal.returns-then-begins_with_colon-clause-begins
returns-then-begins_with_colon-clause-begins c =
    let cut = c.in_ok-inside.ensures.cases in
    cut_opened c.args.bytes.now c.in_ok-inside.inside.now (after_bracket _ _ cut.0 cut.1) c.in_ok-length.length

pub returns-then-begins_with_colon-clause-ends : goal.returns-then-begins_with_colon-clause-ends
returns-then-begins_with_colon-clause-ends c = λ utf8.
    let cut = c.in_ok-inside.ensures.cases in
    cut_closed c.args.bytes.now c.in_ok-inside.inside.now (after_bracket _ _ cut.0 cut.1) c.in_ok-length.length
    c.in_ok-length.ensures.within.0 c.in_ok-length.ensures.within.1 c.in_ok-length.ensures.closed

pub returns-then-begins_with_colon-clause-after : goal.returns-then-begins_with_colon-clause-after
returns-then-begins_with_colon-clause-after c =
    let cut = c.in_ok-inside.ensures.cases in
    cut_named c.args.bytes.now c.in_ok-inside.inside.now (after_bracket _ _ cut.0 cut.1) c.in_ok-length.length
    (sym c.begins_with_colon.ensures ∙ c.if-begins_with_colon.true)
