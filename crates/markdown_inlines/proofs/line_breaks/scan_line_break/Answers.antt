use Rattle.std.proofs.Common.{◌≡◌, ◌+◌, ap, sym, ◌∙◌, arith, subst, drop, None, Some}
use Rattle.markdown_scanners_tree.specs.Bytes.{line_ending}
use Rattle.markdown_scanners_tree.proofs.PrefixLemmas.{from_offset}
use Rattle.markdown_scanners_tree.proofs.SomeExactlyLemmas.{SomeExactly-from_none}
use Rattle.markdown_inlines.specs.LineBreaks.{IsLineBreak}
use Rattle.markdown_inlines.proofs.line_breaks.LineBreakLemmas.{before_only, hard_given, rest_within, break_found}
use Rattle.markdown_inlines.proofs.line_breaks.LineBreakLemmas.{break_only, cut_after_break, one_line_break}
use Rattle.markdown_inlines.proofs.line_breaks.scan_line_break.Goals as goal

pub returns-in_err-start-clause-found : goal.returns-in_err-start-clause-found
returns-in_err-start-clause-found c =
    let bytes = c.args.bytes.now in
    let before = c.scan_before_ending-before in
    SomeExactly-from_none (IsLineBreak bytes) c.from_residual.ensures (λ break is.
    (let only = before_only bytes is.before is.after is.ending break.is_hard is.parts is.is_before is.ends in
    let here : is.after ≡ drop before.result.0 bytes = only.1 ∙ ap (λ k. drop k bytes) (sym before.ensures.count) in
    let lost : None ≡ Some is.ending = c.in_err-start.ensures.ending ∙ ap line_ending (from_offset bytes before.result.0)
    ∙ ap line_ending (sym here) ∙ is.ends in
    cc))

pub returns-then-len-bytes-clause-found : goal.returns-then-len-bytes-clause-found
returns-then-len-bytes-clause-found c = λ break is.
    let before = c.scan_before_ending-before in
    let only = break_only c.args.bytes.now before.result.0 c.in_ok-start.field-0 c.scan_ch_repeat.result before.ensures.count
    before.ensures.within c.in_ok-start.ensures.ending c.scan_ch_repeat.ensures.run break is in
    absurd (omega (arith, only.0, is.goes_on, c.if-len-bytes.true))

pub returns-clause-found : goal.returns-clause-found
returns-clause-found c =
    let bytes = c.args.bytes.now in
    let before = c.scan_before_ending-before in
    let len = before.result.0 + c.in_ok-start.field-0 + c.scan_ch_repeat.result in
    let first = rest_within bytes before.result.0 c.in_ok-start.field-0 before.ensures.within c.in_ok-start.ensures.within in
    let second = rest_within bytes (before.result.0 + c.in_ok-start.field-0) c.scan_ch_repeat.result first c.scan_ch_repeat.ensures.within in
    subst (λ h. IsLineBreak bytes (record { is_hard = h; len = len }))
    (sym (hard_given bytes before.result.0 before.result.1 before.ensures.hard before.ensures.count))
    (break_found bytes before.result.0 c.in_ok-start.field-0 c.scan_ch_repeat.result before.ensures.count
    before.ensures.within c.in_ok-start.ensures.ending c.scan_ch_repeat.ensures.run (omega (arith, second, c.if-len-bytes.false)))

pub returns-clause-only : goal.returns-clause-only
returns-clause-only c = λ other is. one_line_break c.args.bytes.now other _ is (returns-clause-found c)

pub returns-clause-after : goal.returns-clause-after
returns-clause-after c = λ utf8.
    let bytes = c.args.bytes.now in
    let before = c.scan_before_ending-before in
    let first = rest_within bytes before.result.0 c.in_ok-start.field-0 before.ensures.within c.in_ok-start.ensures.within in
    let second = rest_within bytes (before.result.0 + c.in_ok-start.field-0) c.scan_ch_repeat.result first c.scan_ch_repeat.ensures.within in
    cut_after_break bytes before.result.0 c.in_ok-start.field-0 c.scan_ch_repeat.result before.ensures.count
    before.ensures.within c.in_ok-start.ensures.ending first c.scan_ch_repeat.ensures.run second utf8
