use Rattle.std.proofs.Common.{◌≡◌, ◌∙◌, false, ap, sym, subst}
use Rattle.std.specs.Prelude.{slice_range}
use Rattle.std.specs.List.{list_any}
use Rattle.markdown_scanners_tree.specs.Bytes.{is_line_ending}
use Rattle.markdown_inlines.specs.CodeContent.{with_spaces, without_padding}
use Rattle.markdown_inlines.proofs.code_content.CodeContentLemmas.{slice-plain}
use Rattle.markdown_inlines.proofs.code_content.lent_code_text.Goals as goal

pub returns-then-not-has_line_ending-clause-text : goal.returns-then-not-has_line_ending-clause-text
returns-then-not-has_line_ending-clause-text c =
    let content = c.args.content.now in
    let kept = c.without_padding-kept.result in
    let none : list_any is_line_ending content ≡ false =
    ap (list_any is_line_ending) (sym c.as_bytes-2.ensures.value) ∙ sym c.has_line_ending.ensures ∙ c.if-not-has_line_ending.true in
    c.range-text.ensures.value ∙ sym (slice-plain content kept.start kept.end none)
    ∙ subst (λ t. with_spaces (slice_range t kept.start kept.end) ≡ without_padding (with_spaces t)) c.as_bytes.ensures.value
    c.without_padding-kept.ensures.text
