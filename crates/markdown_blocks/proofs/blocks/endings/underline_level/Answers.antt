use Rattle.std.proofs.Common.{ℕ, ◌≡◌, true, false, sym, ap, subst, ◌∙◌}
use Rattle.markdown_values.specs.declared.values.HeadingLevel.{HeadingLevel}
use Rattle.markdown_scanners_tree.specs.scanners.Headings.{IsSetextUnderline}
use Rattle.markdown_blocks.proofs.blocks.endings.underline_level.Goals as goal
use Rattle.markdown_blocks.specs.blank_lines.BlankLines.{is_blank}

pub returns-in_err-level : goal.returns-in_err-level
returns-in_err-level c =
    rw (c.from_residual.ensures, ← c.rest.view_is) (λ level h. c.in_err-level.ensures.found (h.1, level) h.2)

pub returns-then-not-is_blank : goal.returns-then-not-is_blank
returns-then-not-is_blank c = rw (← c.rest.view_is) (λ level h.
    let text = c.rest.inside.text.now in
    let after = c.after_underline.result.now in
    let same : level ≡ c.in_ok-level.level = ap (λ (r : ℕ × HeadingLevel). r.1) (c.in_ok-level.ensures.only (h.1, level) h.2) in
    let rest : after ≡ h.2.rest =
    subst (λ l. (n : ℕ) (u : IsSetextUnderline text n l) → after ≡ u.rest) (sym same) c.after_underline.ensures h.1 h.2 in
    let both : true ≡ false = sym h.3 ∙ ap is_blank (sym rest) ∙ sym c.is_blank.ensures ∙ c.if-not-is_blank.true in cc)

pub returns : goal.returns
returns c = rw (← c.rest.view_is) (
  c.if-rest-eq4.false,
  c.in_ok-level.field-0-0,
  c.in_ok-level.ensures.found,
  ap is_blank (sym (c.after_underline.ensures c.in_ok-level.field-0-0 c.in_ok-level.ensures.found)) ∙ sym c.is_blank.ensures ∙ c.if-not-is_blank.false,
)
