use Rattle.std.proofs.Common.{◌≡◌, true, false, not, inl, inr, refl, sym, ap, ◌∙◌}
use Rattle.markdown_blocks.proofs.blocks.endings.interrupts.Goals.{else-interrupts_paragraph-via-then-interrupts_paragraph+else-not-has_fed_signs}
use Rattle.markdown_blocks.proofs.blocks.endings.interrupts.Goals.{else-interrupts_paragraph-via-else-interrupts_paragraph}
use Rattle.markdown_blocks.proofs.blocks.endings.interrupts.Goals as goal

pub returns-then-not-has_fed_signs : goal.returns-then-not-has_fed_signs
returns-then-not-has_fed_signs c = (
  λ t. inl (
    ap not (sym c.has_fed_signs.ensures ∙ c.if-not-has_fed_signs.true),
    c.interrupts_paragraph.ensures.0 c.if-interrupts_paragraph.true,
  ),
  λ interrupts. refl,
)

pub returns : goal.returns
returns c = (
  λ t. inr (sym c.interrupts_by_marker.ensures ∙ t),
  λ interrupts. elim interrupts [
    | inl h ↦ elim c.else-interrupts_paragraph.branch [
      | else-interrupts_paragraph-via-then-interrupts_paragraph+else-not-has_fed_signs w ↦
          (let both : false ≡ true = sym (ap not (sym w.has_fed_signs.ensures ∙ w.if-not-has_fed_signs.false)) ∙ h.0 in cc)
      | else-interrupts_paragraph-via-else-interrupts_paragraph w ↦
          (let both : true ≡ false = sym (c.interrupts_paragraph.ensures.1 h.1) ∙ w.if-interrupts_paragraph.false in cc)
    ]
    | inr marker ↦ c.interrupts_by_marker.ensures ∙ marker
  ],
)
