use Rattle.std.proofs.Common.{inl, inr, refl, sym, ◌∙◌}
use Rattle.markdown_blocks.specs.blocks.Leaves.{IsUnderline}
use Rattle.markdown_blocks.proofs.kinds.KindLemmas.{none_given, not_given, some_given}
use Rattle.markdown_blocks.proofs.blocks.endings.ends_paragraph.Goals as goal

pub returns-then-is_some : goal.returns-then-is_some
returns-then-is_some c =
    let some = some_given (λ level. IsUnderline level c.args.rest.now) c.underline_level.result c.is_some.result c.is_some.ensures
    c.underline_level.ensures in
    (λ t. inr (inl (some.0 c.if-is_some.true)), λ ends. refl)

pub returns-then-rest-ne4 : goal.returns-then-rest-ne4
returns-then-rest-ne4 c = rw (← c.rest.view_is) (
  λ t. inr (inr (c.if-rest-ne4.true, c.interrupts.ensures.0 t)),
  λ ends. elim ends [
    | inl blank ↦ absurd (not_given c.if-is_blank.false (λ t. c.is_blank.ensures ∙ t) blank)
    | inr more ↦ elim more [
      | inl underline ↦ absurd (none_given (λ level. IsUnderline level (record { indent = c.rest.inside.indent; text = c.rest.inside.text.now }))
          c.underline_level.result (sym c.is_some.ensures ∙ c.if-is_some.false) (rw (← c.rest.view_is) at c.underline_level.ensures) underline.0 underline.1)
      | inr interrupts ↦ c.interrupts.ensures.1 interrupts.1
    ]
  ],
)
