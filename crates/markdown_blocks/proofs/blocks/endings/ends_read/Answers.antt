use Rattle.std.proofs.Common.{inl, inr, true, false, ◌≡◌, ◌∙◌, sym, IsTrue}
use Rattle.markdown_blocks.specs.blocks.Leaves.{DefinesTerm}
use Rattle.markdown_blocks.proofs.kinds.KindLemmas.{not_given}
use Rattle.markdown_blocks.proofs.blocks.endings.ends_read.Goals as goal
use Rattle.markdown_blocks.proofs.blocks.endings.ends_read.Goals.{else-is_term-via-then-is_term+else-defines_term, else-is_term-via-else-is_term}

pub returns-then-rest-ne4 : goal.returns-then-rest-ne4
returns-then-rest-ne4 c =
    let defines : ¬ (IsTrue c.args.is_term × DefinesTerm c.args.extensions c.args.rest.now) = elim c.else-is_term.branch [
      | else-is_term-via-then-is_term+else-defines_term w ↦ λ h. not_given w.if-defines_term.false w.defines_term.ensures.1 h.1
      | else-is_term-via-else-is_term w ↦ λ h. let both : true ≡ false = sym h.0 ∙ w.if-is_term.false in cc
    ] in
    rw (← c.rest.view_is) (
      λ t. inr (inr (c.if-rest-ne4.true, c.interrupts.ensures.0 t)),
      λ ends. elim ends [
        | inl blank ↦ absurd (not_given c.if-is_blank.false (λ t. c.is_blank.ensures ∙ t) blank)
        | inr more ↦ elim more [
          | inl term ↦ absurd (rw (← c.rest.view_is) at defines term)
          | inr interrupts ↦ c.interrupts.ensures.1 interrupts.1
        ]
      ],
    )
