-- What stays of a buffer into which a text is written.
use Rattle.std.proofs.Common.{ℕ, List, ◌≢◌, ◌∙◌, length, drop, inl, inr, refl, sym, ap, arith}
use Rattle.std.proofs.lemmas.List.{drop_at}
use Rattle.markdown_scanners_c.specs.Buffer.{IsWritten, IsChangedFront}
use Rattle.markdown_scanners_c.specs.Status.{past_end}

module _ (text old new : List ℕ) (status needed : ℕ) where
  pub front_changed : IsWritten text old new status needed → IsChangedFront old new status needed
  front_changed (size, inl is) = (
    ap (λ n. drop n new) size ∙ ap (drop (length text)) is.2 ∙ drop_at text (drop (length text) old) (length text) refl
        ∙ ap (λ n. drop n old) (sym size),
    λ other. absurd (other is.0),
  )
  front_changed (size, inr is) = (ap (drop needed) is.2, λ other. is.2)

  pub no_refused_offset : IsWritten text old new status needed → status ≢ past_end
  no_refused_offset (size, inl is) past = omega (arith, is.0, past)
  no_refused_offset (size, inr is) past = omega (arith, is.0, past)
