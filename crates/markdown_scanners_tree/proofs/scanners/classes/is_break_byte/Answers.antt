use Rattle.std.proofs.Common.{◌≡◌, ◌<◌, ◌==◌, ◌⊎◌, ℕ, true, refl, arith, not, nat_eq, bit_and, inl, inr}
use Rattle.std.proofs.lemmas.Bool.{eqb-true, cases_Bool}
use Rattle.markdown_scanners_tree.specs.scanners.Breaks.{is_break_marker, is_break_byte}
use Rattle.markdown_scanners_tree.specs.scanners.classes.private.BreakBits.{break_bits}
use Rattle.markdown_scanners_tree.proofs.scanners.classes.ClassLemmas.{tests_agree_below, tests_agree_at}
use Rattle.markdown_scanners_tree.proofs.scanners.classes.is_break_byte.Goals as goal

-- the three markers
marker_is : (marker : ℕ) → is_break_marker marker ≡ true → (marker ≡ 42) ⊎ ((marker ≡ 45) ⊎ (marker ≡ 95))
marker_is marker marked = elim (cases_Bool (marker == 42)) [
  | inl star ↦ inl (eqb-true marker 42 star)
  | inr other ↦ elim (cases_Bool (marker == 45)) [
    | inl hyphen ↦ inr (inl (eqb-true marker 45 hyphen))
    | inr last ↦ inr (inr (eqb-true marker 95 (rw (other, last) at marked)))
  ]
]

in_break : (marker byte : ℕ) → is_break_marker marker ≡ true → byte < 256
    → not (nat_eq (bit_and (break_bits byte) (break_bits marker)) 0) ≡ is_break_byte marker byte
unfolding tests_agree_below
in_break marker byte marked lt = elim (marker_is marker marked) [
  | inl star ↦ rw star (tests_agree_at (λ b. not (nat_eq (bit_and (break_bits b) 1) 0)) (is_break_byte 42) 256 refl byte lt)
  | inr (inl hyphen) ↦ rw hyphen (tests_agree_at (λ b. not (nat_eq (bit_and (break_bits b) 2) 0)) (is_break_byte 45) 256 refl byte lt)
  | inr (inr last) ↦ rw last (tests_agree_at (λ b. not (nat_eq (bit_and (break_bits b) 4) 0)) (is_break_byte 95) 256 refl byte lt)
]

pub returns : goal.returns
returns c = rw (c.breaks_of.ensures, c.breaks_of-2.ensures) (in_break c.args.marker c.args.byte c.requires (omega arith))
