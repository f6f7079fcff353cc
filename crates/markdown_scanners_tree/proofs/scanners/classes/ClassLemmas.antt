-- A rule of bytes is held against another at each of the 256 bytes, by computing.
use Rattle.std.proofs.Common.{◌≡◌, ℕ, zero, suc, ◌<◌, Bool, true, false, ◌&&◌, nat_eq, refl, arith, inl, inr}
use Rattle.std.proofs.lemmas.Bool.{cases_eq, eqb-true}
use Rattle.std.specs.Bool.{beq}
use Rattle.markdown_scanners_tree.proofs.PrefixLemmas.{both_true}

-- the two rules agree below n
unfoldable pub agree_below : (ℕ → ℕ) → (ℕ → ℕ) → ℕ → Bool
agree_below f g zero = true
agree_below f g (suc n) = nat_eq (f n) (g n) && agree_below f g n

pub agree_at : (f g : ℕ → ℕ) (n : ℕ) → agree_below f g n ≡ true → (b : ℕ) → b < n → f b ≡ g b
unfolding agree_below
agree_at f g zero h b lt = absurd (omega arith)
agree_at f g (suc n) h b lt =
    let both = both_true (nat_eq (f n) (g n)) (agree_below f g n) h in
    elim (cases_eq b n) [
      | inl same ↦ rw same (eqb-true (f n) (g n) both.0)
      | inr other ↦ agree_at f g n both.1 b (omega arith)
    ]

-- the same for tests
unfoldable pub tests_agree_below : (ℕ → Bool) → (ℕ → Bool) → ℕ → Bool
tests_agree_below f g zero = true
tests_agree_below f g (suc n) = beq (f n) (g n) && tests_agree_below f g n

same_bools : (x y : Bool) → beq x y ≡ true → x ≡ y
same_bools true true h = refl
same_bools true false h = cc
same_bools false true h = cc
same_bools false false h = refl

pub tests_agree_at : (f g : ℕ → Bool) (n : ℕ) → tests_agree_below f g n ≡ true → (b : ℕ) → b < n → f b ≡ g b
unfolding tests_agree_below
tests_agree_at f g zero h b lt = absurd (omega arith)
tests_agree_at f g (suc n) h b lt =
    let both = both_true (beq (f n) (g n)) (tests_agree_below f g n) h in
    elim (cases_eq b n) [
      | inl same ↦ rw same (same_bools (f n) (g n) both.0)
      | inr other ↦ tests_agree_at f g n both.1 b (omega arith)
    ]
