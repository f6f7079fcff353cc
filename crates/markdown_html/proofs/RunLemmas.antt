-- Runs of bytes in a text that a byte of ASCII ends.
use Rattle.std.proofs.Common.{◌≡◌, ℕ, ◌<◌, Bool, false, List, length, get_or, sym, subst, arith, inl, inr}
use Rattle.std.specs.List.{prefix_len}
use Rattle.std.specs.Str.{IsCharBoundary}
use Rattle.std.proofs.lemmas.Bool.{cases_lt}
use Rattle.std.proofs.lemmas.List.Sums.{prefix_len_stops, prefix_len-le-length}
use Rattle.std.proofs.lemmas.Str.{IsCharBoundary-before_ascii, IsCharBoundary-end}

-- A text may be cut after such a run at its front.
pub cut_after : (p : ℕ → Bool) → ((b : ℕ) → p b ≡ false → b < 128) → (bytes : List ℕ) (n : ℕ) → n ≡ prefix_len p bytes → IsCharBoundary bytes n
cut_after p low bytes n run = elim (cases_lt n (length bytes)) [
  | inl inside ↦ IsCharBoundary-before_ascii bytes n inside
      (low (get_or bytes n 0) (subst (λ k. p (get_or bytes k 0) ≡ false) (sym run)
      (prefix_len_stops p bytes 0 (subst (λ k. k < length bytes) run inside))))
  | inr outside ↦ subst (IsCharBoundary bytes) (omega (arith, prefix_len-le-length p bytes)) (IsCharBoundary-end bytes)
]
