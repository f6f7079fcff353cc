-- What searches and scans of blank lines tell.
use Rattle.std.specs.Prelude.{◌≡◌, ℕ, zero, suc, ◌+◌, ◌-◌, ◌<◌, Bool, true, false, not, List, [], ◌∷◌, length, take, drop, refl, if◌then◌else◌, ◌==◌, Option, Some, None, slice_index}
use Rattle.std.proofs.Common.{sym, ap, ◌∙◌, arith, inl, inr, one-add}
use Rattle.std.specs.List.{prefix_len, list_any}
use Rattle.std.specs.Option.{is_some}
use Rattle.std.proofs.lemmas.Bool.{cases_Bool}
use Rattle.memchr.specs.Find.{Nowhere, NoneBefore, Passes, IsFirstByte, is_byte}
use Rattle.markdown_scanners_tree.specs.Bytes.{is_white_space_in_line, line_ending, IsBlankLine}
use Rattle.markdown_scanners_tree.proofs.PrefixLemmas.{from_offset}
use Rattle.markdown_scanners_tree.proofs.scanners.lines.BlankLemmas.{IsBlankLine-found, IsBlankLine-only}

-- the bytes before the first that passes
module _ (p : ℕ → Bool) where
  pub prefix_len-first : (bytes : List ℕ) (k : ℕ) → k < length bytes → p (slice_index bytes k) ≡ true
      → ((j : ℕ) → j < k → ¬ (p (slice_index bytes j) ≡ true)) → prefix_len (λ b. not (p b)) bytes ≡ k
  prefix_len-first [] k inside here before = absurd (omega (arith, inside))
  prefix_len-first (b ∷ bytes) zero inside here before = rw here refl
  prefix_len-first (b ∷ bytes) (suc k) inside here before =
      elim (cases_Bool (p b)) [
        | inl passes ↦ absurd (before 0 (omega arith) passes)
        | inr fails ↦ rw (fails, one-add) (ap suc
            (prefix_len-first bytes k (omega (arith, inside)) here (λ j lt. before (suc j) (omega (arith, lt)))))
      ]

  pub prefix_len-all : (bytes : List ℕ) → ((j : ℕ) → j < length bytes → ¬ (p (slice_index bytes j) ≡ true))
      → prefix_len (λ b. not (p b)) bytes ≡ length bytes
  prefix_len-all [] none = refl
  prefix_len-all (b ∷ bytes) none =
      elim (cases_Bool (p b)) [
        | inl passes ↦ absurd (none 0 (omega arith) passes)
        | inr fails ↦ rw (fails, one-add) (ap suc (prefix_len-all bytes (λ j lt. none (suc j) (omega (arith, lt)))))
      ]

  list_any-at : (bytes : List ℕ) (k : ℕ) → k < length bytes → p (slice_index bytes k) ≡ true
      → list_any p bytes ≡ true
  list_any-at [] k inside here = absurd (omega (arith, inside))
  list_any-at (b ∷ bytes) zero inside here = rw here refl
  list_any-at (b ∷ bytes) (suc k) inside here = elim (cases_Bool (p b)) [
    | inl passes ↦ rw passes refl
    | inr fails ↦ rw fails (list_any-at bytes k (omega (arith, inside)) here)
  ]

  list_any-none : (bytes : List ℕ) → ((j : ℕ) → j < length bytes → ¬ (p (slice_index bytes j) ≡ true))
      → list_any p bytes ≡ false
  list_any-none [] none = refl
  list_any-none (b ∷ bytes) none =
      elim (cases_Bool (p b)) [
        | inl passes ↦ absurd (none 0 (omega arith) passes)
        | inr fails ↦ rw fails (list_any-none bytes (λ j lt. none (suc j) (omega (arith, lt))))
      ]

-- the two answers of a scan that reads the run of white space and then looks for a line ending
pub IsBlankLine-scanned : (bytes : List ℕ) (i ending : ℕ) → i ≡ prefix_len is_white_space_in_line bytes
    → Some ending ≡ line_ending (take (length bytes - i) (drop i bytes)) → IsBlankLine bytes (i + ending)
IsBlankLine-scanned bytes i ending run h =
    rw run (IsBlankLine-found bytes ending
    (sym (ap line_ending (from_offset bytes (prefix_len is_white_space_in_line bytes))) ∙ sym (rw run at h)))

pub IsBlankLine-not_scanned : (bytes : List ℕ) (i : ℕ) → i ≡ prefix_len is_white_space_in_line bytes
    → None ≡ line_ending (take (length bytes - i) (drop i bytes)) → (n : ℕ) → ¬ IsBlankLine bytes n
IsBlankLine-not_scanned bytes i run h n blank =
    let found = IsBlankLine-only bytes n blank in
    let missed = rw (run, from_offset bytes (prefix_len is_white_space_in_line bytes)) at h in
    let ending_found = found.1 in
    cc

-- the bytes before the first byte of a kind, as a search for it answers
pub prefix_len-found : (byte : ℕ) (bytes : List ℕ) (k : ℕ)
    → NoneBefore (Passes (is_byte byte) bytes) 0 (length bytes) k × Passes (is_byte byte) bytes k
    → prefix_len (λ b. not (b == byte)) bytes ≡ k
prefix_len-found byte bytes k (first, here) =
    prefix_len-first (is_byte byte) bytes k first.high here (λ j lt. first.before j (omega arith) lt)

pub prefix_len-not_found : (byte : ℕ) (bytes : List ℕ) → Nowhere (Passes (is_byte byte) bytes) 0 (length bytes)
    → prefix_len (λ b. not (b == byte)) bytes ≡ length bytes
prefix_len-not_found byte bytes none = prefix_len-all (is_byte byte) bytes (λ j lt. none j (omega arith) lt)

pub list_any-searched : (byte : ℕ) (bytes : List ℕ) (found : Option ℕ) → IsFirstByte (is_byte byte) bytes found
    → is_some found ≡ list_any (λ b. b == byte) bytes
list_any-searched byte bytes None none = sym (list_any-none (is_byte byte) bytes (λ j lt. none j (omega arith) lt))
list_any-searched byte bytes (Some k) (first, here) = sym (list_any-at (is_byte byte) bytes k first.high here)

-- what the number of a test tells of it
pub one_if-true : (test : Bool) (n : ℕ) → n ≡ (if test then 1 else 0) → ¬ (n ≡ 0) → test ≡ true
one_if-true true n is some = refl
one_if-true false n is some = absurd (some is)

pub one_if-false : (test : Bool) (n : ℕ) → n ≡ (if test then 1 else 0) → n ≡ 0 → test ≡ false
one_if-false true n is none = absurd (omega (arith, is, none))
one_if-false false n is none = refl
