-- The first line, as a search for its LF or CR finds its end.
use Rattle.std.proofs.Common.{◌≡◌, ℕ, ◌+◌, ◌<◌, ◌≤◌, ◌==◌, false, not, min, List, [], ◌∷◌, length, drop, ap, subst, ◌∙◌, refl, arith, inl, inr, nat_eq}
use Rattle.std.specs.Prelude.{unwrap_or}
use Rattle.std.specs.List.{prefix_len}
use Rattle.std.proofs.lemmas.Bool.{cases_Bool, cases_lt}
use Rattle.std.proofs.lemmas.List.Folds.{length-prefix_len}
use Rattle.memchr.specs.Find.{Nowhere, NoneBefore, Passes, is_byte2}
use Rattle.markdown_scanners_tree.specs.Bytes.{begins_with, line_ending, line_length}
use Rattle.markdown_scanners_tree.proofs.PrefixLemmas.{begins_with-after_prefix}
use Rattle.markdown_scanners_tree.proofs.ScanLemmas.{prefix_len-first, prefix_len-all}
use Rattle.markdown_scanners_tree.proofs.scanners.lines.BlankLemmas.{ends_no_line}

-- the length of a line whose head has k bytes
pub line_length-by_head : (bytes : List ℕ) (k : ℕ) → prefix_len ends_no_line bytes ≡ k
    → line_length bytes ≡ k + unwrap_or (line_ending (drop k bytes)) 0
line_length-by_head bytes k head =
    ap (λ n. n + unwrap_or (line_ending (drop n bytes)) 0) (length-prefix_len ends_no_line bytes ∙ head)

-- the head, by the two answers of the search
pub head-found : (bytes : List ℕ) (k : ℕ)
    → NoneBefore (Passes (is_byte2 10 13) bytes) 0 (length bytes) k × Passes (is_byte2 10 13) bytes k
    → prefix_len ends_no_line bytes ≡ k
head-found bytes k (first, here) =
    prefix_len-first (is_byte2 10 13) bytes k first.high here (λ j lt. first.before j (omega arith) lt)

pub head-not_found : (bytes : List ℕ) → Nowhere (Passes (is_byte2 10 13) bytes) 0 (length bytes)
    → prefix_len ends_no_line bytes ≡ length bytes
head-not_found bytes none = prefix_len-all (is_byte2 10 13) bytes (λ j lt. none j (omega arith) lt)

-- the head of some bytes ends with the first LF or the first CR
pub head-of_both : (bytes : List ℕ) → prefix_len ends_no_line bytes
    ≡ min (prefix_len (λ b. not (b == 10)) bytes) (prefix_len (λ b. not (b == 13)) bytes)
head-of_both [] = omega arith
head-of_both (b ∷ bytes) =
    let rest = head-of_both bytes in
    elim (cases_Bool (nat_eq b 10)) [
      | inl lf ↦ rw lf (omega arith)
      | inr no_lf ↦ elim (cases_Bool (nat_eq b 13)) [
        | inl cr ↦ rw (no_lf, cr) (omega arith)
        | inr no_cr ↦ rw (no_lf, no_cr) (omega (arith, rest))
      ]
    ]

-- a line ending has a byte at least
ending_rises : (rest : List ℕ) → 0 < length rest → begins_with ends_no_line rest ≡ false
    → 1 ≤ unwrap_or (line_ending rest) 0
ending_rises [] some stop = absurd (omega (arith, some))
ending_rises (b ∷ bytes) some stop =
    elim (cases_Bool (nat_eq b 10)) [
      | inl lf ↦ rw lf (omega arith)
      | inr no_lf ↦ elim (cases_Bool (nat_eq b 13)) [
        | inl cr ↦ elim (cases_Bool (begins_with (λ c. nat_eq c 10) bytes)) [
          | inl then_lf ↦ rw (no_lf, cr, then_lf) (omega arith)
          | inr alone ↦ rw (no_lf, cr, alone) (omega arith)
        ]
        | inr no_cr ↦ absurd (let goes_on = rw (no_lf, no_cr) at stop in cc)
      ]
    ]

-- a line of some bytes has one at least
pub line_length-rises : (bytes : List ℕ) → 0 < length bytes → 0 < line_length bytes
line_length-rises bytes some =
    let head = prefix_len ends_no_line bytes in
    let stop : begins_with ends_no_line (drop head bytes) ≡ false = begins_with-after_prefix ends_no_line bytes in
    elim (cases_lt 0 head) [
      | inl goes ↦
          let whole = line_length-by_head bytes head refl in
          omega (arith, whole, goes)
      | inr ends ↦
          let none : head ≡ 0 = omega (arith, ends) in
          let at_front : begins_with ends_no_line (drop 0 bytes) ≡ false =
          subst (λ n. begins_with ends_no_line (drop n bytes) ≡ false) none stop in
          let ending = ending_rises (drop 0 bytes) some at_front in
          let whole = line_length-by_head bytes 0 none in
          omega (arith, whole, ending)
    ]
