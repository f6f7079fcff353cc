-- The first and the last character of a text, and what stands around an offset of it.
use Rattle.std.proofs.Common.{ℕ, ◌+◌, ◌-◌, ◌≤◌, ◌<◌, ◌≡◌, ◌≢◌, true, false, min, List, [], ◌∷◌, ◌++◌, length, get_or}
use Rattle.std.proofs.Common.{encode_utf8, encode_utf8_all, IsUtf8, inl, inr, refl, sym, ap, subst, arith, length-append}
use Rattle.std.specs.Str.{IsCharBoundary}
use Rattle.std.proofs.lemmas.Bool.{cases_lt, and_parts}
use Rattle.std.proofs.lemmas.Bool.Decides.{nat_tests}
use Rattle.std.proofs.lemmas.Str.{length-encode, len_utf8_bounds, IsCharBoundary-at_seam, IsCharBoundary-start, IsCharBoundary-end, IsCharBoundary-from_rest}
use Rattle.std.proofs.Math.Seq.{drop-append_seam}
use lib.Utf8.{scalar, scalars}
use Rattle.markdown_scanners_c.specs.private.Sides.{begins_character}

one_to_four : (c : ℕ) → (1 ≤ length (encode_utf8 c)) × (length (encode_utf8 c) ≤ 4)
one_to_four c = (omega (arith, length-encode c, (len_utf8_bounds c).0), omega (arith, length-encode c, (len_utf8_bounds c).1))

-- where the first character ends
first_end : (cs : List ℕ) → scalars cs ≡ true → 0 < length (encode_utf8_all cs)
    → (n : ℕ) × (1 ≤ n) × (n ≤ 4) × IsCharBoundary (encode_utf8_all cs) n
first_end [] are some = absurd (omega (arith, some))
first_end (c ∷ cs) are some = (
  length (encode_utf8 c),
  (one_to_four c).0,
  (one_to_four c).1,
  IsCharBoundary-at_seam _ (encode_utf8 c) (encode_utf8_all cs) refl (cs, ((and_parts (scalar c) (scalars cs) are).1, refl)),
)

-- where the last character begins
last_begin : (cs : List ℕ) (c : ℕ) → scalars (c ∷ cs) ≡ true
    → (n : ℕ) × (n < length (encode_utf8_all (c ∷ cs))) × (length (encode_utf8_all (c ∷ cs)) ≤ n + 4)
    × IsCharBoundary (encode_utf8_all (c ∷ cs)) n
last_begin [] c are =
    let sum = length-append (encode_utf8 c) [] in
    (0, omega (arith, sum, (one_to_four c).0), omega (arith, sum, (one_to_four c).1), IsCharBoundary-start _ (c ∷ [], (are, refl)))
last_begin (d ∷ cs) c are =
    let later = last_begin cs d (and_parts (scalar c) (scalars (d ∷ cs)) are).1 in
    let rest = encode_utf8_all (d ∷ cs) in
    let sum = length-append (encode_utf8 c) rest in (
      length (encode_utf8 c) + later.0,
      omega (arith, sum, later.1),
      omega (arith, sum, later.2),
      IsCharBoundary-from_rest (encode_utf8 c ++ rest) (length (encode_utf8 c)) later.0 (omega (arith, sum))
          (subst (λ t. IsCharBoundary t later.0) (sym (drop-append_seam (encode_utf8 c) rest)) later.3),
    )

goes_on : (b : ℕ) → begins_character b ≡ false → (128 ≤ b) × (b < 192)
goes_on b is = grind (arith, nat_tests)

-- at an offset with such a byte no character begins
other_offset : (bs : List ℕ) (k n : ℕ) → begins_character (get_or bs k 0) ≡ false → k < length bs → IsCharBoundary bs n → n ≢ k
other_offset bs k n is inside at same =
    let byte = goes_on (get_or bs k 0) is in
    let here : IsCharBoundary bs k = subst (IsCharBoundary bs) same at in
    omega (arith, here.1 inside byte.0, byte.1)

last_of : (cs : List ℕ) → scalars cs ≡ true → 0 < length (encode_utf8_all cs)
    → (n : ℕ) × (n < length (encode_utf8_all cs)) × (length (encode_utf8_all cs) ≤ n + 4)
    × IsCharBoundary (encode_utf8_all cs) n
last_of [] are some = absurd (omega (arith, some))
last_of (c ∷ cs) are some = last_begin cs c are

module _ (bs : List ℕ) (utf8 : IsUtf8 bs) (most : ℕ) (is : most ≡ min (length bs) 4) where
  -- after at most four bytes, of which none but the first begins a character
  pub first_of_four : ((k : ℕ) → 1 ≤ k → k < most → begins_character (get_or bs k 0) ≡ false) → IsCharBoundary bs most
  first_of_four none = elim (cases_lt 4 (length bs)) [
    | inr short ↦ subst (IsCharBoundary bs) (omega (arith, is, short)) (IsCharBoundary-end bs)
    | inl long ↦
        let first : (n : ℕ) × (1 ≤ n) × (n ≤ 4) × IsCharBoundary bs n =
        subst (λ t. (n : ℕ) × (1 ≤ n) × (n ≤ 4) × IsCharBoundary t n) utf8.1.1
        (first_end utf8.0 utf8.1.0 (omega (arith, long, ap length utf8.1.1))) in
        let at : IsCharBoundary bs first.0 = first.3 in
        let not_at : (k : ℕ) → 1 ≤ k → k < 4 → first.0 ≢ k =
        λ k some below. other_offset bs k first.0 (none k some (omega (arith, below, is, long))) (omega (arith, below, long)) at in
        let four : first.0 ≡ most =
        omega (
          arith,
          is,
          long,
          first.1,
          first.2,
          not_at 1 (omega arith) (omega arith),
          not_at 2 (omega arith) (omega arith),
          not_at 3 (omega arith) (omega arith),
        ) in
        subst (IsCharBoundary bs) four at
  ]

  -- before at most four bytes at the end, of which none but the first begins a character
  pub last_of_four : ((k : ℕ) → 1 ≤ k → k < most → begins_character (get_or bs (length bs - k) 0) ≡ false)
      → IsCharBoundary bs (length bs - most)
  last_of_four none = elim (cases_lt 4 (length bs)) [
    | inr short ↦ subst (IsCharBoundary bs) (omega (arith, is, short)) (IsCharBoundary-start bs utf8)
    | inl long ↦
        let last : (n : ℕ) × (n < length bs) × (length bs ≤ n + 4) × IsCharBoundary bs n =
        subst (λ t. (n : ℕ) × (n < length t) × (length t ≤ n + 4) × IsCharBoundary t n) utf8.1.1
        (last_of utf8.0 utf8.1.0 (omega (arith, long, ap length utf8.1.1))) in
        let at : IsCharBoundary bs last.0 = last.3 in
        let not_at : (k : ℕ) → 1 ≤ k → k < 4 → last.0 ≢ length bs - k =
        λ k some below. other_offset bs (length bs - k) last.0 (none k some (omega (arith, below, is, long)))
        (omega (arith, some, long)) at in
        let four : last.0 ≡ length bs - most =
        omega (
          arith,
          is,
          long,
          last.1,
          last.2,
          not_at 1 (omega arith) (omega arith),
          not_at 2 (omega arith) (omega arith),
          not_at 3 (omega arith) (omega arith),
        ) in
        subst (IsCharBoundary bs) four at
  ]
