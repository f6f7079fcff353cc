-- A test that parts stand one after another in a text. It reads the text once.
use Rattle.std.proofs.Common.{◌≡◌, ℕ, zero, suc, ◌+◌, ◌-◌, ◌<◌, ◌≤◌, Bool, true, false, ◌&&◌, ◌||◌, ◌==◌, nat_lt, nat_le, List, [], ◌∷◌, length, take}
use Rattle.std.proofs.Common.{drop, get_or, slice_index, bytes_eq, inl, inr, refl, ap, ◌∙◌, arith, ltb-true, leb-true, eqb-true, add-one, get_or-drop}
use Rattle.std.proofs.Common.{drop-drop, le_of_suc-le-suc, not-suc-le-zero}
use Rattle.std.specs.Str.{IsCharBoundary}
use Rattle.std.proofs.lemmas.Bool.{false≢true, and_parts, or_cases}
use Rattle.std.proofs.lemmas.Slice.Eq.{bytes_eq-Decides}
use Rattle.html_entities.specs.Parts.{IsPart, AreParts}

-- no character is cut in front of the bytes
abbrev begins : List ℕ → Bool
begins bytes = nat_lt (slice_index bytes 0) 128 || nat_le 192 (slice_index bytes 0)

-- `rest` is what stands after the first `at` bytes of a text of `total` bytes
unfoldable pub parts_ok : ℕ → ℕ → List ℕ → List ℕ → List (List ℕ) → Bool
parts_ok total at rest starts [] = nat_lt 0 (length starts)
parts_ok total at rest [] (part ∷ parts) = false
parts_ok total at rest (start ∷ starts) (part ∷ parts) =
    let n = length part in
    let after = drop n rest in
    ((start == at) && (slice_index starts 0 == at + n))
    && ((nat_le (at + n) total && (begins rest && begins after))
    && (bytes_eq (take n rest) part && parts_ok total (at + n) after starts parts))

module _ (text : List ℕ) where
  boundary : (rest : List ℕ) (at : ℕ) → rest ≡ drop at text → begins rest ≡ true → at ≤ length text → IsCharBoundary text at
  boundary rest at following ok inside =
      let first : slice_index rest 0 ≡ slice_index text (at + 0) = ap (λ l. slice_index l 0) following ∙ get_or-drop at text 0 0 in
      let here : at + 0 ≡ at = omega arith in
      let same : slice_index rest 0 ≡ slice_index text at = first ∙ ap (slice_index text) here in (
        inside,
        λ less high. elim (or_cases (nat_lt (slice_index rest 0) 128) (nat_le 192 (slice_index rest 0)) ok) [
          | inl low ↦ let below = ltb-true (slice_index rest 0) 128 low in omega arith
          | inr lead ↦ let above = leb-true 192 (slice_index rest 0) lead in omega arith
        ],
      )

  first_part : (at n start next : ℕ) (rest part : List ℕ) → rest ≡ drop at text → n ≡ length part → start ≡ at → next ≡ at + n
      → at + n ≤ length text → begins rest ≡ true → begins (drop n rest) ≡ true → take n rest ≡ part → IsPart text start next part
  first_part at n start next rest part following _ starts ends inside begun after is =
      let more : at ≤ length text = omega arith in
      let gap : next - start ≡ n = omega arith in
      let further : drop n rest ≡ drop (at + n) text = ap (drop n) following ∙ drop-drop n at text in
      record {
        in_order = omega arith;
        starts = rw starts (boundary rest at following begun more);
        ends = rw ends (boundary (drop n rest) (at + n) further after inside);
        is = rw (gap, starts, ← following) is;
      }

  parts_ok-at : (at : ℕ) (rest starts : List ℕ) (parts : List (List ℕ)) → rest ≡ drop at text
      → parts_ok (length text) at rest starts parts ≡ true → (k : ℕ) → k < length parts
      → IsPart text (slice_index starts k) (slice_index starts (suc k)) (get_or parts k [])
  unfolding parts_ok
  parts_ok-at at rest starts [] following ok k less = absurd (not-suc-le-zero less)
  parts_ok-at at rest [] (part ∷ parts) following ok k less = absurd (false≢true ok)
  parts_ok-at at rest (start ∷ starts) (part ∷ parts) following ok zero less =
      let n = length part in
      let halves = and_parts ((start == at) && (slice_index starts 0 == at + n)) _ ok in
      let places = and_parts (start == at) (slice_index starts 0 == at + n) halves.0 in
      let tests = and_parts (nat_le (at + n) (length text) && (begins rest && begins (drop n rest))) _ halves.1 in
      let edges = and_parts (nat_le (at + n) (length text)) (begins rest && begins (drop n rest)) tests.0 in
      let sides = and_parts (begins rest) (begins (drop n rest)) edges.1 in
      let same = and_parts (bytes_eq (take n rest) part) (parts_ok (length text) (at + n) (drop n rest) starts parts) tests.1 in
      first_part at n start (slice_index starts 0) rest part following refl (eqb-true start at places.0) (eqb-true (slice_index starts 0) (at + n) places.1)
      (leb-true (at + n) (length text) edges.0) sides.0 sides.1 ((bytes_eq-Decides (take n rest) part).0 same.0)
  parts_ok-at at rest (start ∷ starts) (part ∷ parts) following ok (suc k) less =
      let n = length part in
      let halves = and_parts ((start == at) && (slice_index starts 0 == at + n)) _ ok in
      let tests = and_parts (nat_le (at + n) (length text) && (begins rest && begins (drop n rest))) _ halves.1 in
      let same = and_parts (bytes_eq (take n rest) part) (parts_ok (length text) (at + n) (drop n rest) starts parts) tests.1 in
      parts_ok-at (at + n) (drop n rest) starts parts (ap (drop n) following ∙ drop-drop n at text) same.1 k (le_of_suc-le-suc less)

  parts_ok-enough : (at : ℕ) (rest starts : List ℕ) (parts : List (List ℕ)) → parts_ok (length text) at rest starts parts ≡ true → length parts < length starts
  unfolding parts_ok
  parts_ok-enough at rest starts [] ok = ltb-true 0 (length starts) ok
  parts_ok-enough at rest [] (part ∷ parts) ok = absurd (false≢true ok)
  parts_ok-enough at rest (start ∷ starts) (part ∷ parts) ok =
      let n = length part in
      let halves = and_parts ((start == at) && (slice_index starts 0 == at + n)) _ ok in
      let tests = and_parts (nat_le (at + n) (length text) && (begins rest && begins (drop n rest))) _ halves.1 in
      let same = and_parts (bytes_eq (take n rest) part) (parts_ok (length text) (at + n) (drop n rest) starts parts) tests.1 in
      let more = parts_ok-enough (at + n) (drop n rest) starts parts same.1 in
      omega arith

pub AreParts-from_ok : (text starts : List ℕ) (parts : List (List ℕ)) → parts_ok (length text) 0 text starts parts ≡ true → AreParts text starts parts
AreParts-from_ok text starts parts ok =
    record {
      enough = parts_ok-enough text 0 text starts parts ok;
      each = λ k less. rw add-one (parts_ok-at text 0 text starts parts refl ok k less);
    }
