-- Texts with their line endings as line feeds.
use Rattle.std.proofs.Common.{◌≡◌, ℕ, ◌≤◌, ◌<◌, Bool, true, false, not, ◌==◌, ◌&&◌, List, []}
use Rattle.std.proofs.Common.{◌∷◌, ◌++◌, length, take, drop, get_or, refl, sym, ap, subst, ◌∙◌, arith, inl, inr, append_assoc, one-add}
use Rattle.std.specs.Prelude.{if◌then◌else◌, slice_range}
use Rattle.std.specs.List.{prefix_len}
use Rattle.std.specs.Str.{IsUtf8, IsCharBoundary}
use Rattle.std.proofs.lemmas.Bool.{and_parts, cases_Bool, cases_lt, eqb-false, eqb-true}
use Rattle.std.proofs.lemmas.List.Sums.{prefix_len_is, prefix_len_stops, prefix_len-le-length}
use Rattle.std.proofs.lemmas.List.{get_or-drop, length-drop}
use Rattle.std.proofs.lemmas.Str.{IsCharBoundary-after_ascii, IsCharBoundary-before_ascii, IsCharBoundary-end}
use Rattle.markdown_scanners_tree.specs.Ascii.{carriage_return, line_feed}
use Rattle.markdown_scanners_tree.specs.Bytes.{begins_with}
use Rattle.markdown_events.specs.LineFeeds.{with_line_feeds}

abbrev stays : ℕ → Bool
stays b = not (b == 13)

-- what stands before the first carriage return
abbrev pub before_return : List ℕ → ℕ
before_return bytes = prefix_len stays bytes

is_return : (b : ℕ) → stays b ≡ false → b ≡ 13
is_return b stop = elim (cases_Bool (b == 13)) [
  | inl same ↦ eqb-true b 13 same
  | inr other ↦ (let none = rw other at stop in cc)
]

-- The front stays,
pub front_stays : (bytes : List ℕ)
    → with_line_feeds bytes ≡ take (before_return bytes) bytes ++ with_line_feeds (drop (before_return bytes) bytes)
front_stays [] = refl
front_stays (b ∷ bs) = elim (cases_Bool (b == 13)) [
  | inl return ↦ rw (eqb-true b 13 return) refl
  | inr other ↦ rw (other, one-add) (ap (λ t. b ∷ t) (front_stays bs))
]

-- and a carriage return follows it, or the text ends.
return_at : (bytes : List ℕ) → before_return bytes < length bytes → get_or bytes (before_return bytes) 0 ≡ 13
return_at bytes inside = is_return (get_or bytes (before_return bytes) 0) (prefix_len_stops stays bytes 0 inside)

pub front_cut : (bytes : List ℕ) (n : ℕ) → n ≡ before_return bytes → IsCharBoundary bytes n
front_cut bytes n front = elim (cases_lt n (length bytes)) [
  | inl inside ↦ IsCharBoundary-before_ascii bytes n inside
      (omega (arith, subst (λ k. get_or bytes k 0 ≡ 13) (sym front) (return_at bytes (subst (λ k. k < length bytes) front inside))))
  | inr outside ↦ subst (IsCharBoundary bytes) (omega (arith, prefix_len-le-length stays bytes)) (IsCharBoundary-end bytes)
]

pub first_return : (bytes rest : List ℕ) (n : ℕ) → n ≡ before_return bytes → rest ≡ drop n bytes → (length rest == 0) ≡ false
    → get_or rest 0 0 ≡ 13
first_return bytes rest n front later some =
    let inside : n < length bytes = omega (arith, ap length later, length-drop n bytes, eqb-false (length rest) 0 some) in
    ap (λ t. get_or t 0 0) later ∙ get_or-drop n bytes 0 0
    ∙ subst (λ k. get_or bytes k 0 ≡ 13) (sym front ∙ omega arith) (return_at bytes (subst (λ k. k < length bytes) front inside))

-- What is appended of a text, and what is left of it.
pub front_pushed : (text front rest before after : List ℕ) (n : ℕ) → n ≡ before_return text → front ≡ slice_range text 0 n → rest ≡ drop n text
    → after ≡ before ++ front → after ++ with_line_feeds rest ≡ before ++ with_line_feeds text
front_pushed text front rest before after n len is later pushed =
    let whole : with_line_feeds text ≡ take n text ++ with_line_feeds (drop n text) =
    subst (λ k. with_line_feeds text ≡ take k text ++ with_line_feeds (drop k text)) (sym len) (front_stays text) in
    let taken : front ≡ take n text = is ∙ ap (λ k. take k text) (omega arith) in
    rw (pushed, taken, later, whole, append_assoc) refl

pub ending_pushed : (rest last middle after : List ℕ) (n : ℕ) → with_line_feeds rest ≡ 10 ∷ with_line_feeds (drop n rest) → last ≡ drop n rest
    → after ≡ middle ++ 10 ∷ [] → after ++ with_line_feeds last ≡ middle ++ with_line_feeds rest
ending_pushed rest last middle after n ending later pushed = rw (pushed, later, ending, append_assoc) refl

-- A text without a carriage return stays.
pub all_stays : (text : List ℕ) → before_return text ≡ length text → with_line_feeds text ≡ text
all_stays text all =
    front_stays text ∙ rw all (whole text) where
      whole : (xs : List ℕ) → take (length xs) xs ++ with_line_feeds (drop (length xs) xs) ≡ xs
      whole [] = refl
      whole (x ∷ xs) = ap (λ t. x ∷ t) (whole xs)

-- CR LF at the front
pair_at : (bytes : List ℕ) → (get_or bytes 0 0 == 13 && get_or bytes 1 0 == 10) ≡ true → (2 ≤ length bytes) × (bytes ≡ 13 ∷ 10 ∷ drop 2 bytes)
pair_at [] pair = cc
pair_at (b ∷ []) pair = (let none : false ≡ true = (and_parts (b == 13) false pair).1 in cc)
pair_at (b ∷ c ∷ bs) pair =
    let both = and_parts (b == 13) (c == 10) pair in
    (omega arith, rw (eqb-true b 13 both.0, eqb-true c 10 both.1) refl)

pub pair_ends : (bytes : List ℕ) → (get_or bytes 0 0 == 13 && get_or bytes 1 0 == 10) ≡ true
    → with_line_feeds bytes ≡ 10 ∷ with_line_feeds (drop 2 bytes)
pair_ends bytes pair = ap with_line_feeds (pair_at bytes pair).1

pub pair_within : (bytes : List ℕ) → (get_or bytes 0 0 == 13 && get_or bytes 1 0 == 10) ≡ true → 2 ≤ length bytes
pair_within bytes pair = (pair_at bytes pair).0

pub pair_cut : (bytes : List ℕ) → (get_or bytes 0 0 == 13 && get_or bytes 1 0 == 10) ≡ true → IsUtf8 bytes → IsCharBoundary bytes 2
pair_cut bytes pair utf8 =
    subst (IsCharBoundary bytes) (omega arith)
    (IsCharBoundary-after_ascii bytes 1 utf8 (omega (arith, (pair_at bytes pair).0))
    (omega (arith, ap (λ t. get_or t 1 0) (pair_at bytes pair).1)))

-- and a carriage return that begins no CR LF
pub return_ends : (bytes : List ℕ) → get_or bytes 0 0 ≡ 13 → (get_or bytes 0 0 == 13 && get_or bytes 1 0 == 10) ≡ false
    → with_line_feeds bytes ≡ 10 ∷ with_line_feeds (drop 1 bytes)
return_ends [] return other = absurd (omega (arith, return))
return_ends (b ∷ []) return other = rw return refl
return_ends (b ∷ c ∷ bs) return other = elim (cases_Bool (c == 10)) [
  | inl feed ↦ (let none : true ≡ false = sym (rw (return, eqb-true c 10 feed) refl) ∙ other in cc)
  | inr no_feed ↦ rw (return, no_feed) refl
]

pub return_within : (bytes : List ℕ) → get_or bytes 0 0 ≡ 13 → 1 ≤ length bytes
return_within [] return = absurd (omega (arith, return))
return_within (b ∷ bs) return = omega arith

pub return_cut : (bytes : List ℕ) → get_or bytes 0 0 ≡ 13 → IsUtf8 bytes → IsCharBoundary bytes 1
return_cut bytes return utf8 =
    subst (IsCharBoundary bytes) (omega arith)
    (IsCharBoundary-after_ascii bytes 0 utf8 (omega (arith, return_within bytes return)) (omega (arith, return)))

-- A text has no more bytes with its line endings as line feeds.
pub feeds_few : (words : List ℕ) → length (with_line_feeds words) ≤ length words
feeds_few [] = omega arith
feeds_few (b ∷ bs) = by (b == carriage_return) (begins_with (λ c. c == line_feed) bs) (feeds_few bs)
  where
    by : (is_return dropped : Bool) → length (with_line_feeds bs) ≤ length bs
        → length (if is_return then (if dropped then with_line_feeds bs else line_feed ∷ with_line_feeds bs) else b ∷ with_line_feeds bs)
        ≤ length (b ∷ bs)
    by true true few = omega (arith, few)
    by true false few = omega (arith, few)
    by false dropped few = omega (arith, few)
