-- Thematic breaks.
use Rattle.std.proofs.Common.{◌≡◌, ℕ, ◌≤◌, Bool, true, false, ◌&&◌, ◌==◌, List, [], ◌∷◌, refl, sym, subst, inl, inr, nat_le}
use Rattle.std.specs.List.{list_all, count_by}
use Rattle.std.proofs.lemmas.Bool.{cases_Bool, eqb-true, eq-eqb, le-leb, leb-true}
use Rattle.markdown_scanners_tree.specs.Bytes.{begins_with, line_head}
use Rattle.markdown_scanners_tree.specs.scanners.Breaks.{is_break_marker, is_break_byte, IsThematicBreak, is_break_head, is_thematic_break}

-- the test answers the question
pub join_three : (a b c : Bool) → a ≡ true → b ≡ true → c ≡ true → (a && b && c) ≡ true
join_three a b c first second third = rw (first, second, third) refl

pub split_three : (a b c : Bool) → (a && b && c) ≡ true → (a ≡ true) × (b ≡ true) × (c ≡ true)
split_three true true c h = (refl, refl, h)
split_three true false c h = cc
split_three false b c h = cc

head_test : (marker : ℕ) (head : List ℕ) → is_break_marker marker ≡ true → begins_with (λ b. b == marker) head ≡ true
    → list_all (is_break_byte marker) head ≡ true → 3 ≤ count_by (λ b. b == marker) head → is_break_head head ≡ true
head_test marker [] marked begins made three = absurd (let none : false ≡ true = begins in cc)
head_test marker (b ∷ head) marked begins made three =
    let same : marker ≡ b = sym (eqb-true b marker begins) in
    let whole = join_three (is_break_marker marker) (list_all (is_break_byte marker) (b ∷ head))
    (nat_le 3 (count_by (λ c. c == marker) (b ∷ head))) marked made
    (le-leb 3 (count_by (λ c. c == marker) (b ∷ head)) three) in
    subst (λ m. (is_break_marker m && list_all (is_break_byte m) (b ∷ head) && nat_le 3
    (count_by (λ c. c == m) (b ∷ head))) ≡ true) same whole

pub is_thematic_break-found : (bytes : List ℕ) → IsThematicBreak bytes → is_thematic_break bytes ≡ true
is_thematic_break-found bytes (marker, break) = head_test marker
    (line_head bytes) break.is_marker break.begins_with_marker break.break_bytes_only break.at_least_three

head_break : (head : List ℕ) → is_break_head head ≡ true
    → (marker : ℕ) × (is_break_marker marker ≡ true) × (begins_with (λ b. b == marker) head ≡ true)
    × (list_all (is_break_byte marker) head ≡ true) × (3 ≤ count_by (λ b. b == marker) head)
head_break [] test = absurd (let none : false ≡ true = test in cc)
head_break (marker ∷ head) test =
    let three = split_three (is_break_marker marker) (list_all (is_break_byte marker) (marker ∷ head))
    (nat_le 3 (count_by (λ c. c == marker) (marker ∷ head))) test in (
      marker,
      three.0,
      eq-eqb marker marker refl,
      three.1,
      leb-true 3 (count_by (λ c. c == marker) (marker ∷ head)) three.2,
    )

pub is_thematic_break-only : (bytes : List ℕ) → is_thematic_break bytes ≡ true → IsThematicBreak bytes
is_thematic_break-only bytes test =
    let (marker, marked, begins, made, three) = head_break (line_head bytes) test in (
      marker,
      record { is_marker = marked; begins_with_marker = begins; break_bytes_only = made; at_least_three = three },
    )

pub is_thematic_break-none : (bytes : List ℕ) → ¬ IsThematicBreak bytes → is_thematic_break bytes ≡ false
is_thematic_break-none bytes none = elim (cases_Bool (is_thematic_break bytes)) [
  | inl test ↦ absurd (none (is_thematic_break-only bytes test))
  | inr fails ↦ fails
]

-- a thematic break stands at the front exactly where the test says so
pub ruleset thematic_breaks = (is_thematic_break-found, is_thematic_break-only, is_thematic_break-none)
