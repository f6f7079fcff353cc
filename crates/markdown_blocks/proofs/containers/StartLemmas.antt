-- The number that a list item starts at: at most nine digits.
use Rattle.std.proofs.Common.{ℕ, ◌<◌, ◌≤◌, ◌≡◌, ◌^◌, ◌+◌, Bool, true, false, not, ◌&&◌, nat_le}
use Rattle.std.proofs.Common.{List, [], ◌∷◌, length, take_while, Option, Some, None, refl, sym, ap, arith}
use Rattle.std.specs.Int.{IsInRange}
use Rattle.std.specs.List.{list_all}
use Rattle.std.specs.Str.Parse.{AllDigits, digits_value}
use Rattle.std.proofs.lemmas.Bool.Decides.{nat_tests}
use Rattle.std.proofs.lemmas.Int.Digits.{digits_value-lt}
use Rattle.std.proofs.lemmas.Str.{digit_value_digit}
use Rattle.std.proofs.Math.Nat.{pow-le-pow_right}
use Rattle.markdown_scanners_tree.specs.Bytes.{is_digit}
use Rattle.markdown_scanners_tree.specs.line.Outcome.{further_spaces, item_outcome, item_outcome_by, space_or_end_follows}
use Rattle.markdown_scanners_tree.specs.line.State.{LineState, after_space, bytes_further, unscanned}
use Rattle.markdown_scanners_tree.specs.scanners.list_items.ListMarker.{Marker, bullet_marker, is_bullet, is_delimiter}
use Rattle.markdown_scanners_tree.specs.scanners.list_items.ListMarker.{list_marker, ordered_marker, ordered_marker_of}
use Rattle.markdown_scanners_tree.specs.scanners.Breaks.{is_thematic_break}
use Rattle.markdown_scanners_tree.proofs.PrefixLemmas.{both_true, list_all-prefix}

abbrev pub few_digits : ℕ
few_digits = 10 ^ 9

all_digits : (digits : List ℕ) → list_all is_digit digits ≡ true → AllDigits 10 digits
all_digits [] all = tt
all_digits (d ∷ digits) all =
    let both = both_true (is_digit d) (list_all is_digit digits) all in
    let in_range : IsInRange 48 57 d = (grind (arith, nat_tests), grind (arith, nat_tests)) in
    (omega (arith, digit_value_digit d in_range, in_range.1), all_digits digits both.1)

number_small : (digits : List ℕ) → AllDigits 10 digits → length digits ≤ 9 → digits_value 10 digits < few_digits
number_small digits all few =
    let below : digits_value 10 digits < 10 ^ length digits = digits_value-lt 10 digits all in
    let most : 10 ^ length digits ≤ 10 ^ 9 = pow-le-pow_right (omega arith) few in
    omega (arith, below, most)

ordered_small : (digits rest : List ℕ) (m : Marker) → AllDigits 10 digits → ordered_marker_of digits rest ≡ Some m
    → m.start < few_digits
ordered_small digits [] m all is = cc
ordered_small digits (d ∷ rest) m all is =
    by (nat_le 1 (length digits) && nat_le (length digits) 9 && is_delimiter d) refl
  where
    by : (t : Bool) → (nat_le 1 (length digits) && nat_le (length digits) 9 && is_delimiter d) ≡ t → m.start < few_digits
    by false other = absurd (let none : None ≡ Some m = rw other at is in cc)
    by true fits =
        let some : Some (record { width = length digits + 1; delimiter = d; start = digits_value 10 digits }) ≡ Some m =
        rw fits at is in
        let same : digits_value 10 digits ≡ m.start = cc in
        let few : length digits ≤ 9 = grind (arith, nat_tests) in
        omega (arith, same, number_small digits all few)

bullet_small : (r : List ℕ) (m : Marker) → bullet_marker r ≡ Some m → m.start < few_digits
bullet_small [] m is = cc
bullet_small (b ∷ bs) m is = by (is_bullet b && not (is_thematic_break (b ∷ bs))) refl
  where
    by : (t : Bool) → (is_bullet b && not (is_thematic_break (b ∷ bs))) ≡ t → m.start < few_digits
    by false other = absurd (let none : None ≡ Some m = rw other at is in cc)
    by true here =
        let some : Some (record { width = 1; delimiter = b; start = 0 }) ≡ Some m = rw here at is in
        let same : 0 ≡ m.start = cc in
        omega (arith, same)

-- the first of two that is there
abbrev first_of : Option Marker → Option Marker → Option Marker
first_of found other = elim found [ Some m ↦ Some m | None ↦ other ]

either_small : (found other : Option Marker) (m : Marker) → ((n : Marker) → found ≡ Some n → n.start < few_digits)
    → ((n : Marker) → other ≡ Some n → n.start < few_digits) → first_of found other ≡ Some m → m.start < few_digits
either_small None other m small small' is = small' m is
either_small (Some n) other m small small' is = small m is

pub marker_small : (r : List ℕ) (m : Marker) → list_marker r ≡ Some m → m.start < few_digits
marker_small r m is =
    either_small (bullet_marker r) (ordered_marker r) m (bullet_small r) (λ n at. ordered_small (take_while is_digit r) _ n
    (all_digits (take_while is_digit r) (list_all-prefix is_digit r)) at) is

by_parts : (l r : ℕ × ℕ × ℕ) → Some l ≡ Some r → l.1 ≡ r.1
by_parts l r same =
    let parts : l ≡ r = cc in
    ap (λ (x : ℕ × ℕ × ℕ). x.1) parts

outcome_small : (indent : ℕ) (s : LineState) (found : Option Marker) (d n content : ℕ)
    → ((m : Marker) → found ≡ Some m → m.start < few_digits) → (item_outcome_by indent s found).answer ≡ Some (d, n, content)
    → n < few_digits
outcome_small indent s None d n content small is = cc
outcome_small indent s (Some m) d n content small is = by (space_or_end_follows (bytes_further m.width s)) refl
  where
    by : (t : Bool) → space_or_end_follows (bytes_further m.width s) ≡ t → n < few_digits
    by false other =
        let answered : ℕ × ℕ × ℕ = (d, n, content) in
        absurd (let none : None ≡ Some answered = rw other at is in cc)
    by true here =
        let answered : ℕ × ℕ × ℕ = (d, n, content) in
        let marked : ℕ × ℕ × ℕ =
        (m.delimiter, m.start, indent + m.width + 1 + further_spaces (after_space 1 (bytes_further m.width s))) in
        let some : Some marked ≡ Some answered = rw here at is in
        let same : m.start ≡ n = by_parts marked answered some in
        omega (arith, same, small m refl)

-- the number of an item fits 32 bits
pub start_small : (indent : ℕ) (s : LineState) (d n content : ℕ) → Some (d, n, content) ≡ (item_outcome indent s).answer → n < 2 ^ 32
start_small indent s d n content is =
    omega (arith, outcome_small indent s (list_marker (unscanned s)) d n content (marker_small (unscanned s)) (sym is))
