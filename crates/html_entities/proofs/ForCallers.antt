-- Lemmas that other crates cite.
use lib.Utf8.{encode}
use Rattle.std.proofs.Common.{◌≡◌, ℕ, zero, suc, ◌+◌, ◌*◌, ◌<◌, ◌≤◌, Bool, true, ◌&&◌, ◌||◌, ◌==◌, nat_le, List, [], ◌∷◌, length, get_or, codes, bytes_eq, None, Some, ◌⊎◌}
use Rattle.std.proofs.Common.{encode_utf8_all, inl, inr, refl, sym, ap, ◌∙◌, arith, eqb-true, leb-true, le_of_suc-le-suc, not-suc-le-zero}
use Rattle.std.specs.Ordering.{is_lt, nat_cmp}
use Rattle.std.specs.Cmp.Lexicographic.{slice_cmp}
use Rattle.std.proofs.lemmas.Bool.{and_parts, or_cases, cases_Bool, cond-true, cond-false}
use Rattle.std.proofs.lemmas.Slice.Eq.{bytes_eq-Decides}
use Rattle.html_entities.specs.Row.{Row}
use Rattle.html_entities.specs.declared.places.TheConstants.{SEEDS, PLACES}
use Rattle.html_entities.specs.Places.{row_of}
use Rattle.html_entities.specs.Entities.{html_rows, names_of, meanings_of, meaning_in, html_entity, IsRising}
use Rattle.html_entities.proofs.LookupLemmas.{one_row, row_of_meaning}
use Rattle.html_entities.proofs.RowFacts.{the_rows, row_count, name_count}
use Rattle.html_entities.proofs.TheTables.{tables_lead}

precedes : List ℕ → List (List ℕ) → Bool
precedes a [] = true
precedes a (b ∷ texts) = is_lt (slice_cmp nat_cmp a b)

rises : List (List ℕ) → Bool
rises [] = true
rises (a ∷ texts) = precedes a texts && rises texts

rises-at : (texts : List (List ℕ)) → rises texts ≡ true → IsRising texts
unfolding rises precedes
rises-at [] ok k less = absurd (not-suc-le-zero less)
rises-at (a ∷ []) ok k less = absurd (not-suc-le-zero (le_of_suc-le-suc less))
rises-at (a ∷ b ∷ texts) ok zero less = (and_parts (is_lt (slice_cmp nat_cmp a b)) (rises (b ∷ texts)) ok).0
rises-at (a ∷ b ∷ texts) ok (suc k) less = rises-at (b ∷ texts) (and_parts (is_lt (slice_cmp nat_cmp a b)) (rises (b ∷ texts)) ok).1 k (le_of_suc-le-suc less)

-- The names rise.
pub names_rise : IsRising (names_of html_rows)
unfolding the_rows rises precedes
names_rise = rises-at (names_of html_rows) refl

short : List Row → Bool
short [] = true
short (row ∷ rows) = ((length row.1 == 1) || (length row.1 == 2)) && short rows

short-at : (rows : List Row) → short rows ≡ true → (k : ℕ) (row : Row) → k < length rows
    → (length (get_or rows k row).1 ≡ 1) ⊎ (length (get_or rows k row).1 ≡ 2)
unfolding short
short-at [] ok k row less = absurd (not-suc-le-zero less)
short-at (first ∷ rows) ok zero row less =
    elim (or_cases (length first.1 == 1) (length first.1 == 2) (and_parts _ (short rows) ok).0) [
      | inl one ↦ inl (eqb-true (length first.1) 1 one)
      | inr two ↦ inr (eqb-true (length first.1) 2 two)
    ]
short-at (first ∷ rows) ok (suc k) row less =
    short-at rows (and_parts ((length first.1 == 1) || (length first.1 == 2)) (short rows) ok).1 k row (le_of_suc-le-suc less)

-- Each meaning has one or two characters.
pub one_or_two_characters : (k : ℕ) (row : Row) → k < length html_rows
    → (length (get_or html_rows k row).1 ≡ 1) ⊎ (length (get_or html_rows k row).1 ≡ 2)
unfolding the_rows short
one_or_two_characters = short-at html_rows refl

-- Each name of the rows has the meaning of its row: no name has two.
pub meaning_of_row : (k : ℕ) → k < length html_rows → html_entity (get_or (names_of html_rows) k []) ≡ Some (get_or (meanings_of html_rows) k [])
unfolding html_entity
meaning_of_row k less =
    let in_names : k < length (names_of html_rows) = omega (arith, row_count, name_count) in
    one_row html_rows (get_or (names_of html_rows) k []) k
    (λ j more same.
    let j_in_names : j < length (names_of html_rows) = omega (arith, row_count, name_count) in
    sym (tables_lead.leads k in_names) ∙ (ap (row_of SEEDS PLACES) (sym same) ∙ tables_lead.leads j j_in_names))
    less refl

-- Each name with a meaning stands in a row, which has that meaning.
pub row_of_entity : (name meaning : List ℕ) → html_entity name ≡ Some meaning
    → (k : ℕ) × (k < length html_rows) × (get_or (names_of html_rows) k [] ≡ name) × (get_or (meanings_of html_rows) k [] ≡ meaning)
unfolding html_entity
row_of_entity name meaning has = row_of_meaning html_rows name meaning has

-- a meaning of so many bytes is 6 bytes long at most, and no longer than 6 for 5 of a reference by so long a name
abbrev fits : ℕ → ℕ → Bool
fits meaning name = nat_le meaning 6 && nat_le (5 * meaning) (6 * (name + 2))

all_fit : List Row → Bool
all_fit [] = true
all_fit (row ∷ rows) = fits (length (encode_utf8_all row.1)) (length (codes row.0)) && all_fit rows

known_fits : (rows : List Row) (name meaning : List ℕ) → all_fit rows ≡ true → meaning_in rows name ≡ Some meaning
    → (length meaning ≤ 6) × (5 * length meaning ≤ 6 * (length name + 2))
unfolding all_fit meaning_in
known_fits [] name meaning ok has = absurd (let none : None ≡ Some meaning = has in cc)
known_fits (row ∷ rows) name meaning ok has =
    let parts = and_parts (fits (length (encode_utf8_all row.1)) (length (codes row.0))) (all_fit rows) ok in
    elim (cases_Bool (bytes_eq (codes row.0) name)) [
      | inl same ↦ (
          let here : codes row.0 ≡ name = (bytes_eq-Decides (codes row.0) name).0 same in
          let is : Some (encode_utf8_all row.1) ≡ Some meaning = sym (cond-true (bytes_eq (codes row.0) name) (Some (encode_utf8_all row.1)) (meaning_in rows name) same) ∙ has in
          let means : encode_utf8_all row.1 ≡ meaning = cc in
          let both = and_parts (nat_le (length (encode_utf8_all row.1)) 6) _ parts.0 in
          let short = leb-true (length (encode_utf8_all row.1)) 6 both.0 in
          let fifth = leb-true (5 * length (encode_utf8_all row.1)) (6 * (length (codes row.0) + 2)) both.1 in
          (omega (arith, short, ap length means), omega (arith, fifth, ap length means, ap length here))
          )
      | inr other ↦ known_fits rows name meaning parts.1 (sym (cond-false (bytes_eq (codes row.0) name) (Some (encode_utf8_all row.1)) (meaning_in rows name) other) ∙ has)
    ]

rows_fit : all_fit html_rows ≡ true
unfolding the_rows encode all_fit
rows_fit = refl

-- A meaning has 6 bytes at most, and 6 at most for each 5 of the reference, which has two bytes more than the name.
pub meaning_fits : (name meaning : List ℕ) → html_entity name ≡ Some meaning
    → (length meaning ≤ 6) × (5 * length meaning ≤ 6 * (length name + 2))
unfolding html_entity
meaning_fits name meaning has = known_fits html_rows name meaning rows_fit has
