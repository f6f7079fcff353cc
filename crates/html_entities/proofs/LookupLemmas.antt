-- What the first row with a name means, where only one row can have it.
use Rattle.std.proofs.Common.{◌≡◌, ℕ, zero, suc, ◌<◌, false, List, [], ◌∷◌, length, get_or, codes, bytes_eq, Some, None, ◌⊎◌, inl, inr, refl, sym, ap, ◌∙◌, arith, le_of_suc-le-suc, not-suc-le-zero}
use Rattle.std.proofs.lemmas.Bool.{false≢true, cases_Bool, cond-true, cond-false}
use Rattle.std.proofs.lemmas.Slice.Eq.{bytes_eq-Decides}
use Rattle.html_entities.specs.Row.{Row}
use Rattle.html_entities.specs.Entities.{names_of, meanings_of, meaning_in}

abbrev IsRowOf : List Row → List ℕ → ℕ → Type 0
IsRowOf rows name k =
    (k < length rows) × (get_or (names_of rows) k [] ≡ name)
    × (meaning_in rows name ≡ Some (get_or (meanings_of rows) k []))

abbrev HasNoRow : List Row → List ℕ → Type 0
HasNoRow rows name =
    (meaning_in rows name ≡ None) × ((k : ℕ) → k < length rows → get_or (names_of rows) k [] ≡ name → ⊥)

not_here : (first : List ℕ) (names : List (List ℕ)) (name : List ℕ) (n : ℕ) → bytes_eq first name ≡ false
    → ((k : ℕ) → k < n → get_or names k [] ≡ name → ⊥)
    → (k : ℕ) → k < suc n → get_or (first ∷ names) k [] ≡ name → ⊥
not_here first names name n other rest zero less same = false≢true (sym other ∙ (bytes_eq-Decides first name).1 same)
not_here first names name n other rest (suc k) less same = rest k (le_of_suc-le-suc less) same

looked_up : (rows : List Row) (name : List ℕ) → HasNoRow rows name ⊎ ((k : ℕ) × IsRowOf rows name k)
unfolding meaning_in names_of meanings_of
looked_up [] name = inl (refl, λ k less same. absurd (not-suc-le-zero less))
looked_up (row ∷ rows) name =
    elim (cases_Bool (bytes_eq (codes row.0) name)) [
      | inl same ↦ inr (0, (omega arith, (bytes_eq-Decides (codes row.0) name).0 same, cond-true _ _ _ same))
      | inr other ↦ elim (looked_up rows name) [
        | inl none ↦ inl (cond-false _ _ _ other ∙ none.0, not_here (codes row.0) (names_of rows) name (length rows) other none.1)
        | inr some ↦ inr (suc some.0, (omega (arith, some.1.0), some.1.1, cond-false _ _ _ other ∙ some.1.2))
      ]
    ]

module _ (rows : List Row) (name : List ℕ) (r : ℕ) (only : (k : ℕ) → k < length rows → get_or (names_of rows) k [] ≡ name → r ≡ k) where
  pub one_row : r < length rows → get_or (names_of rows) r [] ≡ name → meaning_in rows name ≡ Some (get_or (meanings_of rows) r [])
  one_row inside here =
      elim (looked_up rows name) [
        | inl none ↦ absurd (none.1 r inside here)
        | inr some ↦ some.1.2 ∙ ap (λ k. Some (get_or (meanings_of rows) k [])) (sym (only some.0 some.1.0 some.1.1))
      ]

  pub no_row : (get_or (names_of rows) r [] ≡ name → ⊥) → meaning_in rows name ≡ None
  no_row other =
      elim (looked_up rows name) [
        | inl none ↦ none.0
        | inr some ↦ absurd (other (ap (λ k. get_or (names_of rows) k []) (only some.0 some.1.0 some.1.1) ∙ some.1.1))
      ]

pub row_of_meaning : (rows : List Row) (name meaning : List ℕ) → meaning_in rows name ≡ Some meaning
    → (k : ℕ) × (k < length rows) × (get_or (names_of rows) k [] ≡ name) × (get_or (meanings_of rows) k [] ≡ meaning)
row_of_meaning rows name meaning has =
    elim (looked_up rows name) [
      | inl none ↦ let differ = sym none.0 ∙ has in cc
      | inr some ↦ let same : Some (get_or (meanings_of rows) some.0 []) ≡ Some meaning = sym some.1.2 ∙ has in
          (some.0, some.1.0, some.1.1, cc)
    ]
