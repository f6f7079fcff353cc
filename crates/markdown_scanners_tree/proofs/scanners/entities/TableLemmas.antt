-- The first row of a table with a name.
use Rattle.std.proofs.Common.{◌≡◌, ℕ, List, [], ◌∷◌, map, inl, inr, refl, ap, sym, ◌∙◌, bytes_eq}
use denote.Ref.{Bor}
use Rattle.std.specs.Prelude.{find}
use Rattle.std.specs.Option.{option_map}
use Rattle.std.proofs.lemmas.Bool.{cases_Bool, cond-true, cond-false}
use Rattle.markdown_scanners_tree.specs.scanners.entities.TableText.{text_of_name}

pub text_of_first_row : (rows : List (Bor (List ℕ) × Bor (List ℕ))) (name : List ℕ)
    → option_map (λ row. row.1.now) (find (λ row. bytes_eq row.0.now name) rows) ≡ text_of_name (map (λ row. (row.0.now, row.1.now)) rows) name
text_of_first_row [] name = refl
text_of_first_row (row ∷ rows) name =
    elim (cases_Bool (bytes_eq row.0.now name)) [
      | inl same ↦ ap (λ found. option_map (λ row. row.1.now) found) (cond-true _ _ _ same) ∙ sym (cond-true _ _ _ same)
      | inr other ↦ ap (λ found. option_map (λ row. row.1.now) found) (cond-false _ _ _ other)
          ∙ (text_of_first_row rows name ∙ sym (cond-false _ _ _ other))
    ]
