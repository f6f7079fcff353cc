-- Texts of which one begins the other compare as their lengths do.
use Rattle.std.proofs.Common.{◌≡◌, ℕ, ◌-◌, ◌≤◌, ◌⊎◌, inl, inr, List, [], ◌∷◌, length, map, drop, refl, ◌∙◌, arith}
use Rattle.std.specs.Ordering.{nat_cmp}
use Rattle.std.specs.Char.{to_ascii_lowercase}
use Rattle.std.specs.Cmp.Lexicographic.{slice_cmp}
use Rattle.std.proofs.lemmas.Bool.Decides.{nat_tests}
use Rattle.std.proofs.lemmas.List.{length-drop, length-map}

one_is_empty : (xs ys : List ℕ) → (length xs ≡ 0) ⊎ (length ys ≡ 0)
    → slice_cmp nat_cmp xs ys ≡ nat_cmp (length xs) (length ys)
one_is_empty [] [] none = refl
one_is_empty [] (y ∷ ys) none = grind (arith, nat_tests)
one_is_empty (x ∷ xs) [] none = grind (arith, nat_tests)
one_is_empty (x ∷ xs) (y ∷ ys) (inl none) = absurd (omega (arith, none))
one_is_empty (x ∷ xs) (y ∷ ys) (inr none) = absurd (omega (arith, none))

both_longer : (a b i : ℕ) → i ≤ a → i ≤ b → nat_cmp (a - i) (b - i) ≡ nat_cmp a b
both_longer a b i in_a in_b = grind (arith, nat_tests)

pub compared_by_length : (row name : List ℕ) (i : ℕ) → i ≤ length row → i ≤ length name
    → (length row ≤ i) ⊎ (length name ≤ i)
    → slice_cmp nat_cmp (drop i row) (map to_ascii_lowercase (drop i name)) ≡ nat_cmp (length row) (length name)
compared_by_length row name i in_row in_name ends =
    let rows : length (drop i row) ≡ length row - i = length-drop i row in
    let names : length (map to_ascii_lowercase (drop i name)) ≡ length name - i =
    length-map (drop i name) to_ascii_lowercase ∙ length-drop i name in
    one_is_empty (drop i row) (map to_ascii_lowercase (drop i name)) (elim ends [
      | inl row_ends ↦ inl (omega (arith, rows, row_ends))
      | inr name_ends ↦ inr (omega (arith, names, name_ends))
    ])
    ∙ (λ k. nat_cmp (rows k) (names k))
    ∙ both_longer (length row) (length name) i in_row in_name
