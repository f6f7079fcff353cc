-- Cells of a row and those that are missing.
use Rattle.std.proofs.Common.{ℕ, zero, suc, List, [], ◌∷◌, ◌≡◌, ◌↔◌, ◌-◌, ◌<◌, drop, length, refl, ap, arith}
use Rattle.page_tables.specs.Cells.{filled}
use Rattle.page_tables.specs.Columns.{widened}
use Rattle.page_tables.specs.declared.columns.Column.{Column}

-- columns with an empty row are as they are
pub widened_none : (width : List ℕ → ℕ) (columns : List Column) → widened width columns [] ≡ columns
widened_none width [] = refl
widened_none width (column ∷ later) = refl

first_of : List (List ℕ) → List ℕ
first_of [] = []
first_of (cell ∷ cells) = cell

-- an empty cell says what a missing one does
pub filled_empty : (n : ℕ) (cell : List ℕ) (cells : List (List ℕ)) → 0 < n → length cell ≡ 0
    → (filled (n - 1) cells ≡ filled (n - 1) []) ↔ (filled n (cell ∷ cells) ≡ filled n [])
filled_empty zero cell cells some empty = absurd (omega (arith, some))
filled_empty (suc n) [] cells some empty =
    let e : suc n - 1 ≡ n = omega arith in rw e (ap (λ (t : List (List ℕ)). [] ∷ t), ap (drop 1))
filled_empty (suc n) (b ∷ bs) cells some empty = absurd (omega (arith, empty))

-- and one with text does not
pub filled_text : (n : ℕ) (cell : List ℕ) (cells : List (List ℕ)) → 0 < length cell → filled n (cell ∷ cells) ≡ filled n [] → ⊥
unfolding first_of
filled_text zero cell cells some same = let none = ap length same in omega (arith, none)
filled_text (suc n) cell cells some same = let first = ap (λ (t : List (List ℕ)). length (first_of t)) same in omega (arith, some, first)
