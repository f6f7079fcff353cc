-- How many cells are missing in the rows of a table.
use Rattle.std.proofs.Common.{ℕ, suc, true, false, ◌+◌, ◌*◌, ◌<◌, ◌≤◌, ◌≡◌, List, [], ◌∷◌, length, inl, inr, ap, refl, arith}
use Rattle.std.specs.Prelude.{nat_le}
use Rattle.std.proofs.Math.Nat.{mul-le-mul_right}
use Rattle.std.proofs.lemmas.Bool.Decides.{leb_tells}
use Rattle.markdown_blocks.specs.declared.containers.Container.{Container}
use Rattle.markdown_blocks.specs.rows.Rows.{TextAt, body_rows, later_rows, rows_of}
use Rattle.markdown_events.specs.page.TableEvents.{are_filled, missing_cells}

-- ---- rows

later_few : (outer : List Container) (before : ℕ) (lines : List (List ℕ)) → length (later_rows outer before lines) ≡ length lines
later_few outer before [] = refl
later_few outer before (line ∷ lines) = ap suc (later_few outer (before + length line) lines)

body_few : (outer : List Container) (before : ℕ) (lines : List (List ℕ)) → length (body_rows outer before lines) ≤ length lines
body_few outer before [] = omega arith
body_few outer before (line ∷ lines) = omega (arith, later_few outer (before + length line) lines)

-- a table has no more rows than lines
few_rows : (kept : ℕ) (outer : List Container) (lines : List (List ℕ)) → length (rows_of kept outer lines) ≤ length lines
few_rows kept outer [] = omega arith
few_rows kept outer (line ∷ lines) = omega (arith, body_few outer (length line) lines)

-- ---- cells

-- in each row no more are missing than there are columns
missing_at_most : (columns : ℕ) (rows : List TextAt) → missing_cells columns rows ≤ length rows * columns
missing_at_most columns [] = omega arith
missing_at_most columns (row ∷ later) = omega (arith, missing_at_most columns later)

is_true : (n m : ℕ) → n ≤ m → nat_le n m ≡ true
is_true n m low = elim (leb_tells n m) [ inl h ↦ h.0 | inr h ↦ absurd (omega (arith, low, h.1)) ]

is_false : (n m : ℕ) → m < n → nat_le n m ≡ false
is_false n m low = elim (leb_tells n m) [ inl h ↦ absurd (omega (arith, low, h.1)) | inr h ↦ h.0 ]

-- where all cells of all lines could be missing
pub all_filled : (cells columns kept : ℕ) (outer : List Container) (lines : List (List ℕ)) → length lines * columns ≤ cells
    → are_filled cells columns (rows_of kept outer lines) ≡ true
all_filled cells columns kept outer lines low =
    let rows = rows_of kept outer lines in
    is_true (missing_cells columns rows) cells
    (omega (arith, low, missing_at_most columns rows, mul-le-mul_right columns (few_rows kept outer lines)))
