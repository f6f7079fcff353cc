-- A delimiter row has no more columns than bytes. (GitHub Flavored Markdown 0.29, section 4.10, tables)
use Rattle.std.proofs.Common.{ℕ, Bool, true, false, not, List, [], ◌∷◌, ◌++◌, ◌≤◌, length, arith, ap, inl, inr}
use Rattle.std.specs.List.{list_any, flat_map}
use Rattle.std.proofs.lemmas.Bool.{cases_Bool}
use Rattle.std.proofs.lemmas.List.{length-append, length-map}
use Rattle.markdown_values.specs.declared.values.Alignment.{Alignment}
use Rattle.markdown_scanners_tree.specs.Ascii.{vertical_line}
use Rattle.markdown_scanners_tree.specs.scanners.tables.DelimiterRow.{alignment, ended_cell, delimiter_row, counted_last_cell, counted_cells, is_space, IsDelimiterRow}

-- a last cell that counts has a byte
last_fits : (last : List ℕ) → length (counted_last_cell last) ≤ length last
last_fits [] = omega arith
last_fits (b ∷ bytes) =
    elim (cases_Bool (list_any (λ b. not (is_space b)) (b ∷ bytes))) [
      | inl counts ↦ rw counts (omega arith)
      | inr none ↦ rw none (omega arith)
    ]

cells_fit : (cells : List (List ℕ)) (last : List ℕ)
    → length (counted_cells cells last) ≤ length (flat_map ended_cell cells ++ last)
cells_fit [] last = last_fits last
cells_fit (cell ∷ cells) last =
    let more = cells_fit cells last in
    let rest = length-append (flat_map ended_cell cells) last in
    let one = length-append cell (vertical_line ∷ []) in
    let front = length-append (ended_cell cell) (flat_map ended_cell cells) in
    let whole = length-append (ended_cell cell ++ flat_map ended_cell cells) last in
    omega (arith, more, rest, one, front, whole)

row_fits : (piped : Bool) (cells : List (List ℕ)) (last : List ℕ)
    → length (counted_cells cells last) ≤ length (delimiter_row piped cells last)
row_fits true cells last = omega (arith, cells_fit cells last)
row_fits false cells last = cells_fit cells last

pub columns_within : (bytes : List ℕ) (n : ℕ) (columns : List Alignment) → IsDelimiterRow bytes n columns
    → length columns ≤ n
columns_within bytes n columns is =
    omega (
      arith,
      ap length is.aligned,
      length-map (counted_cells is.cells is.last) alignment,
      row_fits is.piped is.cells is.last,
      is.counted,
    )
