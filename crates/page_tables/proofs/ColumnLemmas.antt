-- Columns with more cells are no narrower.
use Rattle.std.proofs.Common.{ℕ, false, List, [], ◌∷◌, ◌≤◌, ◌≡◌, arith}
use Rattle.std.proofs.lemmas.Bool.{leb-false, lt-leb}
use Rattle.page_tables.specs.Cells.{cell_texts, row_text}
use Rattle.page_tables.specs.Columns.{is_narrow, row_width, widened, widened_to, widest}
use Rattle.page_tables.specs.Marks.{MarkView, begins, head, row, ends}
use Rattle.page_tables.specs.declared.columns.Column.{Column}

module _ (width : List ℕ → ℕ) where
  row_grows : (columns : List Column) (cells : List (List ℕ)) → row_width columns ≤ row_width (widened width columns cells)
  row_grows [] cells = omega arith
  row_grows (column ∷ later) [] = omega arith
  row_grows (column ∷ later) (cell ∷ cells) = omega (arith, row_grows later cells)

  rows_grow : (page : List ℕ) (columns : List Column) (marks : List MarkView) → row_width columns ≤ row_width (widened_to width page columns marks)
  rows_grow page columns [] = omega arith
  rows_grow page columns (head range ∷ later) =
      let cells = cell_texts (row_text page range) in
      omega (arith, row_grows columns cells, rows_grow page (widened width columns cells) later)
  rows_grow page columns (row range ∷ later) =
      let cells = cell_texts (row_text page range) in
      omega (arith, row_grows columns cells, rows_grow page (widened width columns cells) later)
  rows_grow page columns (begins alignments ∷ later) = omega arith
  rows_grow page columns (ends ∷ later) = omega arith

  -- what is too wide stays so
  pub stays_wide : (page : List ℕ) (columns : List Column) (marks : List MarkView) → is_narrow columns ≡ false
      → is_narrow (widened_to width page columns marks) ≡ false
  stays_wide page columns marks wide =
      lt-leb (row_width (widened_to width page columns marks)) widest
      (omega (arith, leb-false (row_width columns) widest wide, rows_grow page columns marks))
