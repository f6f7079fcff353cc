-- How wide the columns of a table are.
use Rattle.std.specs.Prelude.{ℕ, Bool, true, ◌+◌, ◌&&◌, not, max, nat_le, List, [], ◌∷◌, length, map, if◌then◌else◌}
use Rattle.markdown_values.specs.declared.values.Alignment.{Alignment}
use Rattle.markdown_blocks.specs.blocks.Tables.{cells}
use Rattle.page_tables.specs.Cells.{cell_texts, row_text}
use Rattle.page_tables.specs.Marks.{MarkView, head, row}
use Rattle.page_tables.specs.declared.columns.Column.{Column}

-- Before its cells a column is as wide as the shortest delimiter that shows each alignment.
abbrev pub narrowest : Alignment → Column
narrowest alignment = record { alignment = alignment; width = 3 }

-- the widths of cells
module _ (width : List ℕ → ℕ) where
  -- a column with one more cell
  abbrev pub widened_by : Column → List ℕ → Column
  widened_by column cell = record column { width = max column.width (width cell) }

  -- columns with one more row
  abbrev pub widened : List Column → List (List ℕ) → List Column
  widened [] cells = []
  widened (column ∷ later) [] = column ∷ later
  widened (column ∷ later) (cell ∷ cells) = widened_by column cell ∷ widened later cells

  -- columns with the rows up to the end of the table
  abbrev pub widened_to : List ℕ → List Column → List MarkView → List Column
  widened_to page columns (head range ∷ later) = widened_to page (widened columns (cell_texts (row_text page range))) later
  widened_to page columns (row range ∷ later) = widened_to page (widened columns (cell_texts (row_text page range))) later
  widened_to page columns marks = columns

-- A row with this text has a cell, and no more of them than there are columns. (For cmark-gfm a pipe alone is not a row.)
abbrev pub fits : ℕ → List ℕ → Bool
fits columns text = nat_le 1 (cells text) && nat_le (cells text) columns

-- each row up to the end of the table does
abbrev pub all_fit : List ℕ → ℕ → List MarkView → Bool
all_fit page columns (head range ∷ later) = fits columns (row_text page range) && all_fit page columns later
all_fit page columns (row range ∷ later) = fits columns (row_text page range) && all_fit page columns later
all_fit page columns marks = true

-- how many columns of a line the cells of a row take: each with a space on each side and a pipe after it
abbrev pub cells_width : List Column → ℕ
cells_width [] = 0
cells_width (column ∷ later) = column.width + 3 + cells_width later

-- and the row, which begins with a pipe
abbrev pub row_width : List Column → ℕ
row_width columns = 1 + cells_width columns

-- how many a row may take that is laid out
abbrev pub widest : ℕ
widest = 2000

-- the rows of these columns take no more
abbrev pub is_narrow : List Column → Bool
is_narrow columns = nat_le (row_width columns) widest

module _ (width : List ℕ → ℕ) (page : List ℕ) where
  -- the columns of a table, each as wide as its widest cell
  abbrev pub wide_columns : List Alignment → List MarkView → List Column
  wide_columns alignments later = widened_to width page (map narrowest alignments) later

  -- Each row of a table fits it, but laid out they would be too wide.
  abbrev pub is_too_wide : List Alignment → List MarkView → Bool
  is_too_wide alignments later = all_fit page (length alignments) later && not (is_narrow (wide_columns alignments later))

  -- The columns in which a table is laid out. It has none where a row doesn't fit, or the rows would be too wide: it is left as it is.
  abbrev pub columns_of : List Alignment → List MarkView → List Column
  columns_of alignments later =
      if all_fit page (length alignments) later && is_narrow (wide_columns alignments later) then wide_columns alignments later else []
