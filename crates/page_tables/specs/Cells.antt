-- The texts of the cells of a row.
use Rattle.std.specs.Prelude.{ℕ, ◌-◌, List, [], ◌∷◌, map, replicate, slice_range}
use Rattle.std.specs.declared.ops.Range.{Range}
use Rattle.markdown_blocks.specs.cells.Cells.{cells_of}
use Rattle.markdown_blocks.specs.declared.cells.Cell.{Cell}

-- the text of a row that stands in this range of the page
abbrev pub row_text : List ℕ → Range ℕ → List ℕ
row_text page range = slice_range page range.start range.end

-- the text of a cell of a row with this text
abbrev pub cell_text : List ℕ → Cell → List ℕ
cell_text text cell = slice_range text cell.start cell.end

-- the cells of a row with this text, without the spaces and tabs at their ends
abbrev pub cell_texts : List ℕ → List (List ℕ)
cell_texts text = map (cell_text text) (cells_of text)

-- at least so many cells: those that are missing in a row are empty
abbrev pub filled : ℕ → List (List ℕ) → List (List ℕ)
filled columns [] = replicate columns []
filled columns (cell ∷ cells) = cell ∷ filled (columns - 1) cells
