-- Whether all cells are delimiters is whether those are that are left, and with them the columns are the cells.
use Rattle.std.proofs.Common.{◌+◌, ◌≡◌, length, map}
use Rattle.std.specs.List.{list_all}
use Rattle.markdown_blocks.specs.cells.Cells.{cells_of}
use Rattle.markdown_blocks.specs.delimiter_rows.DelimiterRows.{cell_text, is_delimiter}
use Rattle.markdown_blocks.proofs.delimiter_rows.count_columns.Given as goal

abbrev pub invariant-loop-cell : goal.invariant-loop-cell
invariant-loop-cell l = record {
  all : list_all is_delimiter (map (cell_text l.text) l.cells) ≡ list_all is_delimiter (map (cell_text l.text) (cells_of l.text));
  counted : l.columns + length l.cells ≡ length (cells_of l.text);
}

abbrev pub decreases-loop-cell : goal.decreases-loop-cell
decreases-loop-cell l = length l.cells
