-- With the columns that are left, the row is added.
use Rattle.std.proofs.Common.{◌≡◌, ◌++◌, drop, map}
use Rattle.page_tables.specs.Cells.{cell_text}
use Rattle.page_tables.specs.Layout.{row_cells, row_in}
use Rattle.page_tables.proofs.layout.push_row.Given as goal

abbrev pub invariant-loop-column : goal.invariant-loop-column
invariant-loop-column g l =
    l.out.items ++ row_cells (g.W.CellWidths.width l.widths) (drop l.column-index l.columns) (map (cell_text l.text) l.cells)
    ≡ l.fn.out.items ++ row_in (g.W.CellWidths.width l.widths) l.columns l.text
