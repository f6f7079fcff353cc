-- With the columns that are left, all are made.
use Rattle.std.proofs.Common.{◌≡◌, ◌++◌, drop, map}
use Rattle.page_tables.specs.Cells.{cell_text, cell_texts}
use Rattle.page_tables.specs.Columns.{widened}
use Rattle.page_tables.proofs.columns.widened.Given as goal

abbrev pub invariant-loop-column : goal.invariant-loop-column
invariant-loop-column g l =
    l.wide.items ++ widened (g.W.CellWidths.width l.widths) (drop l.column-index l.columns) (map (cell_text l.text) l.cells)
    ≡ widened (g.W.CellWidths.width l.widths) l.columns (cell_texts l.text)
