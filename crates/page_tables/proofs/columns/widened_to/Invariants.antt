-- The columns with the rows that are left are those with all rows.
use Rattle.std.proofs.Common.{◌≡◌, length, map}
use Rattle.page_tables.specs.Columns.{widened_to}
use Rattle.page_tables.specs.Marks.{mark_view}
use Rattle.page_tables.proofs.columns.widened_to.Given as goal

abbrev pub invariant-loop-rest : goal.invariant-loop-rest
invariant-loop-rest g l =
    widened_to (g.W.CellWidths.width l.widths) l.page l.columns.items (map mark_view l.rest)
    ≡ widened_to (g.W.CellWidths.width l.widths) l.page l.fn.columns.items (map mark_view l.later)

abbrev pub decreases-loop-rest : goal.decreases-loop-rest
decreases-loop-rest g l = length l.rest
