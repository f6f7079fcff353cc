-- The rows that are left are laid out where all are.
use Rattle.std.proofs.Common.{◌≡◌, length, map}
use Rattle.page_tables.specs.Changes.{rows_stay}
use Rattle.page_tables.specs.Marks.{mark_view}
use Rattle.page_tables.proofs.changes.rows_stay.Given as goal

abbrev pub invariant-loop-rest : goal.invariant-loop-rest
invariant-loop-rest g l =
    rows_stay (g.W.CellWidths.width l.widths) l.page l.columns (map mark_view l.rest)
    ≡ rows_stay (g.W.CellWidths.width l.widths) l.page l.columns (map mark_view l.later)

abbrev pub decreases-loop-rest : goal.decreases-loop-rest
decreases-loop-rest g l = length l.rest
