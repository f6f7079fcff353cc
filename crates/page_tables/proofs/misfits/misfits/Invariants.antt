-- With the rows of the marks that are left, all are listed.
use Rattle.std.proofs.Common.{◌≡◌, ◌++◌, length, map}
use Rattle.page_tables.specs.Marks.{mark_view}
use Rattle.page_tables.specs.Misfits.{misfits, misfits_from}
use Rattle.page_tables.proofs.misfits.misfits.Given as goal

abbrev pub invariant-loop-rest : goal.invariant-loop-rest
invariant-loop-rest g l =
    l.rows.items ++ misfits_from (g.W.CellWidths.width l.widths) l.page l.columns (map mark_view l.rest)
    ≡ misfits (g.W.CellWidths.width l.widths) l.page (map mark_view l.marks)

abbrev pub decreases-loop-rest : goal.decreases-loop-rest
decreases-loop-rest g l = length l.rest
