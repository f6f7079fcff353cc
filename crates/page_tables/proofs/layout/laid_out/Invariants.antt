-- What is written, with what comes of the marks that are left, is the page laid out.
use Rattle.std.proofs.Common.{◌≡◌, ◌++◌, length, map}
use Rattle.page_tables.specs.Layout.{laid_out, laid_out_from}
use Rattle.page_tables.specs.Marks.{mark_view}
use Rattle.page_tables.proofs.layout.laid_out.Given as goal

abbrev pub invariant-loop-rest : goal.invariant-loop-rest
invariant-loop-rest g l =
    l.layout.out.items
    ++ laid_out_from (g.W.CellWidths.width l.widths) l.page l.layout.from l.layout.columns.items (map mark_view l.rest)
    ≡ laid_out (g.W.CellWidths.width l.widths) l.page (map mark_view l.marks)

abbrev pub decreases-loop-rest : goal.decreases-loop-rest
decreases-loop-rest g l = length l.rest
