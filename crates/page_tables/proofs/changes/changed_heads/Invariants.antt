-- With the heads of the marks that are left, all are listed.
use Rattle.std.proofs.Common.{◌≡◌, ◌++◌, length, map}
use Rattle.page_tables.specs.Changes.{changed_heads}
use Rattle.page_tables.specs.Marks.{mark_view}
use Rattle.page_tables.proofs.changes.changed_heads.Given as goal

abbrev pub invariant-loop-rest : goal.invariant-loop-rest
invariant-loop-rest g l =
    l.heads.items ++ changed_heads (g.W.CellWidths.width l.widths) l.page (map mark_view l.rest)
    ≡ changed_heads (g.W.CellWidths.width l.widths) l.page (map mark_view l.marks)

abbrev pub decreases-loop-rest : goal.decreases-loop-rest
decreases-loop-rest g l = length l.rest
