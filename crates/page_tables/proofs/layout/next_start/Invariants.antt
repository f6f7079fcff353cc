-- The next head or row is that of the marks that are left.
use Rattle.std.proofs.Common.{◌≡◌, length, map}
use Rattle.page_tables.specs.Layout.{next_start}
use Rattle.page_tables.specs.Marks.{mark_view}
use Rattle.page_tables.proofs.layout.next_start.Given as goal

abbrev pub invariant-loop-rest : goal.invariant-loop-rest
invariant-loop-rest l = next_start l.page (map mark_view l.rest) ≡ next_start l.page (map mark_view l.later)

abbrev pub decreases-loop-rest : goal.decreases-loop-rest
decreases-loop-rest l = length l.rest
