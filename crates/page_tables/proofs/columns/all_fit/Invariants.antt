-- Whether all rows fit is whether those do that are left.
use Rattle.std.proofs.Common.{◌≡◌, length, map}
use Rattle.page_tables.specs.Columns.{all_fit}
use Rattle.page_tables.specs.Marks.{mark_view}
use Rattle.page_tables.proofs.columns.all_fit.Given as goal

abbrev pub invariant-loop-rest : goal.invariant-loop-rest
invariant-loop-rest l = all_fit l.page l.columns (map mark_view l.rest) ≡ all_fit l.page l.columns (map mark_view l.later)

abbrev pub decreases-loop-rest : goal.decreases-loop-rest
decreases-loop-rest l = length l.rest
