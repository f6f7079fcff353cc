-- What is left of the widest row is for the columns that are left.
use Rattle.std.proofs.Common.{◌+◌, ◌≡◌, drop}
use Rattle.page_tables.specs.Columns.{cells_width, widest}
use Rattle.page_tables.proofs.columns.is_narrow.Given as goal

abbrev pub invariant-loop-column : goal.invariant-loop-column
invariant-loop-column l = cells_width (drop l.column-index l.columns) + widest ≡ cells_width l.columns + l.room + 1
