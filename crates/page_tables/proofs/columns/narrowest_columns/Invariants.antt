-- With the columns that are left, all are made.
use Rattle.std.proofs.Common.{◌≡◌, ◌++◌, drop, map}
use Rattle.page_tables.specs.Columns.{narrowest}
use Rattle.page_tables.proofs.columns.narrowest_columns.Given as goal

abbrev pub invariant-loop-alignment : goal.invariant-loop-alignment
invariant-loop-alignment l = l.columns.items ++ map narrowest (drop l.alignment-index l.alignments) ≡ map narrowest l.alignments
