-- With the columns that are left, the row is added.
use Rattle.std.proofs.Common.{◌≡◌, ◌++◌, drop}
use Rattle.page_tables.specs.Layout.{delimiter_row, delimiters}
use Rattle.page_tables.proofs.layout.push_delimiter_row.Given as goal

abbrev pub invariant-loop-column : goal.invariant-loop-column
invariant-loop-column l = l.out.items ++ delimiters (drop l.column-index l.columns) ≡ l.fn.out.items ++ delimiter_row l.columns
