use Rattle.std.proofs.Common.{◌≡◌, false, map, arith}
use Rattle.page_tables.specs.Columns.{is_narrow, narrowest}
use Rattle.page_tables.specs.Marks.{mark_view}
use Rattle.page_tables.proofs.ColumnLemmas.{stays_wide}
use Rattle.page_tables.proofs.columns.narrow_columns.Goals as goal

pub returns-then-not-is_narrow-clause-wide : goal.returns-then-not-is_narrow-clause-wide
returns-then-not-is_narrow-clause-wide g c =
    let columns = map narrowest c.args.alignments.now in
    let is = rw c.in_ok-columns.ensures at (rw c.deref.ensures.value at c.is_narrow.ensures) in
    let wide : is_narrow columns ≡ false = grind (arith, is, c.if-not-is_narrow.true) in
    stays_wide (g.W.CellWidths.width c.args.widths.now) c.args.page.now columns (map mark_view c.args.later.now) wide
