-- If the lines that are left have no more cells than are left, all have no more than all.
use Rattle.std.proofs.Common.{◌*◌, ◌≤◌, length}
use Rattle.markdown_scanners_tree.specs.scanners.TextLines.{lines_of}
use Rattle.markdown_events.proofs.page.table_events.has_few_lines.Given as goal

abbrev pub invariant-loop-line : goal.invariant-loop-line
invariant-loop-line l = length (lines_of l._line-iterator) * l.columns ≤ l.left → length (lines_of l.fn.lines) * l.columns ≤ l.fn.cells
