use Rattle.std.proofs.Common.{◌≡◌, ◌-◌, ◌+◌, ◌≤◌, length, take, true}
use Rattle.markdown_scanners_tree.specs.Columns.{column_past}
use Rattle.markdown_scanners_tree.specs.scanners.Indent.{all_go_on}
use Rattle.markdown_scanners_tree.proofs.scanners.indent.calc_indent.Given as goal

abbrev pub invariant-loop-i : goal.invariant-loop-i
invariant-loop-i l =
    (l.column ≤ l.max + l.i)
    × (l.column ≡ column_past 0 (take l.i l.text))
    × (all_go_on l.max 0 (take l.i l.text) ≡ true)
    × (l.i ≤ length l.text)

abbrev pub decreases-loop-i : goal.decreases-loop-i
decreases-loop-i l = length l.text - l.i
