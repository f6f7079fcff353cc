-- All say what none would where those do that are left.
use Rattle.std.proofs.Common.{◌≡◌, ◌↔◌, [], length, map}
use Rattle.page_tables.specs.Cells.{cell_text, filled}
use Rattle.page_tables.proofs.same.are_empty.Given as goal

abbrev pub invariant-loop-cell : goal.invariant-loop-cell
invariant-loop-cell l =
    (filled l.left (map (cell_text l.text) l.cells) ≡ filled l.left [])
    ↔ (filled l.columns (map (cell_text l.text) l.fn.cells) ≡ filled l.columns [])

abbrev pub decreases-loop-cell : goal.decreases-loop-cell
decreases-loop-cell l = length l.cells
