-- All cells are the same where those are that are left.
use Rattle.std.proofs.Common.{◌≡◌, ◌↔◌, length, map}
use Rattle.page_tables.specs.Cells.{cell_text, cell_texts, filled}
use Rattle.page_tables.proofs.same.have_same_cells.Given as goal

abbrev pub invariant-loop-cell : goal.invariant-loop-cell
invariant-loop-cell l =
    (filled l.left (map (cell_text l.row) l.cells) ≡ filled l.left (map (cell_text l.other) l.others))
    ↔ (filled l.columns (cell_texts l.row) ≡ filled l.columns (cell_texts l.other))

abbrev pub decreases-loop-cell : goal.decreases-loop-cell
decreases-loop-cell l = length l.cells
