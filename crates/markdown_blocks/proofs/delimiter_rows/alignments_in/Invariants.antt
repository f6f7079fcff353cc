-- With the cells that are left, all columns are aligned.
use Rattle.std.proofs.Common.{◌≡◌, ◌++◌, length, map}
use Rattle.markdown_blocks.specs.cells.Cells.{cells_of}
use Rattle.markdown_blocks.specs.delimiter_rows.DelimiterRows.{alignment_of, cell_text}
use Rattle.markdown_blocks.proofs.delimiter_rows.alignments_in.Given as goal

abbrev pub invariant-loop-cell : goal.invariant-loop-cell
invariant-loop-cell l =
    l.alignments.items ++ map alignment_of (map (cell_text l.text) l.cells)
    ≡ map alignment_of (map (cell_text l.text) (cells_of l.text))

abbrev pub decreases-loop-cell : goal.decreases-loop-cell
decreases-loop-cell l = length l.cells
