use Rattle.std.proofs.Common.{◌≡◌, ◌≤◌, ◌+◌, ◌*◌, drop, length}
use Rattle.markdown_scanners_tree.specs.Columns.{written_out}
use Rattle.markdown_scanners_tree.proofs.line.rests.written_len.Given as goal

-- the columns so far, and those that the bytes to come are written out to, are all
abbrev pub invariant-loop-index : goal.invariant-loop-index
invariant-loop-index l =
    (l.column + length (written_out l.column (drop l.index l.bytes))
    ≡ l.fn.phase + length (written_out l.fn.phase l.fn.bytes))
    × (l.fn.phase ≤ l.column) × (l.column ≤ l.fn.phase + 4 * l.index)
