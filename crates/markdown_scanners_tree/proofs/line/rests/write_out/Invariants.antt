use Rattle.std.proofs.Common.{ℕ, List, ◌≡◌, ◌≤◌, ◌+◌, ◌*◌, ◌++◌, drop, length, replicate}
use Rattle.markdown_scanners_tree.specs.Ascii.{space}
use Rattle.markdown_scanners_tree.specs.Columns.{written_out}
use Rattle.markdown_scanners_tree.proofs.line.rests.write_out.Given as goal

-- what is written at the front of the buffer, and what the bytes to come are written out to, is all
abbrev pub invariant-loop-index : goal.invariant-loop-index
invariant-loop-index l =
    (made : List ℕ) × (length made ≡ l.at) × (l.buffer ≡ made ++ drop l.at l.fn.buffer)
    × (made ++ written_out l.column (drop l.index l.bytes)
    ≡ replicate l.fn.pending space ++ written_out l.fn.phase l.fn.bytes)
    × (l.column ≤ l.fn.phase + 4 * l.index)
