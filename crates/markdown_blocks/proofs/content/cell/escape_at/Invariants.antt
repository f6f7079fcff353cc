-- None is passed.
use Rattle.std.proofs.Common.{◌≡◌, ◌+◌, ◌-◌, ◌≤◌, drop, length}
use Rattle.markdown_blocks.specs.cells.Contents.{escape_at}
use Rattle.markdown_blocks.proofs.content.cell.escape_at.Given as goal

abbrev pub invariant-loop-len : goal.invariant-loop-len
invariant-loop-len l = (l.len ≤ length l.bytes) × (l.len + escape_at (drop l.len l.bytes) ≡ escape_at l.bytes)

abbrev pub decreases-loop-len : goal.decreases-loop-len
decreases-loop-len l = length l.bytes - l.len
