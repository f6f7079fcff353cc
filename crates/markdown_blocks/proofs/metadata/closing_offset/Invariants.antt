-- No line before the offset closes the block.
use Rattle.std.proofs.Common.{ℕ, ◌-◌, ◌<◌, ◌≤◌, length}
use Rattle.markdown_blocks.specs.metadata.Metadata.{ClosesAt}
use Rattle.markdown_blocks.proofs.metadata.closing_offset.Given as goal

abbrev pub invariant-loop-offset : goal.invariant-loop-offset
invariant-loop-offset l =
    (l.start ≤ l.offset) × (l.offset ≤ length l.page)
    × ((k : ℕ) → l.start < k → k ≤ l.offset → ¬ ClosesAt l.page l.byte k)

abbrev pub decreases-loop-offset : goal.decreases-loop-offset
decreases-loop-offset l = length l.page - l.offset
