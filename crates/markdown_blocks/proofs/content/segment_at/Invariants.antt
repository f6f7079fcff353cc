-- The segments before `low` begin at the offset or before it, those from `high` on after it.
use Rattle.std.proofs.Common.{ℕ, ◌-◌, ◌<◌, ◌≤◌, ◌≡◌, drop, get_or, length}
use Rattle.markdown_blocks.specs.content.Segments.{Rising, offset_at}
use Rattle.markdown_blocks.specs.declared.content.Segment.{Segment}
use Rattle.markdown_blocks.proofs.content.segment_at.Given as goal

abbrev pub invariant-loop-low : goal.invariant-loop-low
invariant-loop-low l =
    (l.low ≤ l.high) × (l.high ≤ length l.later) × Rising l.found.offset (drop l.low l.later) × (l.found.offset ≤ l.offset)
    × ((at : ℕ) → l.found.offset ≤ at → offset_at l.found (drop l.low l.later) at ≡ offset_at l.fn.first l.later at)
    × ((k : ℕ) (d : Segment) → l.high ≤ k → k < length l.later → l.offset < (get_or l.later k d).offset)

abbrev pub decreases-loop-low : goal.decreases-loop-low
decreases-loop-low l = l.high - l.low
