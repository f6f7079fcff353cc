use Rattle.std.proofs.Common.{◌≡◌, ◌≤◌, length, take}
use Rattle.markdown_blocks.proofs.walk.keep.Given as goal

-- the first containers are those that they were
abbrev pub invariant-loop-outer : goal.invariant-loop-outer
invariant-loop-outer l = (l.kept ≤ length l.outer.items) × (take l.kept l.outer.items ≡ take l.kept l.fn.outer.items)

abbrev pub decreases-loop-outer : goal.decreases-loop-outer
decreases-loop-outer l = length l.outer.items
