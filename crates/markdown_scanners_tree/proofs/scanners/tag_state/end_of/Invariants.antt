use Rattle.std.proofs.Common.{ℕ, length, ◌-◌, ◌≤◌, ◌<◌, true}
use Rattle.std.specs.Prelude.{slice_index}
use Rattle.markdown_scanners_tree.proofs.scanners.tag_state.end_of.Given as goal

abbrev pub invariant-loop-end : goal.invariant-loop-end
invariant-loop-end g l =
    ((i : ℕ) → l.offset ≤ i → i < l.end → g.F.Fn.post l.passes (slice_index l.bytes i, tt) true)
    × (l.offset ≤ l.end)
    × (l.end ≤ length l.bytes)

abbrev pub decreases-loop-end : goal.decreases-loop-end
decreases-loop-end g l = length l.bytes - l.end
