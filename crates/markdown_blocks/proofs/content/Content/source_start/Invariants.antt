-- The bytes before the end stand one directly after another, from the offset of the first on.
use Rattle.std.proofs.Common.{ℕ, ◌+◌, ◌-◌, ◌<◌, ◌≤◌, ◌≡◌, length}
use Rattle.std.specs.Prelude.{slice_index}
use Rattle.markdown_blocks.proofs.content.Content.source_start.Given as goal

abbrev pub invariant-loop-end : goal.invariant-loop-end
invariant-loop-end l =
    (l.end ≤ length l.self.text)
    × ((offset : ℕ) → offset < l.end → slice_index l.self.offsets offset ≡ l.origin + offset)

abbrev pub decreases-loop-end : goal.decreases-loop-end
decreases-loop-end l = l.len - l.end
