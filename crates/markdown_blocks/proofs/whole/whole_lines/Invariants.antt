use Rattle.std.proofs.Common.{ℕ, ◌≤◌, ◌<◌, length, drop, IsTrue}
use Rattle.markdown_blocks.specs.taken.Whole.{surely_ends_line}
use Rattle.markdown_blocks.proofs.whole.whole_lines.Given as goal

-- no line surely ends after the offset
abbrev pub invariant-loop-end : goal.invariant-loop-end
invariant-loop-end l =
    (l.end ≤ length l.text) × ((offset : ℕ) → l.end ≤ offset → offset < length l.text → ¬ IsTrue (surely_ends_line (drop offset l.text)))

abbrev pub decreases-loop-end : goal.decreases-loop-end
decreases-loop-end l = l.end
