use Rattle.std.proofs.Common.{ℕ, List, ◌-◌, ◌≤◌, length}
use Rattle.markdown_blocks.specs.taken.Lines.{IsTaken}
use Rattle.markdown_blocks.proofs.block_events.front_of.Given as goal

-- the lines that are taken so far
abbrev pub invariant-loop-taken : goal.invariant-loop-taken
invariant-loop-taken l = (lines : List (List ℕ)) × IsTaken l.text l.taken lines × (length lines ≤ l.count)

abbrev pub decreases-loop-taken : goal.decreases-loop-taken
decreases-loop-taken l = l.count - l.taken.lines
