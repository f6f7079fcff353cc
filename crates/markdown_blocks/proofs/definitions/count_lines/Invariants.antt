use Rattle.std.proofs.Common.{ℕ, List, length, ◌-◌}
use Rattle.markdown_blocks.specs.taken.Lines.{IsTaken}
use Rattle.markdown_blocks.proofs.definitions.count_lines.Given as goal

abbrev pub invariant-loop-more : goal.invariant-loop-more
invariant-loop-more l = (lines : List (List ℕ)) × IsTaken l.text l.taken lines

abbrev pub decreases-loop-more : goal.decreases-loop-more
decreases-loop-more l = length l.text - l.taken.bytes
