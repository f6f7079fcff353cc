use Rattle.std.proofs.Common.{ℕ, List, length, ◌-◌}
use Rattle.markdown_blocks.specs.taken.Lines.{IsTaken}
use Rattle.markdown_blocks.proofs.blocks.IndentedLemmas.{Seen}
use Rattle.markdown_blocks.proofs.blocks.take_indented.Given as goal

abbrev pub invariant-loop-line : goal.invariant-loop-line
invariant-loop-line l = (lines : List (List ℕ)) → IsTaken l.text l.fn.first lines → Seen l.outer l.text lines l.taken l.seen

abbrev pub decreases-loop-line : goal.decreases-loop-line
decreases-loop-line l = length l.text - l.seen.bytes
