use Rattle.std.proofs.Common.{length, ◌-◌}
use Rattle.markdown_blocks.specs.blocks.Endings.{IsEnd}
use Rattle.markdown_blocks.proofs.taken.TakenLemmas.{Passed}
use Rattle.markdown_blocks.proofs.blocks.take_until.Given as goal

-- none of the lines that are passed is an end
abbrev pub invariant-loop-line : goal.invariant-loop-line
invariant-loop-line l = Passed (IsEnd l.outer l.ending) l.text l.fn.first l.taken

abbrev pub decreases-loop-line : goal.decreases-loop-line
decreases-loop-line l = length l.text - l.taken.bytes
