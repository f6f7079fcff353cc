-- All lines that are passed are rows.
use Rattle.std.proofs.Common.{length, ◌-◌}
use Rattle.markdown_blocks.specs.blocks.Leaves.{IsRow}
use Rattle.markdown_blocks.proofs.taken.TakenLemmas.{Passed}
use Rattle.markdown_blocks.proofs.tables.take_rows.Given as goal

abbrev pub invariant-loop-line : goal.invariant-loop-line
invariant-loop-line l = Passed (λ line. ¬ IsRow l.outer line) l.text l.fn.first l.taken

abbrev pub decreases-loop-line : goal.decreases-loop-line
decreases-loop-line l = length l.text - l.taken.bytes
