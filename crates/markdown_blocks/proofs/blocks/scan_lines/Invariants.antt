use Rattle.std.proofs.Common.{ℕ, List, [], length, ◌-◌}
use Rattle.markdown_blocks.specs.blocks.Leaves.{LeavesAfter}
use Rattle.markdown_blocks.specs.taken.Lines.{IsNext}
use Rattle.markdown_blocks.proofs.blocks.ParagraphLemmas.{ReachedLast}
use Rattle.markdown_blocks.proofs.blocks.scan_lines.Given as goal

-- none of the lines that are taken ends the paragraph of those before it, but that a table may begin with the last of them
abbrev pub invariant-loop-line : goal.invariant-loop-line
invariant-loop-line l = (next : List ℕ) → IsNext l.text l.fn.first next l.fn.second → ¬ LeavesAfter l.outer l.fn.rest.text [] next
    → ReachedLast l.outer l.fn.rest.text l.text l.fn.first l.before l.taken

abbrev pub decreases-loop-line : goal.decreases-loop-line
decreases-loop-line l = length l.text - l.taken.bytes
