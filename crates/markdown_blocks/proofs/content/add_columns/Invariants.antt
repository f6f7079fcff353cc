use Rattle.std.proofs.Common.{◌≡◌, ◌++◌, replicate}
use Rattle.markdown_blocks.proofs.content.add_columns.Given as goal

abbrev pub invariant-loop-left : goal.invariant-loop-left
invariant-loop-left l = l.text.items ++ replicate l.left l.filler ≡ l.fn.text.items ++ replicate l.count l.filler

abbrev pub decreases-loop-left : goal.decreases-loop-left
decreases-loop-left l = l.left
