-- What is returned so far, and what the containers to come tell, is what all tell.
use Rattle.std.proofs.Common.{◌≡◌, ◌++◌, length}
use Rattle.markdown_scanners_c.specs.BlockLines.{begun_returned}
use Rattle.markdown_scanners_c.proofs.block_lines.add_begun.Given as goal

abbrev pub invariant-loop-rest : goal.invariant-loop-rest
invariant-loop-rest l =
    l.returned.items ++ begun_returned l.step.start l.rest ≡ l.fn.returned.items ++ begun_returned l.fn.step.start l.containers

abbrev pub decreases-loop-rest : goal.decreases-loop-rest
decreases-loop-rest l = length l.rest
