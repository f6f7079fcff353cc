use Rattle.std.proofs.Common.{length, ◌-◌}
use Rattle.markdown_scanners_tree.proofs.scanners.links.PointedLemmas.{IsPointedSoFar}
use Rattle.markdown_scanners_tree.proofs.scanners.links.pointed_len.Given as goal

abbrev pub invariant-loop-i : goal.invariant-loop-i
invariant-loop-i l = IsPointedSoFar l.i l.bytes

abbrev pub decreases-loop-i : goal.decreases-loop-i
decreases-loop-i l = length l.bytes - l.i
