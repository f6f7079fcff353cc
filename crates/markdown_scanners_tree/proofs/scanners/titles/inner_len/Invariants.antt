use Rattle.std.proofs.Common.{length, ◌-◌}
use Rattle.markdown_scanners_tree.proofs.scanners.titles.TitleLemmas.{IsTitleSoFar}
use Rattle.markdown_scanners_tree.proofs.scanners.titles.inner_len.Given as goal

abbrev pub invariant-loop-i : goal.invariant-loop-i
invariant-loop-i l = IsTitleSoFar l.opening l.closing l.i l.bytes

abbrev pub decreases-loop-i : goal.decreases-loop-i
decreases-loop-i l = length l.bytes - l.i
