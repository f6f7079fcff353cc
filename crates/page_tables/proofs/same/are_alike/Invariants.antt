-- All are alike where those are that are left.
use Rattle.std.proofs.Common.{◌≡◌, ◌↔◌, length}
use Rattle.page_tables.proofs.same.are_alike.Given as goal

abbrev pub invariant-loop-left : goal.invariant-loop-left
invariant-loop-left l = (l.left ≡ l.right) ↔ (l.alignments ≡ l.others)

abbrev pub decreases-loop-left : goal.decreases-loop-left
decreases-loop-left l = length l.left
