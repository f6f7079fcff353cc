-- With the bytes that are left, all are added.
use Rattle.std.proofs.Common.{◌≡◌, ◌++◌, replicate}
use Rattle.page_tables.proofs.layout.push_times.Given as goal

abbrev pub invariant-loop-left : goal.invariant-loop-left
invariant-loop-left l = l.out.items ++ replicate l.left l.byte ≡ l.fn.out.items ++ replicate l.count l.byte

abbrev pub decreases-loop-left : goal.decreases-loop-left
decreases-loop-left l = l.left
