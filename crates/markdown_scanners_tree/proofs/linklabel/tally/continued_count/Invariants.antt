use Rattle.std.proofs.Common.{take, length, ◌≡◌, ◌≤◌, ◌-◌}
use Rattle.std.specs.List.{sum_by}
use Rattle.markdown_scanners_tree.specs.linklabel.private.Pass.{continued}
use Rattle.markdown_scanners_tree.proofs.linklabel.tally.continued_count.Given as goal

abbrev pub invariant-loop-from : goal.invariant-loop-from
invariant-loop-from l = record {
  within : l.from ≤ length l.bytes;
  counted : l.count ≡ sum_by continued (take l.from l.bytes);
}

abbrev pub decreases-loop-from : goal.decreases-loop-from
decreases-loop-from l = length l.bytes - l.from
