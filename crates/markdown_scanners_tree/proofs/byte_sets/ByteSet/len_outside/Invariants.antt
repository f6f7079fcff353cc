-- What has been passed over is not in the set.
use Rattle.std.proofs.Common.{◌≡◌, ◌+◌, ◌-◌, ◌≤◌, length, drop}
use Rattle.std.specs.List.{prefix_len}
use Rattle.markdown_scanners_tree.proofs.byte_sets.SetLanes.{is_outside}
use Rattle.markdown_scanners_tree.proofs.byte_sets.ByteSet.len_outside.Given as goal

abbrev pub invariant-loop-from : goal.invariant-loop-from
invariant-loop-from l = record {
  inside : l.from ≤ length l.bytes;
  passed : prefix_len (is_outside l.self) l.bytes ≡ l.from + prefix_len (is_outside l.self) (drop l.from l.bytes);
}

abbrev pub decreases-loop-from : goal.decreases-loop-from
decreases-loop-from l = length l.bytes - l.from
