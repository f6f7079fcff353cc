use Rattle.std.proofs.Common.{◌≡◌, ◌+◌, ◌-◌, ◌≤◌, length, drop}
use Rattle.std.specs.List.{prefix_len}
use Rattle.markdown_scanners_tree.proofs.scanners.lines.BlankLemmas.{ends_no_line}
use Rattle.markdown_scanners_tree.proofs.scanners.lines.head_len.Given as goal

abbrev pub invariant-loop-from : goal.invariant-loop-from
invariant-loop-from l = record {
  inside : l.from ≤ length l.bytes;
  passed : prefix_len ends_no_line l.bytes ≡ l.from + prefix_len ends_no_line (drop l.from l.bytes);
}

abbrev pub decreases-loop-from : goal.decreases-loop-from
decreases-loop-from l = length l.bytes - l.from
