use Rattle.std.proofs.Common.{◌≡◌, ◌+◌, ◌-◌, ◌≤◌, length, drop}
use Rattle.std.specs.List.{prefix_len}
use Rattle.markdown_scanners_tree.specs.scanners.Lines.{is_no_line_feed}
use Rattle.markdown_scanners_tree.proofs.scanners.lines.scan_nextline.Given as goal

abbrev pub invariant-loop-from : goal.invariant-loop-from
invariant-loop-from l = record {
  inside : l.from ≤ length l.bytes;
  passed : prefix_len is_no_line_feed l.bytes ≡ l.from + prefix_len is_no_line_feed (drop l.from l.bytes);
}

abbrev pub decreases-loop-from : goal.decreases-loop-from
decreases-loop-from l = length l.bytes - l.from
