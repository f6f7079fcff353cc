use Rattle.std.proofs.Common.{length, ◌-◌, ◌≡◌, ◌≤◌, ◌+◌, drop}
use Rattle.std.specs.List.{prefix_len}
use Rattle.markdown_scanners_tree.specs.scanners.tables.DelimiterRow.{is_cell_byte}
use Rattle.markdown_scanners_tree.proofs.scanners.tables.scan_cell_bytes.Given as goal

abbrev pub invariant-loop-count : goal.invariant-loop-count
invariant-loop-count l = record {
  inside : l.count ≤ length l.bytes;
  run : l.count + prefix_len is_cell_byte (drop l.count l.bytes) ≡ prefix_len is_cell_byte l.fn.bytes;
}

abbrev pub decreases-loop-count : goal.decreases-loop-count
decreases-loop-count l = length l.bytes - l.count
