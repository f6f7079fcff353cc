use Rattle.std.proofs.Common.{length, ◌-◌, ◌≡◌, ◌≤◌, ◌+◌, drop}
use Rattle.markdown_scanners_tree.specs.scanners.tables.private.RowPass.{passed_len, row_len}
use Rattle.markdown_scanners_tree.proofs.scanners.tables.scan_row_bytes.Given as goal

abbrev pub invariant-loop-count : goal.invariant-loop-count
invariant-loop-count l = record {
  inside : l.count ≤ length l.bytes;
  run : l.count + passed_len l.hyphen (drop l.count l.bytes) ≡ row_len l.fn.bytes;
}

abbrev pub decreases-loop-count : goal.decreases-loop-count
decreases-loop-count l = length l.bytes - l.count
