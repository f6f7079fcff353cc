use Rattle.std.proofs.Common.{length, take, drop, ◌-◌, ◌+◌, ◌≡◌, ◌≤◌, ◌==◌}
use Rattle.std.specs.List.{count_by, prefix_len}
use Rattle.markdown_scanners_tree.specs.scanners.Breaks.{is_break_byte}
use Rattle.markdown_scanners_tree.proofs.scanners.breaks.scan_break_bytes.Given as goal

abbrev pub invariant-loop-run : goal.invariant-loop-run
invariant-loop-run l = record {
  inside : l.run ≤ length l.bytes;
  few : l.markers ≤ l.run;
  run : l.run + prefix_len (is_break_byte l.marker) (drop l.run l.bytes) ≡ prefix_len (is_break_byte l.fn.marker) l.fn.bytes;
  markers : l.markers ≡ count_by (λ b. b == l.marker) (take l.run l.bytes);
}

abbrev pub decreases-loop-run : goal.decreases-loop-run
decreases-loop-run l = length l.bytes - l.run
