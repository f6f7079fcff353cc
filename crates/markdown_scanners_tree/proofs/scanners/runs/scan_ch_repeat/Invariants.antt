use Rattle.std.proofs.Common.{length, ◌-◌, ◌≡◌, ◌≤◌, ◌==◌, ◌+◌, drop}
use Rattle.std.specs.List.{prefix_len}
use Rattle.markdown_scanners_tree.proofs.scanners.runs.scan_ch_repeat.Given as goal

abbrev pub invariant-loop-count : goal.invariant-loop-count
invariant-loop-count l = record {
  inside : l.count ≤ length l.bytes;
  run : l.count + prefix_len (λ b. b == l.c) (drop l.count l.bytes) ≡ prefix_len (λ b. b == l.fn.c) l.fn.bytes;
}

abbrev pub decreases-loop-count : goal.decreases-loop-count
decreases-loop-count l = length l.bytes - l.count
