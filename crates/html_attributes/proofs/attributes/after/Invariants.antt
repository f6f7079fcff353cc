-- What is passed is among these.
use Rattle.std.proofs.Common.{◌≡◌, ◌+◌, ◌-◌, ◌≤◌, drop, length}
use Rattle.std.specs.List.{prefix_len}
use Rattle.html_attributes.specs.Attributes.{is_one_of}
use Rattle.html_attributes.proofs.attributes.after.Given as goal

abbrev pub invariant-loop-count : goal.invariant-loop-count
invariant-loop-count l = record {
  within : l.count ≤ length l.bytes;
  passed : prefix_len (is_one_of l.these) l.bytes ≡ l.count + prefix_len (is_one_of l.these) (drop l.count l.bytes);
}

abbrev pub decreases-loop-count : goal.decreases-loop-count
decreases-loop-count l = length l.bytes - l.count
