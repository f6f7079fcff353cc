-- The text is searched for in what is left.
use Rattle.std.proofs.Common.{◌≡◌, ◌-◌, ◌≤◌, drop, length}
use Rattle.html_attributes.specs.StartTags.{from}
use Rattle.html_attributes.proofs.tags.from.Given as goal

abbrev pub invariant-loop-count : goal.invariant-loop-count
invariant-loop-count l = record {
  within : l.count ≤ length l.bytes;
  left : from l.text (drop l.count l.bytes) ≡ from l.text l.bytes;
}

abbrev pub decreases-loop-count : goal.decreases-loop-count
decreases-loop-count l = length l.bytes - l.count
