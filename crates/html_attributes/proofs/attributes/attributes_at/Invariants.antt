-- With those that are left, the attributes are those of all.
use Rattle.std.proofs.Common.{ℕ, List, ◌++◌, ◌≤◌, length, map}
use Rattle.html_attributes.specs.Attributes.{AreAttributes, Written, after, between, seen_attribute}
use Rattle.html_attributes.proofs.attributes.attributes_at.Given as goal

abbrev pub invariant-loop-rest : goal.invariant-loop-rest
invariant-loop-rest l = record {
  within : length l.rest ≤ length l.bytes;
  all : (later : List Written) (end : List ℕ) → AreAttributes l.rest later end
      → AreAttributes (after between l.bytes) (map seen_attribute l.attributes.items ++ later) end;
}

abbrev pub decreases-loop-rest : goal.decreases-loop-rest
decreases-loop-rest l = length l.rest
