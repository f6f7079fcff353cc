-- What is made, and what is made of the arguments that are left, is what is made of all of them.
use Rattle.std.proofs.Common.{◌≡◌, ◌≤◌, ◌-◌, ◌++◌, drop, length, map, string_bytes}
use Rattle.page_programs.specs.Values.{joined}
use Rattle.page_programs.proofs.values.join_values.Given as goal

abbrev pub invariant-loop-at : goal.invariant-loop-at
invariant-loop-at l = record {
  within : l.at ≤ length l.arguments;
  made : map string_bytes l.made.items ++ joined (map string_bytes (drop l.at l.arguments)) ≡ joined (map string_bytes l.arguments);
}

abbrev pub decreases-loop-at : goal.decreases-loop-at
decreases-loop-at l = length l.arguments - l.at
