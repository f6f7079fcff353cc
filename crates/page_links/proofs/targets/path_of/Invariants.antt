-- What is passed belongs to the path.
use Rattle.std.proofs.Common.{◌≡◌, ◌+◌, ◌-◌, ◌≤◌, drop, length}
use Rattle.std.specs.Prelude.{not}
use Rattle.std.specs.List.{prefix_len}
use Rattle.page_links.specs.targets.Targets.{ends_path}
use Rattle.page_links.proofs.targets.path_of.Given as goal

abbrev pub invariant-loop-end : goal.invariant-loop-end
invariant-loop-end l = record {
  within : l.end ≤ length l.destination;
  passed : prefix_len (λ b. not (ends_path b)) l.destination ≡ l.end + prefix_len (λ b. not (ends_path b)) (drop l.end l.destination);
}

abbrev pub decreases-loop-end : goal.decreases-loop-end
decreases-loop-end l = length l.destination - l.end
