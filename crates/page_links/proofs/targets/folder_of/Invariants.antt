-- What is left out has no slash.
use Rattle.std.proofs.Common.{◌≡◌, ◌+◌, ◌≤◌, length, take}
use Rattle.std.specs.Prelude.{not, ◌==◌}
use Rattle.std.specs.List.{suffix_len}
use Rattle.page_links.proofs.targets.folder_of.Given as goal

abbrev pub invariant-loop-end : goal.invariant-loop-end
invariant-loop-end l =
    (l.end ≤ length l.name)
    × (l.end + suffix_len (λ b. not (b == 47)) l.name ≡ length l.name + suffix_len (λ b. not (b == 47)) (take l.end l.name))

abbrev pub decreases-loop-end : goal.decreases-loop-end
decreases-loop-end l = l.end
