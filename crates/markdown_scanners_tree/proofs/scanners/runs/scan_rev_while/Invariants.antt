use Rattle.std.proofs.Common.{◌-◌, ◌≤◌, length, take, true, reverse}
use Rattle.std.specs.List.{FoldsTo}
use Rattle.markdown_scanners_tree.proofs.scanners.runs.scan_rev_while.Given as goal

abbrev pub invariant-loop-count : goal.invariant-loop-count
invariant-loop-count g l =
    (l.count ≤ length l.bytes)
    × FoldsTo (λ p b q. goal.F-step g p b true q) l.fn.f (take l.count (reverse l.bytes)) l.f

abbrev pub decreases-loop-count : goal.decreases-loop-count
decreases-loop-count g l = length l.bytes - l.count
