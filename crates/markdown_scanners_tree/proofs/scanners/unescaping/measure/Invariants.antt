use Rattle.std.proofs.Common.{length, ◌-◌, ◌^◌, ◌≤◌}
use Rattle.markdown_scanners_tree.proofs.scanners.unescaping.PieceLemmas.{IsMeasured}
use Rattle.markdown_scanners_tree.proofs.scanners.unescaping.measure.Given as goal

abbrev pub invariant-loop-i : goal.invariant-loop-i
invariant-loop-i g l =
    IsMeasured l.is_in_table (g.E.Entities.known l.entities) l.text l.i l.dropped l.inserted × (l.inserted ≤ 2 ^ 64 - 1)

abbrev pub decreases-loop-i : goal.decreases-loop-i
decreases-loop-i g l = length l.bytes - l.i
