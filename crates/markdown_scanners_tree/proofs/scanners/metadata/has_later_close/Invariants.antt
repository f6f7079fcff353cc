use Rattle.std.proofs.Common.{◌-◌, ◌≤◌, length, drop}
use Rattle.markdown_scanners_tree.specs.scanners.Metadata.{HasLaterClose}
use Rattle.markdown_scanners_tree.proofs.scanners.metadata.has_later_close.Given as goal

abbrev pub invariant-loop-line : goal.invariant-loop-line
invariant-loop-line l = (l.i ≤ length l.body) × (HasLaterClose l.body l.byte → HasLaterClose (drop l.i l.body) l.byte)

abbrev pub decreases-loop-line : goal.decreases-loop-line
decreases-loop-line l = length l.body - l.i
