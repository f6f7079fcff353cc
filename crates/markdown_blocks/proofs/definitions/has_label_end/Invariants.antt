-- The end of a label stands at no offset that was passed.
use Rattle.std.proofs.Common.{◌≡◌, ◌-◌, length, drop}
use Rattle.markdown_blocks.specs.definitions.LabelEnds.{has_label_end}
use Rattle.markdown_blocks.proofs.definitions.has_label_end.Given as goal

abbrev pub invariant-loop-from : goal.invariant-loop-from
invariant-loop-from l = has_label_end (drop l.from l.text) ≡ has_label_end l.text

abbrev pub decreases-loop-from : goal.decreases-loop-from
decreases-loop-from l = length l.text - l.from
