-- What the line begins of the markers that are left, it begins of all.
use Rattle.std.proofs.Common.{◌≡◌}
use Rattle.markdown_blocks.specs.content.Parts.{after_markers, first_offset}
use Rattle.markdown_blocks.proofs.content.parts.first_offset.Given as goal

abbrev pub invariant-loop-left : goal.invariant-loop-left
invariant-loop-left l =
    (after_markers l.left l.start ≡ first_offset l.kept l.containers l.line) × (l.start.bytes ≡ l.line)

abbrev pub decreases-loop-left : goal.decreases-loop-left
decreases-loop-left l = l.left
