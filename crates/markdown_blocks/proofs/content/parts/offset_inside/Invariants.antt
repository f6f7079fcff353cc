-- What the line has after the rest of the containers, it has after all.
use Rattle.std.proofs.Common.{◌≡◌, length}
use Rattle.markdown_blocks.specs.content.Parts.{after_containers, offset_inside}
use Rattle.markdown_blocks.proofs.content.parts.offset_inside.Given as goal

abbrev pub invariant-loop-rest : goal.invariant-loop-rest
invariant-loop-rest l =
    (after_containers l.blank l.rest l.start ≡ offset_inside l.containers l.line) × (l.start.bytes ≡ l.line)

abbrev pub decreases-loop-rest : goal.decreases-loop-rest
decreases-loop-rest l = length l.rest
