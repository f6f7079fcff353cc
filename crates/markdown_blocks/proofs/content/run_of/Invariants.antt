-- The parts so far are the bytes from the first offset up to the end, and the others go on there.
use Rattle.std.proofs.Common.{◌-◌, ◌≤◌, ◌≡◌, ◌++◌, drop, length, take}
use Rattle.std.specs.List.{flat_map, range_with_len}
use Rattle.markdown_blocks.specs.content.Content.{offsets_of, text_of}
use Rattle.markdown_blocks.specs.content.Left.{parts_left}
use Rattle.markdown_blocks.specs.content.Parts.{GoOn}
use Rattle.markdown_blocks.proofs.content.run_of.Given as goal

abbrev pub invariant-loop-next : goal.invariant-loop-next
invariant-loop-next l =
    (l.rest.lines.now ≡ l.parts.lines.now) × (l.part.offset ≤ l.end) × (l.end ≤ length l.parts.lines.now)
    × (flat_map text_of (parts_left l.parts)
    ≡ take (l.end - l.part.offset) (drop l.part.offset l.parts.lines.now) ++ flat_map text_of (parts_left l.rest))
    × (GoOn l.end (parts_left l.rest) → GoOn l.part.offset (parts_left l.parts))
    × (GoOn l.part.offset (parts_left l.parts) → GoOn l.end (parts_left l.rest))
    × (flat_map offsets_of (parts_left l.parts)
    ≡ range_with_len l.part.offset (l.end - l.part.offset) ++ flat_map offsets_of (parts_left l.rest))

abbrev pub decreases-loop-next : goal.decreases-loop-next
decreases-loop-next l = length (parts_left l.rest)
