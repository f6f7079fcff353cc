-- What is built, and what the parts that are left give, is what all give.
use Rattle.std.proofs.Common.{◌≡◌, ◌++◌, ◌∷◌, length}
use Rattle.std.specs.List.{AllByRecursion, flat_map}
use Rattle.markdown_blocks.specs.content.Content.{text_of}
use Rattle.markdown_blocks.specs.content.Left.{parts_left}
use Rattle.markdown_blocks.specs.content.Seen.{IsIn, seen_part}
use Rattle.markdown_blocks.specs.content.Segments.{segments_from}
use Rattle.markdown_blocks.proofs.content.built.Given as goal

abbrev pub invariant-loop-part : goal.invariant-loop-part
invariant-loop-part l =
    (l.rest.lines.now ≡ l.later.lines.now)
    × (l.text.items ++ flat_map text_of (parts_left l.rest) ≡ flat_map text_of (seen_part l.first ∷ parts_left l.later))
    × (l.segments.items ++ segments_from (length l.text.items) (parts_left l.rest)
    ≡ segments_from (length (text_of (seen_part l.first))) (parts_left l.later))
    × (AllByRecursion (IsIn l.later.lines.now) (parts_left l.rest) → AllByRecursion (IsIn l.later.lines.now) (parts_left l.later))

abbrev pub decreases-loop-part : goal.decreases-loop-part
decreases-loop-part l = length (parts_left l.rest)
