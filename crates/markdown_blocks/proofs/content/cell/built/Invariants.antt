-- What is built, and the runs that are left, are all.
use Rattle.std.proofs.Common.{◌≡◌, ◌++◌, ◌+◌, length}
use Rattle.std.specs.List.{flat_map}
use Rattle.markdown_blocks.specs.cells.Contents.{escape_at}
use Rattle.markdown_blocks.specs.content.Content.{text_of}
use Rattle.markdown_blocks.specs.content.Segments.{segments_from}
use Rattle.markdown_blocks.proofs.content.cell.EscapeLemmas.{later_runs, runs}
use Rattle.markdown_blocks.proofs.content.cell.built.Given as goal

abbrev pub invariant-loop-rest : goal.invariant-loop-rest
invariant-loop-rest l =
    (l.bytes.items ++ flat_map text_of (later_runs l.end l.rest) ≡ flat_map text_of (runs l.source l.text))
    × (l.segments.items ++ segments_from (length l.bytes.items) (later_runs l.end l.rest) ≡ segments_from 0 (runs l.source l.text))
    × (escape_at l.rest ≡ 0) × (l.end + length l.rest ≡ l.source + length l.text)

abbrev pub decreases-loop-rest : goal.decreases-loop-rest
decreases-loop-rest l = length l.rest
