-- The ranges of a leaf block's events lie within its lines.
use Rattle.std.proofs.Common.{ℕ, ◌≤◌, List, [], ◌∷◌, ◌++◌, arith}
use Rattle.markdown_values.specs.values.Tags.{TagView}
use Rattle.markdown_blocks.specs.events.Events.{LeafBlock}
use Rattle.markdown_events.specs.EventLaws.{LieIn, LiesIn}
use Rattle.markdown_events.specs.InlineEvents.{RangedEvent}
use Rattle.markdown_events.specs.page.LeafContent.{HasPlace, LieInBlock}
use Rattle.markdown_events.specs.page.LeafEvents.{enclosed, enclosed_lines, lines_offset}
use Rattle.markdown_events.specs.page.Places.{element}
use Rattle.markdown_events.specs.page.Spans.{block_end}

pub lie_before : (from to : ℕ) (events rest : List RangedEvent) → LieIn from to events → LieIn from to rest → LieIn from to (events ++ rest)
lie_before from to [] rest lie more = more
lie_before from to (event ∷ events) rest lie more = (lie.0, lie_before from to events rest lie.1 more)

-- those of the block itself
pub block_lies : (block : LeafBlock) → HasPlace block
    → LiesIn block.start (block_end block) (record { start = block.offset; end = block_end block })
block_lies block offset = record { begins = offset.begins; in_order = offset.ends; ends = omega arith }

pub element_lies : (tag : TagView (List ℕ)) (from to start end : ℕ) (inner : List RangedEvent) → from ≤ start → start ≤ end → end ≤ to
    → LieIn from to inner → LieIn from to (element tag start end inner)
element_lies tag from to start end inner begins in_order ends lie =
    let own : LiesIn from to (record { start = start; end = end }) = record { begins = begins; in_order = in_order; ends = ends } in
    (own, lie_before from to inner _ lie (own, tt))

pub enclosed_lies : (tag : TagView (List ℕ)) (block : LeafBlock) (inner : List RangedEvent) → HasPlace block → LieInBlock block inner
    → LieInBlock block (enclosed tag block inner)
enclosed_lies tag block inner offset lie =
    (block_lies block offset, lie_before block.start (block_end block) inner _ lie (block_lies block offset, tt))

-- a block of lines begins within them
lines_begin : (block : LeafBlock) (lines : List RangedEvent) → HasPlace block → LieInBlock block lines
    → (block.start ≤ lines_offset block lines) × (lines_offset block lines ≤ block_end block)
lines_begin block [] offset lie = (offset.begins, offset.ends)
lines_begin block (first ∷ later) offset lie =
    let begins = lie.0.begins in
    let own = offset.begins in
    let ends = offset.ends in
    (omega (arith, begins, own), omega (arith, ends))

pub lines_lie : (tag : TagView (List ℕ)) (block : LeafBlock) (lines : List RangedEvent) → HasPlace block → LieInBlock block lines
    → LieInBlock block (enclosed_lines tag block lines)
lines_lie tag block lines offset lie =
    let begins = lines_begin block lines offset lie in
    element_lies tag block.start (block_end block) (lines_offset block lines) (block_end block) lines begins.0 begins.1 (omega arith) lie
