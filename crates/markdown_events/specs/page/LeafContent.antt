-- From the content of a leaf block to events of the page.
use Rattle.std.specs.Prelude.{ℕ, ◌+◌, ◌^◌, ◌<◌, ◌≤◌, ◌≡◌, Bool, List, [], ◌∷◌, length, slice_index, ⊤, if◌then◌else◌}
use Rattle.markdown_values.specs.values.Events.{EventView, text, html}
use Rattle.markdown_blocks.specs.content.Content.{Placed}
use Rattle.markdown_blocks.specs.events.Events.{LeafBlock}
use Rattle.markdown_events.specs.EventLaws.{LieIn}
use Rattle.markdown_events.specs.InlineEvents.{RangedEvent}
use Rattle.markdown_events.specs.page.Spans.{block_end}

-- a line of HTML, or of code
abbrev pub line_event : Bool → List ℕ → EventView (List ℕ)
line_event is_html = if is_html then html else text

-- Each byte of a content has an offset in its block, which begins after so many bytes of the page; there a byte's offset and the one
-- after it are numbers too.
pub record CanPlace (before : ℕ) (content : Placed) : Type 0 where
  pub each : length content.offsets ≡ length content.text
  pub fits : (offset : ℕ) → offset < length content.text → before + slice_index content.offsets offset + 1 < 2 ^ 64
  pub begins : before < 2 ^ 64

-- no event ends after so many bytes
abbrev pub EndWithin : ℕ → List RangedEvent → Type 0
EndWithin count [] = ⊤
EndWithin count (event ∷ later) = (event.1.end ≤ count) × EndWithin count later

-- the text of a leaf block begins within its lines
pub record HasPlace (block : LeafBlock) : Type 0 where
  pub begins : block.start ≤ block.offset
  pub ends : block.offset ≤ block_end block

-- each range stands within the lines of the block
abbrev pub LieInBlock : LeafBlock → List RangedEvent → Type 0
LieInBlock block events = LieIn block.start (block_end block) events
