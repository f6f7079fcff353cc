-- Where leaf blocks stand, and the ranges in the page of what stands in them.
use Rattle.std.specs.Prelude.{ℕ, Bool, ◌+◌, ◌-◌, nat_lt, List, [], ◌∷◌, ◌++◌, take, drop, slice_index, if◌then◌else◌}
use Rattle.std.specs.declared.ops.Range.{Range}
use Rattle.markdown_values.specs.values.Events.{start, end}
use Rattle.markdown_values.specs.values.Tags.{TagView}
use Rattle.markdown_scanners_tree.specs.scanners.TextLines.{lines_of}
use Rattle.markdown_blocks.specs.declared.containers.Container.{Container}
use Rattle.markdown_blocks.specs.events.Events.{LeafBlock}
use Rattle.markdown_events.specs.InlineEvents.{RangedEvent, ranged}
use Rattle.markdown_events.specs.TagEnds.{tag_end}

-- where a leaf block stands: in these containers, of which its first line goes on with so many; directly in an item of a tight list
-- or not
pub record Place : Type 0 where
  pub containers : List Container
  pub kept : ℕ
  pub is_tight : Bool

-- ---- from a content to the page

-- the range in the page of a range of a content, whose block begins after so many bytes
abbrev pub page_range : ℕ → List ℕ → Range ℕ → Range ℕ
page_range before offsets range =
    let from = before + slice_index offsets range.start in record {
      start = from;
      end = if nat_lt range.start range.end then before + slice_index offsets (range.end - 1) + 1 else from;
    }

abbrev pub placed : ℕ → List ℕ → RangedEvent → RangedEvent
placed before offsets event = (event.0, page_range before offsets event.1)

-- the lines of the page that a leaf block has
abbrev pub lines_in_page : List ℕ → LeafBlock → List (List ℕ)
lines_in_page page block = lines_of (take block.bytes (drop block.start page))

-- ---- an element

-- what an element of the page holds, between its start and its end, both of which have its range
abbrev pub element : TagView (List ℕ) → ℕ → ℕ → List RangedEvent → List RangedEvent
element tag from to inner = ranged (start tag) from to ∷ inner ++ ranged (end (tag_end tag)) from to ∷ []
