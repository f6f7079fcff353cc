-- The events of a leaf block. (CommonMark 0.31.2, chapter 4)
use Rattle.std.specs.Prelude.{ℕ, Bool, true, false, ◌+◌, ◌≡◌, ◌⊎◌, List, [], ◌∷◌, length, map, min, Some, None}
use Rattle.markdown_values.specs.values.Events.{EventView, text, html, rule}
use Rattle.markdown_values.specs.declared.values.HeadingLevel.{HeadingLevel}
use Rattle.markdown_values.specs.values.Tags.{TagView, paragraph, heading, code_block, html_block}
use Rattle.markdown_scanners_tree.specs.scanners.TextLines.{lines_of}
use Rattle.markdown_blocks.specs.content.Content.{Placed, IsContent}
use Rattle.markdown_blocks.specs.declared.blocks.BlockKind.{BlockKind}
use Rattle.markdown_blocks.specs.declared.blocks.BlockKind.TheVariants.{Blank, Break, Heading, Setext, Indented, Fenced, Html, Paragraph, Definition, Table}
use Rattle.markdown_blocks.specs.events.Events.{LeafBlock}
use Rattle.markdown_blocks.specs.info.Info.{info_of}
use Rattle.markdown_events.specs.InlineEvents.{RangedEvent, ranged, AreInlineEvents, EventSetting}
use Rattle.markdown_events.specs.Meanings.{IsMeaning}
use Rattle.markdown_events.specs.page.Spans.{block_end}
use Rattle.markdown_events.specs.page.TableEvents.{AreTableEvents}
pub use Rattle.markdown_events.specs.page.Places.{Place, lines_in_page, page_range, placed, element}

abbrev pub IsContentOf : List ℕ → Place → LeafBlock → Placed → Type 0
IsContentOf page here block content = IsContent block.kind here.containers here.kept (lines_in_page page block) content

-- ---- events

-- what a block holds, between its start and its end
abbrev pub enclosed : TagView (List ℕ) → LeafBlock → List RangedEvent → List RangedEvent
enclosed tag block inner = element tag block.offset (block_end block) inner

-- Where a block of lines begins: with its text, or where its first line does, which may have spaces or a part of a tab before that text
-- (2.2, 4.6).
abbrev pub lines_offset : LeafBlock → List RangedEvent → ℕ
lines_offset block [] = block.offset
lines_offset block (first ∷ later) = min block.offset first.1.start

-- lines of code or HTML, between the start and the end of their block
abbrev pub enclosed_lines : TagView (List ℕ) → LeafBlock → List RangedEvent → List RangedEvent
enclosed_lines tag block lines = element tag (lines_offset block lines) (block_end block) lines

-- an event for each of the lines, before the first of which stands so much of a content
abbrev pub line_events : (List ℕ → EventView (List ℕ)) → ℕ → List (List ℕ) → List RangedEvent
line_events event from [] = []
line_events event from (line ∷ lines) =
    ranged (event line) from (from + length line) ∷ line_events event (from + length line) lines

-- the lines of code or HTML
pub record AreLineEvents (page : List ℕ) (here : Place) (block : LeafBlock) (event : List ℕ → EventView (List ℕ)) (events : List RangedEvent) : Type 0 where
  pub content : Placed
  pub is_content : IsContentOf page here block content
  pub are_events : events ≡ map (placed block.start content.offsets) (line_events event 0 (lines_of content.text))

-- the inlines of a paragraph or a heading
pub record AreTextEvents (page : List ℕ) (setting : EventSetting) (here : Place) (block : LeafBlock) (events : List RangedEvent) : Type 0 where
  pub content : Placed
  pub inlines : List RangedEvent
  pub is_content : IsContentOf page here block content
  pub are_inlines : AreInlineEvents content.text setting inlines
  pub are_events : events ≡ map (placed block.start content.offsets) inlines

-- what the inlines are enclosed by: nothing where they are a paragraph of a tight list (5.3)
abbrev pub in_paragraph : Bool → LeafBlock → List RangedEvent → List RangedEvent
in_paragraph true block inner = inner
in_paragraph false block inner = enclosed paragraph block inner

abbrev pub plain_heading : HeadingLevel → TagView (List ℕ)
plain_heading level = heading level None [] []

-- These are the events of a leaf block of this kind. A blank line and a link reference definition have none.
abbrev pub AreLeafEventsOf : BlockKind → List ℕ → EventSetting → Place → LeafBlock → List RangedEvent → Type 0
AreLeafEventsOf Blank page setting here block events = events ≡ []
AreLeafEventsOf Definition page setting here block events = events ≡ []
AreLeafEventsOf Break page setting here block events = events ≡ ranged rule block.offset (block_end block) ∷ []
AreLeafEventsOf (Heading level) page setting here block events =
    (inner : List RangedEvent) × AreTextEvents page setting here block inner × (events ≡ enclosed (plain_heading level) block inner)
AreLeafEventsOf (Setext level) page setting here block events =
    (inner : List RangedEvent) × AreTextEvents page setting here block inner × (events ≡ enclosed (plain_heading level) block inner)
AreLeafEventsOf Paragraph page setting here block events =
    (inner : List RangedEvent) × AreTextEvents page setting here block inner × (events ≡ in_paragraph here.is_tight block inner)
AreLeafEventsOf Indented page setting here block events =
    (inner : List RangedEvent) × AreLineEvents page here block text inner × (events ≡ enclosed_lines (code_block None) block inner)
AreLeafEventsOf (Fenced count byte) page setting here block events =
    (inner : List RangedEvent) × (info : List ℕ) × AreLineEvents page here block text inner × IsMeaning (info_of byte block.text) info
    × (events ≡ enclosed_lines (code_block (Some info)) block inner)
AreLeafEventsOf (Html kind) page setting here block events =
    (inner : List RangedEvent) × AreLineEvents page here block html inner × (events ≡ enclosed_lines html_block block inner)
AreLeafEventsOf (Table columns) page setting here block events = AreTableEvents page setting here block columns events

-- whether it is one of these two
abbrev pub HasNoEvents : BlockKind → Type 0
HasNoEvents kind = (kind ≡ Blank) ⊎ (kind ≡ Definition)

abbrev pub AreLeafEvents : List ℕ → EventSetting → Place → LeafBlock → List RangedEvent → Type 0
AreLeafEvents page setting here block events = AreLeafEventsOf block.kind page setting here block events
