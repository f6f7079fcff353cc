-- The events of a text's inlines. (CommonMark 0.31.2, chapter 6)
use Rattle.std.specs.Prelude.{ℕ, ◌+◌, ◌-◌, ◌≡◌, ◌==◌, List, [], ◌∷◌, ◌++◌, Option, Some, slice_get, slice_range, drop, slice_index, if◌then◌else◌}
use Rattle.std.specs.declared.ops.Range.{Range}
use Rattle.html_entities.specs.Entities.{html_entity}
use Rattle.markdown_values.specs.strings.Text.{cow_text}
use Rattle.markdown_values.specs.values.Events.{EventView, start, end, text, code, inline_html, soft_break, hard_break, event_view}
use Rattle.markdown_values.specs.values.Tags.{TagView, emphasis, strong, strikethrough, link}
use Rattle.markdown_values.specs.declared.values.LinkType.{LinkType}
use Rattle.markdown_values.specs.declared.values.LinkType.TheVariants as Kind
use Rattle.markdown_values.specs.declared.values.events.Event.{Event}
use Rattle.markdown_values.specs.declared.values.tags.TagEnd.TheVariants as End
use Rattle.markdown_scanners_tree.specs.scanners.entities.CharacterReference.{StartsWithReference}
use Rattle.markdown_inlines.specs.CodeContent.{code_text}
use Rattle.markdown_inlines.specs.Output.{AreInlines}
use Rattle.markdown_inlines.specs.Sources.{source_of}
use Rattle.markdown_values.specs.declared.values.extensions.Extensions.{Extensions}
use Rattle.markdown_inlines.specs.declared.inlines.Inline.{Inline}
use Rattle.markdown_inlines.specs.declared.inlines.Inline.TheVariants as I
use Rattle.markdown_inlines.specs.declared.links.Link.{Link}
use Rattle.markdown_inlines.specs.declared.links.LinkTarget.{LinkTarget}
use Rattle.markdown_inlines.specs.declared.links.LinkTarget.TheVariants.{Wiki}
use Rattle.markdown_inlines.specs.declared.pieces.Piece.{Piece}
use Rattle.markdown_inlines.specs.declared.pieces.PieceKind.{PieceKind}
use Rattle.markdown_inlines.specs.declared.pieces.PieceKind.TheVariants as K
use Rattle.markdown_events.specs.LineFeeds.{with_line_feeds}
use Rattle.markdown_events.specs.Meanings.{IsLinkTag, has_pipe, within}
use Rattle.markdown_events.specs.declared.elements.Element.{Element}
use Rattle.markdown_events.specs.TagEnds.{tag_end}
use Rattle.markdown_events.specs.Targets.{Targets, leads}

-- what an event says, and where its source stands in the text
abbrev pub RangedEvent : Type 0
RangedEvent = EventView (List ℕ) × Range ℕ

abbrev pub seen_event : Event × Range ℕ → RangedEvent
seen_event pair = (event_view cow_text pair.0, pair.1)

-- an event from one offset of the text up to another
abbrev pub ranged : EventView (List ℕ) → ℕ → ℕ → RangedEvent
ranged event from to = (event, record { start = from; end = to })

-- ---- pieces that hold no others

-- one event, whose source is a piece
abbrev pub alone : Piece → EventView (List ℕ) → List RangedEvent
alone piece event = ranged event piece.start piece.end ∷ []

-- An autolink is a link to the address that it shows between its angle brackets. (6.5)
abbrev pub autolink : LinkType → List ℕ → Piece → List RangedEvent
autolink kind source piece =
    let address = slice_range source (piece.start + 1) (piece.end - 1) in
    ranged (start (link kind address [] [])) piece.start piece.end
    ∷ ranged (text address) (piece.start + 1) (piece.end - 1)
    ∷ ranged (end End.Link) piece.start piece.end
    ∷ []

-- The events of a piece: an escape is the byte after its backslash, a reference the text that it stands for, a code span its content, raw HTML
-- itself, each of whose line endings is a line feed (2.1).
abbrev pub ArePieceEvents : PieceKind → List ℕ → Piece → List RangedEvent → Type 0
ArePieceEvents K.Escape source piece events = events ≡ alone piece (text (slice_range source (piece.start + 1) piece.end))
ArePieceEvents K.HardBreak source piece events = events ≡ alone piece hard_break
ArePieceEvents K.SoftBreak source piece events = events ≡ alone piece soft_break
ArePieceEvents K.Reference source piece events =
    (len : ℕ) × (meaning : List ℕ) × StartsWithReference html_entity (drop piece.start source) len meaning
    × (events ≡ alone piece (text meaning))
ArePieceEvents (K.Code backticks) source piece events =
    events ≡ alone piece (code (code_text (slice_range source (piece.start + backticks) (piece.end - backticks))))
ArePieceEvents K.Uri source piece events = events ≡ autolink Kind.Autolink source piece
ArePieceEvents K.Email source piece events = events ≡ autolink Kind.Email source piece
ArePieceEvents K.Html source piece events = events ≡ alone piece (inline_html (with_line_feeds (source_of source piece)))
ArePieceEvents kind source piece events = events ≡ alone piece (text (source_of source piece))

-- ---- elements, which hold others

-- A wikilink without a pipe shows its target. Any other link shows its link text alone.
abbrev pub shown_target : List ℕ → Range ℕ → LinkTarget → List RangedEvent
shown_target source words (Wiki target) =
    if has_pipe words target then [] else ranged (text (within source target)) target.start target.end ∷ []
shown_target source words target = []

-- An element begins with this inline, from this offset on, has this tag, and shows this before what it holds.
abbrev pub Begins : List ℕ → Targets → List (Option Link) → Inline → ℕ → TagView (List ℕ) → List RangedEvent → Type 0
Begins source targets links (I.StartEmphasis offset count) from tag shown =
    (from ≡ offset) × (tag ≡ (if count == 2 then strong else emphasis)) × (shown ≡ [])
Begins source targets links (I.StartStrikethrough offset count) from tag shown = (from ≡ offset) × (tag ≡ strikethrough) × (shown ≡ [])
Begins source targets links (I.StartLink number) from tag shown =
    (it : Link) × (slice_get links number ≡ Some (Some it)) × (from ≡ it.source.start) × IsLinkTag source targets it tag
    × (shown ≡ shown_target source it.text it.target)
Begins source targets links inline from tag shown = ⊥

-- where the elements end that are open before an inline, the innermost first, by where those end that are open after it: a start
-- opens one more, which an end closes
abbrev pub ends_before : Inline → List ℕ → List ℕ
ends_before (I.Leaf piece) ends = ends
ends_before (I.EndEmphasis offset count) ends = (offset + count) ∷ ends
ends_before (I.EndStrikethrough offset count) ends = (offset + count) ∷ ends
ends_before (I.EndLink piece) ends = piece.end ∷ ends
ends_before inline ends = drop 1 ends

abbrev pub open_ends : List Inline → List ℕ
open_ends [] = []
open_ends (inline ∷ later) = ends_before inline (open_ends later)

-- where the element ends that the inline before these begins
abbrev pub end_in : List Inline → ℕ
end_in later = slice_index (open_ends later) 0

-- the innermost element is closed
abbrev pub closing : List Element → List RangedEvent
closing [] = []
closing (element ∷ outer) = ranged (end element.tag) element.from element.to ∷ []

-- These are the events of inlines, before which these elements are open, the innermost first. Both events of an element have the range
-- of the whole.
abbrev pub AreEvents : List ℕ → Targets → List (Option Link) → List Element → List Inline → List RangedEvent → Type 0
AreEvents source targets links elements [] events = events ≡ []
AreEvents source targets links elements (I.Leaf piece ∷ later) events =
    (here : List RangedEvent) × (rest : List RangedEvent) × ArePieceEvents piece.kind source piece here × AreEvents source targets links elements later rest
    × (events ≡ here ++ rest)
AreEvents source targets links elements (I.EndEmphasis offset count ∷ later) events =
    (rest : List RangedEvent) × AreEvents source targets links (drop 1 elements) later rest × (events ≡ closing elements ++ rest)
AreEvents source targets links elements (I.EndStrikethrough offset count ∷ later) events =
    (rest : List RangedEvent) × AreEvents source targets links (drop 1 elements) later rest × (events ≡ closing elements ++ rest)
AreEvents source targets links elements (I.EndLink piece ∷ later) events =
    (rest : List RangedEvent) × AreEvents source targets links (drop 1 elements) later rest × (events ≡ closing elements ++ rest)
AreEvents source targets links elements (inline ∷ later) events =
    (from : ℕ) × (tag : TagView (List ℕ)) × (shown : List RangedEvent) × (rest : List RangedEvent)
    × Begins source targets links inline from tag shown
    × AreEvents source targets links (record { tag = tag_end tag; from = from; to = end_in later } ∷ elements) later rest
    × (events ≡ ranged (start tag) from (end_in later) ∷ (shown ++ rest))

-- ---- a text

-- what blocks and texts are read with: the extensions that are asked for, where the labels lead that are defined, and how many cells a
-- table may be filled in with
pub record EventSetting : Type 0 where
  pub asked : Extensions
  pub targets : Targets
  pub cells : ℕ

-- where labels lead so: a text has no cells
abbrev pub event_setting : Extensions → Targets → EventSetting
event_setting asked targets = record { asked = asked; targets = targets; cells = 0 }

-- the same where so many may be filled in
abbrev pub with_cells : ℕ → EventSetting → EventSetting
with_cells cells setting = record setting { cells = cells }

-- These are the events of a text.
pub record AreInlineEvents (source : List ℕ) (setting : EventSetting) (events : List RangedEvent) : Type 0 where
  pub inlines : List Inline
  pub links : List (Option Link)
  pub are_inlines : AreInlines source (record { asked = setting.asked; known = leads setting.targets }) inlines links
  pub are_events : AreEvents source setting.targets links [] inlines events
