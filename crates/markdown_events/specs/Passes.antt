-- What the pass over the inlines of a text does.
use Rattle.std.specs.Prelude.{ℕ, zero, suc, ◌+◌, ◌<◌, ◌≡◌, List, [], ◌∷◌, ◌++◌, length, Option, Some, slice_get, ⊤}
use Rattle.markdown_values.specs.values.Events.{start, end}
use Rattle.markdown_values.specs.values.Tags.{TagView}
use Rattle.markdown_events.specs.Found.{HasParts, HasTargetBefore, IsLabelCut}
use Rattle.markdown_inlines.specs.Sources.{IsSource, IsLinkSource}
use Rattle.markdown_inlines.specs.declared.inlines.Inline.{Inline}
use Rattle.markdown_inlines.specs.declared.inlines.Inline.TheVariants as I
use Rattle.markdown_inlines.specs.declared.links.Link.{Link}
use Rattle.markdown_events.specs.declared.elements.Begun.{Begun}
use Rattle.markdown_events.specs.InlineEvents.{RangedEvent, ranged, ArePieceEvents, Begins}
use Rattle.markdown_events.specs.Meanings.{IsWrittenTarget}
use Rattle.markdown_events.specs.TagEnds.{tag_end}
use Rattle.markdown_blocks.specs.link_definitions.LinkDefinitions.{Target}
use Rattle.markdown_events.specs.Targets.{Targets}

-- the inline ends before this offset of the memory
abbrev pub EndsBelow : ℕ → Inline → Type 0
EndsBelow limit (I.EndEmphasis offset count) = offset + count < limit
EndsBelow limit (I.EndStrikethrough offset count) = offset + count < limit
EndsBelow limit inline = ⊤

-- What is written: the events, and the elements that have begun and not ended, the innermost first. Where those end isn't known yet: their
-- starts have 0 for it.
pub record Written : Type 0 where
  pub events : List RangedEvent
  pub opened : List Begun

abbrev pub with_event : RangedEvent → Written → Written
with_event event written = record written { events = written.events ++ event ∷ [] }

abbrev pub with_events : List RangedEvent → Written → Written
with_events more written = record written { events = written.events ++ more }

-- with the start of an element
abbrev pub begun : TagView (List ℕ) → ℕ → Written → Written
begun tag from written = record {
  events = written.events ++ ranged (start tag) from 0 ∷ [];
  opened = record { tag = tag_end tag; from = from; index = length written.events } ∷ written.opened;
}

-- the event ends here
abbrev pub ending_at : ℕ → RangedEvent → RangedEvent
ending_at to event = (event.0, record { start = event.1.start; end = to })

-- the one at the index does
abbrev pub with_end : ℕ → ℕ → List RangedEvent → List RangedEvent
with_end index to [] = []
with_end zero to (event ∷ later) = ending_at to event ∷ later
with_end (suc index) to (event ∷ later) = event ∷ with_end index to later

-- with the end of the innermost of these elements
abbrev pub closed : ℕ → List RangedEvent → List Begun → Written
closed to events [] = record { events = events; opened = [] }
closed to events (inner ∷ outer) = record {
  events = with_end inner.index to events ++ ranged (end inner.tag) inner.from to ∷ [];
  opened = outer;
}

abbrev pub ended : ℕ → Written → Written
ended to written = closed to written.events written.opened

-- The inline is written.
abbrev pub IsWritten : List ℕ → Targets → List (Option Link) → Inline → Written → Written → Type 0
IsWritten source targets links (I.Leaf piece) old new =
    (here : List RangedEvent) × ArePieceEvents piece.kind source piece here × (new ≡ with_events here old)
IsWritten source targets links (I.EndEmphasis offset count) old new = new ≡ ended (offset + count) old
IsWritten source targets links (I.EndStrikethrough offset count) old new = new ≡ ended (offset + count) old
IsWritten source targets links (I.EndLink piece) old new = new ≡ ended piece.end old
IsWritten source targets links inline old new =
    (from : ℕ) × (tag : TagView (List ℕ)) × (shown : List RangedEvent) × Begins source targets links inline from tag shown
    × (new ≡ with_events shown (begun tag from old))

-- ---- what is known of each inline

-- A link leads somewhere.
pub record Leads (source : List ℕ) (targets : Targets) (it : Link) : Type 0 where
  pub cut : IsLabelCut source it.target
  pub before : HasTargetBefore it.target it
  pub label : List ℕ
  pub target : Target
  pub leads : IsWrittenTarget source targets it.text it.target label target

-- What is known of an inline: a piece stands in the text, and a link leads somewhere.
abbrev pub IsFound : List ℕ → Targets → List (Option Link) → Inline → Type 0
IsFound source targets links (I.Leaf piece) = IsSource source piece × HasParts piece.kind source piece
IsFound source targets links (I.StartLink number) =
    (it : Link) × (slice_get links number ≡ Some (Some it)) × IsLinkSource source it × Leads source targets it
IsFound source targets links inline = ⊤
