-- What holds of the events of a text, without the procedure that finds its inlines.
use Rattle.std.specs.Prelude.{ℕ, ◌≡◌, ◌≤◌, List, [], ◌∷◌, length, ⊤}
use Rattle.std.specs.declared.ops.Range.{Range}
use Rattle.markdown_values.specs.values.Events.{start, end}
use Rattle.markdown_values.specs.values.Tags.{TagView}
use Rattle.markdown_scanners_tree.specs.scanners.reference_definitions.ReferenceDefinition.{IsCutAt}
use Rattle.markdown_events.specs.InlineEvents.{RangedEvent}
use Rattle.markdown_events.specs.TagEnds.{tag_end}

-- an element that has started: its tag, and its range
abbrev pub Started : Type 0
Started = TagView (List ℕ) × Range ℕ

-- Starts and ends balance. With these elements started, the innermost first, an end is that of the innermost, with the same range.
-- After the last event none is left.
abbrev pub AreBalancedIn : List Started → List RangedEvent → Type 0
AreBalancedIn elements [] = elements ≡ []
AreBalancedIn elements ((start tag, range) ∷ later) = AreBalancedIn ((tag, range) ∷ elements) later
AreBalancedIn elements ((end closer, range) ∷ later) =
    (tag : TagView (List ℕ)) × (outer : List Started) × (elements ≡ (tag, range) ∷ outer) × (closer ≡ tag_end tag)
    × AreBalancedIn outer later
AreBalancedIn elements ((event, range) ∷ later) = AreBalancedIn elements later

abbrev pub AreBalanced : List RangedEvent → Type 0
AreBalanced events = AreBalancedIn [] events

-- a range stands between two offsets
pub record LiesIn (from to : ℕ) (range : Range ℕ) : Type 0 where
  pub begins : from ≤ range.start
  pub in_order : range.start ≤ range.end
  pub ends : range.end ≤ to

-- each range does
abbrev pub LieIn : ℕ → ℕ → List RangedEvent → Type 0
LieIn from to [] = ⊤
LieIn from to (event ∷ later) = LiesIn from to event.1 × LieIn from to later

-- Ranges rise, and what an element holds lies within its range. From an offset on, with elements started that end at these offsets, the
-- innermost first, and the text last.
abbrev pub RiseIn : List ℕ → ℕ → List RangedEvent → Type 0
RiseIn ends from [] = ⊤
RiseIn [] from (event ∷ later) = ⊥
RiseIn (to ∷ outer) from ((start tag, range) ∷ later) = LiesIn from to range × RiseIn (range.end ∷ to ∷ outer) range.start later
RiseIn (to ∷ outer) from ((end closer, range) ∷ later) = (from ≤ to) × (range.end ≡ to) × RiseIn outer to later
RiseIn (to ∷ outer) from ((event, range) ∷ later) = LiesIn from to range × RiseIn (to ∷ outer) range.end later

abbrev pub AreWithin : List ℕ → List RangedEvent → Type 0
AreWithin source events = RiseIn (length source ∷ []) 0 events

-- Each range begins and ends at a character boundary of the text.
abbrev pub AreAtBoundaries : List ℕ → List RangedEvent → Type 0
AreAtBoundaries source [] = ⊤
AreAtBoundaries source (event ∷ later) = IsCutAt source event.1 × AreAtBoundaries source later
