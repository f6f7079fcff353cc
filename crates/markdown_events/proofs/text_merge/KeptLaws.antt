-- What holds of events whose texts are merged: they balance and nest, and their ranges stand as before.
use Rattle.std.proofs.Common.{ℕ, List, [], ◌∷◌, arith, length}
use Rattle.std.specs.declared.ops.Range.{Range}
use Rattle.markdown_values.specs.values.Events.{start, end, text}
use Rattle.markdown_events.specs.EventLaws.{AreAtBoundaries, AreBalanced, AreBalancedIn, AreWithin, LiesIn, RiseIn, Started}
use Rattle.markdown_events.specs.InlineEvents.{RangedEvent}
use Rattle.markdown_events.specs.Nesting.{AreNested, AreNestedIn, Tag, without_ranges}
use Rattle.markdown_events.specs.TextMerge.{joined, merged}

-- ---- starts and ends

joined_balanced : (elements : List Started) (event : RangedEvent) (later : List RangedEvent) → AreBalancedIn elements (event ∷ later)
    → AreBalancedIn elements (joined event later)
joined_balanced elements (text words, range) [] balanced = balanced
joined_balanced elements (text words, range) ((text more, next) ∷ later) balanced = balanced
joined_balanced elements (text words, range) ((event, next) ∷ later) balanced = balanced
joined_balanced elements (event, range) later balanced = balanced

balanced_in : (elements : List Started) (events : List RangedEvent) → AreBalancedIn elements events → AreBalancedIn elements (merged events)
balanced_in elements [] none = none
balanced_in elements ((start tag, range) ∷ later) balanced = balanced_in ((tag, range) ∷ elements) later balanced
balanced_in elements ((end closer, range) ∷ later) (tag, outer, are, closes, balanced) =
    (tag, outer, are, closes, balanced_in outer later balanced)
balanced_in elements ((event, range) ∷ later) balanced =
    joined_balanced elements (event, range) (merged later) (balanced_in elements later balanced)

-- Starts and ends balance.
pub merged_balance : (events : List RangedEvent) → AreBalanced events → AreBalanced (merged events)
merged_balance events balanced = balanced_in [] events balanced

joined_nested : (tags : List Tag) (event : RangedEvent) (later : List RangedEvent) → AreNestedIn tags (without_ranges (event ∷ later))
    → AreNestedIn tags (without_ranges (joined event later))
joined_nested tags (text words, range) [] nested = nested
joined_nested tags (text words, range) ((text more, next) ∷ later) nested = nested
joined_nested tags (text words, range) ((event, next) ∷ later) nested = nested
joined_nested tags (event, range) later nested = nested

nested_in : (tags : List Tag) (events : List RangedEvent) → AreNestedIn tags (without_ranges events)
    → AreNestedIn tags (without_ranges (merged events))
nested_in tags [] none = none
nested_in tags ((start tag, range) ∷ later) (may, nested) = (may, nested_in (tag ∷ tags) later nested)
nested_in tags ((end closer, range) ∷ later) (tag, outer, are, closes, nested) = (tag, outer, are, closes, nested_in outer later nested)
nested_in tags ((event, range) ∷ later) nested = joined_nested tags (event, range) (merged later) (nested_in tags later nested)

-- Each stands where it may.
pub merged_nest : (events : List RangedEvent) → AreNested (without_ranges events) → AreNested (without_ranges (merged events))
merged_nest events nested = nested_in [] events nested

-- ---- ranges

-- two ranges one after another as one
both_lie : (from to : ℕ) (range next : Range ℕ) → LiesIn from to range → LiesIn range.end to next
    → LiesIn from to (record { start = range.start; end = next.end })
both_lie from to range next one two = record {
  begins = one.begins;
  in_order = omega (arith, one.in_order, two.begins, two.in_order);
  ends = two.ends;
}

joined_rise : (ends : List ℕ) (from : ℕ) (event : RangedEvent) (later : List RangedEvent) → RiseIn ends from (event ∷ later)
    → RiseIn ends from (joined event later)
joined_rise [] from (text words, range) later rise = absurd rise
joined_rise (to ∷ outer) from (text words, range) [] rise = rise
joined_rise (to ∷ outer) from (text words, range) ((text more, next) ∷ later) (one, (two, rise)) = (both_lie from to range next one two, rise)
joined_rise (to ∷ outer) from (text words, range) ((event, next) ∷ later) rise = rise
joined_rise ends from (event, range) later rise = rise

rise_in : (ends : List ℕ) (from : ℕ) (events : List RangedEvent) → RiseIn ends from events → RiseIn ends from (merged events)
rise_in ends from [] rise = tt
rise_in [] from (event ∷ later) rise = absurd rise
rise_in (to ∷ outer) from ((start tag, range) ∷ later) (lies, rise) = (lies, rise_in (range.end ∷ to ∷ outer) range.start later rise)
rise_in (to ∷ outer) from ((end closer, range) ∷ later) (before, is, rise) = (before, is, rise_in outer to later rise)
rise_in (to ∷ outer) from ((event, range) ∷ later) rise =
    joined_rise (to ∷ outer) from (event, range) (merged later) (rise.0, rise_in (to ∷ outer) range.end later rise.1)

-- Ranges rise, and what an element holds lies within its range.
pub merged_within : (source : List ℕ) (events : List RangedEvent) → AreWithin source events → AreWithin source (merged events)
merged_within source events within = rise_in (length source ∷ []) 0 events within

joined_at : (source : List ℕ) (event : RangedEvent) (later : List RangedEvent) → AreAtBoundaries source (event ∷ later)
    → AreAtBoundaries source (joined event later)
joined_at source (text words, range) [] at = at
joined_at source (text words, range) ((text more, next) ∷ later) (one, (two, at)) = ((one.0, two.1), at)
joined_at source (text words, range) ((event, next) ∷ later) at = at
joined_at source (event, range) later at = at

-- Each range begins and ends at a character boundary.
pub merged_at_boundaries : (source : List ℕ) (events : List RangedEvent) → AreAtBoundaries source events → AreAtBoundaries source (merged events)
merged_at_boundaries source [] at = tt
merged_at_boundaries source (event ∷ later) (one, at) =
    joined_at source event (merged later) (one, merged_at_boundaries source later at)
