-- What stands after the front of a content, on the page.
use Rattle.std.proofs.Common.{ℕ, ◌+◌, ◌-◌, ◌<◌, ◌≤◌, ◌≡◌, ◌∙◌, Bool, true, false, List, [], ◌∷◌, arith, length, drop, map, ap, inl, inr, refl, subst, sym}
use Rattle.std.specs.Prelude.{nat_lt, slice_index, if◌then◌else◌}
use Rattle.std.specs.declared.ops.Range.{Range}
use Rattle.std.proofs.lemmas.Bool.{ltb-true}
use Rattle.std.proofs.lemmas.Bool.Decides.{leb_tells, nat_tests}
use Rattle.std.proofs.lemmas.List.{drop_all, get_or-drop, length-drop}
use Rattle.markdown_blocks.specs.content.Content.{IsContent, Placed}
use Rattle.markdown_blocks.specs.declared.containers.Container.{Container}
use Rattle.markdown_blocks.specs.declared.first_blocks.Task.{Task}
use Rattle.markdown_blocks.specs.events.Events.{LeafBlock}
use Rattle.markdown_events.specs.InlineEvents.{AreInlineEvents, EventSetting, RangedEvent}
use Rattle.markdown_events.specs.page.LeafContent.{EndWithin, LieInBlock}
use Rattle.markdown_events.specs.page.LeafEvents.{IsContentOf, Place, in_paragraph}
use Rattle.markdown_events.specs.page.Places.{lines_in_page, page_range, placed}
use Rattle.markdown_events.specs.page.TaskEvents.{AreTaskEvents, after, marker_end, marker_event}
use Rattle.markdown_events.proofs.page.leaf_content.PlaceLemmas.{block_lies}

-- ---- ranges

abbrev range_with : ℕ → Bool → ℕ → Range ℕ
range_with from some last = record { start = from; end = if some then last else from }

with_last : (from : ℕ) (some : Bool) (last other : ℕ) → (some ≡ true → last ≡ other) → range_with from some last ≡ range_with from some other
with_last from true last other same = ap (range_with from true) (same refl)
with_last from false last other same = refl

pub offset_further : (offsets : List ℕ) (count offset : ℕ) → slice_index (drop count offsets) offset ≡ slice_index offsets (count + offset)
offset_further offsets count offset = get_or-drop count offsets offset 0

-- the same range in the whole content
abbrev range_further : ℕ → Range ℕ → Range ℕ
range_further count range = record { start = count + range.start; end = count + range.end }

page_range_further : (count before : ℕ) (offsets : List ℕ) (range : Range ℕ)
    → page_range before (drop count offsets) range ≡ page_range before offsets (range_further count range)
page_range_further count before offsets range =
    let from = before + slice_index offsets (count + range.start) in
    let last = before + slice_index (drop count offsets) (range.end - 1) + 1 in
    let other = before + slice_index offsets (count + range.end - 1) + 1 in
    let some = nat_lt (count + range.start) (count + range.end) in
    let begins : slice_index (drop count offsets) range.start ≡ slice_index offsets (count + range.start) =
    offset_further offsets count range.start in
    let same : nat_lt range.start range.end ≡ some = grind (arith, nat_tests) in
    ap (λ source. range_with (before + source) (nat_lt range.start range.end) last) begins
    ∙ (ap (λ q. range_with from q last) same ∙ with_last from some last other (λ is.
    let low : count + range.start < count + range.end = ltb-true (count + range.start) (count + range.end) is in
    let offset : count + (range.end - 1) ≡ count + range.end - 1 = omega (arith, low) in
    ap (λ source. before + source + 1) (offset_further offsets count (range.end - 1) ∙ ap (slice_index offsets) offset)))

-- ---- events

abbrev event_further : ℕ → RangedEvent → RangedEvent
event_further count event = (event.0, range_further count event.1)

events_further : (count before : ℕ) (offsets : List ℕ) (events : List RangedEvent)
    → map (placed before (drop count offsets)) events ≡ map (placed before offsets) (map (event_further count) events)
events_further count before offsets [] = refl
events_further count before offsets (event ∷ events) =
    ap (λ range. (event.0, range) ∷ map (placed before (drop count offsets)) events) (page_range_further count before offsets event.1)
    ∙ ap (λ es. placed before offsets (event_further count event) ∷ es) (events_further count before offsets events)

further_within : (count size : ℕ) (events : List RangedEvent) → count ≤ size → EndWithin (size - count) events
    → EndWithin size (map (event_further count) events)
further_within count size [] low within = tt
further_within count size (event ∷ events) low within =
    (omega (arith, low, within.0), further_within count size events low within.1)

-- the events in the rest of a content of a block lie within its lines
pub rest_lies : (page : List ℕ) (block : LeafBlock) (outer : List Container) (kept : ℕ) (content : Placed)
    → IsContent block.kind outer kept (lines_in_page page block) content → (count : ℕ) → count ≤ length content.text
    → (events : List RangedEvent) → EndWithin (length (drop count content.text)) events
    → LieInBlock block (map (placed block.start (after count content).offsets) events)
rest_lies page block outer kept content is count low events within =
    let whole = further_within count (length content.text) events low
    (subst (λ n. EndWithin n events) (length-drop count content.text) within) in
    subst (LieInBlock block) (sym (events_further count block.start content.offsets events))
    (block_lies page block outer kept content is (map (event_further count) events) whole)

-- ---- the events of a paragraph with a marker

-- where two rests of a text are the same, so are those of its offsets
same_rest : (text offsets : List ℕ) (n m : ℕ) → length offsets ≡ length text → n ≤ length text → drop n text ≡ drop m text
    → drop n offsets ≡ drop m offsets
same_rest text offsets n m each low same =
    let sizes : length text - n ≡ length text - m = sym (length-drop n text) ∙ ap length same ∙ length-drop m text in
    elim (leb_tells (length text) m) [
      | inl past ↦ drop_all n offsets (omega (arith, sizes, each, low, past.1)) ∙ sym (drop_all m offsets (omega (arith, each, past.1)))
      | inr inside ↦ (let is : n ≡ m = omega (arith, sizes, low, inside.1) in ap (λ k. drop k offsets) is)
    ]

pub task_is : (page : List ℕ) (setting : EventSetting) (here : Place) (block : LeafBlock) (task : Task) (content : Placed) (inlines : List RangedEvent)
    → (count : ℕ) (events : List RangedEvent) → IsContentOf page here block content → length content.offsets ≡ length content.text
    → count ≤ length content.text → drop count content.text ≡ drop (marker_end task.len content.text) content.text
    → AreInlineEvents (drop count content.text) setting inlines
    → events ≡ in_paragraph here.is_tight block (marker_event task ∷ map (placed block.start (after count content).offsets) inlines)
    → AreTaskEvents page setting here block task events
task_is page setting here block task content inlines count events is each low same are events_are = record {
  content = content;
  inlines = inlines;
  is_content = is;
  are_inlines = subst (λ (t : List ℕ). AreInlineEvents t setting inlines) same are;
  are_events = events_are ∙ ap (λ (offsets : List ℕ). in_paragraph here.is_tight block (marker_event task ∷ map (placed block.start offsets) inlines))
      (same_rest content.text content.offsets count (marker_end task.len content.text) each low same);
}
