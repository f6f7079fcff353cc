-- What is known of a content and of events in it.
use Rattle.std.proofs.Common.{ℕ, zero, suc, ◌+◌, ◌-◌, ◌^◌, ◌<◌, ◌≤◌, ◌≡◌, Bool, true, false}
use Rattle.std.proofs.Common.{List, [], ◌∷◌, length, drop, map, take, arith, inl, inr, refl, subst, sym}
use Rattle.std.specs.Prelude.{⊤, nat_lt, slice_index, if◌then◌else◌}
use Rattle.std.specs.declared.ops.Range.{Range}
use Rattle.std.proofs.lemmas.Bool.{ltb-true}
use Rattle.std.proofs.lemmas.Bool.Decides.{leb_tells}
use Rattle.std.proofs.lemmas.List.{get_or_past, length-take}
use Rattle.markdown_values.specs.values.Events.{start, end}
use Rattle.markdown_scanners_tree.specs.scanners.TextLines.{lines_of}
use Rattle.markdown_blocks.specs.content.Bytes.{AreBytesOf}
use Rattle.markdown_blocks.specs.content.Content.{IsContent, Placed}
use Rattle.markdown_blocks.specs.declared.blocks.BlockKind.{BlockKind}
use Rattle.markdown_blocks.specs.declared.containers.Container.{Container}
use Rattle.markdown_blocks.specs.events.Events.{LeafBlock}
use Rattle.markdown_blocks.proofs.ForCallers.{DoNotFall, content_bytes, content_rises, content_sizes}
use Rattle.markdown_events.specs.EventLaws.{AreWithin, LieIn, LiesIn, RiseIn}
use Rattle.markdown_events.specs.InlineEvents.{RangedEvent}
use Rattle.markdown_events.specs.page.LeafContent.{CanPlace, EndWithin, LieInBlock}
use Rattle.markdown_events.specs.page.LeafEvents.{lines_in_page, page_range, placed}

-- the content of lines of the page, whose block begins and ends there
pub content_placed : (kind : BlockKind) (outer : List Container) (kept before bytes : ℕ) (page lines : List ℕ) (content : Placed)
    → lines ≡ take bytes (drop before page) → before + bytes < 2 ^ 64 → IsContent kind outer kept (lines_of lines) content
    → AreBytesOf lines content → CanPlace before content
content_placed kind outer kept before bytes page lines content are ends is there =
    let few : length lines ≤ bytes =
    subst (λ (t : List ℕ). length t ≤ bytes) (sym are) (omega (arith, length-take bytes (drop before page))) in record {
      each = content_sizes kind outer kept (lines_of lines) content is;
      fits = λ offset inside. omega (arith, (there offset inside).0, few, ends);
      begins = omega (arith, ends);
    }

-- none of the elements ends after so many bytes
abbrev AreBelow : ℕ → List ℕ → Type 0
AreBelow count [] = ⊤
AreBelow count (to ∷ outer) = (to ≤ count) × AreBelow count outer

rise_within : (count : ℕ) (ends : List ℕ) (from : ℕ) (events : List RangedEvent) → AreBelow count ends → RiseIn ends from events
    → EndWithin count events
rise_within count ends from [] below rise = tt
rise_within count [] from (event ∷ later) below rise = absurd rise
rise_within count (to ∷ outer) from ((start tag, range) ∷ later) below rise =
    let ends : range.end ≤ count = omega (arith, rise.0.ends, below.0) in
    (ends, rise_within count (range.end ∷ to ∷ outer) range.start later (ends, below) rise.1)
rise_within count (to ∷ outer) from ((end closer, range) ∷ later) below rise =
    (omega (arith, rise.1, below.0), rise_within count outer to later below.1 rise.2)
rise_within count (to ∷ outer) from ((event, range) ∷ later) below rise =
    (omega (arith, rise.0.ends, below.0), rise_within count (to ∷ outer) range.end later below rise.1)

-- events within a text end within it
pub events_within : (source : List ℕ) (events : List RangedEvent) → AreWithin source events → EndWithin (length source) events
events_within source events are = rise_within (length source) (length source ∷ []) 0 events (omega arith, tt) are

-- ---- on the page

pub offsets_rise : (from : ℕ) (offsets : List ℕ) (i j : ℕ) → DoNotFall from offsets → i ≤ j → j < length offsets
    → (from ≤ slice_index offsets i) × (slice_index offsets i ≤ slice_index offsets j)
offsets_rise from [] i j rise less low = absurd (omega (arith, low))
offsets_rise from (offset ∷ offsets) zero zero rise less low = (rise.0, omega arith)
offsets_rise from (offset ∷ offsets) zero (suc j) rise less low =
    let more = offsets_rise offset offsets 0 j rise.1 (omega arith) (omega (arith, low)) in
    (rise.0, omega (arith, more))
offsets_rise from (offset ∷ offsets) (suc i) zero rise less low = absurd (omega (arith, less))
offsets_rise from (offset ∷ offsets) (suc i) (suc j) rise less low =
    let more = offsets_rise offset offsets i j rise.1 (omega (arith, less)) (omega (arith, low)) in
    (omega (arith, rise.0, more), more.1)

module _ (before bytes : ℕ) (lines : List ℕ) (content : Placed) (few : length lines ≤ bytes)
    (each : length content.offsets ≡ length content.text) (stands : AreBytesOf lines content) (rises : DoNotFall 0 content.offsets) where
  low : (offset : ℕ) → slice_index content.offsets offset ≤ bytes
  low offset = elim (leb_tells (length content.text) offset) [
    | inl past ↦ (let none : slice_index content.offsets offset ≡ 0 = get_or_past content.offsets offset 0 (omega (arith, past.1, each)) in
        omega (arith, none))
    | inr inside ↦ (let there = stands offset (omega (arith, inside.1)) in
        omega (arith, there.0, few))
  ]

  -- a range of the content stands in the lines
  range_lies : (range : Range ℕ) → range.end ≤ length content.text → LiesIn before (before + bytes) (page_range before content.offsets range)
  range_lies range within = by (nat_lt range.start range.end) (λ is. ltb-true range.start range.end is)
    where
      by : (test : Bool) → (test ≡ true → range.start < range.end) → LiesIn before (before + bytes) (record {
        start = before + slice_index content.offsets range.start;
        end = if test then before + slice_index content.offsets (range.end - 1) + 1 else before + slice_index content.offsets range.start;
      })
      by false less = record { begins = omega arith; in_order = omega arith; ends = omega (arith, low range.start) }
      by true less =
          let some : range.start < range.end = less refl in
          let rise = offsets_rise 0 content.offsets range.start (range.end - 1) rises
          (omega (arith, some)) (omega (arith, some, within, each)) in
          let last = stands (range.end - 1) (omega (arith, some, within)) in
          record { begins = omega arith; in_order = omega (arith, rise.1); ends = omega (arith, last.0, few) }

  -- so do events
  pub placed_lie : (events : List RangedEvent) → EndWithin (length content.text) events
      → LieIn before (before + bytes) (map (placed before content.offsets) events)
  placed_lie [] within = tt
  placed_lie (event ∷ events) within = (range_lies event.1 within.0, placed_lie events within.1)

-- the events in a content of a block lie within its lines
pub block_lies : (page : List ℕ) (block : LeafBlock) (outer : List Container) (kept : ℕ) (content : Placed)
    → IsContent block.kind outer kept (lines_in_page page block) content → (events : List RangedEvent)
    → EndWithin (length content.text) events → LieInBlock block (map (placed block.start content.offsets) events)
block_lies page block outer kept content is events within =
    let lines = take block.bytes (drop block.start page) in
    placed_lie block.start block.bytes lines content (omega (arith, length-take block.bytes (drop block.start page)))
    (content_sizes block.kind outer kept (lines_of lines) content is) (content_bytes block.kind outer kept lines content is)
    (content_rises block.kind outer kept (lines_of lines) content is) events within
