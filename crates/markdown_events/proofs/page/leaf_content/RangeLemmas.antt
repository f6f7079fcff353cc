-- Ranges of events that are moved to the page, one after the other.
use Rattle.std.proofs.Common.{ℕ, zero, suc, ◌+◌, ◌-◌, ◌^◌, ◌<◌, ◌≤◌, ◌≡◌, List, [], ◌∷◌, ◌++◌, length, take, drop, set, get_or}
use Rattle.std.proofs.Common.{map, refl, sym, ap, ◌∙◌, subst, arith, add-one, append-nil}
use Rattle.std.specs.Prelude.{slice_index}
use Rattle.std.specs.declared.ops.Range.{Range}
use Rattle.std.proofs.lemmas.Bool.{lt-ltb}
use Rattle.std.proofs.lemmas.List.{drop_all, get_or-append_right, get_or-drop, get_or-map, get_or_default}
use Rattle.std.proofs.lemmas.List.{length-append, length-drop, length-map, length-take, map-set, take_all}
use Rattle.std.proofs.lemmas.List.Edits.{map_over_more}
use Rattle.markdown_values.specs.declared.values.events.Event.{Event}
use Rattle.markdown_blocks.specs.content.Content.{IsRunOf, Placed}
use Rattle.markdown_blocks.specs.declared.content.Run.{Run}
use Rattle.markdown_events.specs.InlineEvents.{RangedEvent, seen_event}
use Rattle.markdown_events.specs.page.LeafContent.{CanPlace, EndWithin}
use Rattle.markdown_events.specs.page.LeafEvents.{page_range, placed}

-- The events before the index are moved, and the others as they were; none of those ends after the content.
pub record AreMovedTo (before : ℕ) (content : Placed) (old now : List (Event × Range ℕ)) (index : ℕ) : Type 0 where
  pub moved : map seen_event now
      ≡ map (placed before content.offsets) (take index (map seen_event old)) ++ drop index (map seen_event old)
  pub within : EndWithin (length content.text) (drop index (map seen_event old))

-- those after the next end within the content too
later_within : (count index : ℕ) (events : List RangedEvent) → EndWithin count (drop index events) → EndWithin count (drop (suc index) events)
later_within count zero [] within = within
later_within count zero (event ∷ events) within = within.1
later_within count (suc index) [] within = within
later_within count (suc index) (event ∷ events) within = later_within count index events within

-- the next ends within it
pub next_within : (count index : ℕ) (events : List RangedEvent) (event : RangedEvent) → index < length events
    → EndWithin count (drop index events) → (get_or events index event).1.end ≤ count
next_within count index [] event low within = absurd (omega (arith, low))
next_within count zero (first ∷ events) event low within = within.0
next_within count (suc index) (first ∷ events) event low within = next_within count index events event (omega (arith, low)) within

module _ (before : ℕ) (content : Placed) (old now : List (Event × Range ℕ)) (index : ℕ) (low : index < length old)
    (holds : AreMovedTo before content old now index) where
  seen : List RangedEvent
  seen = map seen_event old

  change : RangedEvent → RangedEvent
  change = placed before content.offsets

  counted : index < length seen
  unfolding seen
  counted = omega (arith, low, length-map old seen_event)

  moved : map seen_event now ≡ map change (take index seen) ++ drop index seen
  unfolding seen change
  moved = holds.moved

  same_count : length now ≡ length seen
  same_count =
      omega (
        arith,
        ap length moved,
        length-map now seen_event,
        length-append (map change (take index seen)) (drop index seen),
        length-map (take index seen) change,
        length-take index seen,
        length-drop index seen,
        counted,
      )

  -- the next is as it was
  as_before : (event : RangedEvent) → get_or (map seen_event now) index event ≡ get_or seen index event
  as_before event =
      let front : length (map change (take index seen)) ≡ index =
      omega (arith, length-map (take index seen) change, length-take index seen, counted) in
      ap (λ events. get_or events index event) moved
      ∙ get_or-append_right (map change (take index seen)) (drop index seen) index index event front (omega arith)
      ∙ get_or-drop index seen (index - index) event ∙ ap (λ n. get_or seen n event) (omega arith)

  as_seen : (event : Event × Range ℕ) → seen_event (get_or now index event) ≡ get_or seen index (seen_event event)
  as_seen event =
      sym (get_or-map seen_event now index event (seen_event event) (omega (arith, counted, same_count))) ∙ as_before (seen_event event)

  pub next_ends : (event : Event × Range ℕ) → (get_or now index event).1.end ≤ length content.text
  unfolding seen
  next_ends event =
      subst (λ (e : RangedEvent). e.1.end ≤ length content.text) (sym (as_seen event))
      (next_within (length content.text) index seen (seen_event event) counted holds.within)

  -- and is moved
  pub moved_more : (event : Event × Range ℕ) (range : Range ℕ)
      → range ≡ page_range before content.offsets (get_or now index event).1
      → AreMovedTo before content old (set now index ((get_or now index event).0, range)) (index + 1)
  unfolding seen change
  moved_more event range is =
      let next = get_or now index event in
      let new : Event × Range ℕ = (next.0, range) in
      let offset = get_or seen index (seen_event event) in
      let changed : seen_event new ≡ change (seen_event next) = ap (λ (r : Range ℕ). seen_event (next.0, r)) is in
      let written : set (map seen_event now) index (change offset) ≡ map change (take (index + 1) seen) ++ drop (index + 1) seen =
      map_over_more change seen (map seen_event now) index offset counted moved
      (sym (as_before (seen_event event))
      ∙ get_or_default (map seen_event now) index (seen_event event) offset (omega (arith, counted, same_count, length-map now seen_event)))
      in record {
        moved = map-set seen_event now index new
            ∙ (ap (set (map seen_event now) index) (changed ∙ ap change (as_seen event)) ∙ written);
        within = subst (λ n. EndWithin (length content.text) (drop n seen)) (sym (add-one index))
            (later_within (length content.text) index seen holds.within);
      }

-- in the end all are
pub all_moved : (before : ℕ) (content : Placed) (old now : List (Event × Range ℕ)) (index : ℕ) → length old ≤ index
    → AreMovedTo before content old now index → map seen_event now ≡ map (placed before content.offsets) (map seen_event old)
all_moved before content old now index past holds =
    let seen = map seen_event old in
    let change = placed before content.offsets in
    let counted = length-map old seen_event in
    holds.moved ∙ (ap (λ rest. map change (take index seen) ++ rest) (drop_all index seen (omega (arith, past, counted)))
    ∙ (append-nil (map change (take index seen)) ∙ ap (map change) (take_all index seen (omega (arith, past, counted)))))

-- a range of a run that stands in the lines as it does in the content
abbrev range_of : ℕ → ℕ → Range ℕ
range_of start end = record { start = start; end = end }

pub in_run : (before : ℕ) (content : Placed) (run : Run) (start end : ℕ) → IsRunOf content run → run.start ≤ start → start < end
    → end ≤ run.end
    → range_of (before + run.source + (start - run.start)) (before + run.source + (start - run.start) + (end - start))
    ≡ page_range before content.offsets (range_of start end)
in_run before content run start end is low less high =
    let first = is.offsets start low (omega (arith, less, high)) in
    let last = is.offsets (end - 1) (omega (arith, low, less)) (omega (arith, less, high)) in
    rw (lt-ltb start end less)
    (ap (λ n. range_of n (before + run.source + (start - run.start) + (end - start))) (omega (arith, first))
    ∙ ap (λ n. range_of (before + slice_index content.offsets start) n) (omega (arith, last, low, less)))

-- the offset of a byte of it is a number, also with the bytes before the block
pub run_fits : (before : ℕ) (content : Placed) (run : Run) (at : ℕ) → IsRunOf content run → CanPlace before content → run.start ≤ at
    → at < run.end → before + run.source + (at - run.start) + 1 < 2 ^ 64
run_fits before content run at is can low high =
    omega (arith, is.offsets at low high, can.fits at (omega (arith, high, is.within)))

pub no_run : (content : Placed) → IsRunOf content (record { start = 0; end = 0; source = 0 })
no_run content = record { within = omega arith; offsets = λ offset low high. absurd (omega (arith, high)) }

pub none_moved : (before : ℕ) (content : Placed) (old : List (Event × Range ℕ)) → EndWithin (length content.text) (map seen_event old)
    → AreMovedTo before content old old 0
none_moved before content old within = record { moved = refl; within = within }
