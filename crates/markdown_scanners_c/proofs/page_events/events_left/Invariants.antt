-- From each list of events that the reader goes on to give, one follows that it gave at first, and of these are what is made so far and what
-- is made of the events to come.
use Rattle.std.proofs.Common.{List, ◌≡◌, ◌++◌, length, string_bytes}
use Rattle.markdown_events.specs.InlineEvents.{RangedEvent}
use Rattle.markdown_events.specs.page.Given.{Gives, events_left}
use Rattle.markdown_scanners_c.specs.EventRecords.{records_from, texts_of}
use Rattle.markdown_scanners_c.proofs.page_events.events_left.Given as goal

abbrev pub invariant-loop-texts : goal.invariant-loop-texts
invariant-loop-texts l = (later : List RangedEvent) → Gives l.reader later
    → (all : List RangedEvent) × Gives l.initial.reader all
    × (records_from 0 all ≡ l.events.items ++ records_from (length (string_bytes l.texts)) later)
    × (texts_of all ≡ string_bytes l.texts ++ texts_of later)

abbrev pub decreases-loop-texts : goal.decreases-loop-texts
decreases-loop-texts l = events_left l.reader
