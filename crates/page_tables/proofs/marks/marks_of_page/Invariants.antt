-- Whatever events are left, the marks with theirs are those of the page.
use Rattle.std.proofs.Common.{List, ◌++◌, map}
use Rattle.std.specs.List.{flat_map}
use Rattle.markdown_events.specs.InlineEvents.{RangedEvent}
use Rattle.markdown_events.specs.page.Given.{Gives, events_left}
use Rattle.page_tables.specs.Marks.{AreMarksOf, mark_view, marks_of}
use Rattle.page_tables.proofs.marks.marks_of_page.Given as goal

abbrev pub invariant-loop-marks : goal.invariant-loop-marks
invariant-loop-marks l =
    (later : List RangedEvent) → Gives l.reader later → AreMarksOf l.page (map mark_view l.marks.items ++ flat_map marks_of later)

abbrev pub decreases-loop-marks : goal.decreases-loop-marks
decreases-loop-marks l = events_left l.reader
