use Rattle.std.proofs.Common.{List, ◌≡◌, ◌++◌, string_bytes}
use Rattle.std.specs.List.{flat_map}
use Rattle.markdown_events.specs.InlineEvents.{RangedEvent}
use Rattle.markdown_events.specs.page.Given.{Gives, events_left}
use Rattle.markdown_events.specs.page.PageEvents.{ArePageEvents}
use Rattle.page_events.specs.Printed.{line_in}
use Rattle.page_events.proofs.page.lines_of_page.Given as goal

-- whatever events are left, what is written and their lines are those of the page
abbrev pub invariant-loop-text : goal.invariant-loop-text
invariant-loop-text l =
    (later : List RangedEvent) → Gives l.reader later
    → (events : List RangedEvent) × ArePageEvents l.page l.fn.setting events
    × (string_bytes l.text ++ flat_map (line_in l.fn.form) later ≡ flat_map (line_in l.fn.form) events)

abbrev pub decreases-loop-text : goal.decreases-loop-text
decreases-loop-text l = events_left l.reader
