use Rattle.std.proofs.Common.{List, ◌≡◌, ◌++◌, map}
use Rattle.std.specs.List.{filter_map}
use Rattle.markdown_events.specs.InlineEvents.{RangedEvent}
use Rattle.markdown_events.specs.page.Given.{Gives, events_left}
use Rattle.markdown_events.specs.page.PageEvents.{ArePageEvents}
use Rattle.page_links.specs.html.Html.{part_of, seen_part}
use Rattle.page_links.proofs.html.parts_of_page.Given as goal

-- whatever events are left, the parts that are found and theirs are those of the page
abbrev pub invariant-loop-parts : goal.invariant-loop-parts
invariant-loop-parts l =
    (later : List RangedEvent) → Gives l.reader later
    → (events : List RangedEvent) × ArePageEvents l.page l.fn.setting events
    × (map seen_part l.parts.items ++ filter_map part_of later ≡ filter_map part_of events)

abbrev pub decreases-loop-parts : goal.decreases-loop-parts
decreases-loop-parts l = events_left l.reader
