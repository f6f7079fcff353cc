use Rattle.std.proofs.Common.{List, ◌≡◌, ◌++◌, map}
use Rattle.std.specs.List.{filter_map}
use Rattle.markdown_events.specs.InlineEvents.{RangedEvent}
use Rattle.markdown_events.specs.page.Given.{Gives, events_left}
use Rattle.markdown_events.specs.page.PageEvents.{ArePageEvents}
use Rattle.page_links.specs.links.Links.{link_of, seen_link}
use Rattle.page_links.proofs.links.links_of_page.Given as goal

-- whatever events are left, the links that are found and theirs are those of the page
abbrev pub invariant-loop-links : goal.invariant-loop-links
invariant-loop-links l =
    (later : List RangedEvent) → Gives l.reader later
    → (events : List RangedEvent) × ArePageEvents l.page l.fn.setting events
    × (map seen_link l.links.items ++ filter_map link_of later ≡ filter_map link_of events)

abbrev pub decreases-loop-links : goal.decreases-loop-links
decreases-loop-links l = events_left l.reader
