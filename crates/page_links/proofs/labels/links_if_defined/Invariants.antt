use Rattle.std.proofs.Common.{List, ◌≡◌, ◌++◌, map}
use Rattle.std.specs.List.{filter_map}
use Rattle.markdown_events.specs.InlineEvents.{RangedEvent}
use Rattle.markdown_events.specs.page.Given.{GivesWith, events_left}
use Rattle.markdown_events.specs.page.PageEvents.{ArePageEventsWith}
use Rattle.page_links.specs.labels.Labels.{everywhere}
use Rattle.page_links.specs.links.Links.{link_of, seen_link}
use Rattle.page_links.proofs.labels.links_if_defined.Given as goal

-- whatever events are left, the links that are found and theirs are those of the page, if every label were defined
abbrev pub invariant-loop-links : goal.invariant-loop-links
invariant-loop-links l =
    (later : List RangedEvent) → GivesWith everywhere l.reader later
    → (events : List RangedEvent) × ArePageEventsWith l.page l.fn.setting everywhere events
    × (map seen_link l.links.items ++ filter_map link_of later ≡ filter_map link_of events)

abbrev pub decreases-loop-links : goal.decreases-loop-links
decreases-loop-links l = events_left l.reader
