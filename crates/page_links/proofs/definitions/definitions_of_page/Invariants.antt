use Rattle.std.proofs.Common.{List, [], ◌++◌, map}
use Rattle.markdown_blocks.specs.events.Events.{Event, IsEventsOf}
use Rattle.markdown_blocks.specs.events.Given.{Gives, events_left}
use Rattle.markdown_events.specs.page.Settings.{built}
use Rattle.page_links.specs.definitions.Definitions.{AreDefinedIn, Defined, seen_definition}
use Rattle.page_links.proofs.definitions.definitions_of_page.Given as goal

-- whatever events are left, what is found and what they define is what the page defines
abbrev pub invariant-loop-found : goal.invariant-loop-found
invariant-loop-found l =
    (later : List Event) → Gives l.blocks later
    → (events : List Event) × IsEventsOf (built l.fn.setting) l.page events
    × ((rest : List Defined) → AreDefinedIn l.page l.outer.items later rest
    → AreDefinedIn l.page [] events (map seen_definition l.found.items ++ rest))

abbrev pub decreases-loop-found : goal.decreases-loop-found
decreases-loop-found l = events_left l.blocks
