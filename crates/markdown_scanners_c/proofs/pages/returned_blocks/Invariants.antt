-- What is returned so far, and what the blocks to come tell, is what all tell.
use Rattle.std.proofs.Common.{List, ◌≡◌, ◌++◌, map}
use Rattle.markdown_blocks.specs.events.Events.{Event, IsEventsOf}
use Rattle.markdown_blocks.specs.events.Given.{Gives, events_left}
use Rattle.markdown_scanners_c.specs.Pages.{event_returned}
use Rattle.markdown_scanners_c.proofs.pages.returned_blocks.Given as goal

abbrev pub invariant-loop-blocks : goal.invariant-loop-blocks
invariant-loop-blocks l = (later : List Event) → Gives l.blocks later
    → (all : List Event) × IsEventsOf l.fn.asked l.page all × (map event_returned all ≡ l.returned.items ++ map event_returned later)

abbrev pub decreases-loop-blocks : goal.decreases-loop-blocks
decreases-loop-blocks l = events_left l.blocks
