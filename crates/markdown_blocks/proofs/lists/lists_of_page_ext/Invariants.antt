use Rattle.std.proofs.Common.{◌≡◌, ◌++◌, List}
use Rattle.markdown_blocks.specs.events.Events.{Event, IsEventsOf}
use Rattle.markdown_blocks.specs.events.Given.{Gives, events_left}
use Rattle.markdown_blocks.specs.lists.Lists.{Nodes, flatten, lists_of}
use Rattle.markdown_blocks.specs.lists.Tracked.{lists_given}
use Rattle.markdown_blocks.proofs.lists.lists_of_page_ext.Given as goal

abbrev pub invariant-loop-found : goal.invariant-loop-found
invariant-loop-found l = (events : List Event) → Gives l.blocks events → (all : List Event) × IsEventsOf l.fn.extensions l.page all
    × ((nodes : Nodes) → all ≡ flatten nodes → lists_of nodes ≡ l.found.items ++ lists_given l.lists events)

abbrev pub decreases-loop-found : goal.decreases-loop-found
decreases-loop-found l = events_left l.blocks
