use Rattle.std.proofs.Common.{List, ◌≡◌, ◌++◌, map}
use Rattle.markdown_blocks.specs.events.Events.{Event, seen_event}
use Rattle.markdown_blocks.specs.events.Given.{GivesBlock, block_events_left}
use Rattle.markdown_blocks.specs.link_definitions.LinkDefinitions.{AreAddedBetween}
use Rattle.markdown_events.proofs.page.blocks_of.push_leaves.Given as goal

-- whatever events are left, the block gives those that are added and these; and the definitions of those are added
abbrev pub invariant-loop-event : goal.invariant-loop-event
invariant-loop-event l = record {
  are_given : (later : List Event) → GivesBlock l.containers l.content l.events later → (given : List Event)
      × GivesBlock l.containers l.content l.fn.events given
      × (map seen_event l.blocks.items ++ later ≡ map seen_event l.fn.blocks.items ++ given);
  are_added : AreAddedBetween l.fn.events.used l.events.used l.content l.fn.known l.known;
}

abbrev pub decreases-loop-event : goal.decreases-loop-event
decreases-loop-event l = block_events_left l.containers l.events
