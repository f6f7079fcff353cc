use Rattle.std.proofs.Common.{List, ℕ, ◌≡◌, ◌++◌, map}
use Rattle.markdown_blocks.specs.events.Events.{Event, seen_event}
use Rattle.markdown_blocks.specs.events.Given.{GivesBlock, block_events_left}
use Rattle.markdown_events.proofs.page.blocks_of.push_containers.Given as goal

-- whatever events are left, the block gives those that are added and these
abbrev pub invariant-loop-event : goal.invariant-loop-event
invariant-loop-event l = record {
  are_given : (content : List ℕ) (later : List Event) → GivesBlock l.containers content l.events later → (given : List Event)
      × GivesBlock l.containers content l.fn.events given
      × (map seen_event l.blocks.items ++ later ≡ map seen_event l.fn.blocks.items ++ given);
  used : l.events.used ≡ l.fn.events.used;
  part : l.events.part ≡ l.fn.events.part;
}

abbrev pub decreases-loop-event : goal.decreases-loop-event
decreases-loop-event l = block_events_left l.containers l.events
