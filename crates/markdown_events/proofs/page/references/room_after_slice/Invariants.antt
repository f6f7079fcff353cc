-- The events that are left, and what is left of the room.
use Rattle.std.proofs.Common.{◌≡◌, ◌+◌, ◌-◌, drop, map}
use Rattle.markdown_events.specs.InlineEvents.{seen_event}
use Rattle.markdown_events.specs.page.References.{added, empty_cells}
use Rattle.markdown_events.proofs.page.references.room_after_slice.Given as goal

abbrev pub invariant-loop-pair : goal.invariant-loop-pair
invariant-loop-pair l =
    let rest = map seen_event (drop l.pair-index l.events) in record {
      references : added (map seen_event l.events) + l.left.references ≡ l.fn.room.references + added rest;
      cells : l.left.cells - empty_cells rest ≡ l.fn.room.cells - empty_cells (map seen_event l.events);
    }
