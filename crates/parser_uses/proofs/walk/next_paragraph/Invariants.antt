-- the events that are left grow no more
use Rattle.std.proofs.Common.{◌≤◌}
use Rattle.markdown_blocks.specs.events.Given.{events_left}
use Rattle.parser_uses.proofs.walk.next_paragraph.Given as goal

abbrev pub invariant-loop-event : goal.invariant-loop-event
invariant-loop-event l = events_left l.blocks ≤ events_left l.fn.blocks

abbrev pub decreases-loop-event : goal.decreases-loop-event
decreases-loop-event l = events_left l.blocks
