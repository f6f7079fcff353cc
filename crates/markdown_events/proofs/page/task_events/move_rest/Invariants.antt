-- The events before the index are moved, and those from it on stand as they did.
use Rattle.markdown_events.specs.page.TaskEvents.{after}
use Rattle.markdown_events.proofs.page.leaf_content.RangeLemmas.{AreMovedTo}
use Rattle.markdown_events.proofs.page.task_events.move_rest.Given as goal

abbrev pub invariant-loop-event : goal.invariant-loop-event
invariant-loop-event l = AreMovedTo l.before (after l.front l.content) l.fn.events l.events l.event-index
