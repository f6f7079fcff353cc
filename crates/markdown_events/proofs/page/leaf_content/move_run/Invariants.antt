-- The events before the index are moved, and those from it on stand as they did.
use Rattle.markdown_events.proofs.page.leaf_content.RangeLemmas.{AreMovedTo}
use Rattle.markdown_events.proofs.page.leaf_content.move_run.Given as goal

abbrev pub invariant-loop-event : goal.invariant-loop-event
invariant-loop-event l = AreMovedTo l.before l.content l.fn.events l.events l.event-index
