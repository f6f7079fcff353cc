-- The events before the index are moved, and those from it on stand as they did.
use Rattle.markdown_blocks.specs.content.Content.{IsRunOf}
use Rattle.markdown_events.proofs.page.leaf_content.RangeLemmas.{AreMovedTo}
use Rattle.markdown_events.proofs.page.leaf_content.move_runs.Given as goal

abbrev pub invariant-loop-event : goal.invariant-loop-event
invariant-loop-event l = AreMovedTo l.before l.content l.fn.events l.events l.event-index × IsRunOf l.content l.run
