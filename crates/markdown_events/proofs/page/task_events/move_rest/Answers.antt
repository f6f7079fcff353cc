use Rattle.std.proofs.Common.{arith}
use Rattle.markdown_events.specs.page.TaskEvents.{after}
use Rattle.markdown_events.proofs.page.leaf_content.RangeLemmas.{all_moved, moved_more, next_ends}
use Rattle.markdown_events.proofs.page.task_events.move_rest.Goals as goal

pub rest_range-event-requires-clause-within : goal.rest_range-event-requires-clause-within
rest_range-event-requires-clause-within c =
    next_ends c.args.before (after c.args.front c.args.content.now) c.args.events.now c.loop-event.events c.loop-event.event-index (omega arith)
    c.loop-event.invariant c.event-item.result

pub loop-event-preserved : goal.loop-event-preserved
loop-event-preserved c =
    moved_more c.args.before (after c.args.front c.args.content.now) c.args.events.now c.loop-event.events c.loop-event.event-index (omega arith)
    c.loop-event.invariant c.event-item.result c.rest_range-event.result c.rest_range-event.ensures

pub returns : goal.returns
returns c =
    all_moved c.args.before (after c.args.front c.args.content.now) c.args.events.now c.loop-event.events c.loop-event.event-index (omega arith)
    c.loop-event.invariant
