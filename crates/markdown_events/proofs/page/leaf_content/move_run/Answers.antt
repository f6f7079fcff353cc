use Rattle.std.proofs.Common.{arith}
use Rattle.markdown_events.proofs.page.leaf_content.RangeLemmas.{all_moved, moved_more, next_ends}
use Rattle.markdown_events.proofs.page.leaf_content.move_run.Goals as goal

pub run_range-event-requires-clause-within : goal.run_range-event-requires-clause-within
run_range-event-requires-clause-within c =
    next_ends c.args.before c.args.content.now c.args.events.now c.loop-event.events c.loop-event.event-index (omega arith)
    c.loop-event.invariant c.event-item.result

pub loop-event-preserved : goal.loop-event-preserved
loop-event-preserved c =
    moved_more c.args.before c.args.content.now c.args.events.now c.loop-event.events c.loop-event.event-index (omega arith)
    c.loop-event.invariant c.event-item.result c.run_range-event.result c.run_range-event.ensures

pub returns : goal.returns
returns c =
    all_moved c.args.before c.args.content.now c.args.events.now c.loop-event.events c.loop-event.event-index (omega arith)
    c.loop-event.invariant
