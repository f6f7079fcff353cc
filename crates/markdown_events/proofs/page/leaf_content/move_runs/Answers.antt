use Rattle.std.proofs.Common.{arith}
use Rattle.markdown_events.proofs.page.leaf_content.RangeLemmas.{all_moved, moved_more, next_ends, no_run, none_moved}
use Rattle.markdown_events.proofs.page.leaf_content.move_runs.Goals as goal

pub loop-event-init : goal.loop-event-init
loop-event-init c = (none_moved c.args.before c.args.content.now c.args.events.now c.requires.within, no_run c.args.content.now)

pub page_range-event-requires-clause-within : goal.page_range-event-requires-clause-within
page_range-event-requires-clause-within c =
    next_ends c.args.before c.args.content.now c.args.events.now c.loop-event.events c.loop-event.event-index (omega arith)
    c.loop-event.invariant.0 c.event-item.result

pub loop-event-preserved : goal.loop-event-preserved
loop-event-preserved c = (
  moved_more c.args.before c.args.content.now c.args.events.now c.loop-event.events c.loop-event.event-index (omega arith)
      c.loop-event.invariant.0 c.event-item.result c.page_range-event.result c.page_range-event.ensures.range,
  c.page_range-event.ensures.run,
)

pub returns : goal.returns
returns c =
    all_moved c.args.before c.args.content.now c.args.events.now c.loop-event.events c.loop-event.event-index (omega arith)
    c.loop-event.invariant.0
