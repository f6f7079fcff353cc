use Rattle.std.proofs.Common.{◌≡◌, ◌++◌, map, replicate}
use Rattle.markdown_blocks.specs.events.Events.{ends, seen_event}
use Rattle.markdown_events.proofs.page.blocks_of.push_ends.Given as goal

abbrev pub invariant-loop-left : goal.invariant-loop-left
invariant-loop-left l =
    map seen_event l.blocks.items ++ replicate l.left ends ≡ map seen_event l.fn.blocks.items ++ replicate l.count ends

abbrev pub decreases-loop-left : goal.decreases-loop-left
decreases-loop-left l = l.left
