use Rattle.std.proofs.Common.{◌≤◌, length, drop, map}
use Rattle.markdown_blocks.specs.events.Events.{seen_event}
use Rattle.markdown_events.specs.page.Levels.{IsKnownOf}
use Rattle.markdown_events.proofs.page.spans.spans_of.Given as goal

abbrev pub invariant-loop-index : goal.invariant-loop-index
invariant-loop-index l = (l.index ≤ length l.blocks) × IsKnownOf (map seen_event (drop l.index l.blocks)) l.reader

abbrev pub decreases-loop-index : goal.decreases-loop-index
decreases-loop-index l = l.index
