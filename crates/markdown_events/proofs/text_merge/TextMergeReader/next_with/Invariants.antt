use Rattle.std.proofs.Common.{List, ◌≤◌, ◌≡◌}
use Rattle.markdown_events.specs.InlineEvents.{RangedEvent}
use Rattle.markdown_events.specs.TextMerge.{GivesMergedWith, merged_left, unread}
use Rattle.markdown_events.proofs.text_merge.TextMergeReader.next_with.Given as goal

abbrev pub invariant-loop-self : goal.invariant-loop-self
invariant-loop-self g l =
    ((events : List RangedEvent) → GivesMergedWith (g.B.Definitions.targets l.broken) l.self events
    → GivesMergedWith (g.B.Definitions.targets l.broken) l.initial.self events) × (merged_left l.self ≤ merged_left l.initial.self)
    × (l.self.left.known ≡ l.initial.self.left.known)

abbrev pub decreases-loop-self : goal.decreases-loop-self
decreases-loop-self g l = unread l.self.left l.self.after
