use Rattle.std.proofs.Common.{List, length, ◌≤◌, ◌≡◌}
use Rattle.markdown_events.specs.InlineEvents.{RangedEvent}
use Rattle.markdown_events.specs.page.Given.{GivesWith, events_left}
use Rattle.markdown_events.proofs.event_reader.EventReader.read_blocks.Given as goal

abbrev pub invariant-loop-self : goal.invariant-loop-self
invariant-loop-self g l =
    ((events : List RangedEvent) → GivesWith (g.B.Definitions.targets l.broken) l.self events
    → GivesWith (g.B.Definitions.targets l.broken) l.initial.self events) × (events_left l.self ≤ events_left l.initial.self)
    × (l.self.known ≡ l.initial.self.known)

abbrev pub decreases-loop-self : goal.decreases-loop-self
decreases-loop-self g l = length l.self.blocks
