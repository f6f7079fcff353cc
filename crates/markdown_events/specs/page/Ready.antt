-- The events of a page that are ready to be given.
use Rattle.std.specs.Prelude.{ℕ, List}
use Rattle.markdown_events.specs.InlineEvents.{RangedEvent}

-- the events, in order, and for how many more there is room
pub record Ready : Type 0 where
  pub events : List RangedEvent
  pub room : ℕ
