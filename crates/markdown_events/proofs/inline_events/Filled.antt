-- Ranges rise, and no element is empty.
use Rattle.std.proofs.Common.{ℕ, List, [], ◌∷◌, ◌<◌, ◌≤◌, ◌≡◌, arith}
use Rattle.std.specs.Prelude.{⊤}
use Rattle.markdown_values.specs.values.Events.{start, end}
use Rattle.markdown_events.specs.EventLaws.{RiseIn}
use Rattle.markdown_events.specs.InlineEvents.{RangedEvent}

-- Ranges rise as in RiseIn. No element is empty, and each range begins before the end of the element that holds it.
abbrev pub RiseFilled : List ℕ → ℕ → List RangedEvent → Type 0
RiseFilled ends from [] = ⊤
RiseFilled [] from (event ∷ later) = ⊥
RiseFilled (to ∷ outer) from ((start tag, range) ∷ later) =
    (from ≤ range.start) × (range.start < range.end) × (range.end ≤ to) × RiseFilled (range.end ∷ to ∷ outer) range.start later
RiseFilled (to ∷ outer) from ((end closer, range) ∷ later) =
    (from ≤ to) × (range.start < range.end) × (range.end ≡ to) × RiseFilled outer to later
RiseFilled (to ∷ outer) from ((event, range) ∷ later) =
    (from ≤ range.start) × (range.start ≤ range.end) × (range.end ≤ to) × (range.start < to) × RiseFilled (to ∷ outer) range.end later

-- from an earlier offset on
pub filled_from : (ends : List ℕ) (from from' : ℕ) (events : List RangedEvent) → from ≤ from' → RiseFilled ends from' events
    → RiseFilled ends from events
filled_from ends from from' [] less is = tt
filled_from [] from from' (event ∷ later) less is = absurd is
filled_from (to ∷ outer) from from' ((start tag, range) ∷ later) less is = (omega (arith, less, is.0), is.1, is.2, is.3)
filled_from (to ∷ outer) from from' ((end closer, range) ∷ later) less is = (omega (arith, less, is.0), is.1, is.2, is.3)
filled_from (to ∷ outer) from from' ((event, range) ∷ later) less is = (omega (arith, less, is.0), is.1, is.2, is.3, is.4)

pub filled_rise : (ends : List ℕ) (from : ℕ) (events : List RangedEvent) → RiseFilled ends from events → RiseIn ends from events
filled_rise ends from [] is = tt
filled_rise [] from (event ∷ later) is = absurd is
filled_rise (to ∷ outer) from ((start tag, range) ∷ later) is = (
  record { begins = is.0; in_order = omega (arith, is.1); ends = is.2 },
  filled_rise (range.end ∷ to ∷ outer) range.start later is.3,
)
filled_rise (to ∷ outer) from ((end closer, range) ∷ later) is = (is.0, is.2, filled_rise outer to later is.3)
filled_rise (to ∷ outer) from ((event, range) ∷ later) is =
    (record { begins = is.0; in_order = is.1; ends = is.2 }, filled_rise (to ∷ outer) range.end later is.4)
