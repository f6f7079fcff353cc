-- How many records C has of events.
use Rattle.std.proofs.Common.{ℕ, suc, List, [], ◌∷◌, ◌+◌, ◌≡◌, length, ap, refl}
use Rattle.markdown_events.specs.InlineEvents.{RangedEvent}
use Rattle.markdown_scanners_c.specs.EventRecords.{event_words, records_from}

-- one of each event
pub records_len : (offset : ℕ) (events : List RangedEvent) → length (records_from offset events) ≡ length events
records_len offset [] = refl
records_len offset (event ∷ later) = ap suc (records_len (offset + length (event_words event.0)) later)
