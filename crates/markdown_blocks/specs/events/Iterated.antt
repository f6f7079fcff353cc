-- The events of a page that is read by an iterator.
use Rattle.std.specs.Prelude.{Bool, ℕ, suc, true, false, ◌≡◌, ◌⊎◌, List, [], ◌∷◌, Option, Some, None, Result, Ok, Err, IsTrue}
use Rattle.markdown_blocks.specs.declared.events.BlockEvent.{BlockEvent}
use Rattle.markdown_blocks.specs.events.Events.{Event, seen_event}
use Rattle.markdown_blocks.specs.events.Given.{Left, Gives, events_left}
use Rattle.std.specs.declared.alloc.AllocError.{AllocError}

-- how far the page is read, and whether no item comes any more: after an error, and after None
pub record Iterated : Type 0 where
  pub left : Left
  pub is_stopped : Bool

-- The next item: an event, which goes before those that are given from there; or an error, at which the page is read no further, or
-- None, after which no item comes. None is given where no event is left, or where none came any more.
abbrev pub GivesNext : Iterated → Option (Result BlockEvent AllocError) → Iterated → Type 0
GivesNext old None new = (IsTrue old.is_stopped ⊎ Gives old.left []) × (new.is_stopped ≡ true)
GivesNext old (Some (Ok event)) new =
    (new.is_stopped ≡ false) × ((events : List Event) → Gives new.left events → Gives old.left (seen_event event ∷ events))
GivesNext old (Some (Err refused)) new = (new.is_stopped ≡ true) × (new.left ≡ old.left)

-- no more items come
abbrev pub left_unless : Bool → ℕ → ℕ
left_unless true n = 0
left_unless false n = suc n

abbrev pub items_left : Iterated → ℕ
items_left e = left_unless e.is_stopped (events_left e.left)
