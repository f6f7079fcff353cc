-- The events of a page that is read by an iterator.
use Rattle.std.specs.Prelude.{Bool, ℕ, suc, true, false, ◌≡◌, ◌⊎◌, List, [], ◌∷◌, Option, Some, None, Result, Ok, Err, IsTrue}
use Rattle.std.specs.declared.alloc.AllocError.{AllocError}
use Rattle.std.specs.declared.ops.Range.{Range}
use Rattle.markdown_values.specs.declared.values.events.Event.{Event}
use Rattle.markdown_events.specs.InlineEvents.{RangedEvent, seen_event}
use Rattle.markdown_events.specs.Targets.{Targets}
use Rattle.markdown_events.specs.page.Given.{Gives, GivesWith, PageLeft, events_left}

-- how far the page is read, and whether no item comes any more: after an error, and after None
pub record Iterated : Type 0 where
  pub left : PageLeft
  pub is_stopped : Bool

-- after an item more may come, and the link reference definitions are the same
pub record GoesOn (old new : Iterated) : Type 0 where
  pub is_not_stopped : new.is_stopped ≡ false
  pub same_definitions : new.left.known ≡ old.left.known

-- no item comes any more, and the link reference definitions are the same
pub record Stops (old new : Iterated) : Type 0 where
  pub is_stopped : new.is_stopped ≡ true
  pub same_definitions : new.left.known ≡ old.left.known

-- The next item: an event with its range, which goes before those that are given from there; or an error or None, after which no item
-- comes. None is given where no event is left, or where none came any more.
abbrev pub GivesNext : Iterated → Option (Result (Event × Range ℕ) AllocError) → Iterated → Type 0
GivesNext old None new = (IsTrue old.is_stopped ⊎ Gives old.left []) × Stops old new
GivesNext old (Some (Ok event)) new =
    GoesOn old new × ((events : List RangedEvent) → Gives new.left events → Gives old.left (seen_event event ∷ events))
GivesNext old (Some (Err refused)) new = Stops old new

-- an item without its range
abbrev pub without_range : Option (Result (Event × Range ℕ) AllocError) → Option (Result Event AllocError)
without_range None = None
without_range (Some (Ok event)) = Some (Ok event.0)
without_range (Some (Err refused)) = Some (Err refused)

-- the same without the range
abbrev pub GivesNextEvent : Iterated → Option (Result Event AllocError) → Iterated → Type 0
GivesNextEvent old None new = GivesNext old None new
GivesNextEvent old (Some (Ok event)) new = (range : Range ℕ) × GivesNext old (Some (Ok (event, range))) new
GivesNextEvent old (Some (Err refused)) new = GivesNext old (Some (Err refused)) new

-- ---- the same where labels that the page does not define lead as these say

abbrev pub GivesNextWith : Targets → Iterated → Option (Result (Event × Range ℕ) AllocError) → Iterated → Type 0
GivesNextWith more old None new = (IsTrue old.is_stopped ⊎ GivesWith more old.left []) × Stops old new
GivesNextWith more old (Some (Ok event)) new =
    GoesOn old new × ((events : List RangedEvent) → GivesWith more new.left events → GivesWith more old.left (seen_event event ∷ events))
GivesNextWith more old (Some (Err refused)) new = Stops old new

abbrev pub GivesNextEventWith : Targets → Iterated → Option (Result Event AllocError) → Iterated → Type 0
GivesNextEventWith more old None new = GivesNextWith more old None new
GivesNextEventWith more old (Some (Ok event)) new = (range : Range ℕ) × GivesNextWith more old (Some (Ok (event, range))) new
GivesNextEventWith more old (Some (Err refused)) new = GivesNextWith more old (Some (Err refused)) new

-- ---- how many are left

-- no more items come
abbrev pub left_unless : Bool → ℕ → ℕ
left_unless true n = 0
left_unless false n = suc n

abbrev pub items_left : Iterated → ℕ
items_left e = left_unless e.is_stopped (events_left e.left)
