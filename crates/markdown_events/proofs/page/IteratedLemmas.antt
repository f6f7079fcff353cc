-- Items where no label leads that the page does not define.
use Rattle.std.proofs.Common.{ℕ, Option, Some, None, Result, Ok, Err, inl, inr}
use Rattle.std.specs.declared.alloc.AllocError.{AllocError}
use Rattle.std.specs.declared.ops.Range.{Range}
use Rattle.markdown_values.specs.declared.values.events.Event.{Event}
use Rattle.markdown_events.specs.Targets.{Targets, nowhere}
use Rattle.markdown_events.specs.page.Iterated.{GivesNext, GivesNextEvent, GivesNextEventWith, GivesNextWith, Iterated, without_range}
use Rattle.markdown_events.proofs.page.ParserLemmas.{given_with, given_without}

pub next_without : (old : Iterated) (item : Option (Result (Event × Range ℕ) AllocError)) (new : Iterated) → GivesNextWith nowhere old item new
    → GivesNext old item new
next_without old None new (inl stopped, stops) = (inl stopped, stops)
next_without old None new (inr none, stops) = (inr (given_without _ _ none), stops)
next_without old (Some (Ok event)) new (goes, gives) = (goes, λ events g. given_without _ _ (gives events (given_with _ _ g)))
next_without old (Some (Err refused)) new stops = stops

-- what is given with its range is given without it
pub given_without_range : (more : Targets) (old : Iterated) (item : Option (Result (Event × Range ℕ) AllocError)) (new : Iterated)
    → GivesNextWith more old item new → GivesNextEventWith more old (without_range item) new
given_without_range more old None new gives = gives
given_without_range more old (Some (Ok (event, range))) new gives = (range, gives)
given_without_range more old (Some (Err refused)) new stops = stops

pub next_event_without : (old : Iterated) (item : Option (Result Event AllocError)) (new : Iterated) → GivesNextEventWith nowhere old item new
    → GivesNextEvent old item new
next_event_without old None new gives = next_without old None new gives
next_event_without old (Some (Ok event)) new (range, gives) = (range, next_without old (Some (Ok (event, range))) new gives)
next_event_without old (Some (Err refused)) new stops = stops
