-- HTML of the events that an iterator gives.
use Rattle.std.specs.Prelude.{ℕ, ◌≡◌, ◌≤◌, ◌+◌, ◌*◌, List, ◌++◌, length, map, Option, Result, Ok}
use Rattle.std.specs.Iterator.{Drains}
use Rattle.std.specs.declared.alloc.AllocError.{AllocError}
use Rattle.markdown_values.specs.strings.Text.{cow_text}
use Rattle.markdown_values.specs.values.Events.{EventView, event_view}
use Rattle.markdown_values.specs.declared.values.events.Event.{Event}
use Rattle.markdown_html.specs.Html.{html_of}
use Rattle.markdown_html.specs.HtmlSizes.{bytes_of}
use Rattle.markdown_events.specs.Nesting.{AreNested}
use Rattle.markdown_html.specs.SafeHtml.{IsSafeHtml}
use Rattle.markdown_html.specs.SafeSetting.{safe_setting}
use Rattle.markdown_html.specs.Settings.{Setting}

-- what a call of `next` gives
abbrev pub Steps : Type 0 → Type 1
Steps I = I → Option (Result Event AllocError) → I → Type 0

-- The iterator gave these events, and then no more: no item was an error.
pub record AreGiven {I : Type 0} (steps : Steps I) (it : I) (events : List (EventView (List ℕ))) : Type 0 where
  pub given : List Event
  pub are_all : Drains steps it (map Ok given)
  pub are_seen : events ≡ map (event_view cow_text) given

-- This is the HTML of the events that the iterator gives.
pub record IsHtmlOfItems {I : Type 0} (steps : Steps I) (it : I) (setting : Setting) (html : List ℕ) : Type 0 where
  pub events : List (EventView (List ℕ))
  pub are_given : AreGiven steps it events
  pub is_html : html ≡ html_of setting events

-- It is appended.
pub record AppendsHtml {I : Type 0} (steps : Steps I) (it : I) (setting : Setting) (old new : List ℕ) : Type 0 where
  pub html : List ℕ
  pub is_html : IsHtmlOfItems steps it setting html
  pub is_appended : new ≡ old ++ html

-- It is appended, and safe where the events nest.
pub record AppendsSafeHtml {I : Type 0} (steps : Steps I) (it : I) (schemes : List (List ℕ)) (old new : List ℕ) : Type 0 where
  pub html : List ℕ
  pub is_html : IsHtmlOfItems steps it (safe_setting schemes) html
  pub is_safe : AreNested is_html.events → IsSafeHtml schemes html
  pub is_appended : new ≡ old ++ html

-- No more is appended than the events that the iterator gives have room for.
pub record AppendsFew {I : Type 0} (steps : Steps I) (it : I) (old new : List ℕ) : Type 0 where
  pub events : List (EventView (List ℕ))
  pub are_given : AreGiven steps it events
  pub few : length new ≤ length old + 55 * length events + 6 * bytes_of events
