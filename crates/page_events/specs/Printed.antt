-- What the program prints of a page: a line for each of its events, in words or as JSON.
use Rattle.std.specs.Prelude.{ℕ, ◌≡◌, List}
use Rattle.std.specs.List.{flat_map}
use Rattle.std.specs.Str.{IsUtf8}
use Rattle.markdown_events.specs.InlineEvents.{RangedEvent}
use Rattle.markdown_values.specs.declared.values.extensions.Extensions.{Extensions}
use Rattle.markdown_events.specs.page.PageEvents.{ArePageEvents}
use Rattle.page_events.specs.declared.page.EventForm.{EventForm}
use Rattle.page_events.specs.declared.page.EventForm.TheVariants.{Words, Json}
use Rattle.page_events.specs.Json.{event_json}
use Rattle.page_events.specs.Lines.{event_line}

-- the line of an event in this form
abbrev pub line_in : EventForm → RangedEvent → List ℕ
line_in Words event = event_line event
line_in Json event = event_json event

-- The text is the lines of the page's events, which is read in this way.
pub record AreEventLines (form : EventForm) (setting : Extensions) (page text : List ℕ) : Type 0 where
  pub events : List RangedEvent
  pub is_text : IsUtf8 page
  pub are_events : ArePageEvents page setting events
  pub are_lines : text ≡ flat_map (line_in form) events
