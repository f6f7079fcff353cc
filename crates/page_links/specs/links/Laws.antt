-- What holds of the links of a page, without what is said of each.
use Rattle.std.specs.Prelude.{ℕ, Bool, true, false, ◌≡◌, List, [], ◌∷◌, filter, map, ⊤}
use Rattle.markdown_values.specs.declared.values.tags.TagEnd.{TagEnd}
use Rattle.markdown_values.specs.declared.values.tags.TagEnd.TheVariants as End
use Rattle.markdown_values.specs.values.Events.{start}
use Rattle.markdown_events.specs.EventLaws.{LiesIn}
use Rattle.markdown_events.specs.InlineEvents.{RangedEvent}
use Rattle.markdown_events.specs.TagEnds.{tag_end}
use Rattle.markdown_values.specs.declared.values.extensions.Extensions.{Extensions}
use Rattle.markdown_events.specs.page.PageEvents.{ArePageEvents}
use Rattle.page_links.specs.links.Links.{Seen}

-- an element that is a link or an image, by its end
abbrev pub is_link : TagEnd → Bool
is_link End.Link = true
is_link End.Image = true
is_link tag = false

-- an event starts one
abbrev pub starts_link : RangedEvent → Bool
starts_link (start tag, range) = is_link (tag_end tag)
starts_link event = false

-- As many links as events of the page start one, and each where that event is.
pub record AreStarted (page : List ℕ) (setting : Extensions) (links : List Seen) : Type 0 where
  pub events : List RangedEvent
  pub are_events : ArePageEvents page setting events
  pub at_starts : map (λ it. it.range) links ≡ map (λ event. event.1) (filter starts_link events)

-- From an offset on, none begins before the one that is listed before it, and each ends within the page.
abbrev pub RiseFrom : ℕ → ℕ → List Seen → Type 0
RiseFrom from size [] = ⊤
RiseFrom from size (it ∷ later) = LiesIn from size it.range × RiseFrom it.range.start size later
