-- The links of a page.
use Rattle.std.specs.Prelude.{ℕ, Bool, true, false, ◌≡◌, List, Option, Some, None}
use Rattle.std.specs.List.{filter_map}
use Rattle.std.specs.declared.ops.Range.{Range}
use Rattle.markdown_values.specs.declared.values.LinkType.{LinkType}
use Rattle.markdown_values.specs.strings.Text.{cow_text}
use Rattle.markdown_values.specs.values.Events.{start}
use Rattle.markdown_values.specs.values.Tags.{link, image}
use Rattle.markdown_events.specs.InlineEvents.{RangedEvent}
use Rattle.markdown_values.specs.declared.values.extensions.Extensions.{Extensions}
use Rattle.markdown_events.specs.page.PageEvents.{ArePageEvents}
use Rattle.page_links.specs.declared.links.PageLink.{PageLink}

-- A link or an image: the bytes of the page that it is written in, how, where it leads, its title, and the label of a reference.
pub record Seen : Type 0 where
  pub range : Range ℕ
  pub is_image : Bool
  pub link_type : LinkType
  pub destination : List ℕ
  pub title : List ℕ
  pub label : List ℕ

abbrev pub seen_link : PageLink → Seen
seen_link it = record {
  range = it.range;
  is_image = it.is_image;
  link_type = it.link_type;
  destination = cow_text it.destination;
  title = cow_text it.title;
  label = cow_text it.label;
}

-- the link or the image that an event starts, if it starts one
abbrev pub link_of : RangedEvent → Option Seen
link_of (start (link kind destination title label), range) =
    Some (record { range = range; is_image = false; link_type = kind; destination = destination; title = title; label = label })
link_of (start (image kind destination title label), range) =
    Some (record { range = range; is_image = true; link_type = kind; destination = destination; title = title; label = label })
link_of event = None

-- These are the links and the images of a page: those that its events start, in their order.
pub record AreLinksOf (page : List ℕ) (setting : Extensions) (links : List Seen) : Type 0 where
  pub events : List RangedEvent
  pub are_events : ArePageEvents page setting events
  pub are_links : links ≡ filter_map link_of events
