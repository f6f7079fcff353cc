-- The HTML of a page.
use Rattle.std.specs.Prelude.{ℕ, ◌≡◌, List}
use Rattle.markdown_events.specs.InlineEvents.{RangedEvent}
use Rattle.markdown_events.specs.InsecureCharacters.{replace_nul}
pub use Rattle.markdown_events.specs.Nesting.{without_ranges}
use Rattle.markdown_values.specs.declared.values.extensions.Extensions.{Extensions}
use Rattle.markdown_events.specs.page.Given.{PageLeft, Gives}
use Rattle.markdown_events.specs.page.PageEvents.{ArePageEvents}
use Rattle.markdown_html.specs.Content.{content}
use Rattle.markdown_html.specs.Html.{html_of}
use Rattle.markdown_html.specs.ReadHtml.{Reads}
use Rattle.markdown_html.specs.Settings.{Setting}

-- This is the HTML of the events of a page, which is read with U+FFFD in the place of each U+0000 (2.3).
pub record IsHtmlOf (page : List ℕ) (asked : Extensions) (setting : Setting) (html : List ℕ) : Type 0 where
  pub events : List RangedEvent
  pub are_events : ArePageEvents (replace_nul page) asked events
  pub is_html : html ≡ html_of setting (without_ranges events)

-- What is read of the HTML is what the events of a page hold: their elements and texts, and raw HTML where that is kept.
pub record HoldsPage (page : List ℕ) (asked : Extensions) (setting : Setting) (html : List ℕ) : Type 0 where
  pub events : List RangedEvent
  pub are_events : ArePageEvents (replace_nul page) asked events
  pub is_read : Reads html (content setting (without_ranges events))

-- This is the HTML of the events that are left.
pub record IsHtmlFrom (left : PageLeft) (setting : Setting) (html : List ℕ) : Type 0 where
  pub events : List RangedEvent
  pub are_given : Gives left events
  pub is_html : html ≡ html_of setting (without_ranges events)
