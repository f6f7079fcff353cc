-- The HTML of the events that a reader of a whole page has left is that of the page; and what is read of it.
use Rattle.std.proofs.Common.{ℕ, List, ◌≡◌, subst, sym}
use Rattle.markdown_events.specs.InlineEvents.{RangedEvent}
use Rattle.markdown_events.specs.InsecureCharacters.{replace_nul}
use Rattle.markdown_events.specs.Nesting.{without_ranges}
use Rattle.markdown_values.specs.declared.values.extensions.Extensions.{Extensions}
use Rattle.markdown_events.specs.page.Given.{PageLeft, Gives}
use Rattle.markdown_events.specs.page.PageEvents.{ArePageEvents}
use Rattle.markdown_events.proofs.ForCallers.{page_events_nest}
use Rattle.markdown_html.specs.Content.{content}
use Rattle.markdown_html.specs.HtmlSizes.{FitsPage}
use Rattle.markdown_html.specs.PageHtml.{HoldsPage, IsHtmlFrom, IsHtmlOf}
use Rattle.markdown_html.specs.ReadHtml.{Reads}
use Rattle.markdown_html.specs.Settings.{Setting}
use Rattle.markdown_html.proofs.HtmlReads.{html_reads}
use Rattle.markdown_html.proofs.PagePrices.{html_fits_page}

pub html_of_whole : (page text : List ℕ) (asked : Extensions) (left : PageLeft) (setting : Setting) (html : List ℕ)
    → text ≡ replace_nul page → ((events : List RangedEvent) → Gives left events → ArePageEvents text asked events)
    → IsHtmlFrom left setting html → IsHtmlOf page asked setting html
html_of_whole page text asked left setting html same whole is = record {
  events = is.events;
  are_events = subst (λ it. ArePageEvents it asked is.events) same (whole is.events is.are_given);
  is_html = is.is_html;
}

pub page_html_read : (page : List ℕ) (asked : Extensions) (setting : Setting) (html : List ℕ) → IsHtmlOf page asked setting html
    → HoldsPage page asked setting html
page_html_read page asked setting html is = record {
  events = is.events;
  are_events = is.are_events;
  is_read = subst (λ it. Reads it (content setting (without_ranges is.events))) (sym is.is_html)
      (html_reads setting (without_ranges is.events) (page_events_nest (replace_nul page) asked is.events is.are_events));
}

pub page_html_few : (page : List ℕ) (asked : Extensions) (setting : Setting) (html : List ℕ) → IsHtmlOf page asked setting html
    → FitsPage (replace_nul page) html
page_html_few page asked setting html is =
    subst (FitsPage (replace_nul page)) (sym is.is_html) (html_fits_page (replace_nul page) asked setting is.events is.are_events)
