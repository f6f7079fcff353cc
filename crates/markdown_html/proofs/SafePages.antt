-- The HTML of each page is safe, as is that of other events that nest, where its setting is.
use Rattle.std.proofs.Common.{ℕ, List, ◌≡◌, sym, subst}
use Rattle.markdown_values.specs.values.Events.{EventView}
use Rattle.markdown_events.specs.InsecureCharacters.{replace_nul}
use Rattle.markdown_events.specs.Nesting.{AreNested, without_ranges}
use Rattle.markdown_values.specs.declared.values.extensions.Extensions.{Extensions}
use Rattle.markdown_events.proofs.ForCallers.{page_events_nest}
use Rattle.markdown_html.specs.Html.{html_of}
use Rattle.markdown_html.specs.PageHtml.{IsHtmlOf}
use Rattle.markdown_html.specs.SafeHtml.{IsSafeHtml}
use Rattle.markdown_html.specs.SafeSetting.{IsSafeWith}
use Rattle.markdown_html.specs.Settings.{Setting}
use Rattle.markdown_html.proofs.SafeEvents.{html_is_safe}

pub nested_html_is_safe : (setting : Setting) (events : List (EventView (List ℕ))) (html : List ℕ) → html ≡ html_of setting events → AreNested events
    → IsSafeWith setting html
nested_html_is_safe setting events html is nested schemes safe =
    subst (IsSafeHtml schemes) (sym is) (html_is_safe schemes setting safe events nested)

pub page_html_is_safe : (page : List ℕ) (asked : Extensions) (setting : Setting) (html : List ℕ) → IsHtmlOf page asked setting html
    → IsSafeWith setting html
page_html_is_safe page asked setting html is =
    nested_html_is_safe setting (without_ranges is.events) html is.is_html (page_events_nest (replace_nul page) asked is.events is.are_events)
