-- What is written after one more event.
use Rattle.std.proofs.Common.{◌≡◌, List, [], ◌∷◌, ◌++◌, map, refl}
use Rattle.markdown_values.specs.strings.Text.{cow_text}
use Rattle.markdown_values.specs.values.Events.{event_view}
use Rattle.markdown_values.specs.declared.values.events.Event.{Event}
use Rattle.markdown_html.specs.Html.{after_event, after_events}
use Rattle.markdown_html.specs.Settings.{Setting}
use Rattle.markdown_html.specs.States.{HtmlState}

pub after_one_more : (setting : Setting) (events : List Event) (event : Event) (s : HtmlState)
    → after_events setting (map (event_view cow_text) (events ++ event ∷ [])) s
    ≡ after_event setting (event_view cow_text event) (after_events setting (map (event_view cow_text) events) s)
after_one_more setting [] event s = refl
after_one_more setting (first ∷ later) event s = after_one_more setting later event (after_event setting (event_view cow_text first) s)
