-- No item was an error, and what is written is the HTML of the events so far.
use Rattle.std.proofs.Common.{◌≡◌, List, map, Ok}
use Rattle.markdown_values.specs.strings.Text.{cow_text}
use Rattle.markdown_values.specs.values.Events.{event_view}
use Rattle.markdown_values.specs.declared.values.events.Event.{Event}
use Rattle.markdown_html.specs.Html.{after_events}
use Rattle.markdown_html.specs.Settings.{seen_setting}
use Rattle.markdown_html.specs.States.{nothing_written}
use Rattle.markdown_html.proofs.push.html_of_items.Given as goal

abbrev pub invariant-loop-item : goal.invariant-loop-item
invariant-loop-item g l =
    (goal.iterator-loop-item g).can_next l.item-iterator
    × (goal.iterator-loop-item g).is_finite l.item-iterator
    × ((given : List Event) × (l.yielded ≡ map Ok given)
    × (l.writer ≡ after_events (seen_setting g.A.AllowedAddresses.allows l.setting) (map (event_view cow_text) given) nothing_written))
