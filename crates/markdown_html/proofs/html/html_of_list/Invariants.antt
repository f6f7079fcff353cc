-- what is written is the HTML of the events so far
use Rattle.std.proofs.Common.{◌≡◌, map}
use Rattle.markdown_values.specs.strings.Text.{cow_text}
use Rattle.markdown_values.specs.values.Events.{event_view}
use Rattle.markdown_html.specs.Html.{after_events}
use Rattle.markdown_html.specs.Settings.{seen_setting}
use Rattle.markdown_html.specs.States.{nothing_written}
use Rattle.markdown_html.proofs.html.html_of_list.Given as goal

abbrev pub invariant-loop-event : goal.invariant-loop-event
invariant-loop-event g l =
    l.writer ≡ after_events (seen_setting g.A.AllowedAddresses.allows l.setting) (map (event_view cow_text) l.yielded) nothing_written
