-- From each list of events that the reader goes on to give, one follows that it gave at first, and its HTML is what is written then
use Rattle.std.proofs.Common.{List, ◌≡◌}
use Rattle.markdown_events.specs.InlineEvents.{RangedEvent}
use Rattle.markdown_events.specs.page.Given.{Gives, events_left}
use Rattle.markdown_html.specs.Html.{after_events}
use Rattle.markdown_html.specs.PageHtml.{without_ranges}
use Rattle.markdown_html.specs.Settings.{seen_setting}
use Rattle.markdown_html.specs.States.{nothing_written}
use Rattle.markdown_html.proofs.page.html_of_reader.Given as goal

abbrev pub invariant-loop-writer : goal.invariant-loop-writer
invariant-loop-writer g l = (rest : List RangedEvent) → Gives l.reader rest
    → (all : List RangedEvent) × Gives l.initial.reader all
    × (after_events (seen_setting g.A.AllowedAddresses.allows l.setting) (without_ranges all) nothing_written
    ≡ after_events (seen_setting g.A.AllowedAddresses.allows l.setting) (without_ranges rest) l.writer)

abbrev pub decreases-loop-writer : goal.decreases-loop-writer
decreases-loop-writer g l = events_left l.reader
