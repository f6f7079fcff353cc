use Rattle.std.proofs.Common.{List, ◌≡◌}
use Rattle.markdown_events.specs.InlineEvents.{RangedEvent}
use Rattle.markdown_events.specs.page.Given.{Gives, events_left}
use Rattle.markdown_events.specs.page.PageEvents.{ArePageEvents}
use Rattle.page_links.specs.headings.Headings.{after_events, none_read, seen_headings}
use Rattle.page_links.proofs.headings.slugs_of_page.Given as goal

-- whatever events are left, what is read and they come to what the events of the page do
abbrev pub invariant-loop-headings : goal.invariant-loop-headings
invariant-loop-headings l =
    (later : List RangedEvent) → Gives l.reader later
    → (events : List RangedEvent) × ArePageEvents l.page l.fn.setting events
    × (after_events later (seen_headings l.headings) ≡ after_events events none_read)

abbrev pub decreases-loop-headings : goal.decreases-loop-headings
decreases-loop-headings l = events_left l.reader
