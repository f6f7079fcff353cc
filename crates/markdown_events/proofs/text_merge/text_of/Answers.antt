use Rattle.std.proofs.Common.{Some, ◌≡◌}
use Rattle.markdown_events.specs.InlineEvents.{seen_event}
use Rattle.markdown_events.specs.TextMerge.{text_event}
use Rattle.markdown_events.proofs.text_merge.text_of.Goals as goal

pub returns-in-Some : goal.returns-in-Some
returns-in-Some c = λ more is.
    let seen : Some (seen_event (c.in-Some.event, c.in-Some.range)) ≡ Some (text_event more) = rw c.in-Some.is at is in
    c.text_in.ensures more cc
