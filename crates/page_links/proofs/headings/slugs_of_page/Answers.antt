use Rattle.std.proofs.Common.{[], ◌∷◌, ap, ◌∙◌}
use Rattle.markdown_events.specs.InlineEvents.{seen_event}
use Rattle.page_links.specs.headings.Headings.{after_events}
use Rattle.page_links.proofs.headings.slugs_of_page.Goals as goal

pub loop-headings-init : goal.loop-headings-init
loop-headings-init c = λ later gives. (later, c.in_ok-reader.ensures.page later gives, ap (after_events later) c.new-headings.ensures)

pub loop-headings-preserved : goal.loop-headings-preserved
loop-headings-preserved c = λ later gives.
    let event = seen_event c.in-Some.event in
    let given = rw c.in-Some.is at c.in_ok-event.ensures.event in
    let whole = c.loop-headings.invariant (event ∷ later) (given later gives) in
    (whole.0, whole.1, ap (after_events later) c.in_ok-pass.ensures ∙ whole.2)

pub returns : goal.returns
returns c =
    let none = rw c.in_default.is at c.in_ok-event.ensures.none in
    let whole = c.loop-headings.invariant [] none in
    record { events = whole.0; are_events = whole.1; are_slugs = ap (λ it. it.slugs) whole.2 }
