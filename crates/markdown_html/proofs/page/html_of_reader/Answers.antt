use Rattle.std.proofs.Common.{[], ◌∙◌, ap, rules, subst, sym}
use Rattle.markdown_events.specs.InlineEvents.{seen_event}
use Rattle.markdown_events.specs.page.Given.{Gives, IsDone}
use Rattle.markdown_events.proofs.ForCallers.{given_first, given_none}
use Rattle.markdown_html.specs.Html.{after_events}
use Rattle.markdown_html.specs.PageHtml.{without_ranges}
use Rattle.markdown_html.specs.Settings.{Setting, seen_setting}
use Rattle.markdown_html.specs.States.{HtmlState}
use Rattle.markdown_html.proofs.page.html_of_reader.Goals as goal

pub loop-writer-preserved : goal.loop-writer-preserved
loop-writer-preserved g c = λ rest gives.
    let setting : Setting = seen_setting g.A.AllowedAddresses.allows c.args.setting.now in
    let first = rw c.in-Some.is at c.first.ensures.event in
    let before = given_first c.fill.new.self (seen_event c.in-Some.field-0.now) rest first (subst (λ left. Gives left rest) c.pass_first.ensures gives) in
    let whole = c.loop-writer.invariant _ (c.fill.ensures.same _ before) in
    (whole.0, whole.1, whole.2 ∙ ap (after_events setting (without_ranges rest)) (sym c.in_ok-push_lent.ensures.html))

pub returns-in_default : goal.returns-in_default
returns-in_default g c =
    let done : IsDone c.fill.new.self = search rules in
    let whole = c.loop-writer.invariant [] (c.fill.ensures.same [] (given_none c.fill.new.self done)) in
    record { events = whole.0; are_given = whole.1; is_html = c.into_string.ensures ∙ sym (ap (λ (s : HtmlState). s.output) whole.2) }
