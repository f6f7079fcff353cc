use Rattle.std.proofs.Common.{◌∙◌, ap, sym}
use Rattle.markdown_values.specs.strings.Text.{cow_text}
use Rattle.markdown_values.specs.values.Events.{event_view}
use Rattle.markdown_html.specs.Html.{after_event}
use Rattle.markdown_html.specs.Settings.{Setting, seen_setting}
use Rattle.markdown_html.specs.States.{nothing_written}
use Rattle.markdown_html.proofs.EventLemmas.{after_one_more}
use Rattle.markdown_html.proofs.html.html_of_list.Goals as goal

pub loop-event-preserved : goal.loop-event-preserved
loop-event-preserved g c =
    let setting : Setting = seen_setting g.A.AllowedAddresses.allows c.args.setting.now in
    c.in_ok-push.ensures.html
    ∙ ap (after_event setting (event_view cow_text c.in-Some.event)) c.loop-event.invariant
    ∙ sym (after_one_more setting c.loop-event.yielded c.in-Some.event nothing_written)
