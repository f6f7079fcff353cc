use Rattle.std.proofs.Common.{map, subst}
use Rattle.std.proofs.lemmas.Result.{IfOk-weaker}
use Rattle.markdown_events.specs.InlineEvents.{AreInlineEvents, EventSetting, event_setting, seen_event}
use Rattle.markdown_events.proofs.inline_events.Boundaries.{events_at_boundaries}
use Rattle.markdown_events.proofs.inline_events.inline_events.Goals as goal

pub returns-clause-boundaries : goal.returns-clause-boundaries
returns-clause-boundaries g c =
    let setting : EventSetting = event_setting c.args.extensions (g.D.Definitions.targets c.args.definitions.now) in
    IfOk-weaker c.source_events.result _ _ (λ events are.
    events_at_boundaries c.args.text.now setting (map seen_event events.items) c.utf8.text
    (subst (λ text. AreInlineEvents text setting (map seen_event events.items)) c.of_text-source.ensures (are 0)))
    c.source_events.ensures.events
