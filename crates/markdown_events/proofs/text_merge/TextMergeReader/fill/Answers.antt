use Rattle.std.proofs.Common.{List, subst, sym, ◌∙◌}
use Rattle.std.specs.Prelude.{option_map}
use Rattle.markdown_events.specs.InlineEvents.{RangedEvent, seen_event}
use Rattle.markdown_events.specs.TextMerge.{GivesMergedWith, MergeLeft}
use Rattle.markdown_events.proofs.text_merge.MergeLemmas.{filled, unread_none}
use Rattle.markdown_events.proofs.text_merge.TextMergeReader.fill.Goals as goal

pub returns-clause-same : goal.returns-clause-same
returns-clause-same g c =
    let more = g.B.Definitions.targets c.args.broken.now in
    let inside = c.self.inside in
    let old : MergeLeft = record { left = inside.reader; joining = inside.joining; after = option_map seen_event inside.after } in
    subst (λ (m : MergeLeft). (events : List RangedEvent) → GivesMergedWith more c.put_after.new.self events → GivesMergedWith more m events)
    c.self.view_is
    (λ events given. filled more old c.next_with.new.self c.in_ok-event.event (unread_none inside.after (sym c.is_some.ensures ∙ c.if-is_some.false))
    c.in_ok-event.ensures.event c.in_ok-event.ensures.none c.in_ok-event.ensures.done events
    (subst (λ (m : MergeLeft). GivesMergedWith more m events) c.put_after.ensures given))
