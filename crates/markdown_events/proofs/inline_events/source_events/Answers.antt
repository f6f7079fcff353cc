use Rattle.std.proofs.Common.{[], arith, refl, rules, map, subst}
use Rattle.std.specs.List.{All}
use Rattle.markdown_events.specs.EventLaws.{AreWithin}
use Rattle.markdown_events.specs.InlineEvents.{AreEvents, AreInlineEvents, EventSetting, event_setting, seen_event}
use Rattle.markdown_events.specs.Passes.{IsFound}
use Rattle.markdown_events.specs.Targets.{Targets}
use Rattle.markdown_events.proofs.inline_events.Found.{text_found, text_ends, text_within}
use Rattle.markdown_events.proofs.inline_events.Laws.{events_balance}
use Rattle.markdown_events.proofs.inline_events.source_events.Goals as goal

-- for each of its lifetimes
pub push_inlines-requires : goal.push_inlines-requires
push_inlines-requires g c = λ lifetimes.
    let targets : Targets = g.D.Definitions.targets c.args.definitions.now in
    let found = c.in_ok-find.ensures in
    let finder = c.find.new.self in
    let inlines = c.inlines-2.result.now in
    let known = text_found c.text.result.now c.args.extensions targets finder.inlines finder.links c.text.utf8
    found.links found.inlines c.links.result.now inlines c.links.ensures c.inlines-2.ensures in
    let ends = text_ends c.text.result.now c.args.extensions targets finder.inlines finder.links c.text.utf8
    found.links found.inlines inlines 18446744073709551616 c.inlines-2.ensures found.sources (omega arith) in (
      (refl, tt),
      (subst (λ text. All (IsFound text targets c.links.result.now) inlines) c.text.ensures known, (ends, search rules)),
    )

pub returns-clause-balanced : goal.returns-clause-balanced
returns-clause-balanced g c =
    let setting : EventSetting = event_setting c.args.extensions (g.D.Definitions.targets c.args.definitions.now) in
    let are : AreInlineEvents c.args.source.now setting (map seen_event c.into_parts-events.result.0.items) = search rules in
    events_balance c.args.source.now setting (map seen_event c.into_parts-events.result.0.items) are

pub returns-clause-within : goal.returns-clause-within
returns-clause-within g c =
    let targets : Targets = g.D.Definitions.targets c.args.definitions.now in
    let found = c.in_ok-find.ensures in
    let finder = c.find.new.self in
    let are : AreEvents c.text.result.now targets finder.links [] finder.inlines (map seen_event c.into_parts-events.result.0.items) = search rules in
    subst (λ text. AreWithin text (map seen_event c.into_parts-events.result.0.items)) c.text.ensures
    (text_within c.text.result.now c.args.extensions targets finder.inlines finder.links c.text.utf8
    found.links found.inlines (map seen_event c.into_parts-events.result.0.items) found.nested found.sources are)
