use Rattle.std.proofs.Common.{List, ℕ, ◌∷◌, ◌≡◌, ◌≤◌, ◌∙◌, ap, drop, length, map, subst, sym}
use Rattle.std.specs.Str.{IsUtf8}
use Rattle.std.proofs.lemmas.Result.{IfOk-weaker}
use Rattle.markdown_blocks.specs.events.Events.{seen_leaf}
use Rattle.markdown_events.specs.page.Readings.{seen_place, seen_reading}
use Rattle.markdown_events.specs.InlineEvents.{AreInlineEvents, EventSetting, RangedEvent, seen_event}
use Rattle.markdown_events.specs.page.LeafContent.{EndWithin, LieInBlock}
use Rattle.markdown_events.specs.page.LeafEvents.{Place, in_paragraph}
use Rattle.markdown_events.specs.page.TaskEvents.{marker_end, marker_event}
use Rattle.markdown_events.proofs.page.leaf_content.PlaceLemmas.{events_within}
use Rattle.markdown_events.proofs.page.task_events.RestLemmas.{rest_lies, task_is}
use Rattle.markdown_events.proofs.page.task_events.TaskCuts.{marked_utf8, marker_fits}
use Rattle.markdown_events.proofs.page.task_events.task_events.Goals as goal

pub of_content-source-requires-clause-utf8 : goal.of_content-source-requires-clause-utf8
of_content-source-requires-clause-utf8 g c =
    let rest = subst (λ (t : List ℕ). drop c.marker_end-front.result t ≡ drop (marker_end c.args.task.len t) t) c.text.ensures
    c.marker_end-front.ensures.rest in
    subst IsUtf8 (sym rest)
    (marked_utf8 c.args.reading.now.page.now c.args.here.containers.now c.args.here.kept (seen_leaf c.args.leaf) c.args.task
    c.requires.marker c.in_ok-content.content c.in_ok-content.ensures.content)

pub with_marker-requires : goal.with_marker-requires
with_marker-requires g c = record {
  fits = marker_fits c.args.reading.now.page.now c.args.here.containers.now c.args.here.kept (seen_leaf c.args.leaf) c.args.task
      c.requires.marker c.args.leaf.ends;
}

pub rest_in_page-moved-requires-clause-within : goal.rest_in_page-moved-requires-clause-within
rest_in_page-moved-requires-clause-within g c =
    subst (λ (t : List ℕ). EndWithin (length t) (map seen_event c.in_ok-events.events.items)) c.of_content-source.ensures
    (events_within c.of_content-source.result (map seen_event c.in_ok-events.events.items) c.in_ok-events.ensures.within)

pub returns-clause-events : goal.returns-clause-events
returns-clause-events g c =
    let setting : EventSetting = seen_reading g.D.Definitions.targets c.args.reading.now in
    let here : Place = seen_place c.args.here in
    let block = seen_leaf c.args.leaf in
    let content = c.in_ok-content.content in
    let inlines = map seen_event c.in_ok-events.events.items in
    let front = c.marker_end-front.result in
    let rest = subst (λ (t : List ℕ). drop front t ≡ drop (marker_end c.args.task.len t) t) c.text.ensures c.marker_end-front.ensures.rest in
    let low = subst (λ (t : List ℕ). front ≤ length t) c.text.ensures c.marker_end-front.ensures.within in
    let are = subst (λ (t : List ℕ). AreInlineEvents t setting inlines) c.of_content-source.ensures
    (c.in_ok-events.ensures.events setting.cells) in
    IfOk-weaker c.in_paragraph.result _ _ (λ events is.
    task_is c.args.reading.now.page.now setting here block c.args.task content inlines front (map seen_event events.items) c.in_ok-content.ensures.content
    c.in_ok-content.ensures.offsets.each low rest are
    (is ∙ ap (in_paragraph c.args.here.is_tight block)
    (c.in_ok-inner.ensures ∙ ap (λ (es : List RangedEvent). marker_event c.args.task ∷ es) c.rest_in_page-moved.ensures)))
    c.in_paragraph.ensures.enclosed

pub returns-clause-within : goal.returns-clause-within
returns-clause-within g c =
    let block = seen_leaf c.args.leaf in
    let events = map seen_event c.in_ok-events.events.items in
    let front = c.marker_end-front.result in
    let low = subst (λ (t : List ℕ). front ≤ length t) c.text.ensures c.marker_end-front.ensures.within in
    let within = subst (λ (t : List ℕ). EndWithin (length t) events) c.of_content-source.ensures
    (events_within c.of_content-source.result events c.in_ok-events.ensures.within) in
    let rest = rest_lies c.args.reading.now.page.now block c.args.here.containers.now c.args.here.kept c.in_ok-content.content
    c.in_ok-content.ensures.content front low events within in
    let inner_is = c.in_ok-inner.ensures ∙ ap (λ (es : List RangedEvent). marker_event c.args.task ∷ es) c.rest_in_page-moved.ensures in
    IfOk-weaker c.in_paragraph.result _ _ (λ all lies offset marker.
    lies offset (subst (LieInBlock block) (sym inner_is) (marker, rest))) c.in_paragraph.ensures.within
