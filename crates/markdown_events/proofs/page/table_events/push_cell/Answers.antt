use Rattle.std.proofs.Common.{ℕ, List, ◌++◌, ◌∙◌, ap, length, map, subst, sym}
use Rattle.std.specs.Str.{IsUtf8}
use Rattle.std.proofs.lemmas.List.{map-append}
use Rattle.std.proofs.lemmas.Result.{on_ok_weaker}
use Rattle.markdown_blocks.specs.content.Bytes.{AreBytesOf}
use Rattle.markdown_blocks.specs.content.Content.{Placed}
use Rattle.markdown_blocks.proofs.ForCallers.{cell_utf8}
use Rattle.markdown_events.specs.InlineEvents.{AreInlineEvents, EventSetting, RangedEvent, seen_event}
use Rattle.markdown_events.specs.page.LeafContent.{CanPlace, EndWithin}
use Rattle.markdown_events.specs.page.Places.{placed}
use Rattle.markdown_events.specs.page.Readings.{seen_reading}
use Rattle.markdown_events.proofs.page.leaf_content.PlaceLemmas.{events_within}
use Rattle.markdown_events.proofs.page.table_events.AddedLemmas.{cell_added}
use Rattle.markdown_events.proofs.page.table_events.CellLemmas.{cell_can_place}
use Rattle.markdown_events.proofs.page.table_events.push_cell.Goals as goal

pub of_cell-source-requires : goal.of_cell-source-requires
of_cell-source-requires g c =
    subst (λ (p : Placed). IsUtf8 p.text) (sym c.in_ok-content.ensures.content)
    (cell_utf8 c.args.text.now c.args.cell c.requires.utf8 c.requires.in_order (c.requires.begins, c.requires.ends))

pub in_page-inner-requires-clause-offsets : goal.in_page-inner-requires-clause-offsets
in_page-inner-requires-clause-offsets g c =
    subst (CanPlace c.args.before) (sym c.in_ok-content.ensures.content)
    (cell_can_place c.args.before c.args.text.now c.args.cell c.requires.fits
    (subst (AreBytesOf c.args.text.now) c.in_ok-content.ensures.content c.in_ok-content.ensures.bytes))

pub in_page-inner-requires-clause-within : goal.in_page-inner-requires-clause-within
in_page-inner-requires-clause-within g c =
    subst (λ (t : List ℕ). EndWithin (length t) (map seen_event c.in_ok-inlines.inlines.items)) c.of_cell-source.ensures
    (events_within c.of_cell-source.result (map seen_event c.in_ok-inlines.inlines.items) c.in_ok-inlines.ensures.within)

pub returns : goal.returns
returns g c =
    let setting : EventSetting = seen_reading g.D.Definitions.targets c.args.reading.now in
    let before = c.args.before in
    let inlines = map seen_event c.in_ok-inlines.inlines.items in
    let begun = map seen_event c.push_event.new.events.items in
    let content_is = c.in_ok-content.ensures.content in
    let are = subst (λ (t : List ℕ). AreInlineEvents t setting inlines) (c.of_cell-source.ensures ∙ ap (λ (p : Placed). p.text) content_is)
    (c.in_ok-inlines.ensures.events setting.cells) in
    let moved = c.in_page-inner.ensures ∙ ap (λ (p : Placed). map (placed before p.offsets) inlines) content_is in
    let filled = ap (map seen_event) c.in_ok-append.ensures.items
    ∙ (map-append seen_event c.push_event.new.events.items c.in_page-inner.result.items ∙ ap (λ (es : List RangedEvent). begun ++ es) moved) in
    on_ok_weaker c.push_event-2.result (λ ended.
    cell_added setting before c.args.text.now c.args.cell inlines (map seen_event c.args.events.now.items) begun (map seen_event c.append.new.self.items)
    (map seen_event c.push_event-2.new.events.items) are c.in_ok-push_event.ensures filled ended) c.push_event-2.ensures
