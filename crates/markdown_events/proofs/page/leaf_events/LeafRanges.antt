-- The ranges of a leaf block's events rise, where its content stands after what has passed.
use Rattle.std.proofs.Common.{ℕ, ◌≤◌, ◌≡◌, Bool, true, false, List, [], ◌∷◌, ◌++◌, length, take, drop, Some, None, sym, subst, arith}
use Rattle.std.proofs.lemmas.List.{length-take}
use Rattle.markdown_values.specs.values.Tags.{TagView, code_block, html_block, paragraph}
use Rattle.markdown_blocks.specs.declared.blocks.BlockKind.{BlockKind}
use Rattle.markdown_blocks.specs.declared.blocks.BlockKind.TheVariants.{Blank, Break, Heading, Setext, Indented, Fenced, Html, Paragraph, Definition, Table}
use Rattle.markdown_blocks.specs.events.Events.{LeafBlock}
use Rattle.markdown_blocks.specs.laws.Order.{HoldsText}
use Rattle.markdown_blocks.proofs.ForCallers.{HasInlines, content_bytes, content_sizes, inlines_strictly}
use Rattle.markdown_events.specs.EventLaws.{RiseIn}
use Rattle.markdown_events.specs.InlineEvents.{EventSetting, RangedEvent}
use Rattle.markdown_events.specs.page.LeafEvents.{AreLeafEvents, AreLeafEventsOf, AreTextEvents, Place, enclosed, in_paragraph}
use Rattle.markdown_events.specs.page.LeafEvents.{lines_in_page, plain_heading}
use Rattle.markdown_events.specs.page.Spans.{block_end}
use Rattle.markdown_events.proofs.inline_events.Filled.{RiseFilled}
use Rattle.markdown_events.proofs.inline_events.Laws.{events_balance, events_filled}
use Rattle.markdown_events.proofs.inline_events.Rise.{rise_from}
use Rattle.markdown_events.proofs.page.NodeRanges.{element_rises}
use Rattle.markdown_events.proofs.page.leaf_events.LineRanges.{ContentAfter, enclosed_rises}
use Rattle.markdown_events.proofs.page.leaf_events.TextRanges.{placed_rise}
use Rattle.markdown_events.proofs.page.table_events.TableRanges.{table_rises}

-- what rises after the end of a block does so after these events of it, from one offset on
abbrev pub RiseTo : ℕ → LeafBlock → List RangedEvent → Type 0
RiseTo passed block events = (from to : ℕ) (ends : List ℕ) (rest : List RangedEvent) → from ≤ passed → block_end block ≤ to
    → RiseIn (to ∷ ends) (block_end block) rest → RiseIn (to ∷ ends) from (events ++ rest)

module _ (page : List ℕ) (setting : EventSetting) (here : Place) (block : LeafBlock) (passed : ℕ) (own : passed ≤ block.offset)
    (ends_after : block.offset ≤ block_end block) where
  rises_with : (events inner : List RangedEvent) → events ≡ inner → RiseTo passed block inner → RiseTo passed block events
  rises_with events inner is rises = subst (RiseTo passed block) (sym is) rises

  none_rises : (events : List RangedEvent) → events ≡ [] → RiseTo passed block events
  none_rises events is = rises_with events [] is (λ from to ends rest low fits gives.
      rise_from (to ∷ ends) from (block_end block) rest (omega (arith, low, own, ends_after)) gives)

  -- text from the offset on where the block's own begins
  text_rises : HasInlines block.kind → ContentAfter block.offset page here block
      → (inner : List RangedEvent) → AreTextEvents page setting here block inner → RiseTo block.offset block inner
  text_rises has after inner are from to ends rest low fits gives =
      let content = are.content in
      let text = take block.bytes (drop block.start page) in
      let each = content_sizes block.kind here.containers here.kept (lines_in_page page block) content are.is_content in
      let stands = content_bytes block.kind here.containers here.kept text content are.is_content in
      let few : length text ≤ block.bytes = omega (arith, length-take block.bytes (drop block.start page)) in
      let filled = events_filled content.text setting are.inlines are.are_inlines in
      subst (λ (es : List RangedEvent). RiseIn (to ∷ ends) from (es ++ rest)) (sym are.are_events)
      (placed_rise block.start content.offsets
      (inlines_strictly block.kind here.containers here.kept (lines_in_page page block) content has are.is_content) (block_end block)
      (λ offset inside. let there = stands offset (omega (arith, inside, each)) in omega (arith, there.0, few)) to ends rest fits gives are.inlines from
      (omega (arith, low, ends_after))
      (λ i inside. let there = after content are.is_content i (omega (arith, inside, each)) in omega (arith, low, there))
      (events_balance content.text setting are.inlines are.are_inlines)
      (subst (λ n. RiseFilled (n ∷ []) 0 are.inlines) (sym each) filled))

  whole_rises : (tag : TagView (List ℕ)) (inner : List RangedEvent) → RiseTo block.offset block inner → RiseTo passed block (enclosed tag block inner)
  whole_rises tag inner rises from to ends rest low fits gives =
      element_rises tag block.offset (block_end block) from to ends inner rest (omega (arith, low, own)) ends_after fits
      (λ more closed. rises block.offset (block_end block) (to ∷ ends) more (omega arith) (omega arith) closed) gives

  pub paragraph_rises : (is_tight : Bool) (inner : List RangedEvent) → RiseTo block.offset block inner → RiseTo passed block (in_paragraph is_tight block inner)
  paragraph_rises true inner rises = λ from to ends rest low fits gives. rises from to ends rest (omega (arith, low, own)) fits gives
  paragraph_rises false inner rises = whole_rises paragraph inner rises

  module _ (after : ContentAfter passed page here block) (holds : HoldsText page here.containers here.kept block) where
    kind_rises : (kind : BlockKind) (events : List RangedEvent) → AreLeafEventsOf kind page setting here block events
        → ((HasInlines kind) → (inner : List RangedEvent) → AreTextEvents page setting here block inner → RiseTo block.offset block inner)
        → RiseTo passed block events
    kind_rises Blank events is text = none_rises events is
    kind_rises Definition events is text = none_rises events is
    kind_rises Break events is text = rises_with events _ is (λ from to ends rest low fits gives.
        (record { begins = omega (arith, low, own); in_order = ends_after; ends = fits }, gives))
    kind_rises (Heading level) events (inner, are, is) text = rises_with events _ is (whole_rises (plain_heading level) inner (text tt inner are))
    kind_rises (Setext level) events (inner, are, is) text = rises_with events _ is (whole_rises (plain_heading level) inner (text tt inner are))
    kind_rises Paragraph events (inner, are, is) text = rises_with events _ is (paragraph_rises here.is_tight inner (text tt inner are))
    kind_rises Indented events (inner, are, is) text =
        rises_with events _ is (enclosed_rises page here block passed own ends_after after (code_block None) false inner are)
    kind_rises (Fenced count byte) events (inner, info, are, means, is) text =
        rises_with events _ is (enclosed_rises page here block passed own ends_after after (code_block (Some info)) false inner are)
    kind_rises (Html kind) events (inner, are, is) text =
        rises_with events _ is (enclosed_rises page here block passed own ends_after after html_block true inner are)
    kind_rises (Table columns) events is text = table_rises page setting here block passed own ends_after holds columns events is

-- The events of a leaf block rise: where its content stands after what has passed, and that of inlines from the block's own text on.
pub leaf_rises : (page : List ℕ) (setting : EventSetting) (here : Place) (passed : ℕ) (block : LeafBlock) → passed ≤ block.offset
    → block.offset ≤ block_end block → ContentAfter passed page here block → (HasInlines block.kind → ContentAfter block.offset page here block)
    → HoldsText page here.containers here.kept block → (events : List RangedEvent) → AreLeafEvents page setting here block events
    → RiseTo passed block events
leaf_rises page setting here passed block own ends_after after own_after holds events are =
    kind_rises page setting here block passed own ends_after after holds block.kind events are
    (λ has inner are_inner. text_rises page setting here block passed own ends_after has (own_after has) inner are_inner)
