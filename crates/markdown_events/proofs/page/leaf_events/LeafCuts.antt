-- The ranges of a leaf block's events begin and end at character boundaries of the page.
use Rattle.std.proofs.Common.{ℕ, Bool, true, false, List, drop, take, Some, None, refl, sym, subst, arith}
use Rattle.markdown_values.specs.values.Events.{EventView, html, text}
use Rattle.markdown_values.specs.values.Tags.{code_block, html_block, paragraph}
use Rattle.markdown_scanners_tree.specs.scanners.TextLines.{lines_of}
use Rattle.markdown_blocks.specs.declared.blocks.BlockKind.{BlockKind}
use Rattle.markdown_blocks.specs.declared.blocks.BlockKind.TheVariants.{Blank, Break, Heading, Setext, Indented, Fenced, Html, Paragraph, Definition, Table}
use Rattle.markdown_blocks.specs.events.Events.{LeafBlock}
use Rattle.markdown_blocks.specs.laws.Characters.{IsCutOut}
use Rattle.markdown_blocks.proofs.ForCallers.{content_utf8}
use Rattle.markdown_events.specs.EventLaws.{AreAtBoundaries}
use Rattle.markdown_events.specs.InlineEvents.{EventSetting, RangedEvent}
use Rattle.markdown_events.specs.page.LeafEvents.{AreLeafEvents, AreLeafEventsOf, AreLineEvents, AreTextEvents, Place, in_paragraph, line_events}
use Rattle.markdown_events.specs.page.LeafEvents.{plain_heading}
use Rattle.markdown_events.specs.page.Spans.{block_end}
use Rattle.markdown_events.proofs.inline_events.Boundaries.{events_at_boundaries}
use Rattle.markdown_events.proofs.page.leaf_events.PlacedCuts.{content_offsets, element_at, enclosed_lines_at, lines_at, placed_at}
use Rattle.markdown_events.proofs.page.table_events.TableCuts.{table_at}

module _ (page : List ℕ) (setting : EventSetting) (here : Place) (block : LeafBlock) (cut : IsCutOut page block) where
  abbrev AreAt : List RangedEvent → Type 0
  AreAt = AreAtBoundaries page

  pub paragraph_at : (is_tight : Bool) (inner : List RangedEvent) → AreAt inner → AreAt (in_paragraph is_tight block inner)
  paragraph_at true inner at = at
  paragraph_at false inner at = element_at page paragraph block.offset (block_end block) inner cut.offset cut.ends at

  text_at : (inner : List RangedEvent) → AreTextEvents page setting here block inner → AreAt inner
  text_at inner are =
      let content = are.content in
      let utf8 = content_utf8 block.kind here.containers here.kept (take block.bytes (drop block.start page)) content are.is_content cut.lines in
      subst AreAt (sym are.are_events)
      (placed_at page block.start content (content_offsets page block cut block.kind here.containers here.kept content are.is_content) are.inlines
      (events_at_boundaries content.text setting are.inlines utf8 are.are_inlines))

  lines_of_at : (event : List ℕ → EventView (List ℕ)) (inner : List RangedEvent) → AreLineEvents page here block event inner → AreAt inner
  lines_of_at event inner are =
      let content = are.content in
      let utf8 = content_utf8 block.kind here.containers here.kept (take block.bytes (drop block.start page)) content are.is_content cut.lines in
      subst AreAt (sym are.are_events)
      (placed_at page block.start content (content_offsets page block cut block.kind here.containers here.kept content are.is_content)
      (line_events event 0 (lines_of content.text)) (lines_at content.text event (lines_of content.text) 0 (omega arith) utf8 refl))

  kind_at : (kind : BlockKind) (events : List RangedEvent) → AreLeafEventsOf kind page setting here block events → AreAt events
  kind_at Blank events is = subst AreAt (sym is) tt
  kind_at Definition events is = subst AreAt (sym is) tt
  kind_at Break events is = subst AreAt (sym is) ((cut.offset, cut.ends), tt)
  kind_at (Heading level) events (inner, are, is) =
      subst AreAt (sym is) (element_at page (plain_heading level) block.offset (block_end block) inner cut.offset cut.ends (text_at inner are))
  kind_at (Setext level) events (inner, are, is) =
      subst AreAt (sym is) (element_at page (plain_heading level) block.offset (block_end block) inner cut.offset cut.ends (text_at inner are))
  kind_at Paragraph events (inner, are, is) = subst AreAt (sym is) (paragraph_at here.is_tight inner (text_at inner are))
  kind_at Indented events (inner, are, is) =
      subst AreAt (sym is) (enclosed_lines_at page block cut (code_block None) inner (lines_of_at text inner are))
  kind_at (Fenced count byte) events (inner, info, are, means, is) =
      subst AreAt (sym is) (enclosed_lines_at page block cut (code_block (Some info)) inner (lines_of_at text inner are))
  kind_at (Html kind) events (inner, are, is) =
      subst AreAt (sym is) (enclosed_lines_at page block cut html_block inner (lines_of_at html inner are))
  kind_at (Table columns) events is = table_at page setting here block columns events cut is

  -- of a leaf block
  pub leaf_at : (events : List RangedEvent) → AreLeafEvents page setting here block events → AreAt events
  leaf_at events are = kind_at block.kind events are
