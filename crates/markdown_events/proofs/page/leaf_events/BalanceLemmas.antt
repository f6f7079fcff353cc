-- The events of a leaf block balance, and stand where they may.
use Rattle.std.proofs.Common.{ℕ, ◌+◌, Bool, true, false, List, [], ◌∷◌, ◌++◌, ◌≡◌, length, map, refl, sym, subst, append_assoc}
use Rattle.std.specs.Prelude.{IsTrue}
use Rattle.markdown_values.specs.declared.values.Alignment.{Alignment}
use Rattle.markdown_values.specs.values.Tags.{table, table_cell}
use Rattle.markdown_scanners_tree.specs.scanners.TextLines.{lines_of}
use Rattle.markdown_blocks.specs.cells.Cells.{cells_of}
use Rattle.markdown_blocks.specs.cells.Contents.{content_of_cell}
use Rattle.markdown_blocks.specs.declared.blocks.BlockKind.{BlockKind}
use Rattle.markdown_blocks.specs.declared.blocks.BlockKind.TheVariants.{Blank, Break, Heading, Setext, Indented, Fenced, Html, Paragraph, Definition, Table}
use Rattle.markdown_blocks.specs.declared.cells.Cell.{Cell}
use Rattle.markdown_blocks.specs.events.Events.{LeafBlock}
use Rattle.markdown_blocks.specs.rows.Rows.{TextAt}
use Rattle.markdown_events.specs.EventLaws.{AreBalanced, Started}
use Rattle.markdown_events.specs.InlineEvents.{EventSetting, RangedEvent}
use Rattle.markdown_events.specs.Nesting.{MayStart, Tag, is_row}
use Rattle.markdown_events.specs.declared.page.table_events.Columns.{Columns}
use Rattle.markdown_events.specs.page.LeafContent.{line_event}
use Rattle.markdown_events.specs.page.LeafEvents.{AreLeafEvents, AreLeafEventsOf, AreLineEvents, AreTextEvents, Place, enclosed}
use Rattle.markdown_events.specs.page.LeafEvents.{enclosed_lines, in_paragraph, line_events}
use Rattle.markdown_events.specs.page.Places.{element, placed}
use Rattle.markdown_events.specs.page.Spans.{block_end}
use Rattle.markdown_events.specs.page.TableEvents.{AreCellEvents, AreRowEvents, AreTableEvents, columns_of, row_len, row_tag, rows_in, shown_cells}
use Rattle.markdown_events.proofs.inline_events.NoTables.{IsOther}
use Rattle.markdown_events.proofs.page.NestLemmas.{Stand, StandIn, alone_balance, element_stands, element_stands_in, inlines_stand, stand_as, tags_of}

-- events of lines hold none
lines_stand : (before : ℕ) (offsets : List ℕ) (is_html : Bool) (from : ℕ) (lines : List (List ℕ)) (elements : List Started) (rest : List RangedEvent)
    → StandIn elements rest → StandIn elements (map (placed before offsets) (line_events (line_event is_html) from lines) ++ rest)
lines_stand before offsets is_html from [] elements rest gives = gives
lines_stand before offsets true from (line ∷ lines) elements rest gives =
    lines_stand before offsets true (from + length line) lines elements rest gives
lines_stand before offsets false from (line ∷ lines) elements rest gives =
    lines_stand before offsets false (from + length line) lines elements rest gives

-- ---- tables

-- in a row
cells_stand : (setting : EventSetting) (before : ℕ) (text : List ℕ) (cells : List Cell) (events : List RangedEvent)
    → AreCellEvents setting before text cells events → (row : Started) (outer : List Started) (rest : List RangedEvent) → IsTrue (is_row row.0)
    → StandIn (row ∷ outer) rest → StandIn (row ∷ outer) (events ++ rest)
cells_stand setting before text [] events is row outer rest in_row gives =
    subst (λ (es : List RangedEvent). StandIn (row ∷ outer) (es ++ rest)) (sym is) gives
cells_stand setting before text (cell ∷ later) events (inlines, more, are, later_are, is) row outer rest in_row gives =
    let content = content_of_cell text cell in
    let inner = map (placed before content.offsets) inlines in
    let whole = element table_cell (before + cell.start) (before + cell.end) inner in
    subst (λ (es : List RangedEvent). StandIn (row ∷ outer) (es ++ rest)) (sym is)
    (subst (StandIn (row ∷ outer)) (sym (append_assoc whole more rest))
    (element_stands_in table_cell (before + cell.start) (before + cell.end) inner (row ∷ outer) (more ++ rest) (row.0, tags_of outer, refl, in_row)
    (λ after. inlines_stand before content.offsets content.text setting inlines are _ after)
    (cells_stand setting before text later more later_are row outer rest in_row gives)))

row_starts : (is_head : Bool) (columns : List Alignment) (outer : List Tag) → MayStart (row_tag is_head) (table columns ∷ outer)
row_starts true columns outer = (columns, outer, refl)
row_starts false columns outer = (columns, outer, refl)

row_is_row : (is_head : Bool) → IsTrue (is_row (row_tag is_head))
row_is_row true = refl
row_is_row false = refl

-- in a table
rows_stand : (setting : EventSetting) (columns : Columns) (before : ℕ) (is_head : Bool) (rows : List TextAt) (events : List RangedEvent)
    → AreRowEvents setting columns before is_head rows events → (alignments : List Alignment) (one : Started) (outer : List Started)
    (rest : List RangedEvent) → one.0 ≡ table alignments → StandIn (one ∷ outer) rest → StandIn (one ∷ outer) (events ++ rest)
rows_stand setting columns before is_head [] events is alignments one outer rest in_table gives =
    subst (λ (es : List RangedEvent). StandIn (one ∷ outer) (es ++ rest)) (sym is) gives
rows_stand setting columns before is_head (row ∷ later) events (cells, more, are, later_are, is) alignments one outer rest in_table gives =
    let from = before + row.offset in
    let to = from + row_len row.text in
    let whole = element (row_tag is_head) from to cells in
    subst (λ (es : List RangedEvent). StandIn (one ∷ outer) (es ++ rest)) (sym is)
    (subst (StandIn (one ∷ outer)) (sym (append_assoc whole more rest))
    (element_stands_in (row_tag is_head) from to cells (one ∷ outer) (more ++ rest)
    (subst (λ (tag : Tag). MayStart (row_tag is_head) (tag ∷ tags_of outer)) (sym in_table) (row_starts is_head alignments (tags_of outer)))
    (λ after. cells_stand setting from row.text (shown_cells columns.are_filled columns.count (row_len row.text) (cells_of row.text)) cells are _
    (one ∷ outer) after
    (row_is_row is_head))
    (rows_stand setting columns before false later more later_are alignments one outer rest in_table gives)))

table_stands : (page : List ℕ) (setting : EventSetting) (here : Place) (block : LeafBlock) (columns : ℕ) (events : List RangedEvent)
    → AreTableEvents page setting here block columns events → Stand events
table_stands page setting here block columns events is =
    stand_as events (element (table is.alignments) block.offset (block_end block) is.rows) is.are_events
    (λ elements rest outside. element_stands_in (table is.alignments) block.offset (block_end block) is.rows elements rest outside
    (λ after. rows_stand setting (columns_of setting.cells columns (rows_in page here block)) block.start true (rows_in page here block) is.rows is.are_rows
    is.alignments _ elements after refl))

module _ (page : List ℕ) (setting : EventSetting) (here : Place) (block : LeafBlock) where
  text_stands : (events : List RangedEvent) → AreTextEvents page setting here block events → Stand events
  text_stands events is = stand_as events _ is.are_events
      (λ elements rest outside. inlines_stand block.start is.content.offsets is.content.text setting is.inlines is.are_inlines elements rest)

  code_stands : (is_html : Bool) (events : List RangedEvent) → AreLineEvents page here block (line_event is_html) events → Stand events
  code_stands is_html events is = stand_as events _ is.are_events
      (λ elements rest outside. lines_stand block.start is.content.offsets is_html 0 (lines_of is.content.text) elements rest)

  enclosed_stands : (tag : Tag) (events inner : List RangedEvent) → IsOther tag → Stand inner → events ≡ enclosed tag block inner → Stand events
  enclosed_stands tag events inner other stand is = stand_as events _ is (element_stands tag _ _ inner other stand)

  lines_enclosed : (tag : Tag) (events inner : List RangedEvent) → IsOther tag → Stand inner → events ≡ enclosed_lines tag block inner → Stand events
  lines_enclosed tag events inner other stand is = stand_as events _ is (element_stands tag _ _ inner other stand)

  pub paragraph_stands : (is_tight : Bool) (events inner : List RangedEvent) → Stand inner → events ≡ in_paragraph is_tight block inner → Stand events
  paragraph_stands true events inner stand is = stand_as events inner is stand
  paragraph_stands false events inner stand is = enclosed_stands _ events inner refl stand is

  leaf_stands_of : (kind : BlockKind) (events : List RangedEvent) → AreLeafEventsOf kind page setting here block events → Stand events
  leaf_stands_of Blank events is = stand_as events [] is (λ elements rest outside gives. gives)
  leaf_stands_of Definition events is = stand_as events [] is (λ elements rest outside gives. gives)
  leaf_stands_of Break events is = stand_as events _ is (λ elements rest outside gives. gives)
  leaf_stands_of (Table columns) events is = table_stands page setting here block columns events is
  leaf_stands_of (Heading level) events (inner, are, is) = enclosed_stands _ events inner refl (text_stands inner are) is
  leaf_stands_of (Setext level) events (inner, are, is) = enclosed_stands _ events inner refl (text_stands inner are) is
  leaf_stands_of Paragraph events (inner, are, is) = paragraph_stands here.is_tight events inner (text_stands inner are) is
  leaf_stands_of Indented events (inner, are, is) = lines_enclosed _ events inner refl (code_stands false inner are) is
  leaf_stands_of (Fenced count byte) events (inner, info, are, means, is) = lines_enclosed _ events inner refl (code_stands false inner are) is
  leaf_stands_of (Html kind) events (inner, are, is) = lines_enclosed _ events inner refl (code_stands true inner are) is

-- they stand outside of tables
pub leaf_events_stand : (page : List ℕ) (setting : EventSetting) (here : Place) (block : LeafBlock) (events : List RangedEvent)
    → AreLeafEvents page setting here block events → Stand events
leaf_events_stand page setting here block events is = leaf_stands_of page setting here block block.kind events is

-- starts and ends balance
pub leaf_events_balance : (page : List ℕ) (setting : EventSetting) (here : Place) (block : LeafBlock) (events : List RangedEvent)
    → AreLeafEvents page setting here block events → AreBalanced events
leaf_events_balance page setting here block events is = alone_balance events (leaf_events_stand page setting here block events is)
