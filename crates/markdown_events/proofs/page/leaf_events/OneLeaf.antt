-- A leaf block has one list of events.
use Rattle.std.proofs.Common.{ℕ, Bool, true, false, ◌+◌, List, [], ◌∷◌, ◌++◌, ◌≡◌, ◌∙◌, ap, map, sym, subst, inl, inr}
use Rattle.markdown_values.specs.declared.values.Alignment.{Alignment}
use Rattle.markdown_values.specs.values.Events.{EventView, html, text}
use Rattle.markdown_values.specs.values.Tags.{code_block, table, table_cell}
use Rattle.std.specs.Prelude.{Some, None}
use Rattle.markdown_scanners_tree.specs.scanners.TextLines.{lines_of}
use Rattle.markdown_blocks.specs.cells.Cells.{cells_of}
use Rattle.markdown_blocks.specs.cells.Contents.{content_of_cell}
use Rattle.markdown_blocks.specs.containers.Containers.{Rest, rest_in}
use Rattle.markdown_blocks.specs.declared.cells.Cell.{Cell}
use Rattle.markdown_blocks.specs.declared.containers.Container.{Container}
use Rattle.markdown_blocks.specs.rows.Rows.{AreAlignments, AreGiven, TextAt}
use Rattle.markdown_blocks.specs.content.Content.{Placed}
use Rattle.markdown_blocks.specs.declared.blocks.BlockKind.{BlockKind}
use Rattle.markdown_blocks.specs.declared.blocks.BlockKind.TheVariants.{Blank, Break, Heading, Setext, Indented, Fenced, Html, Paragraph, Definition, Table}
use Rattle.markdown_blocks.specs.events.Events.{LeafBlock}
use Rattle.markdown_blocks.specs.info.Info.{info_of}
use Rattle.markdown_blocks.proofs.ForCallers.{one_content}
use Rattle.markdown_values.specs.values.Tags.{html_block}
use Rattle.markdown_events.specs.InlineEvents.{AreInlineEvents, EventSetting, RangedEvent}
use Rattle.markdown_events.specs.declared.page.table_events.Columns.{Columns}
use Rattle.markdown_events.specs.page.LeafEvents.{AreLeafEvents, AreLeafEventsOf, AreLineEvents, AreTextEvents, Place, enclosed, in_paragraph, line_events}
use Rattle.markdown_events.specs.page.LeafEvents.{enclosed_lines, plain_heading}
use Rattle.markdown_events.specs.page.Places.{element, lines_in_page, placed}
use Rattle.markdown_events.specs.page.Spans.{block_end}
use Rattle.markdown_events.specs.page.TableEvents.{AreCellEvents, AreRowEvents, AreTableEvents, columns_of, row_len, row_tag, rows_in, shown_cells}
use Rattle.markdown_events.proofs.inline_events.Unique.{one_list_of_inline_events, one_meaning}

-- ---- tables

one_of_columns : (rest : Rest) (alignments others : List Alignment) → AreGiven rest alignments → AreGiven rest others → alignments ≡ others
one_of_columns rest alignments others (inl (near, row, is)) (inl (near', row', is')) = is ∙ sym is'
one_of_columns rest alignments others (inl columns) (inr (none, empty)) = absurd (none alignments columns)
one_of_columns rest alignments others (inr (none, empty)) (inl columns) = absurd (none others columns)
one_of_columns rest alignments others (inr (none, empty)) (inr (none', empty')) = empty ∙ sym empty'

one_alignments : (outer : List Container) (lines : List (List ℕ)) (alignments others : List Alignment) → AreAlignments outer lines alignments
    → AreAlignments outer lines others → alignments ≡ others
one_alignments outer [] alignments others is is' = is ∙ sym is'
one_alignments outer (head ∷ []) alignments others is is' = is ∙ sym is'
one_alignments outer (head ∷ delimiters ∷ rows) alignments others is is' = one_of_columns (rest_in outer delimiters) alignments others is is'

one_cells : (setting : EventSetting) (before : ℕ) (words : List ℕ) (cells : List Cell) (events events' : List RangedEvent)
    → AreCellEvents setting before words cells events → AreCellEvents setting before words cells events' → events ≡ events'
one_cells setting before words [] events events' is is' = is ∙ sym is'
one_cells setting before words (cell ∷ later) events events' (inlines, rest, are, more, is) (inlines', rest', are', more', is') =
    let content = content_of_cell words cell in
    let made = λ (i : List RangedEvent). element table_cell (before + cell.start) (before + cell.end) (map (placed before content.offsets) i) in
    is ∙ (ap (λ (i : List RangedEvent). made i ++ rest) (one_list_of_inline_events content.text setting inlines inlines' are are')
    ∙ (ap (λ (r : List RangedEvent). made inlines' ++ r) (one_cells setting before words later rest rest' more more') ∙ sym is'))

one_rows : (setting : EventSetting) (columns : Columns) (before : ℕ) (is_head : Bool) (rows : List TextAt) (events events' : List RangedEvent)
    → AreRowEvents setting columns before is_head rows events → AreRowEvents setting columns before is_head rows events' → events ≡ events'
one_rows setting columns before is_head [] events events' is is' = is ∙ sym is'
one_rows setting columns before is_head (row ∷ later) events events' (cells, rest, are, more, is) (cells', rest', are', more', is') =
    let from = before + row.offset in
    let len = row_len row.text in
    let made = λ (c : List RangedEvent). element (row_tag is_head) from (from + len) c in
    is ∙ (ap (λ (c : List RangedEvent). made c ++ rest)
    (one_cells setting from row.text (shown_cells columns.are_filled columns.count len (cells_of row.text)) cells cells' are are')
    ∙ (ap (λ (r : List RangedEvent). made cells' ++ r) (one_rows setting columns before false later rest rest' more more') ∙ sym is'))

one_table : (page : List ℕ) (setting : EventSetting) (here : Place) (block : LeafBlock) (columns : ℕ) (events events' : List RangedEvent)
    → AreTableEvents page setting here block columns events → AreTableEvents page setting here block columns events' → events ≡ events'
one_table page setting here block columns events events' is is' =
    let lines = lines_in_page page block in
    let rows = one_rows setting (columns_of setting.cells columns (rows_in page here block)) block.start true
    (rows_in page here block) is.rows is'.rows is.are_rows is'.are_rows in
    let given = one_alignments here.containers lines is.alignments is'.alignments is.are_alignments is'.are_alignments in
    is.are_events ∙ (ap (λ (a : List Alignment). element (table a) block.offset (block_end block) is.rows) given
    ∙ (ap (element (table is'.alignments) block.offset (block_end block)) rows ∙ sym is'.are_events))

module _ (page : List ℕ) (setting : EventSetting) (here : Place) (block : LeafBlock) where
  one_text : (events events' : List RangedEvent) → AreTextEvents page setting here block events → AreTextEvents page setting here block events'
      → events ≡ events'
  one_text events events' is is' =
      let same = one_content block.kind here.containers here.kept (lines_in_page page block) is.content is'.content is.is_content is'.is_content in
      let inlines = one_list_of_inline_events is'.content.text setting is.inlines is'.inlines
      (subst (λ (c : Placed). AreInlineEvents c.text setting is.inlines) same is.are_inlines) is'.are_inlines in
      is.are_events ∙ (ap (λ (c : Placed). map (placed block.start c.offsets) is.inlines) same
      ∙ (ap (map (placed block.start is'.content.offsets)) inlines ∙ sym is'.are_events))

  one_lines : (event : List ℕ → EventView (List ℕ)) (events events' : List RangedEvent) → AreLineEvents page here block event events
      → AreLineEvents page here block event events' → events ≡ events'
  one_lines event events events' is is' =
      let same = one_content block.kind here.containers here.kept (lines_in_page page block) is.content is'.content is.is_content is'.is_content in
      is.are_events ∙ (ap (λ (c : Placed). map (placed block.start c.offsets) (line_events event 0 (lines_of c.text))) same ∙ sym is'.are_events)

  one_of : (kind : BlockKind) (events events' : List RangedEvent) → AreLeafEventsOf kind page setting here block events
      → AreLeafEventsOf kind page setting here block events' → events ≡ events'
  one_of Blank events events' is is' = is ∙ sym is'
  one_of Definition events events' is is' = is ∙ sym is'
  one_of Break events events' is is' = is ∙ sym is'
  one_of (Table columns) events events' is is' = one_table page setting here block columns events events' is is'
  one_of (Heading level) events events' (inner, are, is) (inner', are', is') =
      is ∙ (ap (enclosed (plain_heading level) block) (one_text inner inner' are are') ∙ sym is')
  one_of (Setext level) events events' (inner, are, is) (inner', are', is') =
      is ∙ (ap (enclosed (plain_heading level) block) (one_text inner inner' are are') ∙ sym is')
  one_of Paragraph events events' (inner, are, is) (inner', are', is') =
      is ∙ (ap (in_paragraph here.is_tight block) (one_text inner inner' are are') ∙ sym is')
  one_of Indented events events' (inner, are, is) (inner', are', is') =
      is ∙ (ap (enclosed_lines (code_block None) block) (one_lines text inner inner' are are') ∙ sym is')
  one_of (Fenced count byte) events events' (inner, info, are, means, is) (inner', info', are', means', is') =
      is ∙ (ap (λ i. enclosed_lines (code_block (Some i)) block inner) (one_meaning (info_of byte block.text) info info' means means')
      ∙ (ap (enclosed_lines (code_block (Some info')) block) (one_lines text inner inner' are are') ∙ sym is'))
  one_of (Html kind) events events' (inner, are, is) (inner', are', is') =
      is ∙ (ap (enclosed_lines html_block block) (one_lines html inner inner' are are') ∙ sym is')

-- a leaf block of a page, read with one setting, has one list of events where it stands
pub one_list_of_leaf_events : (page : List ℕ) (setting : EventSetting) (here : Place) (block : LeafBlock) (events events' : List RangedEvent)
    → AreLeafEvents page setting here block events → AreLeafEvents page setting here block events' → events ≡ events'
one_list_of_leaf_events page setting here block events events' is is' = one_of page setting here block block.kind events events' is is'
