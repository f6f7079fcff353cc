-- How many cells the rows of a table have, their own and those that are filled in.
use Rattle.std.proofs.Common.{ℕ, zero, suc, Bool, true, false, ◌+◌, ◌-◌, ◌≤◌, ◌≡◌, List, [], ◌∷◌, length, map, take, drop}
use Rattle.std.proofs.Common.{ap, refl, sym, subst, arith, length-append}
use Rattle.std.specs.Prelude.{⊤}
use Rattle.std.specs.List.{concat}
use Rattle.std.proofs.lemmas.Bool.{eq-eqb, leb-true}
use Rattle.std.proofs.lemmas.List.{length-take}
use Rattle.markdown_values.specs.values.Events.{start, end, text, code, inline_math, display_math, html, inline_html, footnote_reference, soft_break}
use Rattle.markdown_values.specs.values.Events.{hard_break, rule, task_list_marker}
use Rattle.markdown_values.specs.values.Tags as T
use Rattle.markdown_values.specs.values.Tags.{TagView, table, table_cell}
use Rattle.markdown_scanners_tree.specs.line.State.{LineState}
use Rattle.markdown_scanners_tree.specs.scanners.TextLines.{ends_line, lines_of, with_first}
use Rattle.markdown_scanners_tree.proofs.ForCallers.{lines_joined}
use Rattle.markdown_blocks.specs.cells.Cells.{cells_of}
use Rattle.markdown_blocks.specs.cells.Contents.{content_of_cell}
use Rattle.markdown_blocks.specs.containers.Containers.{match_line}
use Rattle.markdown_blocks.specs.content.Parts.{first_offset}
use Rattle.markdown_blocks.specs.declared.blocks.BlockKind.TheVariants.{Paragraph}
use Rattle.markdown_blocks.specs.declared.cells.Cell.{Cell}
use Rattle.markdown_blocks.specs.declared.containers.Container.{Container}
use Rattle.markdown_blocks.specs.events.Events.{LeafBlock}
use Rattle.markdown_blocks.specs.rows.Rows.{TextAt, body_rows, later_rows, row_at, rows_of}
use Rattle.markdown_blocks.proofs.cells.LawLemmas.{cells-le}
use Rattle.markdown_blocks.proofs.content.ReachedLemmas.{Reached}
use Rattle.markdown_blocks.proofs.content.ReachedPlaces.{first_reached, later_reached}
use Rattle.markdown_events.specs.InlineEvents.{AreInlineEvents, EventSetting, RangedEvent, ranged}
use Rattle.markdown_events.specs.Nesting.{Tag}
use Rattle.markdown_events.specs.TagEnds.{tag_end}
use Rattle.markdown_events.specs.page.Places.{Place, element, placed}
use Rattle.markdown_events.specs.page.References.{begins_cell, begun_cells, empty_cells, empty_in}
use Rattle.markdown_events.specs.page.Spans.{block_end}
use Rattle.markdown_events.specs.page.TableEvents.{AreCellEvents, AreRowEvents, AreTableEvents, are_filled, missing_cells, row_len, row_tag}
use Rattle.markdown_events.specs.page.TableEvents.{rows_in, shown_cells}
use Rattle.markdown_events.proofs.inline_events.NoTables.{BeginNoTable, IsOther, inlines_begin_none}
use Rattle.markdown_events.proofs.page.RoomLemmas.{cells_both, empty_both}
use Rattle.markdown_events.proofs.page.table_events.RowLemmas.{row_ends}

-- ---- where no cell begins

other_begins : (tag : Tag) → IsOther tag → begins_cell (start tag) ≡ 0
other_begins T.paragraph other = refl
other_begins (T.heading level id classes attributes) other = refl
other_begins (T.block_quote kind) other = refl
other_begins (T.code_block info) other = refl
other_begins T.html_block other = refl
other_begins (T.list number) other = refl
other_begins T.item other = refl
other_begins (T.footnote_definition label) other = refl
other_begins T.definition_list other = refl
other_begins T.definition_list_title other = refl
other_begins T.definition_list_definition other = refl
other_begins (T.table alignments) other = refl
other_begins T.table_head other = refl
other_begins T.table_row other = refl
other_begins T.table_cell other = absurd (cc)
other_begins T.emphasis other = refl
other_begins T.strong other = refl
other_begins T.strikethrough other = refl
other_begins T.superscript other = refl
other_begins T.subscript other = refl
other_begins (T.link kind destination title label) other = refl
other_begins (T.image kind destination title label) other = refl
other_begins (T.metadata_block kind) other = refl

-- nor where inlines stand in the page
none_begins : (before : ℕ) (offsets : List ℕ) (events : List RangedEvent) → BeginNoTable events → begun_cells (map (placed before offsets) events) ≡ 0
none_begins before offsets [] none = refl
none_begins before offsets ((start tag, range) ∷ later) none = omega (arith, other_begins tag none.0, none_begins before offsets later none.1)
none_begins before offsets ((end closer, range) ∷ later) none = omega (arith, none_begins before offsets later none)
none_begins before offsets ((text words, range) ∷ later) none = omega (arith, none_begins before offsets later none)
none_begins before offsets ((code words, range) ∷ later) none = omega (arith, none_begins before offsets later none)
none_begins before offsets ((inline_math words, range) ∷ later) none = omega (arith, none_begins before offsets later none)
none_begins before offsets ((display_math words, range) ∷ later) none = omega (arith, none_begins before offsets later none)
none_begins before offsets ((html words, range) ∷ later) none = omega (arith, none_begins before offsets later none)
none_begins before offsets ((inline_html words, range) ∷ later) none = omega (arith, none_begins before offsets later none)
none_begins before offsets ((footnote_reference label, range) ∷ later) none = omega (arith, none_begins before offsets later none)
none_begins before offsets ((soft_break, range) ∷ later) none = omega (arith, none_begins before offsets later none)
none_begins before offsets ((hard_break, range) ∷ later) none = omega (arith, none_begins before offsets later none)
none_begins before offsets ((rule, range) ∷ later) none = omega (arith, none_begins before offsets later none)
none_begins before offsets ((task_list_marker checked, range) ∷ later) none = omega (arith, none_begins before offsets later none)

pub inlines_begin_no_cell : (before : ℕ) (offsets : List ℕ) (source : List ℕ) (setting : EventSetting) (inlines : List RangedEvent)
    → AreInlineEvents source setting inlines → begun_cells (map (placed before offsets) inlines) ≡ 0
inlines_begin_no_cell before offsets source setting inlines are = none_begins before offsets inlines (inlines_begin_none source setting inlines are)

-- the cells of an element are its own start's, and what it holds
pub cells_of_element : (tag : TagView (List ℕ)) (from to : ℕ) (inner : List RangedEvent)
    → begun_cells (element tag from to inner) ≡ begins_cell (start tag) + begun_cells inner
cells_of_element tag from to inner = omega (arith, cells_both inner (ranged (end (tag_end tag)) from to ∷ []))

-- ---- the rows' own cells

abbrev pub AreFilled : List (List ℕ) → Type 0
AreFilled [] = ⊤
AreFilled (line ∷ lines) = (1 ≤ length line) × AreFilled lines

first_filled : (b : ℕ) (lines : List (List ℕ)) → AreFilled lines → AreFilled (with_first b lines)
first_filled b [] all = (omega arith, tt)
first_filled b (line ∷ lines) all = (omega arith, all.1)

pub lines_filled : (text : List ℕ) → AreFilled (lines_of text)
lines_filled [] = tt
lines_filled (b ∷ bs) = by (ends_line (b ∷ bs)) refl (lines_filled bs)
  where
    by : (ends : Bool) → ends_line (b ∷ bs) ≡ ends → AreFilled (lines_of bs) → AreFilled (lines_of (b ∷ bs))
    by true is all = rw is (omega arith, all)
    by false is all = rw is (first_filled b (lines_of bs) all)

abbrev own_cells : List TextAt → ℕ
own_cells [] = 0
own_cells (row ∷ later) = length (cells_of row.text) + own_cells later

row_own : (before : ℕ) (line : List ℕ) (s : LineState) → Reached line s → 1 ≤ length line → length (cells_of (row_at before s).text) ≤ length line
row_own before line s reached some = omega (arith, cells-le (row_at before s).text, row_ends before line s reached, some)

later_own : (outer : List Container) (before : ℕ) (lines : List (List ℕ)) → AreFilled lines
    → own_cells (later_rows outer before lines) ≤ length (concat lines)
later_own outer before [] all = omega arith
later_own outer before (line ∷ lines) all =
    omega (
      arith,
      row_own before line (match_line outer line).state (later_reached line Paragraph outer) all.0,
      later_own outer (before + length line) lines all.1,
      length-append line (concat lines),
    )

body_own : (outer : List Container) (before : ℕ) (lines : List (List ℕ)) → AreFilled lines
    → own_cells (body_rows outer before lines) ≤ length (concat lines)
body_own outer before [] all = omega arith
body_own outer before (line ∷ lines) all =
    omega (arith, later_own outer (before + length line) lines all.1, length-append line (concat lines))

rows_own : (kept : ℕ) (outer : List Container) (lines : List (List ℕ)) → AreFilled lines → own_cells (rows_of kept outer lines) ≤ length (concat lines)
rows_own kept outer [] all = omega arith
rows_own kept outer (line ∷ lines) all =
    omega (
      arith,
      row_own 0 line (first_offset kept outer line) (first_reached line kept outer) all.0,
      body_own outer (length line) lines all.1,
      length-append line (concat lines),
    )

-- ---- those that are shown

-- so many where they are filled in
abbrev if_filled : Bool → ℕ → ℕ
if_filled true n = n
if_filled false n = 0

both_if_filled : (filled : Bool) (n m : ℕ) → if_filled filled (n + m) ≡ if_filled filled n + if_filled filled m
both_if_filled true n m = refl
both_if_filled false n m = refl

shown_size : (filled : Bool) (columns last : ℕ) (cells : List Cell)
    → length (shown_cells filled columns last cells) ≤ length cells + if_filled filled (columns - length cells)
shown_size filled zero last cells = omega arith
shown_size true (suc columns) last [] = omega (arith, shown_size true columns last [])
shown_size false (suc columns) last [] = omega arith
shown_size true (suc columns) last (cell ∷ later) = omega (arith, shown_size true columns last later)
shown_size false (suc columns) last (cell ∷ later) = omega (arith, shown_size false columns last later)

module _ (setting : EventSetting) where
  pub cells_count : (before : ℕ) (row : List ℕ) (cells : List Cell) (events : List RangedEvent) → AreCellEvents setting before row cells events
      → begun_cells events ≡ length cells
  cells_count before row [] events is = subst (λ (es : List RangedEvent). begun_cells es ≡ 0) (sym is) refl
  cells_count before row (cell ∷ later) events (inlines, rest, are, are_rest, is) =
      let content = content_of_cell row cell in
      let inner = map (placed before content.offsets) inlines in
      let own = element table_cell (before + cell.start) (before + cell.end) inner in
      omega (
        arith,
        ap begun_cells is,
        cells_both own rest,
        cells_of_element table_cell (before + cell.start) (before + cell.end) inner,
        inlines_begin_no_cell before content.offsets content.text setting inlines are,
        cells_count before row later rest are_rest,
      )

  -- one that is filled in is empty
  filled_is_empty : (at : ℕ) (inner : List RangedEvent) → 1 ≤ empty_cells (element table_cell at at inner)
  filled_is_empty at inner = omega (arith, is_one)
    where
      is_one : empty_in (start table_cell, record { start = at; end = at }) ≡ 1
      is_one = rw (eq-eqb at at refl) refl

  cells_filled : (before : ℕ) (row : List ℕ) (columns last : ℕ) (cells : List Cell) (events : List RangedEvent)
      → AreCellEvents setting before row (shown_cells true columns last cells) events → columns - length cells ≤ empty_cells events
  cells_filled before row zero last cells events is = omega arith
  cells_filled before row (suc columns) last [] events (inlines, rest, are, are_rest, is) =
      let inner = map (placed before (content_of_cell row (record { start = last; end = last })).offsets) inlines in
      omega (
        arith,
        ap empty_cells is,
        empty_both (element table_cell (before + last) (before + last) inner) rest,
        filled_is_empty (before + last) inner,
        cells_filled before row columns last [] rest are_rest,
      )
  cells_filled before row (suc columns) last (cell ∷ later) events (inlines, rest, are, are_rest, is) =
      let inner = map (placed before (content_of_cell row cell).offsets) inlines in
      omega (
        arith,
        ap empty_cells is,
        empty_both (element table_cell (before + cell.start) (before + cell.end) inner) rest,
        cells_filled before row columns last later rest are_rest,
      )

  pub no_row_begins : (is_head : Bool) → begins_cell (start (row_tag is_head)) ≡ 0
  no_row_begins true = refl
  no_row_begins false = refl

  rows_count : (filled : Bool) (count before : ℕ) (is_head : Bool) (rows : List TextAt) (events : List RangedEvent)
      → AreRowEvents setting (record { count = count; are_filled = filled }) before is_head rows events
      → begun_cells events ≤ own_cells rows + if_filled filled (missing_cells count rows)
  rows_count filled count before is_head [] events is = omega (arith, ap begun_cells is)
  rows_count filled count before is_head (row ∷ later) events (cells, rest, are, are_rest, is) =
      let from = before + row.offset in
      let len = row_len row.text in
      let own = cells_of row.text in
      omega (
        arith,
        ap begun_cells is,
        cells_both (element (row_tag is_head) from (from + len) cells) rest,
        cells_of_element (row_tag is_head) from (from + len) cells,
        no_row_begins is_head,
        cells_count from row.text (shown_cells filled count len own) cells are,
        shown_size filled count len own,
        both_if_filled filled (count - length own) (missing_cells count later),
        rows_count filled count before false later rest are_rest,
      )

  rows_filled : (count before : ℕ) (is_head : Bool) (rows : List TextAt) (events : List RangedEvent)
      → AreRowEvents setting (record { count = count; are_filled = true }) before is_head rows events
      → missing_cells count rows ≤ empty_cells events
  rows_filled count before is_head [] events is = omega arith
  rows_filled count before is_head (row ∷ later) events (cells, rest, are, are_rest, is) =
      let from = before + row.offset in
      let len = row_len row.text in
      let tag = row_tag is_head in
      omega (
        arith,
        ap empty_cells is,
        empty_both (element tag from (from + len) cells) rest,
        empty_both cells (ranged (end (tag_end tag)) from (from + len) ∷ []),
        cells_filled from row.text count len (cells_of row.text) cells are,
        rows_filled count before false later rest are_rest,
      )

-- A table has no more cells than its lines have bytes, and those that it is filled in with, of which there are as many empty ones.
pub table_fits : (page : List ℕ) (setting : EventSetting) (here : Place) (block : LeafBlock) (columns : ℕ) (events : List RangedEvent)
    → AreTableEvents page setting here block columns events → begun_cells events + (setting.cells - empty_cells events) ≤ block.bytes + setting.cells
table_fits page setting here block columns events is = by (are_filled setting.cells columns rows) refl is.are_rows
  where
    rows : List TextAt
    rows = rows_in page here block

    lines : List ℕ
    lines = take block.bytes (drop block.start page)

    own : own_cells rows ≤ block.bytes
    own =
        omega (
          arith,
          rows_own here.kept here.containers (lines_of lines) (lines_filled lines),
          ap length (lines_joined lines),
          length-take block.bytes (drop block.start page),
        )

    whole : begun_cells events ≡ begun_cells is.rows
    whole = omega (arith, ap begun_cells is.are_events, cells_of_element (table is.alignments) block.offset (block_end block) is.rows)

    empty : empty_cells events ≡ empty_cells is.rows
    empty =
        omega (
          arith,
          ap empty_cells is.are_events,
          empty_both is.rows (ranged (end (tag_end {A = List ℕ} (table is.alignments))) block.offset
              (block_end block) ∷ []),
        )

    by : (filled : Bool) → are_filled setting.cells columns rows ≡ filled
        → AreRowEvents setting (record { count = columns; are_filled = filled }) block.start true rows is.rows
        → begun_cells events + (setting.cells - empty_cells events) ≤ block.bytes + setting.cells
    by true few are =
        omega (
          arith,
          own,
          whole,
          empty,
          leb-true (missing_cells columns rows) setting.cells few,
          rows_count setting true columns block.start true rows is.rows are,
          rows_filled setting columns block.start true rows is.rows are,
        )
    by false few are = omega (arith, own, whole, rows_count setting false columns block.start true rows is.rows are)
