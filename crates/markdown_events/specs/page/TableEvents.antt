-- The events of a table. (GitHub Flavored Markdown 0.29, section 4.10, tables)
use Rattle.std.specs.Prelude.{ℕ, zero, suc, Bool, true, false, ◌+◌, ◌-◌, ◌≤◌, ◌≡◌, List, [], ◌∷◌, ◌++◌, length, map, nat_le, ⊤}
use Rattle.std.specs.Str.{IsUtf8}
use Rattle.markdown_values.specs.declared.values.Alignment.{Alignment}
use Rattle.markdown_values.specs.values.Tags.{TagView, table, table_head, table_row, table_cell}
use Rattle.markdown_scanners_tree.specs.Bytes.{line_head}
use Rattle.markdown_blocks.specs.cells.Cells.{cells_of}
use Rattle.markdown_blocks.specs.cells.Contents.{content_of_cell}
use Rattle.markdown_blocks.specs.declared.cells.Cell.{Cell}
use Rattle.markdown_blocks.specs.events.Events.{LeafBlock}
use Rattle.markdown_blocks.specs.info.Info.{without_end}
use Rattle.markdown_blocks.specs.rows.Rows.{TextAt, AreAlignments, rows_of}
use Rattle.markdown_events.specs.InlineEvents.{RangedEvent, AreInlineEvents, EventSetting}
use Rattle.markdown_events.specs.declared.page.table_events.Columns.{Columns}
use Rattle.markdown_events.specs.page.Places.{Place, element, lines_in_page, placed}
use Rattle.markdown_events.specs.page.Spans.{block_end}

-- how many bytes a row has, without the spaces and tabs at its end, and the line ending
abbrev pub row_len : List ℕ → ℕ
row_len text = length (without_end (line_head text))

-- The cells that a row shows, which is filled in or not, of as many as the table has columns: "if there are a number of cells fewer than
-- the number of cells in the header row, empty cells are inserted. If there are greater, the excess is ignored." An inserted one stands
-- at the end of the row.
abbrev pub shown_cells : Bool → ℕ → ℕ → List Cell → List Cell
shown_cells filled zero end cells = []
shown_cells true (suc columns) end [] = record { start = end; end = end } ∷ shown_cells true columns end []
shown_cells false (suc columns) end [] = []
shown_cells filled (suc columns) end (cell ∷ later) = cell ∷ shown_cells filled columns end later

-- how many cells are missing in rows of a table with so many columns
abbrev pub missing_cells : ℕ → List TextAt → ℕ
missing_cells columns [] = 0
missing_cells columns (row ∷ later) = (columns - length (cells_of row.text)) + missing_cells columns later

-- Rows are filled in, all of them or none, where no more cells are missing in them than may be filled in.
abbrev pub are_filled : ℕ → ℕ → List TextAt → Bool
are_filled cells columns rows = nat_le (missing_cells columns rows) cells

-- These are the events of cells of the row with this text, before which so many bytes of the page stand. Each holds the inlines of its
-- content.
abbrev pub AreCellEvents : EventSetting → ℕ → List ℕ → List Cell → List RangedEvent → Type 0
AreCellEvents setting before text [] events = events ≡ []
AreCellEvents setting before text (cell ∷ later) events =
    let content = content_of_cell text cell in
    (inlines : List RangedEvent) × (rest : List RangedEvent) × AreInlineEvents content.text setting inlines
    × AreCellEvents setting before text later rest
    × (events ≡ element table_cell (before + cell.start) (before + cell.end) (map (placed before content.offsets) inlines) ++ rest)

-- the first row is the head
abbrev pub row_tag : Bool → TagView (List ℕ)
row_tag true = table_head
row_tag false = table_row

-- These are the events of rows of a table with these columns, before whose lines so many bytes of the page stand. The first is its
-- head, or not.
abbrev pub AreRowEvents : EventSetting → Columns → ℕ → Bool → List TextAt → List RangedEvent → Type 0
AreRowEvents setting columns before is_head [] events = events ≡ []
AreRowEvents setting columns before is_head (row ∷ later) events =
    let from = before + row.offset in
    let len = row_len row.text in
    (cells : List RangedEvent) × (rest : List RangedEvent)
    × AreCellEvents setting from row.text (shown_cells columns.are_filled columns.count len (cells_of row.text)) cells
    × AreRowEvents setting columns before false later rest
    × (events ≡ element (row_tag is_head) from (from + len) cells ++ rest)

-- the rows of a table of a page
abbrev pub rows_in : List ℕ → Place → LeafBlock → List TextAt
rows_in page here block = rows_of here.kept here.containers (lines_in_page page block)

-- so many columns, where so many cells may be filled in
abbrev pub columns_of : ℕ → ℕ → List TextAt → Columns
columns_of cells columns rows = record { count = columns; are_filled = are_filled cells columns rows }

-- These are the events of a table: its rows, in an element that says how its columns are aligned.
pub record AreTableEvents (page : List ℕ) (setting : EventSetting) (here : Place) (block : LeafBlock) (columns : ℕ) (events : List RangedEvent) : Type 0 where
  pub alignments : List Alignment
  pub rows : List RangedEvent
  pub are_alignments : AreAlignments here.containers (lines_in_page page block) alignments
  pub are_rows : AreRowEvents setting (columns_of setting.cells columns (rows_in page here block)) block.start true (rows_in page here block) rows
  pub are_events : events ≡ element (table alignments) block.offset (block_end block) rows

-- The new events are the old ones and, after these, others of which this holds.
abbrev pub Adds : (List RangedEvent → Type 0) → List RangedEvent → List RangedEvent → Type 0
Adds Holds old new = (added : List RangedEvent) × Holds added × (new ≡ old ++ added)

-- no row ends after this offset in the page, where so many bytes of it stand before the lines of the table
abbrev pub RowsEndBy : ℕ → ℕ → List TextAt → Type 0
RowsEndBy before to [] = ⊤
RowsEndBy before to (row ∷ later) = (before + row.offset + length row.text ≤ to) × RowsEndBy before to later

-- each row is UTF-8
abbrev pub AreUtf8 : List TextAt → Type 0
AreUtf8 [] = ⊤
AreUtf8 (row ∷ later) = IsUtf8 row.text × AreUtf8 later
