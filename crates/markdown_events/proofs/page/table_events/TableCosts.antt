-- What the events of a table cost, where each event has a cost: so much for each byte of its lines, and so much for each cell.
use Rattle.std.proofs.Common.{ℕ, zero, suc, Bool, true, false, ◌+◌, ◌-◌, ◌*◌, ◌≤◌, ◌≡◌, List, [], ◌∷◌, ◌++◌, length, map, take, drop}
use Rattle.std.proofs.Common.{ap, refl, sym, subst, arith, length-append}
use Rattle.std.specs.List.{concat}
use Rattle.std.proofs.Math.Nat.{mul-le-mul_left}
use Rattle.std.proofs.lemmas.List.{length-take}
use Rattle.markdown_values.specs.declared.values.Alignment.{Alignment}
use Rattle.markdown_values.specs.values.Events.{start, end}
use Rattle.markdown_values.specs.values.Tags.{TagView, table, table_cell}
use Rattle.markdown_scanners_tree.specs.line.State.{LineState}
use Rattle.markdown_scanners_tree.specs.scanners.TextLines.{lines_of}
use Rattle.markdown_scanners_tree.proofs.ForCallers.{lines_joined}
use Rattle.markdown_blocks.specs.cells.Cells.{AreBetween, cells_of}
use Rattle.markdown_blocks.specs.cells.Contents.{bytes_of_cell, content_of_cell, escapes_pipe, unescaped}
use Rattle.markdown_blocks.specs.containers.Containers.{match_line}
use Rattle.markdown_blocks.specs.content.Parts.{first_offset}
use Rattle.markdown_blocks.specs.declared.blocks.BlockKind.TheVariants.{Paragraph}
use Rattle.markdown_blocks.specs.declared.cells.Cell.{Cell}
use Rattle.markdown_blocks.specs.declared.containers.Container.{Container}
use Rattle.markdown_blocks.specs.events.Events.{LeafBlock}
use Rattle.markdown_blocks.specs.rows.Rows.{TextAt, body_rows, later_rows, row_at, rows_of}
use Rattle.markdown_blocks.proofs.cells.LawLemmas.{between}
use Rattle.markdown_blocks.proofs.content.ReachedLemmas.{Reached}
use Rattle.markdown_blocks.proofs.content.ReachedPlaces.{first_reached, later_reached}
use Rattle.markdown_events.specs.InlineEvents.{EventSetting, RangedEvent, ranged}
use Rattle.markdown_events.specs.TagEnds.{tag_end}
use Rattle.markdown_events.specs.declared.page.table_events.Columns.{Columns}
use Rattle.markdown_events.specs.page.Places.{Place, element, placed}
use Rattle.markdown_events.specs.page.References.{begun_cells}
use Rattle.markdown_events.specs.page.Spans.{block_end}
use Rattle.markdown_events.specs.page.TableEvents.{AreCellEvents, AreRowEvents, AreTableEvents, columns_of, row_len, row_tag, rows_in, shown_cells}
use Rattle.markdown_events.proofs.inline_events.Costs.{Cost, IsInlineCost, inlines_cost, total, total_both}
use Rattle.markdown_events.proofs.page.RoomLemmas.{cells_both}
use Rattle.markdown_events.proofs.page.table_events.CellCounts.{AreFilled, cells_count, cells_of_element, lines_filled, no_row_begins}
use Rattle.markdown_events.proofs.page.table_events.RowLemmas.{row_ends}

-- ---- contents

-- how many bytes cells of a row hold
abbrev cells_len : List ℕ → List Cell → ℕ
cells_len row [] = 0
cells_len row (cell ∷ later) = length (content_of_cell row cell).text + cells_len row later

unescaped_few : (bytes : List ℕ) → length (unescaped bytes) ≤ length bytes
unescaped_few [] = omega arith
unescaped_few (b ∷ bs) = by (escapes_pipe (b ∷ bs)) refl (unescaped_few bs)
  where
    by : (escapes : Bool) → escapes_pipe (b ∷ bs) ≡ escapes → length (unescaped bs) ≤ length bs → length (unescaped (b ∷ bs)) ≤ length (b ∷ bs)
    by true is few = rw is (omega (arith, few))
    by false is few = rw is (omega (arith, few))

cell_few : (row : List ℕ) (cell : Cell) → length (content_of_cell row cell).text ≤ cell.end - cell.start
cell_few row cell =
    omega (arith, unescaped_few (bytes_of_cell row cell), length-take (cell.end - cell.start) (drop cell.start row))

between_few : (row : List ℕ) (begin to : ℕ) (cells : List Cell) → begin ≤ to → AreBetween begin to cells → cells_len row cells + begin ≤ to
between_few row begin to [] low are = omega (arith, low)
between_few row begin to (cell ∷ later) low (first, ordered, last, are) =
    omega (arith, first, ordered, cell_few row cell, between_few row cell.end to later last are)

-- those that are filled in hold nothing
shown_few : (row : List ℕ) (filled : Bool) (columns last : ℕ) (cells : List Cell)
    → cells_len row (shown_cells filled columns last cells) ≤ cells_len row cells
shown_few row filled zero last cells = omega arith
shown_few row true (suc columns) last [] =
    omega (arith, cell_few row (record { start = last; end = last }), shown_few row true columns last [])
shown_few row false (suc columns) last [] = omega arith
shown_few row true (suc columns) last (cell ∷ later) = omega (arith, shown_few row true columns last later)
shown_few row false (suc columns) last (cell ∷ later) = omega (arith, shown_few row false columns last later)

row_few : (row : List ℕ) (filled : Bool) (columns last : ℕ) → cells_len row (shown_cells filled columns last (cells_of row)) ≤ length row
row_few row filled columns last =
    omega (arith, shown_few row filled columns last (cells_of row), between_few row 0 (length row) (cells_of row) (omega arith) (between row))

-- how many bytes the texts of rows have
abbrev texts_len : List TextAt → ℕ
texts_len [] = 0
texts_len (row ∷ later) = length row.text + texts_len later

-- there are no more rows than bytes in their lines, and no more bytes in their texts
record AreFew (rows : List TextAt) (lines : List (List ℕ)) : Type 0 where
  rows_few : length rows ≤ length (concat lines)
  texts_few : texts_len rows ≤ length (concat lines)

text_few : (before : ℕ) (line : List ℕ) (s : LineState) → Reached line s → length (row_at before s).text ≤ length line
text_few before line s reached = omega (arith, row_ends before line s reached)

later_few : (outer : List Container) (before : ℕ) (lines : List (List ℕ)) → AreFilled lines → AreFew (later_rows outer before lines) lines
later_few outer before [] all = record { rows_few = omega arith; texts_few = omega arith }
later_few outer before (line ∷ lines) all =
    let more = later_few outer (before + length line) lines all.1 in
    let size = length-append line (concat lines) in
    let here = text_few before line (match_line outer line).state (later_reached line Paragraph outer) in
    record { rows_few = omega (arith, all.0, size, more.rows_few); texts_few = omega (arith, here, size, more.texts_few) }

body_few : (outer : List Container) (before : ℕ) (lines : List (List ℕ)) → AreFilled lines → AreFew (body_rows outer before lines) lines
body_few outer before [] all = record { rows_few = omega arith; texts_few = omega arith }
body_few outer before (line ∷ lines) all =
    let more = later_few outer (before + length line) lines all.1 in
    let size = length-append line (concat lines) in
    record { rows_few = omega (arith, size, more.rows_few); texts_few = omega (arith, size, more.texts_few) }

rows_few : (kept : ℕ) (outer : List Container) (lines : List (List ℕ)) → AreFilled lines → AreFew (rows_of kept outer lines) lines
rows_few kept outer [] all = record { rows_few = omega arith; texts_few = omega arith }
rows_few kept outer (line ∷ lines) all =
    let more = body_few outer (length line) lines all.1 in
    let size = length-append line (concat lines) in
    let here = text_few 0 line (first_offset kept outer line) (first_reached line kept outer) in
    record { rows_few = omega (arith, all.0, size, more.rows_few); texts_few = omega (arith, here, size, more.texts_few) }

-- ---- costs

module _ (cost : Cost) where
  -- wherever they stand
  pub total_placed : (before : ℕ) (offsets : List ℕ) (events : List RangedEvent) → total cost (map (placed before offsets) events) ≡ total cost events
  total_placed before offsets [] = refl
  total_placed before offsets (event ∷ later) = omega (arith, total_placed before offsets later)

  pub total_element : (tag : TagView (List ℕ)) (from to : ℕ) (inner : List RangedEvent)
      → total cost (element tag from to inner) ≡ cost (start tag) + cost (end (tag_end tag)) + total cost inner
  total_element tag from to inner = omega (arith, total_both cost inner (ranged (end (tag_end tag)) from to ∷ []))

module _ (cost : Cost) (byte tail edge row cell : ℕ) (is : IsInlineCost cost byte tail edge)
    (of_cell : cost (start table_cell) + cost (end (tag_end {A = List ℕ} table_cell)) ≤ cell)
    (of_row : (is_head : Bool) → cost (start (row_tag is_head)) + cost (end (tag_end (row_tag is_head))) ≤ row)
    (setting : EventSetting) where
  cells_cost : (before : ℕ) (text : List ℕ) (cells : List Cell) (events : List RangedEvent) → AreCellEvents setting before text cells events
      → total cost events ≤ cell * length cells + byte * cells_len text cells
  cells_cost before text [] events none = omega (arith, ap (total cost) none)
  cells_cost before text (one ∷ later) events (inlines, rest, are, are_rest, all) =
      let content = content_of_cell text one in
      let inner = map (placed before content.offsets) inlines in
      omega (
        arith,
        ap (total cost) all,
        total_both cost (element table_cell (before + one.start) (before + one.end) inner) rest,
        total_element cost table_cell (before + one.start) (before + one.end) inner,
        total_placed cost before content.offsets inlines,
        of_cell,
        inlines_cost cost byte tail edge is content.text setting inlines are,
        cells_cost before text later rest are_rest,
      )

  rows_cost : (columns : Columns) (before : ℕ) (is_head : Bool) (rows : List TextAt) (events : List RangedEvent)
      → AreRowEvents setting columns before is_head rows events
      → total cost events ≤ row * length rows + byte * texts_len rows + cell * begun_cells events
  rows_cost columns before is_head [] events none = omega (arith, ap (total cost) none)
  rows_cost columns before is_head (one ∷ later) events (cells, rest, are, are_rest, all) =
      let from = before + one.offset in
      let len = row_len one.text in
      let shown = shown_cells columns.are_filled columns.count len (cells_of one.text) in
      let whole = element (row_tag is_head) from (from + len) cells in
      let begun : begun_cells events ≡ length shown + begun_cells rest =
      omega (
        arith,
        ap begun_cells all,
        cells_both whole rest,
        cells_of_element (row_tag is_head) from (from + len) cells,
        no_row_begins setting is_head,
        cells_count setting from one.text shown cells are,
      ) in
      omega (
        arith,
        ap (total cost) all,
        total_both cost whole rest,
        total_element cost (row_tag is_head) from (from + len) cells,
        of_row is_head,
        cells_cost from one.text shown cells are,
        mul-le-mul_left byte (row_few one.text columns.are_filled columns.count len),
        ap (λ n. cell * n) begun,
        rows_cost columns before false later rest are_rest,
      )

  -- A table costs so much for its element, and so much for each byte of its lines and for each cell.
  pub table_cost : (page : List ℕ) (here : Place) (block : LeafBlock) (columns whole : ℕ) (events : List RangedEvent)
      → ((alignments : List Alignment) → cost (start (table alignments)) + cost (end (tag_end {A = List ℕ} (table alignments))) ≤ whole)
      → AreTableEvents page setting here block columns events
      → total cost events ≤ whole + row * block.bytes + byte * block.bytes + cell * begun_cells events
  table_cost page here block columns whole events of_table are =
      let lines = take block.bytes (drop block.start page) in
      let few = rows_few here.kept here.containers (lines_of lines) (lines_filled lines) in
      let size : length (concat (lines_of lines)) ≤ block.bytes =
      omega (arith, ap length (lines_joined lines), length-take block.bytes (drop block.start page)) in
      let begun : begun_cells events ≡ begun_cells are.rows =
      omega (arith, ap begun_cells are.are_events, cells_of_element (table are.alignments) block.offset (block_end block) are.rows) in
      let in_rows : length (rows_in page here block) ≤ block.bytes = omega (arith, few.rows_few, size) in
      let in_texts : texts_len (rows_in page here block) ≤ block.bytes = omega (arith, few.texts_few, size) in
      omega (
        arith,
        ap (total cost) are.are_events,
        total_element cost (table are.alignments) block.offset (block_end block) are.rows,
        of_table are.alignments,
        ap (λ n. cell * n) begun,
        mul-le-mul_left row in_rows,
        mul-le-mul_left byte in_texts,
        rows_cost (columns_of setting.cells columns (rows_in page here block)) block.start true (rows_in page here block) are.rows are.are_rows,
      )
