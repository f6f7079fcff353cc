-- The ranges of the events of a table rise, and those of its rows and cells lie within it.
use Rattle.std.proofs.Common.{ℕ, zero, suc, ◌+◌, ◌-◌, ◌<◌, ◌≤◌, ◌≡◌, Bool, true, false, List, [], ◌∷◌, ◌++◌, length, map, take, drop}
use Rattle.std.proofs.Common.{ap, refl, sym, subst, append_assoc, arith, length-append}
use Rattle.std.specs.Prelude.{⊤, slice_index}
use Rattle.std.specs.List.{concat}
use Rattle.std.proofs.lemmas.List.{length-take}
use Rattle.markdown_values.specs.values.Tags.{table, table_cell}
use Rattle.markdown_scanners_tree.specs.scanners.TextLines.{lines_of}
use Rattle.markdown_scanners_tree.proofs.ForCallers.{lines_joined}
use Rattle.markdown_blocks.specs.cells.Cells.{AreBetween, cells_of}
use Rattle.markdown_blocks.specs.cells.Contents.{bytes_of_cell, content_of_cell, escapes_pipe, unescaped_offsets}
use Rattle.markdown_blocks.specs.containers.Containers.{match_line}
use Rattle.markdown_blocks.specs.content.Parts.{first_offset}
use Rattle.markdown_blocks.specs.declared.blocks.BlockKind.TheVariants.{Paragraph}
use Rattle.markdown_blocks.specs.declared.cells.Cell.{Cell}
use Rattle.markdown_blocks.specs.declared.containers.Container.{Container}
use Rattle.markdown_blocks.specs.events.Events.{LeafBlock}
use Rattle.markdown_blocks.specs.laws.Order.{HoldsText}
use Rattle.markdown_blocks.specs.rows.Rows.{TextAt, body_rows, later_rows, row_at, rows_of}
use Rattle.markdown_blocks.proofs.ForCallers.{RiseStrictly, row_between}
use Rattle.markdown_blocks.proofs.content.ReachedPlaces.{first_reached, later_reached}
use Rattle.markdown_events.specs.EventLaws.{RiseIn}
use Rattle.markdown_events.specs.InlineEvents.{AreInlineEvents, EventSetting, RangedEvent}
use Rattle.markdown_events.specs.declared.page.table_events.Columns.{Columns}
use Rattle.markdown_events.specs.page.Places.{Place, element, placed}
use Rattle.markdown_events.specs.page.Spans.{block_end}
use Rattle.markdown_events.specs.page.TableEvents.{AreCellEvents, AreRowEvents, AreTableEvents, columns_of, row_len, row_tag, rows_in, shown_cells}
use Rattle.markdown_events.proofs.inline_events.Filled.{RiseFilled}
use Rattle.markdown_events.proofs.inline_events.Laws.{events_balance, events_filled}
use Rattle.markdown_events.proofs.inline_events.Rise.{rise_from}
use Rattle.markdown_events.proofs.page.NodeRanges.{element_rises}
use Rattle.markdown_events.proofs.page.leaf_events.TextRanges.{placed_rise, strictly_from}
use Rattle.markdown_events.proofs.page.table_events.CellLemmas.{cell_sizes}
use Rattle.markdown_events.proofs.page.table_events.RowLemmas.{row_ends, row_within}

-- ---- where rows stand

-- Rows stand one after the other, from one offset of the page on up to another, where so many bytes of it stand before their lines.
abbrev RowsStand : ℕ → ℕ → ℕ → List TextAt → Type 0
RowsStand start from to [] = from ≤ to
RowsStand start from to (row ∷ later) = (from ≤ start + row.offset) × RowsStand start (start + row.offset + length row.text) to later

rows_low : (start from to : ℕ) (rows : List TextAt) → RowsStand start from to rows → from ≤ to
rows_low start from to [] stand = stand
rows_low start from to (row ∷ later) stand =
    omega (arith, stand.0, rows_low start (start + row.offset + length row.text) to later stand.1)

later_stand : (outer : List Container) (start from before to : ℕ) (lines : List (List ℕ)) → from ≤ start + before
    → start + before + length (concat lines) ≤ to → RowsStand start from to (later_rows outer before lines)
later_stand outer start from before to [] low within = omega (arith, low, within)
later_stand outer start from before to (line ∷ lines) low within =
    let size = length-append line (concat lines) in
    let row = row_at before (match_line outer line).state in
    let here = row_ends before line (match_line outer line).state (later_reached line Paragraph outer) in (
      omega (arith, low),
      later_stand outer start (start + row.offset + length row.text) (before + length line) to lines (omega (arith, here))
          (omega (arith, size, within)),
    )

body_stand : (outer : List Container) (start from before to : ℕ) (lines : List (List ℕ)) → from ≤ start + before
    → start + before + length (concat lines) ≤ to → RowsStand start from to (body_rows outer before lines)
body_stand outer start from before to [] low within = omega (arith, low, within)
body_stand outer start from before to (line ∷ lines) low within =
    let size = length-append line (concat lines) in
    later_stand outer start from (before + length line) to lines (omega (arith, low)) (omega (arith, size, within))

-- from the offset on where the first does
rows_stand : (kept : ℕ) (outer : List Container) (start from to : ℕ) (lines : List (List ℕ)) → from ≤ to → start + length (concat lines) ≤ to
    → ((row : TextAt) (later : List TextAt) → rows_of kept outer lines ≡ row ∷ later → start + row.offset ≡ from)
    → RowsStand start from to (rows_of kept outer lines)
rows_stand kept outer start from to [] low within first = low
rows_stand kept outer start from to (line ∷ lines) low within first =
    let size = length-append line (concat lines) in
    let here = row_ends 0 line (first_offset kept outer line) (first_reached line kept outer) in
    (omega (arith, first _ _ refl), body_stand outer start _ (length line) to lines (omega (arith, here)) (omega (arith, size, within)))

-- ---- where cells stand, and their contents

shown_stand : (filled : Bool) (columns end begin : ℕ) (cells : List Cell) → begin ≤ end → AreBetween begin end cells
    → AreBetween begin end (shown_cells filled columns end cells)
shown_stand filled zero end begin cells low are = tt
shown_stand true (suc columns) end begin [] low are = (low, omega arith, omega arith, shown_stand true columns end end [] (omega arith) tt)
shown_stand false (suc columns) end begin [] low are = tt
shown_stand true (suc columns) end begin (cell ∷ later) low are =
    (are.0, are.1, are.2, shown_stand true columns end cell.end later are.2 are.3)
shown_stand false (suc columns) end begin (cell ∷ later) low are =
    (are.0, are.1, are.2, shown_stand false columns end cell.end later are.2 are.3)

strictly_earlier : (from to : ℕ) (offsets : List ℕ) → from ≤ to → RiseStrictly to offsets → RiseStrictly from offsets
strictly_earlier from to [] less rise = tt
strictly_earlier from to (offset ∷ offsets) less rise = (omega (arith, less, rise.0), rise.1)

offsets_strictly : (offset : ℕ) (bytes : List ℕ) → RiseStrictly offset (unescaped_offsets offset bytes)
offsets_strictly offset [] = tt
offsets_strictly offset (b ∷ bs) = by (escapes_pipe (b ∷ bs)) refl (offsets_strictly (offset + 1) bs)
  where
    by : (s : Bool) → escapes_pipe (b ∷ bs) ≡ s → RiseStrictly (offset + 1) (unescaped_offsets (offset + 1) bs)
        → RiseStrictly offset (unescaped_offsets offset (b ∷ bs))
    by true is here = rw is (strictly_earlier offset (offset + 1) (unescaped_offsets (offset + 1) bs) (omega arith) here)
    by false is here = rw is (omega arith, strictly_earlier (suc offset) (offset + 1) (unescaped_offsets (offset + 1) bs) (omega arith) here)

abbrev AllBelow : ℕ → List ℕ → Type 0
AllBelow limit [] = ⊤
AllBelow limit (offset ∷ offsets) = (offset < limit) × AllBelow limit offsets

below_at : (limit : ℕ) (offsets : List ℕ) (i : ℕ) → AllBelow limit offsets → i < length offsets → slice_index offsets i < limit
below_at limit [] i below inside = absurd (omega (arith, inside))
below_at limit (offset ∷ offsets) zero below inside = below.0
below_at limit (offset ∷ offsets) (suc i) below inside = below_at limit offsets i below.1 (omega (arith, inside))

offsets_below : (offset limit : ℕ) (bytes : List ℕ) → offset + length bytes ≤ limit → AllBelow limit (unescaped_offsets offset bytes)
offsets_below offset limit [] within = tt
offsets_below offset limit (b ∷ bs) within = by (escapes_pipe (b ∷ bs)) refl (offsets_below (offset + 1) limit bs (omega (arith, within)))
  where
    by : (s : Bool) → escapes_pipe (b ∷ bs) ≡ s → AllBelow limit (unescaped_offsets (offset + 1) bs) → AllBelow limit (unescaped_offsets offset (b ∷ bs))
    by true is here = rw is here
    by false is here = rw is (omega (arith, within), here)

-- ---- cells

module _ (setting : EventSetting) (before : ℕ) (text : List ℕ) where
  cell_rises : (cell : Cell) (inlines : List RangedEvent) → AreInlineEvents (content_of_cell text cell).text setting inlines → cell.start ≤ cell.end
      → (from to : ℕ) (ends : List ℕ) (rest : List RangedEvent) → from ≤ before + cell.start → before + cell.end ≤ to
      → RiseIn (to ∷ ends) (before + cell.end) rest
      → RiseIn (to ∷ ends) from
      (element table_cell (before + cell.start) (before + cell.end) (map (placed before (content_of_cell text cell).offsets) inlines) ++ rest)
  cell_rises cell inlines are in_order from to ends rest low fits gives =
      let content = content_of_cell text cell in
      let bytes = bytes_of_cell text cell in
      let offsets = content.offsets in
      let rise : RiseStrictly cell.start offsets = offsets_strictly cell.start bytes in
      let few = length-take (cell.end - cell.start) (drop cell.start text) in
      let below : AllBelow cell.end offsets = offsets_below cell.start cell.end bytes (omega (arith, few, in_order)) in
      element_rises table_cell (before + cell.start) (before + cell.end) from to ends
      (map (placed before offsets) inlines) rest low (omega (arith, in_order)) fits
      (λ more closed. placed_rise before offsets (strictly_earlier 0 cell.start offsets (omega arith) rise) (before + cell.end)
      (λ i inside. omega (arith, below_at cell.end offsets i below inside)) (before + cell.end) (to ∷ ends) more (omega arith) closed inlines
      (before + cell.start) (omega (arith, in_order)) (λ i inside. omega (arith, strictly_from offsets cell.start i rise inside))
      (events_balance content.text setting inlines are)
      (subst (λ n. RiseFilled (n ∷ []) 0 inlines) (sym (cell_sizes text cell)) (events_filled content.text setting inlines are))) gives

  cells_rise : (cells : List Cell) (begin end : ℕ) (events : List RangedEvent) → begin ≤ end → AreBetween begin end cells
      → AreCellEvents setting before text cells events → (from to : ℕ) (ends : List ℕ) (rest : List RangedEvent) → from ≤ before + begin
      → before + end ≤ to → RiseIn (to ∷ ends) (before + end) rest → RiseIn (to ∷ ends) from (events ++ rest)
  cells_rise [] begin end events less stand is from to ends rest low fits gives =
      subst (λ (es : List RangedEvent). RiseIn (to ∷ ends) from (es ++ rest)) (sym is)
      (rise_from (to ∷ ends) from (before + end) rest (omega (arith, low, less)) gives)
  cells_rise (cell ∷ cells) begin end events less stand (inlines, later, are, are_later, is) from to ends rest low fits gives =
      subst (λ (es : List RangedEvent). RiseIn (to ∷ ends) from (es ++ rest)) (sym is)
      (subst (RiseIn (to ∷ ends) from) (sym (append_assoc (element table_cell (before + cell.start) (before + cell.end)
      (map (placed before (content_of_cell text cell).offsets) inlines)) later rest))
      (cell_rises cell inlines are stand.1 from to ends (later ++ rest) (omega (arith, low, stand.0)) (omega (arith, stand.2, fits))
      (cells_rise cells cell.end end later stand.2 stand.3 are_later (before + cell.end) to ends rest (omega arith) fits gives)))

-- ---- rows

rows_rise : (setting : EventSetting) (columns : Columns) (start : ℕ) (is_head : Bool) (rows : List TextAt) (from to : ℕ) (events : List RangedEvent)
    → RowsStand start from to rows → AreRowEvents setting columns start is_head rows events
    → (ends : List ℕ) (rest : List RangedEvent) → RiseIn (to ∷ ends) to rest → RiseIn (to ∷ ends) from (events ++ rest)
rows_rise setting columns start is_head [] from to events stand is ends rest gives =
    subst (λ (es : List RangedEvent). RiseIn (to ∷ ends) from (es ++ rest)) (sym is) (rise_from (to ∷ ends) from to rest stand gives)
rows_rise setting columns start is_head (row ∷ rows) from to events stand (cells, later, are, are_later, is) ends rest gives =
    let offset = start + row.offset in
    let len = row_len row.text in
    let within = row_within row.text in
    let low = rows_low start (offset + length row.text) to rows stand.1 in
    let between = row_between row.text len (omega arith) in
    let after = rows_rise setting columns start false rows (offset + length row.text) to later stand.1 are_later ends rest gives in
    subst (λ (es : List RangedEvent). RiseIn (to ∷ ends) from (es ++ rest)) (sym is)
    (subst (RiseIn (to ∷ ends) from) (sym (append_assoc (element (row_tag is_head) offset (offset + len) cells) later rest))
    (element_rises (row_tag is_head) offset (offset + len) from to ends cells (later ++ rest) stand.0 (omega arith) (omega (arith, within, low))
    (λ more closed. cells_rise setting offset row.text (shown_cells columns.are_filled columns.count len (cells_of row.text)) 0 len cells (omega arith)
    (shown_stand columns.are_filled columns.count len 0 (cells_of row.text) (omega arith) between) are offset (offset + len) (to ∷ ends) more (omega arith)
    (omega arith) closed)
    (rise_from (to ∷ ends) (offset + len) (offset + length row.text) (later ++ rest) (omega (arith, within)) after)))

-- ---- the table

-- The events of a table rise after what has passed, up to its end, where its text stands in its lines.
pub table_rises : (page : List ℕ) (setting : EventSetting) (here : Place) (block : LeafBlock) (passed : ℕ) → passed ≤ block.offset
    → block.offset ≤ block_end block → HoldsText page here.containers here.kept block → (columns : ℕ) (events : List RangedEvent)
    → AreTableEvents page setting here block columns events
    → (from to : ℕ) (ends : List ℕ) (rest : List RangedEvent) → from ≤ passed → block_end block ≤ to → RiseIn (to ∷ ends) (block_end block) rest
    → RiseIn (to ∷ ends) from (events ++ rest)
table_rises page setting here block passed own ends_after holds columns events is from to ends rest low fits gives =
    let text = take block.bytes (drop block.start page) in
    let few = length-take block.bytes (drop block.start page) in
    let stand = rows_stand here.kept here.containers block.start block.offset (block_end block) (lines_of text) ends_after
    (omega (arith, few, ap length (lines_joined text))) holds.row in
    subst (λ (es : List RangedEvent). RiseIn (to ∷ ends) from (es ++ rest)) (sym is.are_events)
    (element_rises (table is.alignments) block.offset (block_end block) from to ends is.rows rest (omega (arith, low, own)) ends_after fits
    (λ more closed. rows_rise setting (columns_of setting.cells columns (rows_in page here block)) block.start true (rows_in page here block) block.offset
    (block_end block) is.rows
    stand is.are_rows (to ∷ ends) more closed) gives)
