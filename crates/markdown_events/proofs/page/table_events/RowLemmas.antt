-- The rows of a table stand in its lines.
use Rattle.std.proofs.Common.{ℕ, ◌+◌, ◌-◌, ◌≤◌, ◌≡◌, Bool, true, false, List, [], ◌∷◌, ◌++◌, length, take, drop}
use Rattle.std.proofs.Common.{ap, refl, sym, subst, ◌∙◌, append-nil, arith, length-append, not}
use Rattle.std.specs.List.{AllByRecursion, concat, prefix_len, suffix_len}
use Rattle.std.specs.Str.{IsUtf8}
use Rattle.std.proofs.lemmas.List.{length-drop, length-take}
use Rattle.markdown_values.specs.values.Tags.{table}
use Rattle.markdown_scanners_tree.specs.Bytes.{is_line_ending, is_space_or_tab, line_head}
use Rattle.markdown_scanners_tree.specs.line.State.{LineState, after_space}
use Rattle.markdown_scanners_tree.specs.scanners.TextLines.{lines_of}
use Rattle.markdown_scanners_tree.proofs.ForCallers.{lines_joined}
use Rattle.markdown_blocks.specs.cells.Cells.{cells_of}
use Rattle.markdown_blocks.specs.containers.Containers.{match_line}
use Rattle.markdown_blocks.specs.content.Parts.{first_offset}
use Rattle.markdown_blocks.specs.declared.blocks.BlockKind.TheVariants.{Paragraph}
use Rattle.markdown_blocks.specs.declared.containers.Container.{Container}
use Rattle.markdown_blocks.specs.events.Events.{LeafBlock}
use Rattle.markdown_blocks.specs.rows.Rows.{TextAt, body_rows, later_rows, row_at, rows_of}
use Rattle.markdown_blocks.proofs.ForCallers.{IsRowCut, row_between, rows_cut}
use Rattle.markdown_blocks.proofs.content.ReachedLemmas.{Reached, after_some}
use Rattle.markdown_blocks.proofs.content.ReachedPlaces.{first_reached, later_reached}
use Rattle.markdown_events.specs.EventLaws.{LieIn}
use Rattle.markdown_events.specs.InlineEvents.{EventSetting, RangedEvent}
use Rattle.markdown_events.specs.declared.page.table_events.Columns.{Columns}
use Rattle.markdown_events.specs.page.LeafContent.{HasPlace, LieInBlock}
use Rattle.markdown_events.specs.page.Places.{Place, element}
use Rattle.markdown_events.specs.page.Spans.{block_end}
use Rattle.markdown_events.specs.page.TableEvents.{AreRowEvents, AreTableEvents, AreUtf8, RowsEndBy, columns_of, row_len, row_tag, rows_in, shown_cells}
use Rattle.markdown_events.proofs.page.leaf_events.RangeLaws.{element_lies, enclosed_lies, lie_before}
use Rattle.markdown_events.proofs.page.table_events.CellLemmas.{cells_lie, shown_between}

-- a row ends in its line
pub row_ends : (before : ℕ) (line : List ℕ) (s : LineState) → Reached line s
    → (row_at before s).offset + length (row_at before s).text ≤ before + length line
row_ends before line s r =
    let t = after_space 4 s in
    let there = after_some line s r 4 in
    let size = length-drop t.offset t.bytes in
    omega (arith, size, ap length there.of_line, there.within)

later_end : (outer : List Container) (start before to : ℕ) (lines : List (List ℕ)) → start + before + length (concat lines) ≤ to
    → RowsEndBy start to (later_rows outer before lines)
later_end outer start before to [] within = tt
later_end outer start before to (line ∷ lines) within =
    let size = length-append line (concat lines) in
    let here = row_ends before line (match_line outer line).state (later_reached line Paragraph outer) in
    (omega (arith, size, here, within), later_end outer start (before + length line) to lines (omega (arith, size, within)))

body_end : (outer : List Container) (start before to : ℕ) (lines : List (List ℕ)) → start + before + length (concat lines) ≤ to
    → RowsEndBy start to (body_rows outer before lines)
body_end outer start before to [] within = tt
body_end outer start before to (line ∷ lines) within =
    let size = length-append line (concat lines) in
    later_end outer start (before + length line) to lines (omega (arith, size, within))

all_end : (kept : ℕ) (outer : List Container) (start to : ℕ) (lines : List (List ℕ)) → start + length (concat lines) ≤ to
    → RowsEndBy start to (rows_of kept outer lines)
all_end kept outer start to [] within = tt
all_end kept outer start to (line ∷ lines) within =
    let size = length-append line (concat lines) in
    let here = row_ends 0 line (first_offset kept outer line) (first_reached line kept outer) in
    (omega (arith, size, here, within), body_end outer start (length line) to lines (omega (arith, size, within)))

-- no row ends after the lines
pub rows_end : (kept : ℕ) (outer : List Container) (start to : ℕ) (text : List ℕ) → start + length text ≤ to
    → RowsEndBy start to (rows_of kept outer (lines_of text))
rows_end kept outer start to text within =
    all_end kept outer start to (lines_of text) (omega (arith, within, ap length (lines_joined text)))

all_utf8 : (lines : List ℕ) (rows : List TextAt) → AllByRecursion (IsRowCut lines) rows → AreUtf8 rows
all_utf8 lines [] cut = tt
all_utf8 lines (row ∷ later) cut = (cut.0.utf8, all_utf8 lines later cut.1)

-- the rows of lines that are UTF-8
pub rows_utf8 : (kept : ℕ) (outer : List Container) (text : List ℕ) → IsUtf8 text → AreUtf8 (rows_of kept outer (lines_of text))
rows_utf8 kept outer text utf8 = all_utf8 text (rows_of kept outer (lines_of text)) (rows_cut kept outer text utf8)

-- ---- events of rows

lie_wider : (outer from to outer_to : ℕ) (events : List RangedEvent) → outer ≤ from → to ≤ outer_to → LieIn from to events
    → LieIn outer outer_to events
lie_wider outer from to outer_to [] low high lie = tt
lie_wider outer from to outer_to (event ∷ events) low high lie = (
  record { begins = omega (arith, low, lie.0.begins); in_order = lie.0.in_order; ends = omega (arith, high, lie.0.ends) },
  lie_wider outer from to outer_to events low high lie.1,
)

-- a row ends with its text
pub row_within : (text : List ℕ) → row_len text ≤ length text
row_within text =
    let line = line_head text in
    omega (
      arith,
      length-take (length line - suffix_len is_space_or_tab line) line,
      length-take (prefix_len (λ b. not (is_line_ending b)) text) text,
    )

rows_lie : (setting : EventSetting) (columns : Columns) (before to : ℕ) (is_head : Bool) (rows : List TextAt) (events : List RangedEvent)
    → RowsEndBy before to rows → AreRowEvents setting columns before is_head rows events → LieIn before to events
rows_lie setting columns before to is_head [] events ends is = subst (LieIn before to) (sym is) tt
rows_lie setting columns before to is_head (row ∷ later) events ends (cells, rest, are, are_rest, is) =
    let from = before + row.offset in
    let len = row_len row.text in
    let within = row_within row.text in
    let shown = shown_cells columns.are_filled columns.count len (cells_of row.text) in
    let stand = shown_between columns.are_filled columns.count len (length row.text) (cells_of row.text) within
    (row_between row.text (length row.text) within) in
    let lie = lie_wider before from (from + length row.text) to cells (omega arith) ends.0 (cells_lie setting from row.text shown cells stand are) in
    subst (LieIn before to) (sym is)
    (lie_before before to (element (row_tag is_head) from (from + len) cells) rest
    (element_lies (row_tag is_head) before to from (from + len) cells (omega arith) (omega arith) (omega (arith, within, ends.0)) lie)
    (rows_lie setting columns before to false later rest ends.1 are_rest))

-- those of a table lie within its lines
pub table_lies : (page : List ℕ) (setting : EventSetting) (here : Place) (block : LeafBlock) (columns : ℕ) (events : List RangedEvent)
    → AreTableEvents page setting here block columns events → HasPlace block → LieInBlock block events
table_lies page setting here block columns events is has =
    let text = take block.bytes (drop block.start page) in
    let few = length-take block.bytes (drop block.start page) in
    let ends = rows_end here.kept here.containers block.start (block_end block) text (omega (arith, few)) in
    subst (LieInBlock block) (sym is.are_events)
    (enclosed_lies (table is.alignments) block is.rows has
    (rows_lie setting (columns_of setting.cells columns (rows_in page here block)) block.start (block_end block) true
    (rows_in page here block) is.rows ends is.are_rows))

module _ (before : ℕ) (columns : Columns) (row : TextAt) (rows new : List TextAt) (next : rows ≡ row ∷ new) where
  pub row_first : (to : ℕ) → RowsEndBy before to rows → (before + row.offset + length row.text ≤ to) × RowsEndBy before to new
  row_first to ends = subst (RowsEndBy before to) next ends

  pub row_text : AreUtf8 rows → IsUtf8 row.text × AreUtf8 new
  row_text utf8 = subst AreUtf8 next utf8

  -- the next
  pub rows_more : (setting : EventSetting) (is_head : Bool) (here later : List RangedEvent)
      → AreRowEvents setting columns before is_head (row ∷ []) here → AreRowEvents setting columns before false new later
      → AreRowEvents setting columns before is_head rows (here ++ later)
  rows_more setting is_head here later (cells, rest, are, none, is) are_later =
      let from = before + row.offset in
      let own = element (row_tag is_head) from (from + row_len row.text) cells in
      let alone : here ≡ own = is ∙ (ap (λ (es : List RangedEvent). own ++ es) none ∙ append-nil own) in
      let whole : AreRowEvents setting columns before is_head (row ∷ new) (here ++ later) =
      (cells, later, are, are_later, ap (λ (es : List RangedEvent). es ++ later) alone) in
      subst (λ (rs : List TextAt). AreRowEvents setting columns before is_head rs (here ++ later)) (sym next) whole

-- after the last
pub rows_done : (setting : EventSetting) (columns : Columns) (before : ℕ) (is_head : Bool) (rows : List TextAt) → rows ≡ []
    → AreRowEvents setting columns before is_head rows []
rows_done setting columns before is_head rows none =
    subst (λ (rs : List TextAt). AreRowEvents setting columns before is_head rs []) (sym none) refl
