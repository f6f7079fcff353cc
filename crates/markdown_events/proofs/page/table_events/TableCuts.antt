-- The ranges of the events of a table begin and end at character boundaries of the page.
use Rattle.std.proofs.Common.{ℕ, zero, suc, ◌+◌, ◌≤◌, ◌≡◌, Bool, true, false, List, [], ◌∷◌, length, map, inl, inr, sym, subst, arith}
use Rattle.std.specs.Prelude.{slice_index}
use Rattle.std.specs.List.{AllByRecursion}
use Rattle.std.specs.Str.{IsUtf8, IsCharBoundary}
use Rattle.std.proofs.lemmas.Bool.Decides.{leb_tells}
use Rattle.std.proofs.lemmas.List.{get_or_past}
use Rattle.std.proofs.lemmas.Str.{IsCharBoundary-start}
use Rattle.markdown_values.specs.values.Tags.{table, table_cell}
use Rattle.markdown_blocks.specs.cells.Cells.{AreBetween, cells_of}
use Rattle.markdown_blocks.specs.cells.Contents.{content_of_cell}
use Rattle.markdown_blocks.specs.declared.cells.Cell.{Cell}
use Rattle.markdown_blocks.specs.events.Events.{LeafBlock}
use Rattle.markdown_blocks.specs.laws.Characters.{IsCutOut}
use Rattle.markdown_blocks.specs.rows.Rows.{TextAt}
use Rattle.markdown_blocks.proofs.ForCallers.{IsCellCut, IsRowCut, cell_bytes, cell_ends, cell_utf8, cells_cut, content_cuts, row_between, row_cut}
use Rattle.markdown_blocks.proofs.ForCallers.{rows_cut}
use Rattle.markdown_events.specs.EventLaws.{AreAtBoundaries}
use Rattle.markdown_events.specs.InlineEvents.{EventSetting, RangedEvent}
use Rattle.markdown_events.specs.declared.page.table_events.Columns.{Columns}
use Rattle.markdown_events.specs.page.Places.{Place, element, placed}
use Rattle.markdown_events.specs.page.Spans.{block_end}
use Rattle.markdown_events.specs.page.TableEvents.{AreCellEvents, AreRowEvents, AreTableEvents, columns_of, row_len, row_tag, rows_in, shown_cells}
use Rattle.markdown_events.proofs.inline_events.Boundaries.{both_at, events_at_boundaries}
use Rattle.markdown_events.proofs.page.leaf_events.PlacedCuts.{PlacesCut, element_at, in_page, placed_at}
use Rattle.markdown_events.proofs.page.table_events.CellLemmas.{cell_sizes}

-- a cell that may be cut out of a row
abbrev IsFit : List ℕ → Cell → Type 0
IsFit text cell = (cell.start ≤ cell.end) × IsCellCut text cell

fit_cells : (text : List ℕ) (begin end : ℕ) (cells : List Cell) → AreBetween begin end cells → AllByRecursion (IsCellCut text) cells
    → AllByRecursion (IsFit text) cells
fit_cells text begin end [] between all = tt
fit_cells text begin end (cell ∷ later) between all = ((between.1, all.0), fit_cells text cell.end end later between.3 all.1)

shown_fit : (text : List ℕ) (filled : Bool) (columns end : ℕ) (cells : List Cell) → IsCharBoundary text end → AllByRecursion (IsFit text) cells
    → AllByRecursion (IsFit text) (shown_cells filled columns end cells)
shown_fit text filled zero end cells cut all = tt
shown_fit text true (suc columns) end [] cut all = ((omega arith, (cut, cut)), shown_fit text true columns end [] cut tt)
shown_fit text false (suc columns) end [] cut all = tt
shown_fit text true (suc columns) end (cell ∷ later) cut all = (all.0, shown_fit text true columns end later cut all.1)
shown_fit text false (suc columns) end (cell ∷ later) cut all = (all.0, shown_fit text false columns end later cut all.1)

module _ (page : List ℕ) (setting : EventSetting) (before : ℕ) (text : List ℕ) (utf8 : IsUtf8 text)
    (in_row : (offset : ℕ) → IsCharBoundary text offset → IsCharBoundary page (before + offset)) where
  cell_offsets : (cell : Cell) → IsFit text cell → PlacesCut page before (content_of_cell text cell)
  cell_offsets cell fit =
      let content = content_of_cell text cell in record {
        starts = λ offset at. elim (leb_tells (length content.text) offset) [
          | inl past ↦
              (let none : slice_index content.offsets offset ≡ 0 =
              get_or_past content.offsets offset 0 (omega (arith, past.1, cell_sizes text cell)) in
              subst (λ n. IsCharBoundary page (before + n)) (sym none) (in_row 0 (IsCharBoundary-start text utf8)))
          | inr inside ↦
              in_row (slice_index content.offsets offset) ((content_cuts text content (cell_bytes text cell) offset inside.1).0 at)
        ];
        ends = λ offset inside at.
            let there = in_row (slice_index content.offsets offset + 1) (cell_ends text cell fit.0 fit.1 offset inside at) in
            let same : before + (slice_index content.offsets offset + 1) ≡ before + slice_index content.offsets offset + 1 = omega arith in
            subst (IsCharBoundary page) same there;
      }

  cells_at : (cells : List Cell) (events : List RangedEvent) → AllByRecursion (IsFit text) cells → AreCellEvents setting before text cells events
      → AreAtBoundaries page events
  cells_at [] events all is = subst (AreAtBoundaries page) (sym is) tt
  cells_at (cell ∷ later) events all (inlines, rest, are, are_rest, is) =
      let content = content_of_cell text cell in
      let own = events_at_boundaries content.text setting inlines (cell_utf8 text cell utf8 all.0.0 all.0.1) are in
      let inner = map (placed before content.offsets) inlines in
      subst (AreAtBoundaries page) (sym is)
      (both_at page (element table_cell (before + cell.start) (before + cell.end) inner) rest
      (element_at page table_cell (before + cell.start) (before + cell.end) inner (in_row cell.start all.0.1.0)
      (in_row cell.end all.0.1.1) (placed_at page before content (cell_offsets cell all.0) inlines own))
      (cells_at later rest all.1 are_rest))

rows_at : (page lines : List ℕ) (setting : EventSetting) (columns : Columns) (start : ℕ)
    → ((offset : ℕ) → IsCharBoundary lines offset → IsCharBoundary page (start + offset)) → (is_head : Bool) (rows : List TextAt)
    → (events : List RangedEvent) → AllByRecursion (IsRowCut lines) rows → AreRowEvents setting columns start is_head rows events
    → AreAtBoundaries page events
rows_at page lines setting columns start in_lines is_head [] events all is = subst (AreAtBoundaries page) (sym is) tt
rows_at page lines setting columns start in_lines is_head (row ∷ later) events all (cells, rest, are, are_rest, is) =
    let from = start + row.offset in
    let len = row_len row.text in
    let cut = row_cut row.text in
    let fit = fit_cells row.text 0 len (cells_of row.text) (row_between row.text len (omega arith)) (cells_cut row.text all.0.utf8) in
    subst (AreAtBoundaries page) (sym is)
    (both_at page (element (row_tag is_head) from (from + len) cells) rest
    (element_at page (row_tag is_head) from (from + len) cells begins (in_row len cut)
    (cells_at page setting from row.text all.0.utf8 in_row (shown_cells columns.are_filled columns.count len (cells_of row.text)) cells
    (shown_fit row.text columns.are_filled columns.count len (cells_of row.text) cut fit) are))
    (rows_at page lines setting columns start in_lines false later rest all.1 are_rest))
  where
    in_row : (offset : ℕ) → IsCharBoundary row.text offset → IsCharBoundary page (start + row.offset + offset)
    in_row offset at =
        let same : start + (row.offset + offset) ≡ start + row.offset + offset = omega arith in
        subst (IsCharBoundary page) same (in_lines (row.offset + offset) (all.0.cuts offset at))

    begins : IsCharBoundary page (start + row.offset)
    begins =
        let same : start + row.offset + 0 ≡ start + row.offset = omega arith in
        subst (IsCharBoundary page) same (in_row 0 (IsCharBoundary-start row.text all.0.utf8))

-- of a table
pub table_at : (page : List ℕ) (setting : EventSetting) (here : Place) (block : LeafBlock) (columns : ℕ) (events : List RangedEvent)
    → IsCutOut page block → AreTableEvents page setting here block columns events → AreAtBoundaries page events
table_at page setting here block columns events cut is =
    subst (AreAtBoundaries page) (sym is.are_events)
    (element_at page (table is.alignments) block.offset (block_end block) is.rows cut.offset cut.ends
    (rows_at page _ setting (columns_of setting.cells columns (rows_in page here block)) block.start (in_page page block cut) true
    (rows_in page here block) is.rows
    (rows_cut here.kept here.containers _ cut.lines) is.are_rows))
