-- The cells that a row shows, and their contents, stand in the row.
use Rattle.std.proofs.Common.{ℕ, zero, suc, ◌+◌, ◌-◌, ◌^◌, ◌<◌, ◌≤◌, ◌≡◌, Bool, true, false, List, [], ◌∷◌, ◌++◌, length, map}
use Rattle.std.proofs.Common.{ap, sym, subst, ◌∙◌, append-nil, arith, refl}
use Rattle.std.specs.Prelude.{⊤}
use Rattle.std.specs.List.{AllByRecursion}
use Rattle.std.specs.Str.{IsCharBoundary, IsUtf8}
use Rattle.markdown_values.specs.values.Tags.{table_cell}
use Rattle.markdown_blocks.specs.cells.Cells.{AreBetween, cells_of}
use Rattle.markdown_blocks.specs.content.Bytes.{AreBytesOf}
use Rattle.markdown_blocks.specs.cells.Contents.{bytes_of_cell, content_of_cell, escapes_pipe, unescaped, unescaped_offsets}
use Rattle.markdown_blocks.specs.declared.cells.Cell.{Cell}
use Rattle.markdown_blocks.proofs.ForCallers.{DoNotFall, IsCellCut, cell_bytes, cells_cut, row_cut}
use Rattle.markdown_events.specs.EventLaws.{LieIn}
use Rattle.markdown_events.specs.InlineEvents.{EventSetting, RangedEvent}
use Rattle.markdown_events.specs.page.LeafContent.{CanPlace}
use Rattle.markdown_events.specs.page.Places.{element, placed}
use Rattle.markdown_events.specs.page.TableEvents.{AreCellEvents, row_len, shown_cells}
use Rattle.markdown_events.proofs.inline_events.Filled.{filled_rise}
use Rattle.markdown_events.proofs.inline_events.Laws.{events_filled}
use Rattle.markdown_events.proofs.page.leaf_content.PlaceLemmas.{events_within, placed_lie}
use Rattle.markdown_events.proofs.page.leaf_events.RangeLaws.{element_lies, lie_before}

-- each of the cells begins before it ends, and ends within so many bytes
abbrev pub StandWithin : ℕ → List Cell → Type 0
StandWithin count [] = ⊤
StandWithin count (cell ∷ later) = (cell.start ≤ cell.end) × (cell.end ≤ count) × StandWithin count later

between_within : (begin count : ℕ) (cells : List Cell) → AreBetween begin count cells → StandWithin count cells
between_within begin count [] are = tt
between_within begin count (cell ∷ later) are = (are.1, are.2, between_within cell.end count later are.3)

shown_within : (filled : Bool) (columns end count : ℕ) (cells : List Cell) → end ≤ count → StandWithin count cells → StandWithin count
    (shown_cells filled columns end cells)
shown_within filled zero end count cells low are = tt
shown_within true (suc columns) end count [] low are = (omega arith, low, shown_within true columns end count [] low tt)
shown_within false (suc columns) end count [] low are = tt
shown_within true (suc columns) end count (cell ∷ later) low are = (are.0, are.1, shown_within true columns end count later low are.2)
shown_within false (suc columns) end count (cell ∷ later) low are = (are.0, are.1, shown_within false columns end count later low are.2)

pub shown_between : (filled : Bool) (columns end count : ℕ) (cells : List Cell) → end ≤ count → AreBetween 0 count cells
    → StandWithin count (shown_cells filled columns end cells)
shown_between filled columns end count cells low are = shown_within filled columns end count cells low (between_within 0 count cells are)

-- each may be cut out of the row
abbrev pub AreCutFrom : List ℕ → List Cell → Type 0
AreCutFrom text [] = ⊤
AreCutFrom text (cell ∷ later) = IsCharBoundary text cell.start × IsCharBoundary text cell.end × AreCutFrom text later

cells_cut_from : (text : List ℕ) (cells : List Cell) → AllByRecursion (IsCellCut text) cells → AreCutFrom text cells
cells_cut_from text [] all = tt
cells_cut_from text (cell ∷ later) all = (all.0.0, all.0.1, cells_cut_from text later all.1)

shown_cut : (text : List ℕ) (filled : Bool) (columns end : ℕ) (cells : List Cell) → IsCharBoundary text end → AreCutFrom text cells
    → AreCutFrom text (shown_cells filled columns end cells)
shown_cut text filled zero end cells cut all = tt
shown_cut text true (suc columns) end [] cut all = (cut, cut, shown_cut text true columns end [] cut tt)
shown_cut text false (suc columns) end [] cut all = tt
shown_cut text true (suc columns) end (cell ∷ later) cut all = (all.0, all.1, shown_cut text true columns end later cut all.2)
shown_cut text false (suc columns) end (cell ∷ later) cut all = (all.0, all.1, shown_cut text false columns end later cut all.2)

-- those that a row shows
pub row_cells_cut : (text : List ℕ) (filled : Bool) (columns end : ℕ) (cells : List Cell) → IsUtf8 text → end ≡ row_len text → cells ≡ cells_of text
    → AreCutFrom text (shown_cells filled columns end cells)
row_cells_cut text filled columns end cells utf8 end_is are =
    shown_cut text filled columns end cells (subst (IsCharBoundary text) (sym end_is) (row_cut text))
    (subst (AreCutFrom text) (sym are) (cells_cut_from text (cells_of text) (cells_cut text utf8)))

-- ---- contents

offsets_sizes : (offset : ℕ) (bytes : List ℕ) → length (unescaped_offsets offset bytes) ≡ length (unescaped bytes)
offsets_sizes offset [] = refl
offsets_sizes offset (b ∷ bs) = by (escapes_pipe (b ∷ bs)) refl (offsets_sizes (offset + 1) bs)
  where
    by : (s : Bool) → escapes_pipe (b ∷ bs) ≡ s → length (unescaped_offsets (offset + 1) bs) ≡ length (unescaped bs)
        → length (unescaped_offsets offset (b ∷ bs)) ≡ length (unescaped (b ∷ bs))
    by true is here = rw is here
    by false is here = rw is (ap suc here)

offsets_from : (from to : ℕ) (offsets : List ℕ) → from ≤ to → DoNotFall to offsets → DoNotFall from offsets
offsets_from from to [] low are = tt
offsets_from from to (offset ∷ offsets) low are = (omega (arith, low, are.0), are.1)

offsets_rise : (offset : ℕ) (bytes : List ℕ) → DoNotFall offset (unescaped_offsets offset bytes)
offsets_rise offset [] = tt
offsets_rise offset (b ∷ bs) =
    by (escapes_pipe (b ∷ bs)) refl (offsets_from offset (offset + 1) (unescaped_offsets (offset + 1) bs) (omega arith) (offsets_rise (offset + 1) bs))
  where
    by : (s : Bool) → escapes_pipe (b ∷ bs) ≡ s → DoNotFall offset (unescaped_offsets (offset + 1) bs)
        → DoNotFall offset (unescaped_offsets offset (b ∷ bs))
    by true is here = rw is here
    by false is here = rw is (omega arith, here)

-- the content of a cell has an offset for each byte, and they don't fall
pub cell_sizes : (row : List ℕ) (cell : Cell) → length (content_of_cell row cell).offsets ≡ length (content_of_cell row cell).text
cell_sizes row cell = offsets_sizes cell.start (bytes_of_cell row cell)

pub cell_rises : (row : List ℕ) (cell : Cell) → DoNotFall 0 (content_of_cell row cell).offsets
cell_rises row cell =
    offsets_from 0 cell.start (content_of_cell row cell).offsets (omega arith) (offsets_rise cell.start (bytes_of_cell row cell))

pub cell_can_place : (before : ℕ) (row : List ℕ) (cell : Cell) → before + length row < 2 ^ 64
    → AreBytesOf row (content_of_cell row cell) → CanPlace before (content_of_cell row cell)
cell_can_place before row cell fits stand = record {
  each = cell_sizes row cell;
  fits = λ offset low. omega (arith, (stand offset low).0, fits);
  begins = omega (arith, fits);
}

-- ---- events of cells

-- they lie in the row
pub cells_lie : (setting : EventSetting) (before : ℕ) (text : List ℕ) (cells : List Cell) (events : List RangedEvent) → StandWithin (length text) cells
    → AreCellEvents setting before text cells events → LieIn before (before + length text) events
cells_lie setting before text [] events stand is = subst (LieIn before (before + length text)) (sym is) tt
cells_lie setting before text (cell ∷ later) events stand (inlines, rest, are, are_rest, is) =
    let to = before + length text in
    let content = content_of_cell text cell in
    let inner = map (placed before content.offsets) inlines in
    let within = events_within content.text inlines (filled_rise (length content.text ∷ []) 0 inlines (events_filled content.text setting inlines are)) in
    let lie = placed_lie before (length text) text content (omega arith) (cell_sizes text cell) (cell_bytes text cell) (cell_rises text cell) inlines within in
    subst (LieIn before to) (sym is)
    (lie_before before to (element table_cell (before + cell.start) (before + cell.end) inner) rest
    (element_lies table_cell before to (before + cell.start) (before + cell.end) inner (omega arith) (omega (arith, stand.0)) (omega (arith, stand.1)) lie)
    (cells_lie setting before text later rest stand.2 are_rest))

-- before the first
pub cells_begin : (setting : EventSetting) (before : ℕ) (text : List ℕ) (filled : Bool) (columns end : ℕ) (cells : List Cell) → end ≡ row_len text
    → cells ≡ cells_of text → (later : List RangedEvent) → AreCellEvents setting before text (shown_cells filled columns end cells) later
    → AreCellEvents setting before text (shown_cells filled columns (row_len text) (cells_of text)) later
cells_begin setting before text filled columns end cells end_is cells_are later are =
    subst (λ (cs : List Cell). AreCellEvents setting before text (shown_cells filled columns (row_len text) cs) later) cells_are
    (subst (λ n. AreCellEvents setting before text (shown_cells filled columns n cells) later) end_is are)

module _ (filled : Bool) (left end : ℕ) (old new : List Cell) (cell : Cell) (some : 0 < left)
    (next : shown_cells filled (suc (left - 1)) end old ≡ cell ∷ shown_cells filled (left - 1) end new) where
  shown : shown_cells filled left end old ≡ cell ∷ shown_cells filled (left - 1) end new
  shown = let one : left ≡ suc (left - 1) = omega (arith, some) in ap (λ n. shown_cells filled n end old) one ∙ next

  pub stand_more : (count : ℕ) → StandWithin count (shown_cells filled left end old)
      → (cell.start ≤ cell.end) × (cell.end ≤ count) × StandWithin count (shown_cells filled (left - 1) end new)
  stand_more count stand = subst (StandWithin count) shown stand

  pub cut_more : (text : List ℕ) → AreCutFrom text (shown_cells filled left end old)
      → IsCharBoundary text cell.start × IsCharBoundary text cell.end × AreCutFrom text (shown_cells filled (left - 1) end new)
  cut_more text cut = subst (AreCutFrom text) shown cut

  -- the next
  pub cells_more : (setting : EventSetting) (before : ℕ) (text : List ℕ) (here later : List RangedEvent)
      → AreCellEvents setting before text (cell ∷ []) here → AreCellEvents setting before text (shown_cells filled (left - 1) end new) later
      → AreCellEvents setting before text (shown_cells filled left end old) (here ++ later)
  cells_more setting before text here later (inlines, rest, are, none, is) are_later =
      let own = element table_cell (before + cell.start) (before + cell.end) (map (placed before (content_of_cell text cell).offsets) inlines) in
      let alone : here ≡ own = is ∙ (ap (λ (es : List RangedEvent). own ++ es) none ∙ append-nil own) in
      let whole : AreCellEvents setting before text (cell ∷ shown_cells filled (left - 1) end new) (here ++ later) =
      (inlines, later, are, are_later, ap (λ (es : List RangedEvent). es ++ later) alone) in
      subst (λ (cs : List Cell). AreCellEvents setting before text cs (here ++ later)) (sym shown) whole

-- after the last
pub cells_done : (setting : EventSetting) (before : ℕ) (text : List ℕ) (cells : List Cell) → cells ≡ []
    → AreCellEvents setting before text cells []
cells_done setting before text cells none = subst (λ (cs : List Cell). AreCellEvents setting before text cs []) (sym none) refl

pub cells_end : (setting : EventSetting) (before : ℕ) (text : List ℕ) (filled : Bool) (left end : ℕ) (cells : List Cell) → left ≡ 0
    → AreCellEvents setting before text (shown_cells filled left end cells) []
cells_end setting before text filled left end cells none =
    subst (λ n. AreCellEvents setting before text (shown_cells filled n end cells) []) (sym none) refl
