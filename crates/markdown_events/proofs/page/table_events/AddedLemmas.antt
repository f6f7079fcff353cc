-- Events that are added after those that are written.
use Rattle.std.proofs.Common.{ℕ, Bool, ◌+◌, ◌≡◌, ◌∙◌, List, [], ◌∷◌, ◌++◌, ap, append-nil, append_assoc, map, refl, subst, sym}
use Rattle.markdown_values.specs.values.Events.{start, end}
use Rattle.markdown_values.specs.values.Tags.{TagView, table_cell}
use Rattle.markdown_blocks.specs.cells.Cells.{cells_of}
use Rattle.markdown_blocks.specs.cells.Contents.{content_of_cell}
use Rattle.markdown_blocks.specs.declared.cells.Cell.{Cell}
use Rattle.markdown_blocks.specs.rows.Rows.{TextAt}
use Rattle.markdown_events.specs.InlineEvents.{AreInlineEvents, EventSetting, RangedEvent, ranged}
use Rattle.markdown_events.specs.TagEnds.{tag_end}
use Rattle.markdown_events.specs.declared.page.table_events.Columns.{Columns}
use Rattle.markdown_events.specs.page.Places.{element, placed}
use Rattle.markdown_events.specs.page.TableEvents.{Adds, AreCellEvents, AreRowEvents, row_len, row_tag, shown_cells}

-- Whatever events `Left` holds of, where they are added to those that are written, `All` holds of all that are added to the old ones.
abbrev pub Completes : (List RangedEvent → Type 0) → (List RangedEvent → Type 0) → List RangedEvent → List RangedEvent → Type 0
Completes All Left old written = (later : List RangedEvent) → Left later → Adds All old (written ++ later)

module _ (All Left : List RangedEvent → Type 0) (old : List RangedEvent) where
  -- where none is written
  pub none_added : ((later : List RangedEvent) → Left later → All later) → Completes All Left old old
  none_added same later left = (later, same later left, refl)

  -- where more are written
  pub more_added : (Here Later : List RangedEvent → Type 0) (written more : List RangedEvent) → Adds Here written more
      → ((here later : List RangedEvent) → Here here → Later later → Left (here ++ later)) → Completes All Left old written
      → Completes All Later old more
  more_added Here Later written more (here, is_here, added) joined given later is_later =
      subst (Adds All old) (sym (ap (λ (es : List RangedEvent). es ++ later) added ∙ append_assoc written here later))
      (given (here ++ later) (joined here later is_here is_later))

  -- where none is left
  pub all_added : (written : List RangedEvent) → Left [] → Completes All Left old written → Adds All old written
  all_added written none given = subst (Adds All old) (append-nil written) (given [] none)

-- an element is added by its start, what it holds, and its end
pub element_added : (tag : TagView (List ℕ)) (from to : ℕ) (inner old begun filled new : List RangedEvent)
    → begun ≡ old ++ ranged (start tag) from to ∷ [] → filled ≡ begun ++ inner → new ≡ filled ++ ranged (end (tag_end tag)) from to ∷ []
    → new ≡ old ++ element tag from to inner
element_added tag from to inner old begun filled new begins holds ends =
    let first : List RangedEvent = ranged (start tag) from to ∷ [] in
    let last : List RangedEvent = ranged (end (tag_end tag)) from to ∷ [] in
    ends ∙ (ap (λ (es : List RangedEvent). es ++ last) (holds ∙ (ap (λ (es : List RangedEvent). es ++ inner) begins ∙ append_assoc old first inner))
    ∙ append_assoc old (first ++ inner) last)

-- a cell, by its start, its inlines, and its end
pub cell_added : (setting : EventSetting) (before : ℕ) (text : List ℕ) (cell : Cell) (inlines old begun filled new : List RangedEvent)
    → AreInlineEvents (content_of_cell text cell).text setting inlines
    → begun ≡ old ++ ranged (start table_cell) (before + cell.start) (before + cell.end) ∷ []
    → filled ≡ begun ++ map (placed before (content_of_cell text cell).offsets) inlines
    → new ≡ filled ++ ranged (end (tag_end {A = List ℕ} table_cell)) (before + cell.start) (before + cell.end) ∷ []
    → Adds (AreCellEvents setting before text (cell ∷ [])) old new
cell_added setting before text cell inlines old begun filled new are begins holds ends =
    let inner = map (placed before (content_of_cell text cell).offsets) inlines in
    let whole = element table_cell (before + cell.start) (before + cell.end) inner in (
      whole,
      (inlines, [], are, refl, sym (append-nil whole)),
      element_added table_cell (before + cell.start) (before + cell.end) inner old begun filled new begins holds ends,
    )

-- a row, by its start, its cells, and its end
pub row_added : (setting : EventSetting) (columns : Columns) (before : ℕ) (is_head : Bool) (row : TextAt) (old begun filled new : List RangedEvent) →
    let from = before + row.offset in
    let to = from + row_len row.text in
    begun ≡ old ++ ranged (start (row_tag is_head)) from to ∷ []
    → Adds (AreCellEvents setting from row.text (shown_cells columns.are_filled columns.count (row_len row.text) (cells_of row.text))) begun filled
    → new ≡ filled ++ ranged (end (tag_end (row_tag is_head))) from to ∷ []
    → Adds (AreRowEvents setting columns before is_head (row ∷ [])) old new
row_added setting columns before is_head row old begun filled new begins (cells, are, holds) ends =
    let from = before + row.offset in
    let to = from + row_len row.text in
    let whole = element (row_tag is_head) from to cells in (
      whole,
      (cells, [], are, refl, sym (append-nil whole)),
      element_added (row_tag is_head) from to cells old begun filled new begins holds ends,
    )
