-- What is written of the head of a table, and of the delimiter row after it.
use Rattle.std.proofs.Common.{ℕ, List, [], ◌∷◌, ◌++◌, ◌≡◌, ◌<◌, length, append_assoc, arith}
use Rattle.std.specs.Prelude.{slice_range}
use Rattle.std.specs.declared.ops.Range.{Range}
use Rattle.page_tables.specs.Cells.{row_text}
use Rattle.page_tables.specs.Layout.{delimiter_row, delimiters_at, laid_out_from, row_in}
use Rattle.page_tables.specs.Marks.{MarkView, head}
use Rattle.page_tables.specs.declared.columns.Column.{Column}

module _ (width : List ℕ → ℕ) (page : List ℕ) (from : ℕ) (range below : Range ℕ) (later : List MarkView) (is : below ≡ delimiters_at page range.end later) where
  -- the head, what stands between, and the delimiter row are what is laid out of a head
  pub head_laid : (columns same shown : List Column) (out first second third part : List ℕ) → 0 < length columns → same ≡ columns → shown ≡ same
      → first ≡ out ++ slice_range page from range.start ++ row_in width columns (row_text page range)
      → part ≡ slice_range page range.end below.start → second ≡ first ++ part → third ≡ second ++ delimiter_row shown
      → third ++ laid_out_from width page below.end same later ≡ out ++ laid_out_from width page from columns (head range ∷ later)
  head_laid [] same shown out first second third part some s h f p g t = absurd (omega (arith, some))
  head_laid (column ∷ columns) same shown out first second third part some s h f p g t =
      rw t (rw g (rw p (rw f (rw h (rw s (rw is (simp append_assoc)))))))
