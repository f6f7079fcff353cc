-- What is named of the tables of a page that are left as they are.
use Rattle.std.specs.Prelude.{ℕ, ◌≡◌, nat_le, List, [], ◌∷◌, ◌++◌, map, if◌then◌else◌}
use Rattle.std.specs.declared.ops.Range.{Range}
use Rattle.markdown_blocks.specs.blocks.Tables.{cells}
use Rattle.page_tables.specs.Cells.{row_text}
use Rattle.page_tables.specs.Columns.{fits, is_too_wide}
use Rattle.page_tables.specs.Formatted.{columns_after}
use Rattle.page_tables.specs.Marks.{AreMarksOf, MarkView, begins, head, row, head_start}
use Rattle.page_tables.specs.declared.misfits.Misfit.{Misfit}
use Rattle.page_tables.specs.declared.misfits.Unfit.TheVariants.{TooManyCells, NoCell, TooWide}

-- the row of this range, if it doesn't fit a table with so many columns
abbrev pub misfit_of : List ℕ → ℕ → Range ℕ → List Misfit
misfit_of page columns range =
    if fits columns (row_text page range) then []
    else record { start = range.start; why = if nat_le 1 (cells (row_text page range)) then TooManyCells else NoCell } ∷ []

-- a table whose head begins here is too wide
abbrev pub too_wide_at : ℕ → Misfit
too_wide_at offset = record { start = offset; why = TooWide }

-- the widths of cells
module _ (width : List ℕ → ℕ) where
  -- what is named at a mark, before these: the head of a table that would be too wide, and a row that doesn't fit
  abbrev pub misfit_at : List ℕ → ℕ → MarkView → List MarkView → List Misfit
  misfit_at page columns (begins alignments) later =
      if is_too_wide width page alignments later then map too_wide_at (head_start later) else []
  misfit_at page columns (head range) later = misfit_of page columns range
  misfit_at page columns (row range) later = misfit_of page columns range
  misfit_at page columns mark later = []

  abbrev pub misfits_from : List ℕ → ℕ → List MarkView → List Misfit
  misfits_from page columns [] = []
  misfits_from page columns (mark ∷ later) =
      misfit_at page columns mark later ++ misfits_from page (columns_after mark columns) later

  -- what is named of these tables of a page
  abbrev pub misfits : List ℕ → List MarkView → List Misfit
  misfits page marks = misfits_from page 0 marks

  -- These are the rows of the page that don't fit their tables, and the heads of the tables that would be too wide.
  pub record AreMisfits (page : List ℕ) (rows : List Misfit) : Type 0 where
    pub marks : List MarkView
    pub are_marks : AreMarksOf page marks
    pub are_misfits : rows ≡ misfits page marks
