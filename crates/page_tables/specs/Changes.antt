-- Which tables of a page change where they are laid out.
use Rattle.std.specs.Prelude.{ℕ, Bool, true, ◌&&◌, ◌≡◌, List, [], ◌∷◌, ◌++◌, if◌then◌else◌}
use Rattle.std.specs.Str.{bytes_eq}
use Rattle.page_tables.specs.Cells.{row_text}
use Rattle.page_tables.specs.Columns.{columns_of}
use Rattle.page_tables.specs.Formatted.{IsFormatted}
use Rattle.page_tables.specs.Layout.{delimiter_row, delimiters_at, row_in}
use Rattle.page_tables.specs.Marks.{AreMarksOf, MarkView, begins, head, row, head_start}
use Rattle.page_tables.specs.declared.columns.Column.{Column}

-- the delimiter row after this head is laid out in these columns
abbrev pub delimiters_stay : List ℕ → List Column → List MarkView → Bool
delimiters_stay page columns (head range ∷ later) =
    bytes_eq (delimiter_row columns) (row_text page (delimiters_at page range.end later))
delimiters_stay page columns marks = true

-- the heads that are found, or else the front of the page
abbrev pub or_front : List ℕ → List ℕ
or_front [] = 0 ∷ []
or_front (at ∷ heads) = at ∷ heads

-- the widths of cells
module _ (width : List ℕ → ℕ) where
  -- a row with this text is laid out in these columns
  abbrev pub row_stays : List Column → List ℕ → Bool
  row_stays columns text = bytes_eq (row_in width columns text) text

  -- so are the rows up to the end of the table
  abbrev pub rows_stay : List ℕ → List Column → List MarkView → Bool
  rows_stay page columns (head range ∷ later) = row_stays columns (row_text page range) && rows_stay page columns later
  rows_stay page columns (row range ∷ later) = row_stays columns (row_text page range) && rows_stay page columns later
  rows_stay page columns marks = true

  -- so is a table with these columns, or it has none, and is left as it is
  abbrev pub table_stays : List ℕ → List Column → List MarkView → Bool
  table_stays page [] later = true
  table_stays page (column ∷ columns) later =
      delimiters_stay page (column ∷ columns) later && rows_stay page (column ∷ columns) later

  -- where the head of the table begins that this mark begins, if that changes
  abbrev pub changed_at : List ℕ → MarkView → List MarkView → List ℕ
  changed_at page (begins alignments) later =
      if table_stays page (columns_of width page alignments later) later then [] else head_start later
  changed_at page mark later = []

  -- where the heads of the tables begin that change
  abbrev pub changed_heads : List ℕ → List MarkView → List ℕ
  changed_heads page [] = []
  changed_heads page (mark ∷ later) = changed_at page mark later ++ changed_heads page later

  -- Where a page with these tables changes that becomes this text: at the heads of the tables that change. One that stays has none.
  abbrev pub changes_of : List ℕ → List MarkView → List ℕ → List ℕ
  changes_of page marks text = if bytes_eq text page then [] else or_front (changed_heads page marks)

  -- These are the offsets at which the page changes.
  pub record AreChanges (page : List ℕ) (heads : List ℕ) : Type 0 where
    pub marks : List MarkView
    pub are_marks : AreMarksOf page marks
    pub text : List ℕ
    pub is_formatted : IsFormatted width page text
    pub are_changes : heads ≡ changes_of page marks text
