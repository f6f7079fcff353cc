-- How many bytes are printed of a page.
use Rattle.std.specs.Prelude.{ℕ, ◌+◌, ◌*◌, ◌≤◌, List, [], ◌∷◌, length}
use Rattle.page_tables.specs.Columns.{widest}
use Rattle.page_tables.specs.Marks.{AreMarksOf, MarkView, head, row}

-- how many rows tables have, with their delimiter rows
abbrev pub row_count : List MarkView → ℕ
row_count [] = 0
row_count (head range ∷ later) = 2 + row_count later
row_count (row range ∷ later) = 1 + row_count later
row_count (mark ∷ later) = row_count later

-- The text has no more bytes than the page, besides the widest row for each row of the page.
pub record IsBounded (page text : List ℕ) : Type 0 where
  pub marks : List MarkView
  pub are_marks : AreMarksOf page marks
  pub is_bounded : length text ≤ length page + widest * row_count marks
