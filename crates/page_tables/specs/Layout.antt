-- A page with its tables laid out. (GitHub Flavored Markdown 0.29, section 4.10, tables)
use Rattle.std.specs.Prelude.{ℕ, Bool, ◌+◌, ◌-◌, ◌/◌, ◌==◌, ◌||◌, List, [], ◌∷◌, ◌++◌, length, drop, replicate, slice_range}
use Rattle.std.specs.List.{prefix_len}
use Rattle.std.specs.declared.ops.Range.{Range}
use Rattle.markdown_values.specs.declared.values.Alignment.{Alignment}
use Rattle.markdown_values.specs.declared.values.Alignment.TheVariants.{Left, Center, Right}
use Rattle.markdown_scanners_tree.specs.Ascii.{space, tab, hyphen, colon, greater_than_sign, vertical_line}
use Rattle.markdown_scanners_tree.specs.Bytes.{line_head, line_length}
use Rattle.markdown_blocks.specs.info.Info.{without_end}
use Rattle.page_tables.specs.Cells.{cell_texts, row_text}
use Rattle.page_tables.specs.Columns.{columns_of}
use Rattle.page_tables.specs.Marks.{MarkView, begins, head, row, ends}
use Rattle.page_tables.specs.declared.columns.Column.{Column}

-- ---- the row of delimiters

-- a byte that may stand before a row in its line: space, or the marker of a block quote
abbrev pub is_before_row : ℕ → Bool
is_before_row b = (b == space) || (b == tab) || (b == greater_than_sign)

-- where the next of these heads and rows begins, or the page ends
abbrev pub next_start : List ℕ → List MarkView → ℕ
next_start page [] = length page
next_start page (head range ∷ later) = range.start
next_start page (row range ∷ later) = range.start
next_start page (mark ∷ later) = next_start page later

-- Where the delimiter row stands in the page: between the head, which ends here, and what comes next of these, in the line after the head.
abbrev pub delimiters_at : List ℕ → ℕ → List MarkView → Range ℕ
delimiters_at page head_end later =
    let between = slice_range page head_end (next_start page later) in
    let line = line_length between in
    let start = line + prefix_len is_before_row (drop line between) in
    record { start = head_end + start; end = head_end + start + length (without_end (line_head (drop start between))) }

-- a cell of it: at least three bytes, with a colon at each side to which it aligns
abbrev pub delimiter : Alignment → ℕ → List ℕ
delimiter Left width = colon ∷ replicate (width - 1) hyphen
delimiter Right width = replicate (width - 1) hyphen ++ colon ∷ []
delimiter Center width = colon ∷ replicate (width - 2) hyphen ++ colon ∷ []
delimiter alignment width = replicate width hyphen

-- cells with a space on each side and a pipe after it
abbrev pub enclosed : List ℕ → List ℕ
enclosed cell = space ∷ cell ++ space ∷ vertical_line ∷ []

abbrev pub delimiters : List Column → List ℕ
delimiters [] = []
delimiters (column ∷ later) = enclosed (delimiter column.alignment column.width) ++ delimiters later

abbrev pub delimiter_row : List Column → List ℕ
delimiter_row columns = vertical_line ∷ delimiters columns

-- ---- rows

-- how many of the spaces that fill a column stand before its cell
abbrev pub before_cell : Alignment → ℕ → ℕ
before_cell Right free = free
before_cell Center free = free / 2
before_cell alignment free = 0

-- the widths of cells
module _ (width : List ℕ → ℕ) where
  -- a cell as wide as its column
  abbrev pub aligned : Column → List ℕ → List ℕ
  aligned column cell =
      let free = column.width - width cell in
      let before = before_cell column.alignment free in
      replicate before space ++ cell ++ replicate (free - before) space

  -- a cell for each column: where the row has none an empty one
  abbrev pub row_cells : List Column → List (List ℕ) → List ℕ
  row_cells [] cells = []
  row_cells (column ∷ later) [] = enclosed (aligned column []) ++ row_cells later []
  row_cells (column ∷ later) (cell ∷ cells) = enclosed (aligned column cell) ++ row_cells later cells

  -- a row with this text in these columns
  abbrev pub row_in : List Column → List ℕ → List ℕ
  row_in columns text = vertical_line ∷ row_cells columns (cell_texts text)

  -- The page from this offset on, with its tables laid out: all that is not text of a row stays. The row is one of a table with
  -- these columns, or where there are none of one that is left as it is.
  abbrev pub laid_out_from : List ℕ → ℕ → List Column → List MarkView → List ℕ
  laid_out_from page from columns [] = drop from page
  laid_out_from page from columns (begins alignments ∷ later) =
      laid_out_from page from (columns_of width page alignments later) later
  laid_out_from page from [] (mark ∷ later) = laid_out_from page from [] later
  laid_out_from page from columns (head range ∷ later) =
      let below = delimiters_at page range.end later in
      slice_range page from range.start ++ row_in columns (row_text page range)
      ++ slice_range page range.end below.start ++ delimiter_row columns ++ laid_out_from page below.end columns later
  laid_out_from page from columns (row range ∷ later) =
      slice_range page from range.start ++ row_in columns (row_text page range) ++ laid_out_from page range.end columns later
  laid_out_from page from columns (ends ∷ later) = laid_out_from page from [] later

  -- a page with these tables laid out
  abbrev pub laid_out : List ℕ → List MarkView → List ℕ
  laid_out page marks = laid_out_from page 0 [] marks
