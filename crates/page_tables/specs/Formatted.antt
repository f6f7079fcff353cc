-- What a formatter makes of a page.
use Rattle.std.specs.Prelude.{ℕ, ◌≡◌, ◌⊎◌, List, [], ◌∷◌, length}
use Rattle.std.specs.Str.{IsUtf8}
use Rattle.markdown_values.specs.declared.values.Alignment.{Alignment}
use Rattle.page_tables.specs.Cells.{cell_texts, filled, row_text}
use Rattle.page_tables.specs.Layout.{laid_out}
use Rattle.page_tables.specs.Marks.{AreMarksOf, MarkView, begins, head, row, ends}

-- what tables say: how columns are aligned, the cells of their heads and rows, and where they end
pub data SeenMark : Type 0 where
  alignments : List Alignment → SeenMark
  head_cells : List (List ℕ) → SeenMark
  row_cells : List (List ℕ) → SeenMark
  done : SeenMark

-- what a mark of a page says, of a row of a table with so many columns
abbrev pub seen_mark : List ℕ → ℕ → MarkView → SeenMark
seen_mark page columns (begins aligned) = alignments aligned
seen_mark page columns (head range) = head_cells (filled columns (cell_texts (row_text page range)))
seen_mark page columns (row range) = row_cells (filled columns (cell_texts (row_text page range)))
seen_mark page columns ends = done

-- how many columns the table has whose rows come after a mark
abbrev pub columns_after : MarkView → ℕ → ℕ
columns_after (begins aligned) columns = length aligned
columns_after mark columns = columns

abbrev pub seen_from : List ℕ → ℕ → List MarkView → List SeenMark
seen_from page columns [] = []
seen_from page columns (mark ∷ later) = seen_mark page columns mark ∷ seen_from page (columns_after mark columns) later

-- what the tables of a page say
abbrev pub seen_tables : List ℕ → List MarkView → List SeenMark
seen_tables page marks = seen_from page 0 marks

-- Two pages have the same tables: as many, with columns that are aligned alike, and with the same cells in the same rows.
pub record HaveSameTables (page other : List ℕ) : Type 0 where
  pub marks : List MarkView
  pub others : List MarkView
  pub are_marks : AreMarksOf page marks
  pub are_others : AreMarksOf other others
  pub are_same : seen_tables page marks ≡ seen_tables other others

module _ (width : List ℕ → ℕ) where
  -- the text is the page with its tables laid out
  pub record IsLaidOut (page text : List ℕ) : Type 0 where
    pub marks : List MarkView
    pub are_marks : AreMarksOf page marks
    pub is_laid_out : text ≡ laid_out width page marks

  -- the text is a page with the same tables, and they are laid out
  pub record IsSettled (page text : List ℕ) : Type 0 where
    pub is_text : IsUtf8 text
    pub same : HaveSameTables page text
    pub again : IsLaidOut text text

  -- What is made of a page: itself with its tables laid out, if they are the same tables then and laid out; else itself.
  pub record IsFormatted (page text : List ℕ) : Type 0 where
    pub laid : List ℕ
    pub is_laid_out : IsLaidOut page laid
    pub is_one : (IsSettled page laid × (text ≡ laid)) ⊎ ((¬ IsSettled page laid) × (text ≡ page))
