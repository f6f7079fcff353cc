-- How many bytes a page has with its tables laid out.
use Rattle.std.proofs.Common.{ℕ, Bool, true, false, List, [], ◌∷◌, ◌++◌, ◌≤◌, ◌-◌, ◌+◌, ◌*◌, ◌≡◌, ◌&&◌, length, drop, map, replicate, refl, arith}
use Rattle.std.proofs.Common.{if◌then◌else◌, length-append, not, suc, ap, inl, inr, ◌==◌, Option, Some}
use Rattle.std.specs.Prelude.{⊤, slice_range, unwrap_or}
use Rattle.std.specs.List.{concat, prefix_len}
use Rattle.std.specs.declared.ops.Range.{Range}
use Rattle.std.proofs.lemmas.Bool.{leb-true}
use Rattle.std.proofs.lemmas.List.{length-drop, length-replicate, length-take}
use Rattle.std.proofs.lemmas.List.Sums.{prefix_len-le-length}
use Rattle.markdown_values.specs.declared.values.Alignment.{Alignment}
use Rattle.markdown_values.specs.declared.values.Alignment.TheVariants.{None, Left, Center, Right}
use Rattle.markdown_scanners_tree.specs.Ascii.{carriage_return, colon, hyphen, line_feed, space, vertical_line}
use Rattle.markdown_scanners_tree.specs.Bytes.{is_line_ending, line_ending, line_head, line_length}
use Rattle.markdown_blocks.specs.cells.Cells.{AreBetween, cells_of}
use Rattle.markdown_blocks.specs.declared.cells.Cell.{Cell}
use Rattle.markdown_blocks.specs.info.Info.{without_end}
use Rattle.markdown_blocks.proofs.ForCallers.{row_between}
use Rattle.page_tables.specs.Cells.{cell_text, cell_texts, row_text}
use Rattle.page_tables.specs.Columns.{all_fit, columns_of, cells_width, is_narrow, narrowest, row_width, wide_columns, widened, widened_to, widest}
use Rattle.page_tables.specs.Layout.{aligned, before_cell, delimiter, delimiter_row, delimiters, delimiters_at, enclosed, is_before_row}
use Rattle.page_tables.specs.Layout.{laid_out, laid_out_from, next_start, row_cells, row_in}
use Rattle.page_tables.specs.Formatted.{IsFormatted}
use Rattle.page_tables.specs.Marks.{AreMarksOf, MarkView, begins, head, row, ends}
use Rattle.page_tables.specs.Sizes.{IsBounded, row_count}
use Rattle.page_tables.specs.declared.columns.Column.{Column}
use Rattle.page_tables.proofs.OrderLemmas.{MarksStand, marks_stand, next_within, stand_after}

-- ---- cells

slice_size : (bytes : List ℕ) (from to : ℕ) → length (slice_range bytes from to) ≤ to - from
slice_size bytes from to = omega (arith, length-take (to - from) (drop from bytes))

enclosed_size : (cell : List ℕ) → length (enclosed cell) ≡ length cell + 3
enclosed_size cell = omega (arith, length-append cell (space ∷ vertical_line ∷ []))

-- the spaces before a cell are among those that are free
before_within : (alignment : Alignment) (free : ℕ) → before_cell alignment free ≤ free
before_within None free = omega arith
before_within Left free = omega arith
before_within Center free = omega arith
before_within Right free = omega arith

delimiter_size : (alignment : Alignment) (width : ℕ) → 3 ≤ width → length (delimiter alignment width) ≤ width
delimiter_size None width some = omega (arith, length-replicate {A = ℕ})
delimiter_size Left width some = omega (arith, length-replicate {A = ℕ})
delimiter_size Center width some =
    omega (arith, some, length-append (replicate (width - 2) hyphen) (colon ∷ []), length-replicate (width - 2) hyphen)
delimiter_size Right width some =
    omega (arith, some, length-append (replicate (width - 1) hyphen) (colon ∷ []), length-replicate (width - 1) hyphen)

-- each column is as wide as the shortest delimiter
abbrev pub AreWide : List Column → Type 0
AreWide [] = ⊤
AreWide (column ∷ later) = (3 ≤ column.width) × AreWide later

delimiters_size : (columns : List Column) → AreWide columns → length (delimiters columns) ≤ cells_width columns
delimiters_size [] wide = omega arith
delimiters_size (column ∷ later) wide =
    let own = delimiter column.alignment column.width in
    omega (
      arith,
      enclosed_size own,
      delimiter_size column.alignment column.width wide.0,
      length-append (enclosed own) (delimiters later),
      delimiters_size later wide.1,
    )

-- a cell among spaces
padded_size : (before free : ℕ) (cell : List ℕ) → before ≤ free
    → length (replicate before space ++ cell ++ replicate (free - before) space) ≡ free + length cell
padded_size before free cell within =
    omega (
      arith,
      within,
      length-append (replicate before space ++ cell) (replicate (free - before) space),
      length-append (replicate before space) cell,
      length-replicate before space,
      length-replicate (free - before) space,
    )

module _ (width : List ℕ → ℕ) where
  aligned_size : (column : Column) (cell : List ℕ) → length (aligned width column cell) ≤ column.width + length cell
  aligned_size column cell =
      let free = column.width - width cell in
      let size : length (aligned width column cell) ≡ free + length cell =
      padded_size (before_cell column.alignment free) free cell (before_within column.alignment free) in
      omega (arith, size)

  cells_size : (columns : List Column) (cells : List (List ℕ)) → length (row_cells width columns cells) ≤ cells_width columns + length (concat cells)
  cells_size [] cells = omega arith
  cells_size (column ∷ later) [] =
      let own = aligned width column [] in
      omega (
        arith,
        enclosed_size own,
        aligned_size column [],
        length-append (enclosed own) (row_cells width later []),
        cells_size later [],
      )
  cells_size (column ∷ later) (cell ∷ cells) =
      let own = aligned width column cell in
      omega (
        arith,
        enclosed_size own,
        aligned_size column cell,
        length-append (enclosed own) (row_cells width later cells),
        length-append cell (concat cells),
        cells_size later cells,
      )

-- the texts of cells are no longer than what they stand in
texts_size : (text : List ℕ) (cells : List Cell) (begin end : ℕ) → begin ≤ end → AreBetween begin end cells
    → begin + length (concat (map (cell_text text) cells)) ≤ end
texts_size text [] begin end less are = omega (arith, less)
texts_size text (cell ∷ later) begin end less are =
    omega (
      arith,
      are.0,
      are.1,
      are.2,
      slice_size text cell.start cell.end,
      length-append (cell_text text cell) (concat (map (cell_text text) later)),
      texts_size text later cell.end end are.2 are.3,
    )

-- ---- rows

line_size : (bytes : List ℕ) → length (without_end (line_head bytes)) ≤ length bytes
line_size bytes = omega (arith, length-take {A = ℕ})

module _ (width : List ℕ → ℕ) where
  -- a row that is laid out is as wide as its columns, besides its own bytes
  pub row_size : (columns : List Column) (text : List ℕ) → length (row_in width columns text) ≤ row_width columns + length text
  row_size columns text =
      omega (
        arith,
        cells_size width columns (cell_texts text),
        texts_size text (cells_of text) 0 (length text) (omega arith) (row_between text (length text) (line_size text)),
      )

-- ---- sums

row_sum : (from before start end size gap laid rest rows : ℕ) → before ≤ from → before ≤ start → start ≤ end → end ≤ size → gap ≤ start - from
    → laid ≤ widest + (end - start) → rest ≤ (size - end) + widest * rows → gap + (laid + rest) ≤ (size - before) + widest * (1 + rows)
row_sum from before start end size gap laid rest rows low first some inside g l r = omega (arith, low, first, some, inside, g, l, r)

head_sum : (from before start end below after size gap laid between under rest rows : ℕ) → before ≤ from → before ≤ start → start ≤ end → end ≤ below
    → below ≤ after → after ≤ size → gap ≤ start - from → laid ≤ widest + (end - start) → between ≤ below - end → under ≤ widest
    → rest ≤ (size - after) + widest * rows → gap + (laid + (between + (under + rest))) ≤ (size - before) + widest * (2 + rows)
head_sum from before start end below after size gap laid between under rest rows low first some next there inside g l b d r =
    omega (arith, low, first, some, next, there, inside, g, l, b, d, r)

three_parts : (a b c : List ℕ) → length (a ++ b ++ c) ≡ length a + (length b + length c)
three_parts a b c = omega (arith, length-append (a ++ b) c, length-append a b)

five_parts : (a b c d e : List ℕ) → length (a ++ b ++ c ++ d ++ e) ≡ length a + (length b + (length c + (length d + length e)))
five_parts a b c d e = omega (arith, three_parts a b c, three_parts (a ++ b ++ c) d e)

-- ---- the page

ending_within : (rest : List ℕ) → unwrap_or (line_ending rest) 0 ≤ length rest
ending_within [] = omega arith
ending_within (b ∷ []) = by (b == line_feed) (b == carriage_return)
  where
    by : (lf cr : Bool) → unwrap_or (if lf then Some 1 else if cr then Some 1 else Option.None) 0 ≤ 1
    by true cr = omega arith
    by false true = omega arith
    by false false = omega arith
ending_within (b ∷ c ∷ rest) = by (b == line_feed) (b == carriage_return) (c == line_feed)
  where
    by : (lf cr two : Bool) → unwrap_or (if lf then Some 1 else if cr then (if two then Some 2 else Some 1) else Option.None) 0 ≤ suc (suc (length rest))
    by true cr two = omega arith
    by false true true = omega arith
    by false true false = omega arith
    by false false two = omega arith

first_line_within : (bytes : List ℕ) → line_length bytes ≤ length bytes
first_line_within bytes =
    let head = line_head bytes in
    omega (
      arith,
      length-take (prefix_len (λ b. not (is_line_ending b)) bytes) bytes,
      ending_within (drop (length head) bytes),
      length-drop (length head) bytes,
    )

-- the delimiter row stands between its head and what follows
below_within : (page : List ℕ) (head_end : ℕ) (later : List MarkView) → head_end ≤ next_start page later
    → (head_end ≤ (delimiters_at page head_end later).start)
    × ((delimiters_at page head_end later).start ≤ (delimiters_at page head_end later).end)
    × ((delimiters_at page head_end later).end ≤ next_start page later)
below_within page head_end later low =
    let between = slice_range page head_end (next_start page later) in
    let line = line_length between in
    let start = line + prefix_len is_before_row (drop line between) in (
      omega arith,
      omega arith,
      omega (
        arith,
        low,
        slice_size page head_end (next_start page later),
        first_line_within between,
        prefix_len-le-length is_before_row (drop line between),
        length-drop line between,
        line_size (drop start between),
        length-drop start between,
      ),
    )

module _ (width : List ℕ → ℕ) (page : List ℕ) where
  -- columns in which tables are laid out
  abbrev AreFit : List Column → Type 0
  AreFit columns = AreWide columns × (row_width columns ≤ widest)

  narrowest_wide : (alignments : List Alignment) → AreWide (map narrowest alignments)
  narrowest_wide [] = tt
  narrowest_wide (alignment ∷ later) = (omega arith, narrowest_wide later)

  widened_wide : (columns : List Column) (cells : List (List ℕ)) → AreWide columns → AreWide (widened width columns cells)
  widened_wide [] cells wide = tt
  widened_wide (column ∷ later) [] wide = wide
  widened_wide (column ∷ later) (cell ∷ cells) wide = (omega (arith, wide.0), widened_wide later cells wide.1)

  columns_wide : (columns : List Column) (marks : List MarkView) → AreWide columns → AreWide (widened_to width page columns marks)
  columns_wide columns [] wide = wide
  columns_wide columns (head range ∷ later) wide =
      let cells = cell_texts (row_text page range) in columns_wide (widened width columns cells) later (widened_wide columns cells wide)
  columns_wide columns (row range ∷ later) wide =
      let cells = cell_texts (row_text page range) in columns_wide (widened width columns cells) later (widened_wide columns cells wide)
  columns_wide columns (begins alignments ∷ later) wide = wide
  columns_wide columns (ends ∷ later) wide = wide

  columns_fit : (alignments : List Alignment) (later : List MarkView) → AreFit (columns_of width page alignments later)
  columns_fit alignments later = by (all_fit page (length alignments) later) (is_narrow columns) (λ is. leb-true (row_width columns) widest is)
    where
      columns : List Column
      columns = wide_columns width page alignments later

      by : (fit narrow : Bool) → (narrow ≡ true → row_width columns ≤ widest) → AreFit (if fit && narrow then columns else [])
      by true true small = (columns_wide (map narrowest alignments) later (narrowest_wide alignments), small refl)
      by true false small = (tt, omega arith)
      by false narrow small = (tt, omega arith)

  own_size : (columns : List Column) (range : Range ℕ) → AreFit columns
      → length (row_in width columns (row_text page range)) ≤ widest + (range.end - range.start)
  own_size columns range fit = omega (arith, row_size width columns (row_text page range), slice_size page range.start range.end, fit.1)

  -- What is laid out of a page after so many bytes has no more, besides the widest row for each row.
  laid_size : (from before : ℕ) (columns : List Column) (marks : List MarkView) → before ≤ from → MarksStand before (length page) marks → AreFit columns
      → length (laid_out_from width page from columns marks) ≤ (length page - before) + widest * row_count marks
  laid_size from before columns [] low stand fit = omega (arith, low, length-drop from page)
  laid_size from before columns (begins alignments ∷ later) low stand fit =
      laid_size from before (columns_of width page alignments later) later low stand (columns_fit alignments later)
  laid_size from before [] (ends ∷ later) low stand fit = laid_size from before [] later low stand fit
  laid_size from before [] (head range ∷ later) low stand fit =
      let next = next_within page range.end later stand.2 in
      let after = stand_after page range.end before later stand.2 (omega (arith, stand.0, stand.1, next.0)) in
      omega (arith, laid_size from before [] later low after fit)
  laid_size from before [] (row range ∷ later) low stand fit =
      let next = next_within page range.end later stand.2 in
      let after = stand_after page range.end before later stand.2 (omega (arith, stand.0, stand.1, next.0)) in
      omega (arith, laid_size from before [] later low after fit)
  laid_size from before (column ∷ columns) (ends ∷ later) low stand fit = laid_size from before [] later low stand (tt, omega arith)
  laid_size from before (column ∷ columns) (row range ∷ later) low stand fit =
      let next = next_within page range.end later stand.2 in
      let gap = slice_range page from range.start in
      let laid = row_in width (column ∷ columns) (row_text page range) in
      let rest = laid_out_from width page range.end (column ∷ columns) later in
      let size : length (laid_out_from width page from (column ∷ columns) (row range ∷ later)) ≡ length gap + (length laid + length rest) =
      three_parts gap laid rest in
      let sum = row_sum from before range.start range.end (length page) (length gap) (length laid) (length rest) (row_count later) low stand.0 stand.1
      (omega (arith, next.0, next.1)) (slice_size page from range.start) (own_size (column ∷ columns) range fit)
      (laid_size range.end range.end (column ∷ columns) later (omega arith) stand.2 fit) in
      omega (arith, size, sum)
  laid_size from before (column ∷ columns) (head range ∷ later) low stand fit =
      let next = next_within page range.end later stand.2 in
      let below = delimiters_at page range.end later in
      let there = below_within page range.end later next.0 in
      let gap = slice_range page from range.start in
      let laid = row_in width (column ∷ columns) (row_text page range) in
      let between = slice_range page range.end below.start in
      let under = delimiter_row (column ∷ columns) in
      let rest = laid_out_from width page below.end (column ∷ columns) later in
      let size : length (laid_out_from width page from (column ∷ columns) (head range ∷ later))
      ≡ length gap + (length laid + (length between + (length under + length rest))) = five_parts gap laid between under rest in
      let after = stand_after page range.end below.end later stand.2 there.2 in
      let sum = head_sum from before range.start range.end below.start below.end (length page) (length gap) (length laid) (length between) (length under)
      (length rest) (row_count later) low stand.0 stand.1 there.0 there.1 (omega (arith, there.2, next.1)) (slice_size page from range.start)
      (own_size (column ∷ columns) range fit) (slice_size page range.end below.start) (omega (arith, delimiters_size (column ∷ columns) fit.0, fit.1))
      (laid_size below.end below.end (column ∷ columns) later (omega arith) after fit) in
      omega (arith, size, sum)

  pub laid_out_size : (marks : List MarkView) → AreMarksOf page marks
      → length (laid_out width page marks) ≤ length page + widest * row_count marks
  laid_out_size marks are = omega (arith, laid_size 0 0 [] marks (omega arith) (marks_stand page marks are) (tt, omega arith))

  -- what a formatter makes of a page is bounded
  pub formatted_bounded : (text : List ℕ) → IsFormatted width page text → IsBounded page text
  formatted_bounded text made =
      let marks = made.is_laid_out.marks in
      let laid = laid_out_size marks made.is_laid_out.are_marks in
      record {
        marks = marks;
        are_marks = made.is_laid_out.are_marks;
        is_bounded = elim made.is_one [
          | inl past_first_line ↦ omega (arith, ap length past_first_line.1, ap length made.is_laid_out.is_laid_out, laid)
          | inr unsettled ↦ omega (arith, ap length unsettled.1)
        ];
      }
