-- Laws of the cells of a row: how many they are, that they stand one after the other, and that pieces joined with pipes are the row.
use Rattle.std.proofs.Common.{ℕ, zero, suc, max, ◌+◌, ◌≤◌, Bool, true, false, not, List, [], ◌∷◌, length, take, drop, if◌then◌else◌}
use Rattle.std.proofs.Common.{◌≡◌, refl, sym, ap, ◌∙◌, arith, length-append, length-drop}
use Rattle.std.specs.List.{join_with_byte, prefix_len}
use Rattle.std.proofs.lemmas.Bool.Decides.{nat_tests}
use Rattle.std.proofs.lemmas.List.{length-take, length-take-le}
use Rattle.std.proofs.lemmas.List.Sums.{prefix_len-le-length}
use Rattle.markdown_scanners_tree.specs.Ascii.{space, vertical_line}
use Rattle.markdown_scanners_tree.specs.Bytes.{begins_with, is_line_ending, is_space_or_tab, line_head}
use Rattle.markdown_scanners_tree.specs.scanners.tables.DelimiterRow.{is_pipe}
use Rattle.markdown_blocks.specs.blocks.Tables.{separates, separators, cells, cells_in}
use Rattle.markdown_blocks.specs.cells.Cells.{AreBetween, after_byte, pieces, cell_at, cells_at, cells_of, cells_of_row}
use Rattle.markdown_blocks.specs.declared.cells.Cell.{Cell}
use Rattle.markdown_blocks.specs.info.Info.{without_end, without_front}
use Rattle.markdown_blocks.proofs.cells.CellLemmas.{length-cells_at, length-pieces}

-- as many cells as the row has
length-cells_of_row : (from : ℕ) (row : List ℕ) → length (cells_of_row from row) ≡ cells_in row
length-cells_of_row from row =
    let front = if begins_with is_pipe row then 1 else 0 in
    let all = cells_at from (pieces space row) in
    let many : cells_in row ≤ length (drop front all) =
    omega (arith, length-drop front all, length-cells_at from (pieces space row), length-pieces space row) in
    length-take-le (cells_in row) (drop front all) many

pub length-cells_of : (text : List ℕ) → length (cells_of text) ≡ cells text
length-cells_of text =
    let row = without_end (line_head text) in
    length-cells_of_row (prefix_len is_space_or_tab row) (without_front row)

-- no more cells than bytes, but one where there are none
separators-le : (before : ℕ) (row : List ℕ) → separators before row ≤ length row
separators-le before [] = omega arith
separators-le before (b ∷ bs) = by (separates before b) refl (separators-le b bs)
  where
    by : (s : Bool) → separates before b ≡ s → separators b bs ≤ length bs → separators before (b ∷ bs) ≤ length (b ∷ bs)
    by true is few = rw is (omega (arith, few))
    by false is few = rw is (omega (arith, few))

cells_in-le : (row : List ℕ) → cells_in row ≤ max 1 (length row)
cells_in-le [] = omega arith
cells_in-le (b ∷ bs) = by (is_pipe b) refl (separators-le b bs)
  where
    by : (s : Bool) → is_pipe b ≡ s → separators b bs ≤ length bs → cells_in (b ∷ bs) ≤ max 1 (length (b ∷ bs))
    by true is few = rw is (omega (arith, few))
    by false is few = rw is (omega (arith, few))

-- pieces joined with pipes are the row
joined_after : (s : Bool) (b : ℕ) (ps : List (List ℕ)) (n : ℕ) → length ps ≡ suc n → (s ≡ true → b ≡ vertical_line)
    → join_with_byte vertical_line (after_byte s b ps) ≡ b ∷ join_with_byte vertical_line ps
joined_after s b [] n filled pipe = cc
joined_after true b (p ∷ ps) n filled pipe = ap (λ a. a ∷ join_with_byte vertical_line (p ∷ ps)) (sym (pipe refl))
joined_after false b (p ∷ []) n filled pipe = refl
joined_after false b (p ∷ q ∷ ps) n filled pipe = refl

separates_pipe : (before b : ℕ) → separates before b ≡ true → b ≡ vertical_line
separates_pipe before b is = grind (arith, nat_tests)

pub pieces_joined : (before : ℕ) (row : List ℕ) → join_with_byte vertical_line (pieces before row) ≡ row
pieces_joined before [] = refl
pieces_joined before (b ∷ bs) =
    joined_after (separates before b) b (pieces b bs) (separators b bs) (length-pieces b bs) (separates_pipe before b)
    ∙ ap (λ r. b ∷ r) (pieces_joined b bs)

-- a cell stands in its piece
without_end-le : (bytes : List ℕ) → length (without_end bytes) ≤ length bytes
without_end-le bytes = omega (arith, length-take {A = ℕ})

pub without_front-le : (bytes : List ℕ) → prefix_len is_space_or_tab bytes + length (without_front bytes) ≡ length bytes
without_front-le bytes =
    omega (arith, length-drop (prefix_len is_space_or_tab bytes) bytes, prefix_len-le-length is_space_or_tab bytes)

cell_within : (offset : ℕ) (piece : List ℕ) → (cell_at offset piece).end ≤ offset + length piece
cell_within offset piece =
    omega (
      arith,
      without_end-le (without_front piece),
      length-drop (prefix_len is_space_or_tab piece) piece,
      prefix_len-le-length is_space_or_tab piece,
    )

between_at : (begin offset end : ℕ) (ps : List (List ℕ)) → begin ≤ offset → offset + length (join_with_byte vertical_line ps) ≤ end
    → AreBetween begin end (cells_at offset ps)
between_at begin offset end [] low high = tt
between_at begin offset end (p ∷ []) low high =
    let within = cell_within offset p in (omega (arith, low), omega arith, omega (arith, within, high), tt)
between_at begin offset end (p ∷ q ∷ ps) low high =
    let within = cell_within offset p in
    let size = length-append p (vertical_line ∷ join_with_byte vertical_line (q ∷ ps)) in (
      omega (arith, low),
      omega arith,
      omega (arith, within, high, size),
      between_at (cell_at offset p).end (offset + length p + 1) end (q ∷ ps) (omega (arith, within)) (omega (arith, high, size)),
    )

between_take : (n begin end : ℕ) (cs : List Cell) → AreBetween begin end cs → AreBetween begin end (take n cs)
between_take zero begin end cs all = tt
between_take (suc n) begin end [] all = tt
between_take (suc n) begin end (c ∷ cs) all = (all.0, all.1, all.2, between_take n c.end end cs all.3)

between_from : (before begin end : ℕ) (cs : List Cell) → before ≤ begin → AreBetween begin end cs → AreBetween before end cs
between_from before begin end [] low all = tt
between_from before begin end (c ∷ cs) low all = (omega (arith, low, all.0), all.1, all.2, all.3)

between_drop : (n begin end : ℕ) (cs : List Cell) → AreBetween begin end cs → AreBetween begin end (drop n cs)
between_drop zero begin end cs all = all
between_drop (suc n) begin end [] all = tt
between_drop (suc n) begin end (c ∷ cs) all =
    between_drop n begin end cs (between_from begin c.end end cs (omega (arith, all.0, all.1)) all.3)

line_head-le : (text : List ℕ) → length (line_head text) ≤ length text
line_head-le text = omega (arith, length-take (prefix_len (λ b. not (is_line_ending b)) text) text)

pub cells-le : (text : List ℕ) → length (cells_of text) ≤ max 1 (length text)
cells-le text =
    let row = without_end (line_head text) in
    omega (arith, cells_in-le (without_front row), length-cells_of text, without_front-le row, without_end-le (line_head text), line_head-le text)

-- the cells of a line stand within its row
pub row_between : (text : List ℕ) (end : ℕ) → length (without_end (line_head text)) ≤ end → AreBetween 0 end (cells_of text)
row_between text end within =
    let line = without_end (line_head text) in
    let from = prefix_len is_space_or_tab line in
    let row = without_front line in
    between_take (cells_in row) 0 end (drop (if begins_with is_pipe row then 1 else 0) (cells_at from (pieces space row)))
    (between_drop (if begins_with is_pipe row then 1 else 0) 0 end (cells_at from (pieces space row))
    (between_at 0 from end (pieces space row) (omega arith)
    (omega (arith, within, without_front-le line, ap length (pieces_joined space row)))))

pub between : (text : List ℕ) → AreBetween 0 (length text) (cells_of text)
between text = row_between text (length text) (omega (arith, without_end-le (line_head text), line_head-le text))
