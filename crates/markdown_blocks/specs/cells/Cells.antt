-- The cells of a row of a table. (GitHub Flavored Markdown 0.29, section 4.10, tables)
use Rattle.std.specs.Prelude.{ℕ, Bool, true, false, ◌+◌, ◌≤◌, List, [], ◌∷◌, length, take, drop, if◌then◌else◌, ⊤}
use Rattle.std.specs.List.{prefix_len}
use Rattle.markdown_scanners_tree.specs.Ascii.{space}
use Rattle.markdown_scanners_tree.specs.Bytes.{begins_with, is_space_or_tab, line_head}
use Rattle.markdown_scanners_tree.specs.scanners.tables.DelimiterRow.{is_pipe}
use Rattle.markdown_scanners_tree.specs.scanners.TextLines.{with_first}
use Rattle.markdown_blocks.specs.blocks.Tables.{separates, cells_in}
use Rattle.markdown_blocks.specs.declared.cells.Cell.{Cell}
use Rattle.markdown_blocks.specs.info.Info.{without_end, without_front}

-- pieces with a byte before them: a pipe that separates has an empty piece before it, and any other byte begins the first piece
abbrev pub after_byte : Bool → ℕ → List (List ℕ) → List (List ℕ)
after_byte true b pieces = [] ∷ pieces
after_byte false b pieces = with_first b pieces

-- the pieces of bytes between the pipes that separate, where this byte stands before them
abbrev pub pieces : ℕ → List ℕ → List (List ℕ)
pieces before [] = [] ∷ []
pieces before (b ∷ bs) = after_byte (separates before b) b (pieces b bs)

-- the cell that a piece is, where so many bytes stand before it: without the spaces and tabs at its ends
abbrev pub cell_at : ℕ → List ℕ → Cell
cell_at offset piece =
    let start = offset + prefix_len is_space_or_tab piece in
    record { start = start; end = start + length (without_end (without_front piece)) }

-- the same of pieces one after the other, with a pipe between each two
abbrev pub cells_at : ℕ → List (List ℕ) → List Cell
cells_at offset [] = []
cells_at offset (piece ∷ later) = cell_at offset piece ∷ cells_at (offset + length piece + 1) later

-- The cells of a row: its pieces but the empty one before a pipe at its front, and the one after a pipe that separates at its end.
-- So many bytes stand before it.
abbrev pub cells_of_row : ℕ → List ℕ → List Cell
cells_of_row before row =
    take (cells_in row) (drop (if begins_with is_pipe row then 1 else 0) (cells_at before (pieces space row)))

-- of a line with this text, without the spaces and tabs at both ends
abbrev pub cells_of : List ℕ → List Cell
cells_of text =
    let row = without_end (line_head text) in
    cells_of_row (prefix_len is_space_or_tab row) (without_front row)

-- the cells stand one after the other, from this offset on up to that one
abbrev pub AreBetween : ℕ → ℕ → List Cell → Type 0
AreBetween begin end [] = ⊤
AreBetween begin end (cell ∷ later) =
    (begin ≤ cell.start) × (cell.start ≤ cell.end) × (cell.end ≤ end) × AreBetween cell.end end later

-- how long the first of pieces is
abbrev pub first_len : List (List ℕ) → ℕ
first_len [] = 0
first_len (piece ∷ later) = length piece

-- those of the pieces after so many bytes, unless none is left
abbrev pub cells_left : Bool → ℕ → List ℕ → List Cell
cells_left true offset rest = []
cells_left false offset rest = cells_at offset (pieces space rest)
