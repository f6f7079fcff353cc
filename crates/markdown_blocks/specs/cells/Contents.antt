-- The content of a cell. (GitHub Flavored Markdown 0.29, section 4.10, tables: "include a pipe in a cell's content by escaping it")
use Rattle.std.specs.Prelude.{ℕ, suc, Bool, false, ◌&&◌, ◌==◌, ◌+◌, ◌-◌, List, [], ◌∷◌, ◌++◌, length, take, drop, if◌then◌else◌}
use Rattle.markdown_scanners_tree.specs.Ascii.{backslash}
use Rattle.markdown_scanners_tree.specs.Bytes.{begins_with}
use Rattle.markdown_scanners_tree.specs.scanners.tables.DelimiterRow.{is_pipe}
use Rattle.markdown_blocks.specs.content.Content.{Placed}
use Rattle.markdown_blocks.specs.declared.cells.Cell.{Cell}

-- a backslash stands at the front, and a pipe directly after it
abbrev pub escapes_pipe : List ℕ → Bool
escapes_pipe [] = false
escapes_pipe (b ∷ bs) = b == backslash && begins_with is_pipe bs

-- the bytes without such backslashes
abbrev pub unescaped : List ℕ → List ℕ
unescaped [] = []
unescaped (b ∷ bs) = (if escapes_pipe (b ∷ bs) then [] else b ∷ []) ++ unescaped bs

-- the offsets of those bytes, where this is the first
abbrev pub unescaped_offsets : ℕ → List ℕ → List ℕ
unescaped_offsets offset [] = []
unescaped_offsets offset (b ∷ bs) =
    (if escapes_pipe (b ∷ bs) then [] else offset ∷ []) ++ unescaped_offsets (offset + 1) bs

-- the bytes of a cell
abbrev pub bytes_of_cell : List ℕ → Cell → List ℕ
bytes_of_cell row cell = take (cell.end - cell.start) (drop cell.start row)

-- how many bytes stand before the first such backslash
abbrev pub escape_at : List ℕ → ℕ
escape_at [] = 0
escape_at (b ∷ bs) = if escapes_pipe (b ∷ bs) then 0 else suc (escape_at bs)

-- the content of a cell of the row: its bytes, but of a backslash and a pipe the pipe alone; lent where no pipe is escaped
abbrev pub content_of_cell : List ℕ → Cell → Placed
content_of_cell row cell = record {
  text = unescaped (bytes_of_cell row cell);
  offsets = unescaped_offsets cell.start (bytes_of_cell row cell);
  is_lent = escape_at (bytes_of_cell row cell) == length (bytes_of_cell row cell);
}
