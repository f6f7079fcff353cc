-- What begins as a delimiter row does, so that alignments of its columns are kept.
-- (GitHub Flavored Markdown 0.29, section 4.10, tables)
use Rattle.std.specs.Prelude.{ℕ, Bool, not, List, ◌||◌, ◌&&◌, take, drop, is_some, nat_le, if◌then◌else◌}
use Rattle.std.specs.List.{prefix_len, list_any}
use Rattle.markdown_scanners_tree.specs.Bytes.{begins_with, line_ending}
use Rattle.markdown_scanners_tree.specs.scanners.tables.DelimiterRow.{is_cell_byte, is_hyphen, is_pipe, is_space}

-- a byte of a delimiter row: of a cell, or a pipe
abbrev pub is_row_byte : ℕ → Bool
is_row_byte b = is_cell_byte b || is_pipe b

-- A pipe stands in the longest prefix of bytes of a delimiter row, and the line ends after it.
abbrev pub may_be_row : List ℕ → Bool
may_be_row bytes =
    is_some (line_ending (drop (prefix_len is_row_byte bytes) bytes))
    && list_any is_pipe (take (prefix_len is_row_byte bytes) bytes)

-- The first cell has a hyphen, where a pipe ends it; where none does, it has a byte that is no space.
abbrev pub begins_with_cell : List ℕ → Bool
begins_with_cell bytes =
    let n = prefix_len is_cell_byte bytes in
    if begins_with is_pipe (drop n bytes) then list_any is_hyphen (take n bytes)
    else list_any (λ b. not (is_space b)) (take n bytes)

-- what follows a pipe in front, if there is one
abbrev pub after_pipe : List ℕ → List ℕ
after_pipe bytes = drop (if begins_with is_pipe bytes then 1 else 0) bytes

-- After at most three spaces nothing but bytes of a row stands up to the line's end, a pipe among them, and the first
-- cell is one.
abbrev pub begins_row : List ℕ → Bool
begins_row bytes =
    let n = prefix_len is_space bytes in
    nat_le n 3 && may_be_row (drop n bytes) && begins_with_cell (after_pipe (drop n bytes))
