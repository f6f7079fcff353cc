-- How many cells a row of a table has.
-- (GitHub Flavored Markdown 0.29, section 4.10, tables)
use Rattle.std.specs.Prelude.{ℕ, Bool, false, not, ◌&&◌, ◌==◌, ◌+◌, ◌-◌, List, [], ◌∷◌, if◌then◌else◌}
use Rattle.markdown_scanners_tree.specs.Ascii.{space, backslash, vertical_line}
use Rattle.markdown_scanners_tree.specs.Bytes.{begins_with, line_head}
use Rattle.markdown_scanners_tree.specs.scanners.tables.DelimiterRow.{is_pipe}
use Rattle.markdown_blocks.specs.info.Info.{without_end, without_front}

-- a pipe separates cells, unless a backslash stands directly before it
abbrev pub separates : ℕ → ℕ → Bool
separates before b = b == vertical_line && not (before == backslash)

-- how many pipes separate cells in bytes before which this one stands
abbrev pub separators : ℕ → List ℕ → ℕ
separators before [] = 0
separators before (b ∷ bs) = (if separates before b then 1 else 0) + separators b bs

-- the last of the bytes is such a pipe
abbrev pub ends_separated : ℕ → List ℕ → Bool
ends_separated before [] = false
ends_separated before (b ∷ []) = separates before b
ends_separated before (b ∷ c ∷ bs) = ends_separated b (c ∷ bs)

-- One more than pipes that separate; a pipe at the front, and one at the end, separates nothing from a cell.
abbrev pub cells_in : List ℕ → ℕ
cells_in row =
    separators space row + 1 - (if begins_with is_pipe row then 1 else 0) - (if ends_separated space row then 1 else 0)

-- of a line with this text, without the spaces and tabs at both ends
abbrev pub cells : List ℕ → ℕ
cells text = cells_in (without_front (without_end (line_head text)))
