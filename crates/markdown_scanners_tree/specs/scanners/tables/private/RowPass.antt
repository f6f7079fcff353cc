-- A first pass over the bytes of a delimiter row, which ends where no row goes on.
use Rattle.std.specs.Prelude.{ℕ, suc, Bool, false, ◌||◌, ◌&&◌, List, [], ◌∷◌, take, drop, Option, Some, None, is_some, if◌then◌else◌}
use Rattle.std.specs.List.{list_any}
use Rattle.markdown_scanners_tree.specs.Bytes.{begins_with, line_ending}
use Rattle.markdown_scanners_tree.specs.scanners.tables.DelimiterRow.{is_cell_byte, is_hyphen, is_pipe}

-- Whether the cell has a hyphen after this byte; None where the byte is none of a row, or a pipe after no hyphen.
abbrev pub hyphen_after : Bool → ℕ → Option Bool
hyphen_after hyphen b =
    if is_pipe b then (if hyphen then Some false else None)
    else if is_cell_byte b then Some (hyphen || is_hyphen b) else None

-- the length of the longest prefix of other bytes, where the cell so far has a hyphen or none
abbrev pub passed_len : Bool → List ℕ → ℕ
passed_len hyphen [] = 0
passed_len hyphen (b ∷ bytes) = elim (hyphen_after hyphen b) [ None ↦ 0 | Some next ↦ suc (passed_len next bytes) ]

-- how far the pass goes, where a pipe in front ends no cell
abbrev pub row_len : List ℕ → ℕ
row_len bytes = passed_len (begins_with is_pipe bytes) bytes

-- It goes to the line's end, over a pipe.
abbrev pub is_passed : List ℕ → Bool
is_passed bytes =
    is_some (line_ending (drop (row_len bytes) bytes)) && list_any is_pipe (take (row_len bytes) bytes)
