-- What the scan of a delimiter row tells of its bytes, step by step.
use Rattle.std.specs.Prelude.{ℕ, Bool, not, List, ◌++◌, ◌≡◌, ◌+◌, length, drop, Some, IsTrue, flat_map, map}
use Rattle.std.specs.List.{prefix_len, list_all, list_any}
use Rattle.markdown_values.specs.declared.values.Alignment.{Alignment}
use Rattle.markdown_scanners_tree.specs.Bytes.{line_ending}
use Rattle.markdown_scanners_tree.specs.scanners.tables.DelimiterRow.{is_hyphen, is_cell_byte, is_cell, alignment, ended_cell, counted_cells, is_empty}

-- what follows the longest prefix of bytes of a cell
abbrev pub after_cell : List ℕ → List ℕ
after_cell bytes = drop (prefix_len is_cell_byte bytes) bytes

-- The cells of a delimiter row, a last cell that may be empty, and the line's end.
pub record AreCells (bytes : List ℕ) (cells : List (List ℕ)) (last rest : List ℕ) (ending : ℕ) : Type 0 where
  pub parts : bytes ≡ flat_map ended_cell cells ++ (last ++ rest)
  pub all_cells : IsTrue (list_all is_cell cells)
  pub last_cell : IsTrue (list_all is_cell_byte last)
  pub ends : line_ending rest ≡ Some ending

-- The bytes are not the cells of a delimiter row.
abbrev pub NoCells : List ℕ → Type 0
NoCells bytes =
    (cells : List (List ℕ)) (last rest : List ℕ) (ending : ℕ) → ¬ AreCells bytes cells last rest ending

-- what a scan of the cells tells of them
pub record AreScannedCells (bytes : List ℕ) (n : ℕ) (alignments : List Alignment) (some_ended hyphen_in_last : Bool) : Type 0 where
  pub cells : List (List ℕ)
  pub last : List ℕ
  pub rest : List ℕ
  pub ending : ℕ
  pub are_cells : AreCells bytes cells last rest ending
  pub counted : n + length rest ≡ length bytes + ending
  pub aligned : alignments ≡ map alignment (counted_cells cells last)
  pub tells_ended : some_ended ≡ not (is_empty cells)
  pub tells_hyphen : hyphen_in_last ≡ list_any is_hyphen last
