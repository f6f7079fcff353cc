-- The delimiter row of a table. (GitHub Flavored Markdown 0.29, section 4.10, tables)
use Rattle.std.specs.Prelude.{ℕ, Bool, true, false, not, List, [], ◌∷◌, ◌++◌, ◌≡◌, ◌==◌, ◌||◌, ◌&&◌, ◌+◌, ◌≤◌, length, Some, IsTrue, replicate, filter, flat_map, map, if◌then◌else◌}
use Rattle.std.specs.List.{list_all, list_any}
use Rattle.markdown_values.specs.declared.values.Alignment.{Alignment}
use Rattle.markdown_values.specs.declared.values.Alignment.TheVariants as Aligned
use Rattle.markdown_scanners_tree.specs.Ascii.{space, hyphen, colon, vertical_line}
use Rattle.markdown_scanners_tree.specs.Bytes.{begins_with, line_ending}

abbrev pub is_space : ℕ → Bool
is_space b = b == space

abbrev pub is_hyphen : ℕ → Bool
is_hyphen b = b == hyphen

abbrev pub is_colon : ℕ → Bool
is_colon b = b == colon

-- a pipe
abbrev pub is_pipe : ℕ → Bool
is_pipe b = b == vertical_line

-- a byte of a cell: space, `:` or `-`
abbrev pub is_cell_byte : ℕ → Bool
is_cell_byte b = is_space b || is_colon b || is_hyphen b

-- a list of cell bytes with a hyphen
abbrev pub is_cell : List ℕ → Bool
is_cell bytes = list_all is_cell_byte bytes && list_any is_hyphen bytes

-- the alignment by a colon at the front and one later
abbrev pub alignment_by : Bool → Bool → Alignment
alignment_by false false = Aligned.None
alignment_by true false = Aligned.Left
alignment_by false true = Aligned.Right
alignment_by true true = Aligned.Center

-- the alignment of a cell without its spaces
abbrev pub bare_alignment : List ℕ → Alignment
bare_alignment [] = Aligned.None
bare_alignment (b ∷ bs) = alignment_by (is_colon b) (list_any is_colon bs)

-- the alignment that a cell stands for
abbrev pub alignment : List ℕ → Alignment
alignment cell = bare_alignment (filter (λ b. not (is_space b)) cell)

-- a cell and the pipe that ends it
abbrev pub ended_cell : List ℕ → List ℕ
ended_cell cell = cell ++ vertical_line ∷ []

-- the bytes of a delimiter row after its indent: the pipe in front, if any, the cells, each ended
-- by a pipe, and the last cell
abbrev pub delimiter_row : Bool → List (List ℕ) → List ℕ → List ℕ
delimiter_row piped cells last =
    (if piped then vertical_line ∷ [] else []) ++ flat_map ended_cell cells ++ last

-- the last cell, if it counts: one of spaces alone does not
abbrev pub counted_last_cell : List ℕ → List (List ℕ)
counted_last_cell last = if list_any (λ b. not (is_space b)) last then last ∷ [] else []

-- the cells that count
abbrev pub counted_cells : List (List ℕ) → List ℕ → List (List ℕ)
counted_cells cells last = cells ++ counted_last_cell last

abbrev pub is_empty : List (List ℕ) → Bool
is_empty [] = true
is_empty (cell ∷ cells) = false

-- A delimiter row: at most three spaces, a pipe or none, cells that each end in a pipe, a last
-- cell that may be empty, and the line's end.
pub record IsDelimiterRow (bytes : List ℕ) (n : ℕ) (alignments : List Alignment) : Type 0 where
  pub indent : ℕ
  pub piped : Bool
  pub cells : List (List ℕ)
  pub last : List ℕ
  pub rest : List ℕ
  pub ending : ℕ
  pub parts : bytes ≡ replicate indent space ++ delimiter_row piped cells last ++ rest
  pub at_most_three : indent ≤ 3
  pub no_further_space : IsTrue (not (begins_with is_space (delimiter_row piped cells last)))
  pub all_cells : IsTrue (list_all is_cell cells)
  pub last_cell : IsTrue (list_all is_cell_byte last)
  pub ends : line_ending rest ≡ Some ending
  pub some_pipe : IsTrue (piped || not (is_empty cells))
  pub some_hyphen : IsTrue (list_any is_hyphen (flat_map (λ cell. cell) cells ++ last))
  pub aligned : alignments ≡ map alignment (counted_cells cells last)
  pub counted : n ≡ indent + length (delimiter_row piped cells last) + ending

abbrev pub NoDelimiterRow : List ℕ → Type 0
NoDelimiterRow bytes = (n : ℕ) (alignments : List Alignment) → ¬ IsDelimiterRow bytes n alignments
