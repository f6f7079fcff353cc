-- Delimiter rows. (GitHub Flavored Markdown 0.29, section 4.10, tables: "cells whose only content are hyphens (-), and optionally, a
-- leading or trailing colon (:), or both")
use Rattle.std.specs.Prelude.{ℕ, Bool, true, false, ◌&&◌, ◌||◌, ◌≡◌, nat_lt, List, [], ◌∷◌, drop, length, map, slice_range, IsTrue, if◌then◌else◌}
use Rattle.std.specs.List.{list_all, prefix_len}
use Rattle.markdown_values.specs.declared.values.Alignment.{Alignment}
use Rattle.markdown_scanners_tree.specs.Bytes.{begins_with}
use Rattle.markdown_scanners_tree.specs.scanners.tables.DelimiterRow.{alignment_by, is_colon, is_hyphen, is_pipe}
use Rattle.markdown_blocks.specs.cells.Cells.{cells_of}
use Rattle.markdown_blocks.specs.containers.Containers.{Rest}
use Rattle.markdown_blocks.specs.declared.cells.Cell.{Cell}

-- what a cell of a row with this text holds, without the spaces and tabs at its ends
abbrev pub cell_text : List ℕ → Cell → List ℕ
cell_text text cell = slice_range text cell.start cell.end

-- what stands after a colon at the front, or all where none does
abbrev pub after_colon : List ℕ → List ℕ
after_colon bytes = drop (if begins_with is_colon bytes then 1 else 0) bytes

-- what stands after the hyphens at the front
abbrev pub after_hyphens : List ℕ → List ℕ
after_hyphens bytes = drop (prefix_len is_hyphen bytes) bytes

-- nothing, or one colon
abbrev pub is_colon_or_none : List ℕ → Bool
is_colon_or_none [] = true
is_colon_or_none (b ∷ []) = is_colon b
is_colon_or_none (b ∷ c ∷ bytes) = false

-- hyphens, with a colon before them, after them, or both, or none
abbrev pub is_delimiter : List ℕ → Bool
is_delimiter bytes = begins_with is_hyphen (after_colon bytes) && is_colon_or_none (after_hyphens (after_colon bytes))

-- how it aligns its column
abbrev pub alignment_of : List ℕ → Alignment
alignment_of bytes = alignment_by (begins_with is_colon bytes) (begins_with is_colon (after_hyphens (after_colon bytes)))

-- a pipe, a colon or a hyphen
abbrev pub is_delimiter_byte : ℕ → Bool
is_delimiter_byte b = is_pipe b || (is_colon b || is_hyphen b)

-- The text is that of a delimiter row: it begins with such a byte, has a cell, and each of its cells is a delimiter.
abbrev pub is_delimiter_row : List ℕ → Bool
is_delimiter_row text =
    begins_with is_delimiter_byte text && (nat_lt 0 (length (cells_of text)) && list_all is_delimiter (map (cell_text text) (cells_of text)))

-- the rest of a line is a delimiter row of so many cells
abbrev pub IsDelimiter : ℕ → Rest → Type 0
IsDelimiter columns rest = (¬ (rest.indent ≡ 4)) × IsTrue (is_delimiter_row rest.text) × (columns ≡ length (cells_of rest.text))

-- how such a row aligns the columns; another aligns none
abbrev pub alignments_in : List ℕ → List Alignment
alignments_in text = if is_delimiter_row text then map alignment_of (map (cell_text text) (cells_of text)) else []
