-- The rows of a table, and how its columns are aligned. (GitHub Flavored Markdown 0.29, section 4.10, tables)
use Rattle.std.specs.Prelude.{ℕ, ◌+◌, ◌≡◌, ◌⊎◌, List, [], ◌∷◌, length, Option, None, Some, IsTrue}
use Rattle.markdown_values.specs.declared.values.Alignment.{Alignment}
use Rattle.markdown_scanners_tree.specs.line.State.{LineState, after_space}
use Rattle.markdown_blocks.specs.blocks.Leaves.{HasIndent}
use Rattle.markdown_blocks.specs.containers.Containers.{Rest, match_line, rest_at, rest_in}
use Rattle.markdown_blocks.specs.content.Parts.{first_offset}
use Rattle.markdown_blocks.specs.declared.containers.Container.{Container}
use Rattle.markdown_blocks.specs.declared.rows.Row.{Row}
use Rattle.markdown_blocks.specs.delimiter_rows.DelimiterRows.{alignments_in, is_delimiter_row}

-- the text of a row, before which so many bytes of the table's lines stand
pub record TextAt : Type 0 where
  pub offset : ℕ
  pub text : List ℕ

abbrev pub seen_row : Row → TextAt
seen_row row = record { offset = row.offset; text = row.text.now }

-- what a line has after its containers and its indent, where this is the offset after the containers and so many bytes stand before it
abbrev pub row_at : ℕ → LineState → TextAt
row_at before s = record { offset = before + (after_space 4 s).offset; text = (rest_at s).text }

-- the rows that these later lines are, before which so many bytes stand
abbrev pub later_rows : List Container → ℕ → List (List ℕ) → List TextAt
later_rows outer before [] = []
later_rows outer before (line ∷ lines) =
    row_at before (match_line outer line).state ∷ later_rows outer (before + length line) lines

-- those after a delimiter row, which is the first of these lines
abbrev pub body_rows : List Container → ℕ → List (List ℕ) → List TextAt
body_rows outer before [] = []
body_rows outer before (delimiters ∷ lines) = later_rows outer (before + length delimiters) lines

-- The rows of these lines, which are a table in these containers: its head, and those after its delimiter row. The first line
-- goes on with so many of the containers.
abbrev pub rows_of : ℕ → List Container → List (List ℕ) → List TextAt
rows_of kept outer [] = []
rows_of kept outer (head ∷ lines) = row_at 0 (first_offset kept outer head) ∷ body_rows outer (length head) lines

-- those of the lines after a row that is read, if one is, and so many bytes
abbrev pub first_row : Option Row → List TextAt
first_row None = []
first_row (Some row) = seen_row row ∷ []

-- the rest of a line is a delimiter row of columns that are aligned so
abbrev pub AreColumns : Rest → List Alignment → Type 0
AreColumns rest alignments = (¬ HasIndent rest) × IsTrue (is_delimiter_row rest.text) × (alignments ≡ alignments_in rest.text)

-- the alignments that the rest of a line tells, or none
abbrev pub AreGiven : Rest → List Alignment → Type 0
AreGiven rest alignments =
    AreColumns rest alignments ⊎ (((others : List Alignment) → ¬ AreColumns rest others) × (alignments ≡ []))

-- how the columns of a table in these containers are aligned, by the delimiter row, which is the second of its lines
abbrev pub AreAlignments : List Container → List (List ℕ) → List Alignment → Type 0
AreAlignments outer [] alignments = alignments ≡ []
AreAlignments outer (head ∷ []) alignments = alignments ≡ []
AreAlignments outer (head ∷ delimiters ∷ rows) alignments = AreGiven (rest_in outer delimiters) alignments
