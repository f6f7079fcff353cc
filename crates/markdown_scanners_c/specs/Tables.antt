-- Delimiter rows of tables. (GitHub Flavored Markdown 0.29, section 4.10, tables)
use Rattle.std.specs.Prelude.{ℕ, List, ◌≡◌, ◌⊎◌, map, IsTrue}
use Rattle.markdown_values.specs.declared.values.Alignment.{Alignment}
use Rattle.markdown_values.specs.values.Alignments.{alignment_number}
use Rattle.markdown_scanners_tree.specs.scanners.tables.BegunRow.{begins_row}
use Rattle.markdown_scanners_tree.specs.scanners.tables.DelimiterRow.{IsDelimiterRow, NoDelimiterRow}
use Rattle.markdown_scanners_c.specs.Buffer.{IsWritten}
use Rattle.markdown_scanners_c.specs.Status.{nothing, no_memory}
use Rattle.markdown_scanners_c.specs.Texts.{IsNoText}
use Rattle.markdown_scanners_c.specs.declared.texts.Text.{Text}

-- Memory is asked for: a row stands at the front, or the first cell of what begins as one does.
abbrev pub AsksMemory : List ℕ → Type 0
AsksMemory bytes = ¬ (NoDelimiterRow bytes) ⊎ IsTrue (begins_row bytes)

-- No delimiter row at the front; or one, whose alignments are written; or the memory that is asked for was refused.
unfoldable pub IsTableHead : List ℕ → List ℕ → List ℕ → Text → Type 0
IsTableHead bytes old new head =
    (IsNoText nothing head × (new ≡ old) × NoDelimiterRow bytes)
    ⊎ (IsNoText no_memory head × (new ≡ old) × AsksMemory bytes)
    ⊎ ((alignments : List Alignment) × IsDelimiterRow bytes head.taken alignments
    × IsWritten (map alignment_number alignments) old new head.status head.length)
