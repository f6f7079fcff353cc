-- Alignments of a table's columns. (GitHub Flavored Markdown 0.29, section 4.10, tables)
use Rattle.std.specs.Prelude.{ℕ}
use Rattle.markdown_values.specs.declared.values.Alignment.{Alignment}
use Rattle.markdown_values.specs.declared.values.Alignment.TheVariants as Aligned

-- the number of an alignment, in the order of the alignments
abbrev pub alignment_number : Alignment → ℕ
alignment_number Aligned.None = 0
alignment_number Aligned.Left = 1
alignment_number Aligned.Center = 2
alignment_number Aligned.Right = 3
