-- A table has as many columns as its head has cells, and as its delimiter row tells.
use Rattle.std.proofs.Common.{ℕ, List, ◌∷◌, ◌≡◌, length, map, refl, sym, ap, subst, ◌∙◌, inl, inr}
use Rattle.std.proofs.lemmas.List.{length-map}
use Rattle.markdown_values.specs.declared.values.Alignment.{Alignment}
use Rattle.markdown_blocks.specs.blocks.Leaves.{IsTable}
use Rattle.markdown_blocks.specs.delimiter_rows.DelimiterRows.{IsDelimiter, alignment_of, alignments_in, cell_text}
use Rattle.markdown_blocks.specs.cells.Cells.{cells_of}
use Rattle.markdown_blocks.specs.containers.Containers.{OpenContainers, Rest, rest_in}
use Rattle.markdown_blocks.specs.rows.Rows.{AreAlignments, AreGiven}
use Rattle.markdown_blocks.proofs.cells.LawLemmas.{length-cells_of}

given_columns : (rest : Rest) (columns : ℕ) (alignments : List Alignment) → IsDelimiter columns rest → AreGiven rest alignments → length alignments ≡ columns
given_columns rest columns alignments row (inl given) =
    let cells = cells_of rest.text in
    let all : alignments_in rest.text ≡ map alignment_of (map (cell_text rest.text) cells) = rw row.1 refl in
    ap length (given.2 ∙ all) ∙ length-map (map (cell_text rest.text) cells) alignment_of ∙ length-map cells (cell_text rest.text) ∙ sym row.2
given_columns rest columns alignments row (inr none) = absurd (none.0 (alignments_in rest.text) (row.0, row.1, refl))

-- the lines of a table, after a line with this text
module _ (outer : OpenContainers) (columns : ℕ) (text : List ℕ) (later rest : List (List ℕ)) (table : IsTable outer text columns later rest) where
  pub head_cells : length (cells_of text) ≡ columns
  head_cells = length-cells_of text ∙ table.3.3

  pub table_alignments : (line : List ℕ) (alignments : List Alignment) → AreAlignments outer.containers (line ∷ later) alignments
      → length alignments ≡ columns
  table_alignments line alignments given =
      given_columns (rest_in outer.containers table.0) columns alignments table.3.2.1
      (subst (λ ls. AreAlignments outer.containers (line ∷ ls) alignments) table.2 given)
