-- A text begins with one delimiter row at most.
use Rattle.std.proofs.Common.{◌≡◌, ℕ, ◌+◌, Bool, List, map, ◌++◌, length, drop, sym, ap, subst, ◌∙◌, Some}
use Rattle.std.specs.List.{prefix_len, flat_map}
use Rattle.std.proofs.lemmas.List.{append_cancel_left}
use Rattle.markdown_values.specs.declared.values.Alignment.{Alignment}
use Rattle.markdown_scanners_tree.specs.Bytes.{line_ending}
use Rattle.markdown_scanners_tree.specs.scanners.tables.DelimiterRow.{alignment, ended_cell, delimiter_row, counted_cells, IsDelimiterRow, is_space}
use Rattle.markdown_scanners_tree.specs.scanners.tables.private.ScannedCells.{AreCells}
use Rattle.markdown_scanners_tree.proofs.SomeExactlyLemmas.{same_pair}
use Rattle.markdown_scanners_tree.proofs.scanners.tables.CellLemmas.{AreCells-same}
use Rattle.markdown_scanners_tree.proofs.scanners.tables.DelimiterRowLemmas.{IsDelimiterRow-only, pipe_length}

-- what follows the cells is determined with them, and so is its line ending
one_ending : (bytes : List ℕ) (cells : List (List ℕ)) (last rest : List ℕ) (ending : ℕ)
    (cells' : List (List ℕ)) (last' rest' : List ℕ) (ending' : ℕ)
    → AreCells bytes cells last rest ending → AreCells bytes cells' last' rest' ending'
    → (cells ≡ cells') × (last ≡ last') × (ending ≡ ending')
one_ending bytes cells last rest ending cells' last' rest' ending' are are' =
    let same = AreCells-same bytes cells last rest ending cells' last' rest' ending' are are' in
    let first : cells ≡ cells' = sym same.0 in
    let second : last ≡ last' = sym same.1 in
    let before : flat_map ended_cell cells' ++ (last' ++ rest') ≡ flat_map ended_cell cells ++ (last ++ rest') =
    λ i. flat_map ended_cell (same.0 i) ++ (same.1 i ++ rest') in
    let parts : flat_map ended_cell cells ++ (last ++ rest) ≡ flat_map ended_cell cells ++ (last ++ rest') =
    sym are.parts ∙ (are'.parts ∙ before) in
    let after : rest ≡ rest' =
    append_cancel_left last rest rest'
    (append_cancel_left (flat_map ended_cell cells) (last ++ rest) (last ++ rest') parts) in
    let some : Some ending ≡ Some ending' = sym are.ends ∙ (ap line_ending after ∙ are'.ends) in
    let third : ending ≡ ending' = cc in
    (first, second, third)

-- how many bytes it has, and its alignments
pub one_row : (bytes : List ℕ) (n : ℕ) (alignments : List Alignment) (n' : ℕ) (alignments' : List Alignment)
    → IsDelimiterRow bytes n alignments → IsDelimiterRow bytes n' alignments'
    → ◌≡◌ {A = ℕ × List Alignment} (n, alignments) (n', alignments')
one_row bytes n alignments n' alignments' is is' =
    let only = IsDelimiterRow-only bytes n alignments is in
    let only' = IsDelimiterRow-only bytes n' alignments' is' in
    let indent : is.indent ≡ is'.indent = sym only.0 ∙ only'.0 in
    let piped : is.piped ≡ is'.piped = sym only.1 ∙ only'.1 in
    let same =
    one_ending (drop (pipe_length is.piped) (drop (prefix_len is_space bytes) bytes)) is.cells is.last is.rest
    is.ending is'.cells is'.last is'.rest is'.ending only.2
    (subst (λ (p : Bool). AreCells (drop (pipe_length p) (drop (prefix_len is_space bytes) bytes)) is'.cells is'.last
    is'.rest is'.ending) (sym piped) only'.2) in
    let long : is.indent + length (delimiter_row is.piped is.cells is.last) + is.ending
    ≡ is'.indent + length (delimiter_row is'.piped is'.cells is'.last) + is'.ending =
    λ i. indent i + length (delimiter_row (piped i) (same.0 i) (same.1 i)) + same.2 i in
    let aligned : map alignment (counted_cells is.cells is.last) ≡ map alignment (counted_cells is'.cells is'.last) =
    λ i. map alignment (counted_cells (same.0 i) (same.1 i)) in
    same_pair (is.counted ∙ (long ∙ sym is'.counted)) (is.aligned ∙ (aligned ∙ sym is'.aligned))
