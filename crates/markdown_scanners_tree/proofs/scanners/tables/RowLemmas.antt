-- What a delimiter row is made of.
use Rattle.std.proofs.Common.{take, ◌&&◌, ◌≡◌, ◌+◌, ◌-◌, ◌==◌, cond, inl, inr, ℕ, Bool}
use Rattle.std.proofs.Common.{true, false, not, ◌||◌, List, [], ◌∷◌, ◌++◌, length, drop, refl, sym, ap, ◌∙◌, append_assoc}
use Rattle.std.specs.List.{prefix_len, list_all, list_any, flat_map}
use Rattle.std.proofs.lemmas.List.Folds.{list_any-append}
use Rattle.std.proofs.Math.Seq.{drop-append_seam, take-append_seam}
use Rattle.std.proofs.Math.ListN.{replicate}
use Rattle.std.proofs.lemmas.List.{length-replicate}
use Rattle.std.proofs.lemmas.Bool.{false≢true, cases_Bool, or_right}
use Rattle.markdown_scanners_tree.specs.Ascii.{vertical_line}
use Rattle.markdown_scanners_tree.specs.Bytes.{begins_with}
use Rattle.markdown_values.specs.declared.values.Alignment.{Alignment}
use Rattle.markdown_scanners_tree.specs.scanners.tables.DelimiterRow.{is_cell_byte, is_pipe, is_space, is_empty, ended_cell, delimiter_row, NoDelimiterRow}
use Rattle.markdown_scanners_tree.specs.scanners.tables.BegunRow.{is_row_byte, may_be_row}
use Rattle.markdown_scanners_tree.specs.scanners.tables.private.RowPass.{is_passed}
use Rattle.markdown_scanners_tree.specs.scanners.tables.private.ScannedCells.{AreCells, AreScannedCells}
use Rattle.markdown_scanners_tree.proofs.PrefixLemmas.{from_offset, both_true, prefix_len-parts}
use Rattle.markdown_scanners_tree.proofs.scanners.lines.BlankLemmas.{first-line_ending}
use Rattle.markdown_scanners_tree.proofs.scanners.tables.CellLemmas.{cell_byte_no_pipe}
use Rattle.markdown_scanners_tree.proofs.scanners.tables.DelimiterRowLemmas.{IsDelimiterRow-only, pipe_length, pipe_test, cells_start}
use Rattle.markdown_scanners_tree.proofs.scanners.tables.RowPassLemmas.{passed_len-row, made_row, passed-may}

-- all bytes of a delimiter row are those of cells, and pipes
row_bytes : (bytes : List ℕ) → list_all is_cell_byte bytes ≡ true → list_all is_row_byte bytes ≡ true
row_bytes [] all = refl
row_bytes (b ∷ bytes) all =
    let both = both_true (is_cell_byte b) (list_all is_cell_byte bytes) all in
    rw both.0 (row_bytes bytes both.1)

-- a pipe is among them
row_pipe : (piped : Bool) (cells : List (List ℕ)) (last : List ℕ) → (piped || not (is_empty cells)) ≡ true
    → list_any is_pipe (delimiter_row piped cells last) ≡ true
row_pipe true cells last some = refl
row_pipe false [] last some = absurd (false≢true some)
row_pipe false (c ∷ cells) last some =
    rw (
      list_any-append is_pipe ((c ++ vertical_line ∷ []) ++ flat_map ended_cell cells) last,
      list_any-append is_pipe
          (c ++ vertical_line ∷ []) (flat_map ended_cell cells),
      list_any-append is_pipe c (vertical_line ∷ []),
    ) (or_true
    (list_any is_pipe c) _ _)
  where
    or_true : (a b c : Bool) → (((a || true) || b) || c) ≡ true
    or_true true b c = refl
    or_true false b c = refl

pub no_row : (bytes : List ℕ) → is_passed (drop (prefix_len is_space bytes) bytes) ≡ false → NoDelimiterRow bytes
no_row bytes none n alignments it =
    let only = IsDelimiterRow-only bytes n alignments it in
    let row = delimiter_row it.piped it.cells it.last in
    let parts : bytes ≡ replicate it.indent 32 ++ (row ++ it.rest) =
    it.parts ∙ append_assoc (replicate it.indent 32) row it.rest in
    let dropped : drop it.indent bytes ≡ row ++ it.rest =
    rw parts (ap (λ m. drop m (replicate it.indent 32 ++ (row ++ it.rest))) (sym (length-replicate it.indent 32)) ∙
    drop-append_seam (replicate it.indent 32) (row ++ it.rest)) in
    let at : drop (prefix_len is_space bytes) bytes ≡ row ++ it.rest = ap (λ m. drop m bytes) only.0 ∙ dropped in
    let made =
    made_row row it.rest it.ending it.piped (ap (begins_with is_pipe) (sym at) ∙ only.1)
    (passed_len-row it.piped it.cells it.last it.rest it.ending it.all_cells it.last_cell it.ends)
    (row_pipe it.piped it.cells it.last it.some_pipe) it.ends in
    false≢true (sym none ∙ ap is_passed at ∙ made)

-- what may be a row has a pipe in front of its cells or after one
no_pipe : (bytes : List ℕ) → list_all is_cell_byte bytes ≡ true → list_any is_pipe bytes ≡ false
no_pipe [] all = refl
no_pipe (b ∷ bytes) all =
    let both = both_true (is_cell_byte b) (list_all is_cell_byte bytes) all in
    rw (cell_byte_no_pipe b both.0) (no_pipe bytes both.1)

pub some_pipe : (bytes : List ℕ) (cells : List (List ℕ)) (last rest : List ℕ) (ending : ℕ) → may_be_row bytes ≡ true
    → AreCells (drop (pipe_length (begins_with is_pipe bytes)) bytes) cells last rest ending
    → (begins_with is_pipe bytes || not (is_empty cells)) ≡ true
some_pipe bytes (c ∷ cells) last rest ending may are = or_right (begins_with is_pipe bytes) true refl
some_pipe bytes [] last rest ending may are = elim (cases_Bool (begins_with is_pipe bytes)) [
  | inl piped ↦ rw piped refl
  | inr none ↦ (
      let parts : bytes ≡ last ++ rest = rw none at are.parts in
      let run : prefix_len is_row_byte (last ++ rest) ≡ length last =
      prefix_len-parts is_row_byte last rest (row_bytes last are.last_cell)
      (first-line_ending is_row_byte refl refl rest ending are.ends) in
      let made : may_be_row (last ++ rest) ≡ false =
      rw (run, drop-append_seam last rest, take-append_seam last rest, are.ends, no_pipe last are.last_cell) refl in
      absurd (false≢true (sym made ∙ ap may_be_row (sym parts) ∙ may))
      )
]

-- what the test of a row's front and that of its cells tell together
pub row_tests : (bytes : List ℕ) (indent pipe : ℕ) (run : indent ≡ prefix_len is_space bytes)
    (pipe_is : pipe ≡ cond (begins_with is_pipe (take (length bytes - indent) (drop indent bytes))) 1 0)
    → (n : ℕ) (alignments : List Alignment) (some_ended hyphen : Bool) (scanned : AreScannedCells
    (take (length bytes - (indent + pipe)) (drop (indent + pipe) bytes)) n alignments some_ended hyphen)
    → is_passed (take (length bytes - indent) (drop indent bytes)) ≡ true → (some_ended || hyphen) ≡ true →
    (((pipe == 1) || some_ended) && (some_ended || hyphen)) ≡ true
row_tests bytes indent pipe run pipe_is n alignments some_ended hyphen scanned passed hyphens =
    let at : take (length bytes - indent) (drop indent bytes) ≡ drop (prefix_len is_space bytes) bytes =
    from_offset bytes indent ∙ ap (λ i. drop i bytes) run in
    let pipes =
    some_pipe (drop (prefix_len is_space bytes) bytes) scanned.cells scanned.last scanned.rest scanned.ending
    (passed-may (drop (prefix_len is_space bytes) bytes) (ap is_passed (sym at) ∙ passed)) (rw (cells_start bytes indent pipe run pipe_is) at scanned.are_cells) in
    let some = rw scanned.tells_ended at hyphens in
    rw (pipe_test bytes indent pipe run pipe_is, scanned.tells_ended) (rw pipes some)
