-- The first pass over a delimiter row: it passes all of a row, and what it passes may be one.
use Rattle.std.proofs.Common.{take, ◌≡◌, ◌+◌, inl, inr, ℕ, suc, Bool, true, false, ◌||◌, Option, Some}
use Rattle.std.proofs.Common.{None, List, [], ◌∷◌, ◌++◌, length, drop, is_some, arith, refl, ap, ◌∙◌, append_assoc, one-add}
use Rattle.std.specs.List.{prefix_len, list_all, list_any, flat_map}
use Rattle.std.proofs.lemmas.List.{length-append}
use Rattle.std.proofs.Math.Bool.{or_assoc, or-false}
use Rattle.std.proofs.Math.Seq.{drop-append_seam, take-append_seam}
use Rattle.std.proofs.lemmas.Bool.{false≢true, cases_Bool, or_right}
use Rattle.markdown_scanners_tree.specs.Ascii.{vertical_line}
use Rattle.markdown_scanners_tree.specs.Bytes.{begins_with, line_ending}
use Rattle.markdown_scanners_tree.specs.scanners.tables.DelimiterRow.{is_cell_byte, is_cell, is_hyphen, is_pipe, ended_cell, delimiter_row}
use Rattle.markdown_scanners_tree.specs.scanners.tables.BegunRow.{is_row_byte, may_be_row}
use Rattle.markdown_scanners_tree.specs.scanners.tables.private.RowPass.{hyphen_after, passed_len, row_len, is_passed}
use Rattle.markdown_scanners_tree.proofs.PrefixLemmas.{both_true}
use Rattle.markdown_scanners_tree.proofs.scanners.lines.BlankLemmas.{first-line_ending}
use Rattle.markdown_scanners_tree.proofs.scanners.tables.CellLemmas.{cell_byte_no_pipe}

-- A byte is passed, or ends the pass.
passed_some : (hyphen : Bool) (b : ℕ) (bytes : List ℕ) (next : Bool) → hyphen_after hyphen b ≡ Some next
    → passed_len hyphen (b ∷ bytes) ≡ suc (passed_len next bytes)
passed_some hyphen b bytes next e = rw (e, passed_len) refl

passed_none : (hyphen : Bool) (b : ℕ) (bytes : List ℕ) → hyphen_after hyphen b ≡ None
    → passed_len hyphen (b ∷ bytes) ≡ 0
passed_none hyphen b bytes e = rw (e, passed_len) refl

passed_len-cell : (hyphen : Bool) (cell left : List ℕ) → list_all is_cell_byte cell ≡ true
    → passed_len hyphen (cell ++ left) ≡ length cell + passed_len (hyphen || list_any is_hyphen cell) left
passed_len-cell hyphen [] left all = rw (or-false hyphen) (omega arith)
passed_len-cell hyphen (b ∷ cell) left all =
    let both = both_true (is_cell_byte b) (list_all is_cell_byte cell) all in
    let after : hyphen_after hyphen b ≡ Some (hyphen || is_hyphen b) =
    rw (cell_byte_no_pipe b both.0, both.0) refl in
    let further = passed_len-cell (hyphen || is_hyphen b) cell left both.1 in
    let joined = or_assoc hyphen (is_hyphen b) (list_any is_hyphen cell) in
    passed_some hyphen b (cell ++ left) (hyphen || is_hyphen b) after
    ∙ omega (arith, further ∙ ap (λ x. length cell + passed_len x left) joined)

passed_len-cells : (cells : List (List ℕ)) (left : List ℕ) → list_all is_cell cells ≡ true
    → passed_len false (flat_map ended_cell cells ++ left)
    ≡ length (flat_map ended_cell cells) + passed_len false left
passed_len-cells [] left all = omega arith
passed_len-cells (c ∷ cells) left all =
    let both = both_true (is_cell c) (list_all is_cell cells) all in
    let cell = both_true (list_all is_cell_byte c) (list_any is_hyphen c) both.0 in
    let after = flat_map ended_cell cells ++ left in
    let whole : flat_map ended_cell (c ∷ cells) ++ left ≡ c ++ vertical_line ∷ after = simp append_assoc in
    let counted : length (flat_map ended_cell (c ∷ cells)) ≡ length c + 1 + length (flat_map ended_cell cells) =
    simp length-append (omega arith) in
    let first : passed_len false (c ++ vertical_line ∷ after) ≡ length c + suc (passed_len false after) =
    rw cell.1 at (passed_len-cell false c (vertical_line ∷ after) cell.0) in
    rw whole (omega (arith, first, counted, passed_len-cells cells left both.1))

neither : (a b : Bool) → (a || b) ≡ false → (a ≡ false) × (b ≡ false)
neither true b h = cc
neither false b h = (refl, h)

passed_len-stop : (hyphen : Bool) (rest : List ℕ) → begins_with is_row_byte rest ≡ false → passed_len hyphen rest ≡ 0
passed_len-stop hyphen [] stop = refl
passed_len-stop hyphen (b ∷ rest) stop =
    let both = neither (is_cell_byte b) (is_pipe b) stop in
    passed_none hyphen b rest (rw (both.1, both.0) refl)

-- cells, a last cell and the line's end
passed_len-last : (cells : List (List ℕ)) (last rest : List ℕ) (ending : ℕ) → list_all is_cell cells ≡ true
    → list_all is_cell_byte last ≡ true → line_ending rest ≡ Some ending
    → passed_len false ((flat_map ended_cell cells ++ last) ++ rest) ≡ length (flat_map ended_cell cells ++ last)
passed_len-last cells last rest ending all all' ends =
    let stop =
    passed_len-stop (list_any is_hyphen last) rest (first-line_ending is_row_byte refl refl rest ending ends) in
    rw append_assoc (omega (
      arith,
      passed_len-cells cells (last ++ rest) all,
      passed_len-cell false last rest all',
      stop,
      length-append (flat_map ended_cell cells) last,
    ))

-- the whole row
pub passed_len-row : (piped : Bool) (cells : List (List ℕ)) (last rest : List ℕ) (ending : ℕ)
    → list_all is_cell cells ≡ true → list_all is_cell_byte last ≡ true → line_ending rest ≡ Some ending
    → passed_len piped (delimiter_row piped cells last ++ rest) ≡ length (delimiter_row piped cells last)
passed_len-row true cells last rest ending all all' ends = ap suc (passed_len-last cells last rest ending all all' ends)
passed_len-row false cells last rest ending all all' ends = passed_len-last cells last rest ending all all' ends

-- Bytes that are passed to their end, a pipe among them, are given by the pass.
pub made_row : (row rest : List ℕ) (ending : ℕ) (piped : Bool) → begins_with is_pipe (row ++ rest) ≡ piped
    → passed_len piped (row ++ rest) ≡ length row → list_any is_pipe row ≡ true → line_ending rest ≡ Some ending
    → is_passed (row ++ rest) ≡ true
made_row row rest ending piped begins passed some ends =
    let run : row_len (row ++ rest) ≡ length row = rw begins passed in
    rw (run, drop-append_seam row rest, take-append_seam row rest, ends, some) refl

-- What is passed are bytes of a row, and all of them where none stands after it.
passed-row_byte : (hyphen : Bool) (b : ℕ) (next : Bool) → hyphen_after hyphen b ≡ Some next → is_row_byte b ≡ true
passed-row_byte hyphen b next e = elim (cases_Bool (is_pipe b)) [
  | inl pipe ↦ rw pipe (or_right (is_cell_byte b) true refl)
  | inr other ↦ elim (cases_Bool (is_cell_byte b)) [
    | inl cell ↦ rw cell refl
    | inr none ↦ absurd (let refused = rw (other, none) at e in cc)
  ]
]

passed_len-run : (hyphen : Bool) (bytes : List ℕ)
    → begins_with is_row_byte (drop (passed_len hyphen bytes) bytes) ≡ false
    → prefix_len is_row_byte bytes ≡ passed_len hyphen bytes
passed_len-run hyphen [] stop = refl
passed_len-run hyphen (b ∷ bytes) stop =
    by_byte (hyphen_after hyphen b) refl (λ next further. passed_len-run next bytes further)
  where
    by_byte : (after : Option Bool) → hyphen_after hyphen b ≡ after
        → ((next : Bool) → begins_with is_row_byte (drop (passed_len next bytes) bytes) ≡ false
        → prefix_len is_row_byte bytes ≡ passed_len next bytes)
        → prefix_len is_row_byte (b ∷ bytes) ≡ passed_len hyphen (b ∷ bytes)
    by_byte None e run =
        let none : is_row_byte b ≡ false = rw (passed_none hyphen b bytes e) at stop in
        rw (none, passed_none hyphen b bytes e) refl
    by_byte (Some next) e run =
        let further : begins_with is_row_byte (drop (passed_len next bytes) bytes) ≡ false =
        rw (passed_some hyphen b bytes next e) at stop in
        let row = passed-row_byte hyphen b next e in
        rw (row, passed_some hyphen b bytes next e, one-add) (ap suc (run next further))

no_row_byte : (rest : List ℕ) (end : Option ℕ) → line_ending rest ≡ end → is_some end ≡ true
    → begins_with is_row_byte rest ≡ false
no_row_byte rest None ends some = absurd (false≢true some)
no_row_byte rest (Some ending) ends some = first-line_ending is_row_byte refl refl rest ending ends

pub passed-may : (bytes : List ℕ) → is_passed bytes ≡ true → may_be_row bytes ≡ true
passed-may bytes passed =
    let both =
    both_true (is_some (line_ending (drop (row_len bytes) bytes))) (list_any is_pipe (take (row_len bytes) bytes)) passed in
    let stop = no_row_byte (drop (row_len bytes) bytes) _ refl both.0 in
    let run : prefix_len is_row_byte bytes ≡ row_len bytes =
    passed_len-run (begins_with is_pipe bytes) bytes stop in
    rw run passed
