-- The cells of a delimiter row: which bytes the first is, by the byte after it, and that all of them are determined. And
-- the alignment that a cell stands for.
use Rattle.std.proofs.Common.{◌≡◌, ℕ, ◌+◌, ◌-◌, ◌<◌, Bool, true, false, not, ◌==◌, List, [], ◌∷◌, ◌++◌, length, take}
use Rattle.std.proofs.Common.{drop, get_or, refl, sym, ap, ◌∙◌, arith, inl, inr, Some, one-add, add-one, append_assoc}
use Rattle.std.specs.List.{prefix_len, list_all, list_any, flat_map, filter}
use Rattle.std.proofs.lemmas.Bool.{cases_Bool, eqb-true}
use Rattle.std.proofs.lemmas.Bool.Decides.{nat_tests}
use Rattle.markdown_values.specs.declared.values.Alignment.TheVariants as Aligned
use Rattle.markdown_scanners_tree.specs.Ascii.{vertical_line}
use Rattle.markdown_scanners_tree.specs.Bytes.{begins_with, line_ending}
use Rattle.markdown_scanners_tree.specs.scanners.tables.DelimiterRow.{is_cell_byte, is_cell, alignment, alignment_by, ended_cell, is_space, is_hyphen, is_colon, is_pipe}
use Rattle.markdown_scanners_tree.specs.scanners.tables.private.ScannedCells.{AreCells}
use Rattle.markdown_scanners_tree.proofs.PrefixLemmas.{from_offset, both_true, same_cut}
use Rattle.markdown_scanners_tree.proofs.scanners.lines.BlankLemmas.{first-line_ending}

list_any-filter : (bytes : List ℕ) → list_any is_colon (filter (λ b. not (is_space b)) bytes) ≡ list_any is_colon bytes
list_any-filter [] = refl
list_any-filter (b ∷ bytes) =
    elim (cases_Bool (b == 32)) [
      | inl space ↦ (let is : b ≡ 32 = eqb-true b 32 space in rw is (list_any-filter bytes))
      | inr other ↦ rw other (rw (list_any-filter bytes) refl)
    ]

alignment-parts : (cell : List ℕ) → prefix_len is_space cell < length cell
    → alignment cell
    ≡ alignment_by (get_or cell (prefix_len is_space cell) 0 == 58)
    (list_any is_colon (drop (prefix_len is_space cell + 1) cell))
alignment-parts [] lt = absurd (omega arith)
alignment-parts (b ∷ cell) lt =
    elim (cases_Bool (b == 32)) [
      | inl space ↦ (let below =
          rw (space, one-add) at lt in rw (space, one-add, add-one) (rw add-one at (alignment-parts cell (omega arith))))
      | inr other ↦ rw other (rw (list_any-filter cell) refl)
    ]

pub alignment-spaces : (cell : List ℕ) → prefix_len is_space cell ≡ length cell → alignment cell ≡ Aligned.None
alignment-spaces [] all = refl
alignment-spaces (b ∷ cell) all =
    elim (cases_Bool (b == 32)) [
      | inl space ↦ (let further = rw (space, one-add) at all in rw space (alignment-spaces cell (omega arith)))
      | inr other ↦ absurd (let none = rw other at all in omega (arith, none))
    ]

cell_stop : (rest : List ℕ) (ending : ℕ) → line_ending rest ≡ Some ending → begins_with is_cell_byte rest ≡ false
cell_stop rest ending ends = first-line_ending is_cell_byte refl refl rest ending ends

-- Where a pipe ends the first cell, the cells of a delimiter row are that cell and those of the rest.
pub AreCells-tail : (cell left : List ℕ) → list_all is_cell_byte cell ≡ true
    → (cells : List (List ℕ)) (last rest : List ℕ) (ending : ℕ)
    → AreCells (cell ++ vertical_line ∷ left) cells last rest ending
    → (more : List (List ℕ)) × (cells ≡ cell ∷ more) × (is_cell cell ≡ true) × AreCells left more last rest ending
AreCells-tail cell left all [] last rest ending are =
    absurd (let cut =
    same_cut is_cell_byte cell (vertical_line ∷ left) last rest all refl are.last_cell
    (cell_stop rest ending are.ends) are.parts in
    let no_pipe = first-line_ending is_pipe refl refl rest ending are.ends in
    let pipe = rw (← cut.1) at no_pipe in cc)
AreCells-tail cell left all (c ∷ more) last rest ending are =
    let parts : cell ++ vertical_line ∷ left ≡ c ++ vertical_line ∷ (flat_map ended_cell more ++ (last ++ rest)) =
    are.parts ∙ simp append_assoc in
    let both = both_true (is_cell c) (list_all is_cell more) are.all_cells in
    let bytes = both_true (list_all is_cell_byte c) (list_any is_hyphen c) both.0 in
    let cut =
    same_cut is_cell_byte cell (vertical_line ∷ left) c (vertical_line ∷ (flat_map ended_cell more ++ (last ++ rest)))
    all refl bytes.0 refl parts in
    let first : cell ≡ c = cut.0 in
    let after : left ≡ flat_map ended_cell more ++ (last ++ rest) = (let whole = cut.1 in cc) in (
      more,
      ap (λ x. x ∷ more) (sym first),
      rw first both.0,
      record { parts = after; all_cells = both.1; last_cell = are.last_cell; ends = are.ends },
    )

-- and the other way
pub AreCells-cons : (cell left : List ℕ) (cells : List (List ℕ)) (last rest : List ℕ) (ending : ℕ) → is_cell cell ≡ true
    → AreCells left cells last rest ending → AreCells (cell ++ vertical_line ∷ left) (cell ∷ cells) last rest ending
AreCells-cons cell left cells last rest ending is are =
    record {
      parts =
          rw are.parts (simp append_assoc);
      all_cells = rw is are.all_cells;
      last_cell = are.last_cell;
      ends = are.ends;
    }

-- Where no pipe ends the first cell, it is the last.
pub AreCells-last : (cell left : List ℕ) → list_all is_cell_byte cell ≡ true → begins_with is_cell_byte left ≡ false
    → begins_with is_pipe left ≡ false
    → (cells : List (List ℕ)) (last rest : List ℕ) (ending : ℕ) → AreCells (cell ++ left) cells last rest ending →
    (cells ≡ []) × (last ≡ cell) × (line_ending left ≡ Some ending)
AreCells-last cell left all stop no_pipe [] last rest ending are =
    let cut =
    same_cut is_cell_byte cell left last rest all stop are.last_cell (cell_stop rest ending are.ends) are.parts in
    (refl, sym cut.0, rw cut.1 are.ends)
AreCells-last cell left all stop no_pipe (c ∷ more) last rest ending are =
    absurd (
    let parts : cell ++ left ≡ c ++ vertical_line ∷ (flat_map ended_cell more ++ (last ++ rest)) =
    are.parts ∙ simp append_assoc in
    let both = both_true (is_cell c) (list_all is_cell more) are.all_cells in
    let bytes = both_true (list_all is_cell_byte c) (list_any is_hyphen c) both.0 in
    let cut =
    same_cut is_cell_byte cell left c (vertical_line ∷ (flat_map ended_cell more ++ (last ++ rest))) all stop bytes.0
    refl parts in
    let pipe = rw cut.1 at no_pipe in cc)

pub alignment-scanned : (cell : List ℕ) (i : ℕ) (begins later : Bool) → i ≡ prefix_len is_space cell → i < length cell
    → begins ≡ (get_or cell i 0 == 58) → later ≡ list_any is_colon (take (length cell - (i + 1)) (drop (i + 1) cell))
    → alignment_by begins later ≡ alignment cell
alignment-scanned cell i begins later run lt is_first is_later =
    rw (is_first, is_later, from_offset cell (i + 1), run)
    (sym (alignment-parts cell (let below : prefix_len is_space cell < length cell = omega arith in below)))

-- The cells of a delimiter row are determined.
pub AreCells-same : (bytes : List ℕ) (cells : List (List ℕ)) (last rest : List ℕ) (ending : ℕ)
    (cells' : List (List ℕ)) (last' rest' : List ℕ) (ending' : ℕ)
    → AreCells bytes cells last rest ending → AreCells bytes cells' last' rest' ending'
    → (cells' ≡ cells) × (last' ≡ last)
AreCells-same bytes [] last rest ending cells' last' rest' ending' are are' =
    let parts : bytes ≡ last ++ rest = are.parts in
    let only =
    AreCells-last last rest are.last_cell (cell_stop rest ending are.ends)
    (first-line_ending is_pipe refl refl rest ending are.ends) cells' last' rest' ending' (rw parts at are') in
    (only.0, only.1)
AreCells-same bytes (c ∷ more) last rest ending cells' last' rest' ending' are are' =
    let parts : bytes ≡ c ++ vertical_line ∷ (flat_map ended_cell more ++ (last ++ rest)) =
    are.parts ∙ simp append_assoc in
    let both = both_true (is_cell c) (list_all is_cell more) are.all_cells in
    let all = both_true (list_all is_cell_byte c) (list_any is_hyphen c) both.0 in
    let tail =
    AreCells-tail c (flat_map ended_cell more ++ (last ++ rest)) all.0 cells' last' rest' ending' (rw parts at are') in
    let same =
    AreCells-same (flat_map ended_cell more ++ (last ++ rest)) more last rest ending tail.0 last' rest' ending'
    (record { parts = refl; all_cells = both.1; last_cell = are.last_cell; ends = are.ends }) tail.3 in
    (tail.1 ∙ ap (λ x. c ∷ x) same.0, same.1)

pub cell_byte_no_pipe : (b : ℕ) → is_cell_byte b ≡ true → is_pipe b ≡ false
cell_byte_no_pipe b is = grind (arith, nat_tests)

pub not_piped : (bytes : List ℕ) (cells : List (List ℕ)) (last rest : List ℕ) (ending : ℕ)
    → AreCells bytes cells last rest ending → begins_with is_pipe bytes ≡ false
not_piped bytes [] [] rest ending are = rw are.parts (first-line_ending is_pipe refl refl rest ending are.ends)
not_piped bytes [] (b ∷ last) rest ending are =
    rw are.parts (cell_byte_no_pipe b (both_true (is_cell_byte b) (list_all is_cell_byte last) are.last_cell).0)
not_piped bytes ([] ∷ more) last rest ending are = absurd (let no_cell : false ≡ true = are.all_cells in cc)
not_piped bytes ((b ∷ c) ∷ more) last rest ending are =
    let both = both_true (is_cell (b ∷ c)) (list_all is_cell more) are.all_cells in
    let all = both_true (list_all is_cell_byte (b ∷ c)) (list_any is_hyphen (b ∷ c)) both.0 in
    rw are.parts (cell_byte_no_pipe b (both_true (is_cell_byte b) (list_all is_cell_byte c) all.0).0)
