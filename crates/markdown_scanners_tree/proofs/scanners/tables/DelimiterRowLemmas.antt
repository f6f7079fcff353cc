-- Delimiter rows of tables: a row's indent, its first pipe and its cells are determined, the scan of a table's head
-- answers by them, and a row has a length and a column.
use Rattle.std.proofs.Common.{◌≡◌, ℕ, ◌+◌, ◌-◌, ◌≤◌, ◌<◌, Bool, true, false, not, cond, ◌&&◌, ◌||◌, ◌==◌, List, [], ◌∷◌, ◌++◌, map, length, take}
use Rattle.std.proofs.Common.{drop, refl, sym, ap, ◌∙◌, arith, inl, inr, append_assoc}
use Rattle.std.specs.List.{prefix_len, list_all, list_any, flat_map}
use Rattle.std.proofs.lemmas.List.{take-append-drop, length-drop, length-take, drop-drop, length-replicate, length-append, length-map}
use Rattle.std.proofs.lemmas.List.Folds.{length-prefix_len, list_any-append}
use Rattle.std.proofs.lemmas.Bool.{cases_Bool, eqb-true}
use Rattle.std.proofs.Math.Seq.{drop-append_seam}
use Rattle.std.proofs.Math.ListN.{replicate}
use Rattle.markdown_values.specs.declared.values.Alignment.{Alignment}
use Rattle.markdown_scanners_tree.specs.Ascii.{vertical_line}
use Rattle.markdown_scanners_tree.specs.Bytes.{begins_with}
use Rattle.markdown_scanners_tree.specs.scanners.tables.DelimiterRow.{is_cell_byte, is_cell, alignment, ended_cell, delimiter_row, counted_cells}
use Rattle.markdown_scanners_tree.specs.scanners.tables.DelimiterRow.{is_empty, IsDelimiterRow, NoDelimiterRow, is_space, is_hyphen, is_pipe}
use Rattle.markdown_scanners_tree.specs.scanners.tables.private.ScannedCells.{AreCells, NoCells, AreScannedCells}
use Rattle.markdown_scanners_tree.proofs.PrefixLemmas.{from_offset, both_true, list_all-prefix, begins_with-after_prefix, prefix_len-parts}
use Rattle.markdown_scanners_tree.proofs.scanners.lines.BlankLemmas.{first-line_ending}
use Rattle.markdown_scanners_tree.proofs.RunLemmas.{not_true, list_all-replicate, replicate-all}
use Rattle.markdown_scanners_tree.proofs.scanners.tables.CellLemmas.{AreCells-same, not_piped}
use Rattle.markdown_scanners_tree.proofs.scanners.tables.CellScan.{within_slice}

begins_with-append : (p : ℕ → Bool) (prefix rest : List ℕ) → begins_with p prefix ≡ false → begins_with p rest ≡ false
    → begins_with p (prefix ++ rest) ≡ false
begins_with-append p [] rest first second = second
begins_with-append p (b ∷ prefix) rest first second = first

begins_with-prefix : (p : ℕ → Bool) (prefix rest : List ℕ) → begins_with p (prefix ++ rest) ≡ false
    → begins_with p prefix ≡ false
begins_with-prefix p [] rest h = refl
begins_with-prefix p (b ∷ prefix) rest h = h

abbrev pub pipe_length : Bool → ℕ
pipe_length piped = cond piped 1 0

delimiter_row-rest : (piped : Bool) (cells : List (List ℕ)) (last rest : List ℕ)
    → delimiter_row piped cells last ++ rest
    ≡ cond piped (vertical_line ∷ []) [] ++ (flat_map ended_cell cells ++ (last ++ rest))
delimiter_row-rest piped cells last rest = simp append_assoc

-- A delimiter row's indent is its run of spaces, its pipe is the byte after them, and its cells are those after the pipe.
pub IsDelimiterRow-only : (bytes : List ℕ) (n : ℕ) (alignments : List Alignment)
    → (it : IsDelimiterRow bytes n alignments)
    → (prefix_len is_space bytes ≡ it.indent) ×
    (begins_with is_pipe (drop (prefix_len is_space bytes) bytes) ≡ it.piped) × AreCells
    (drop (pipe_length it.piped) (drop (prefix_len is_space bytes) bytes)) it.cells it.last it.rest it.ending
IsDelimiterRow-only bytes n alignments it =
    let after = delimiter_row it.piped it.cells it.last ++ it.rest in
    let parts : bytes ≡ replicate it.indent 32 ++ after =
    it.parts ∙ append_assoc (replicate it.indent 32) (delimiter_row it.piped it.cells it.last) it.rest in
    let stop : begins_with is_space after ≡ false =
    begins_with-append is_space (delimiter_row it.piped it.cells it.last) it.rest
    (not_true (begins_with is_space (delimiter_row it.piped it.cells it.last)) it.no_further_space)
    (first-line_ending is_space refl refl it.rest it.ending it.ends) in
    let run : prefix_len is_space bytes ≡ it.indent =
    rw parts (prefix_len-parts is_space (replicate it.indent 32) after
    (list_all-replicate is_space it.indent 32 refl) stop ∙ length-replicate it.indent 32) in
    let dropped : drop it.indent bytes ≡ after =
    rw parts (ap (λ m. drop m (replicate it.indent 32 ++ after)) (sym (length-replicate it.indent 32))
    ∙ drop-append_seam (replicate it.indent 32) after) in
    let cells_of : (flat : List ℕ) → flat ≡ flat_map ended_cell it.cells ++ (it.last ++ it.rest)
    → AreCells flat it.cells it.last it.rest it.ending =
    λ flat is. record { parts = is; all_cells = it.all_cells; last_cell = it.last_cell; ends = it.ends } in
    let whole = delimiter_row-rest it.piped it.cells it.last it.rest in (
      run,
      rw (run, dropped, whole)
          (piped_is it.piped (flat_map ended_cell it.cells ++ (it.last ++ it.rest))
          (not_piped _ it.cells it.last it.rest it.ending (cells_of _ refl))),
      rw (run, dropped, whole)
          (cells_of _ (after_pipe it.piped (flat_map ended_cell it.cells ++ (it.last ++ it.rest)))),
    )
  where
    piped_is : (piped : Bool) (flat : List ℕ) → begins_with is_pipe flat ≡ false
        → begins_with is_pipe (cond piped (vertical_line ∷ []) [] ++ flat) ≡ piped
    piped_is true flat none = refl
    piped_is false flat none = none

    after_pipe : (piped : Bool) (flat : List ℕ)
        → drop (pipe_length piped) (cond piped (vertical_line ∷ []) [] ++ flat) ≡ flat
    after_pipe true flat = refl
    after_pipe false flat = refl

delimiter_row-from : (piped : Bool) (after : List ℕ) (cells : List (List ℕ)) (last rest : List ℕ)
    → begins_with is_pipe after ≡ piped → drop (pipe_length piped) after ≡ flat_map ended_cell cells ++ (last ++ rest)
    → after ≡ delimiter_row piped cells last ++ rest
delimiter_row-from false after cells last rest begins parts = parts ∙ sym (delimiter_row-rest false cells last rest)
delimiter_row-from true [] cells last rest begins parts = absurd (let no_byte : false ≡ true = begins in cc)
delimiter_row-from true (b ∷ after) cells last rest begins parts =
    let is : b ≡ 124 = eqb-true b 124 begins in
    rw is (ap (λ x. vertical_line ∷ x) parts ∙ sym (delimiter_row-rest true cells last rest))

hyphen_in_row : (cells : List (List ℕ)) (last : List ℕ) → list_all is_cell cells ≡ true
    → (not (is_empty cells) || list_any is_hyphen last) ≡ true
    → list_any is_hyphen (flat_map (λ cell. cell) cells ++ last) ≡ true
hyphen_in_row [] last all some = some
hyphen_in_row (c ∷ cells) last all some =
    let both = both_true (is_cell c) (list_all is_cell cells) all in
    let hyphen : list_any is_hyphen c ≡ true = (both_true (list_all is_cell_byte c) (list_any is_hyphen c) both.0).1 in
    rw (
      list_any-append is_hyphen (c ++ flat_map (λ cell. cell) cells) last,
      list_any-append is_hyphen c (flat_map (λ cell. cell) cells),
    ) (rw hyphen refl)

hyphen_somewhere : (cells : List (List ℕ)) (last : List ℕ)
    → list_any is_hyphen (flat_map (λ cell. cell) cells ++ last) ≡ true
    → (not (is_empty cells) || list_any is_hyphen last) ≡ true
hyphen_somewhere [] last some = some
hyphen_somewhere (c ∷ cells) last some = refl

IsDelimiterRow-from : (bytes : List ℕ) (piped : Bool) (cells : List (List ℕ)) (last rest : List ℕ) (ending n : ℕ)
    → prefix_len is_space bytes ≤ 3 → begins_with is_pipe (drop (prefix_len is_space bytes) bytes) ≡ piped
    → AreCells (drop (pipe_length piped) (drop (prefix_len is_space bytes) bytes)) cells last rest ending →
    (piped || not (is_empty cells)) ≡ true → (not (is_empty cells) || list_any is_hyphen last) ≡ true
    → n + length rest ≡ length bytes + ending → IsDelimiterRow bytes n (map alignment (counted_cells cells last))
IsDelimiterRow-from bytes piped cells last rest ending n at_most begins are some_pipe some_hyphen counted_n =
    let k = prefix_len is_space bytes in
    let after : drop (prefix_len is_space bytes) bytes ≡ delimiter_row piped cells last ++ rest =
    delimiter_row-from piped (drop (prefix_len is_space bytes) bytes) cells last rest begins are.parts in
    let spaces : take (prefix_len is_space bytes) bytes ≡ replicate (prefix_len is_space bytes) 32 =
    replicate-all 32 (take (prefix_len is_space bytes) bytes) (list_all-prefix is_space bytes)
    ∙ ap (λ m. replicate m 32) (length-prefix_len is_space bytes) in
    let parts : bytes ≡ (replicate (prefix_len is_space bytes) 32 ++ delimiter_row piped cells last) ++ rest =
    sym (take-append-drop (prefix_len is_space bytes) bytes)
    ∙ ap (λ x. x ++ drop (prefix_len is_space bytes) bytes) spaces
    ∙ ap (λ x. replicate (prefix_len is_space bytes) 32 ++ x) after
    ∙ sym (append_assoc (replicate (prefix_len is_space bytes) 32) (delimiter_row piped cells last) rest) in
    let stop : begins_with is_space (delimiter_row piped cells last) ≡ false =
    begins_with-prefix is_space (delimiter_row piped cells last) rest
    (rw after at (begins_with-after_prefix is_space bytes)) in
    record {
      indent = prefix_len is_space bytes;
      piped = piped;
      cells = cells;
      last = last;
      rest = rest;
      ending = ending;
      parts = parts;
      at_most_three = at_most;
      no_further_space = ap not stop;
      all_cells = are.all_cells;
      last_cell = are.last_cell;
      ends = are.ends;
      some_pipe = some_pipe;
      some_hyphen = hyphen_in_row cells last are.all_cells some_hyphen;
      aligned = refl;
      counted =
          omega (
            arith,
            counted_n,
            ap length parts,
            length-append
                (replicate (prefix_len is_space bytes) 32 ++ delimiter_row piped cells last) rest,
            length-append
                (replicate (prefix_len is_space bytes) 32) (delimiter_row piped cells last),
            length-replicate {A = ℕ}
                (prefix_len is_space bytes) 32,
          );
    }

-- the answers of the scan of a delimiter row, by what its calls answered
pub delimiter_row-too_far : (bytes : List ℕ) (indent : ℕ) → indent ≡ prefix_len is_space bytes → 3 < indent
    → NoDelimiterRow bytes
delimiter_row-too_far bytes indent run far n alignments it =
    let only = IsDelimiterRow-only bytes n alignments it in
    omega (arith, run, far, only.0, it.at_most_three)

module _ (bytes : List ℕ) (indent pipe : ℕ) (run : indent ≡ prefix_len is_space bytes)
    (pipe_is : pipe ≡ cond (begins_with is_pipe (take (length bytes - indent) (drop indent bytes))) 1 0) where
  piped : Bool
  piped = begins_with is_pipe (drop (prefix_len is_space bytes) bytes)

  pipe_counted : pipe ≡ pipe_length (begins_with is_pipe (drop (prefix_len is_space bytes) bytes))
  pipe_counted = rw (from_offset bytes indent, run) at pipe_is

  pub cells_start : take (length bytes - (indent + pipe)) (drop (indent + pipe) bytes)
      ≡ drop (pipe_length (begins_with is_pipe (drop (prefix_len is_space bytes) bytes)))
      (drop (prefix_len is_space bytes) bytes)
  cells_start = from_offset bytes (indent + pipe) ∙ sym (drop-drop pipe indent bytes) ∙ rw (run, pipe_counted) refl

  pub no_cells : NoCells (take (length bytes - (indent + pipe)) (drop (indent + pipe) bytes)) → NoDelimiterRow bytes
  no_cells none n alignments it =
      let only = IsDelimiterRow-only bytes n alignments it in
      none it.cells it.last it.rest it.ending (rw cells_start (rw only.1 only.2))

  pub pipe_test : (pipe == 1) ≡ begins_with is_pipe (drop (prefix_len is_space bytes) bytes)
  pipe_test = rw pipe_counted (test (begins_with is_pipe (drop (prefix_len is_space bytes) bytes)))
    where
      test : (b : Bool) → (pipe_length b == 1) ≡ b
      test true = refl
      test false = refl

  -- what the cells that were scanned tell of any delimiter row
  module _ (n : ℕ) (alignments : List Alignment) (some_ended hyphen : Bool)
      (scanned : AreScannedCells (take (length bytes - (indent + pipe)) (drop (indent + pipe) bytes)) n alignments
      some_ended hyphen) where
    pub delimiter_row-found : indent ≤ 3 → indent ≤ length bytes
        → pipe ≤ length (take (length bytes - indent) (drop indent bytes))
        → (((pipe == 1) || some_ended) && (some_ended || hyphen)) ≡ true
        → IsDelimiterRow bytes (indent + pipe + n) alignments
    delimiter_row-found at_most inside pipe_inside test =
        let both = both_true ((pipe == 1) || some_ended) (some_ended || hyphen) test in
        let room = within_slice bytes indent pipe pipe_inside in
        let start = indent + pipe in
        let counted_n : indent + pipe + n + length scanned.rest ≡ length bytes + scanned.ending =
        omega (
          arith,
          room,
          inside,
          scanned.counted,
          length-take (length bytes - (indent + pipe))
              (drop (indent + pipe) bytes),
          length-drop (indent + pipe) bytes,
        ) in
        rw scanned.aligned (IsDelimiterRow-from bytes (begins_with is_pipe (drop (prefix_len is_space bytes) bytes))
        scanned.cells scanned.last scanned.rest scanned.ending (indent + pipe + n)
        (omega (arith, run, at_most)) refl (rw cells_start at scanned.are_cells)
        (rw (pipe_test, scanned.tells_ended) at both.0) (rw (scanned.tells_ended, scanned.tells_hyphen) at both.1)
        counted_n)

    pub delimiter_row-refused : (((pipe == 1) || some_ended) && (some_ended || hyphen)) ≡ false → NoDelimiterRow bytes
    delimiter_row-refused test m others it =
        let only = IsDelimiterRow-only bytes m others it in
        let same =
        AreCells-same _ scanned.cells scanned.last scanned.rest scanned.ending it.cells it.last it.rest it.ending
        (rw cells_start at scanned.are_cells) (rw only.1 only.2) in
        let pipes : ((pipe == 1) || some_ended) ≡ true =
        rw (pipe_test, scanned.tells_ended, only.1, ← same.0) it.some_pipe in
        let hyphens : (some_ended || hyphen) ≡ true =
        rw (scanned.tells_ended, scanned.tells_hyphen, ← same.0, ← same.1)
        (hyphen_somewhere it.cells it.last it.some_hyphen) in
        let refused = rw (pipes, hyphens) at test in
        cc

-- a delimiter row has at least its pipe
delimiter_row-length : (piped : Bool) (cells : List (List ℕ)) (last : List ℕ) → (piped || not (is_empty cells)) ≡ true
    → 1 ≤ length (delimiter_row piped cells last)
delimiter_row-length true cells last pipe = omega arith
delimiter_row-length false [] last pipe = cc
delimiter_row-length false (c ∷ cells) last pipe =
    let joined : length (delimiter_row false (c ∷ cells) last)
    ≡ length c + 1 + length (flat_map ended_cell cells) + length last =
    simp length-append (omega arith) in
    omega (arith, joined)

pub IsDelimiterRow-some : (bytes : List ℕ) (n : ℕ) (alignments : List Alignment) → IsDelimiterRow bytes n alignments
    → ¬ (n ≡ 0)
IsDelimiterRow-some bytes n alignments it none =
    let some = delimiter_row-length it.piped it.cells it.last it.some_pipe in
    let counted = it.counted in
    omega (arith, some, counted, none)

-- a hyphen is no space
hyphen_counts : (bytes : List ℕ) → list_any is_hyphen bytes ≡ true → list_any (λ b. not (is_space b)) bytes ≡ true
hyphen_counts [] some = some
hyphen_counts (b ∷ bs) some = elim (cases_Bool (is_hyphen b)) [
  | inl here ↦ (let same : b ≡ 45 = eqb-true b 45 here in rw same refl)
  | inr other ↦ (
      let later : list_any is_hyphen bs ≡ true = rw other at some in
      let counts = hyphen_counts bs later in
      elim (cases_Bool (is_space b)) [ inl space ↦ rw space counts | inr none ↦ rw none refl ]
      )
]

counted_some : (cells : List (List ℕ)) (last : List ℕ)
    → list_any is_hyphen (flat_map (λ cell. cell) cells ++ last) ≡ true → 0 < length (counted_cells cells last)
counted_some [] last some =
    (let counts : list_any (λ b. not (is_space b)) last ≡ true = hyphen_counts last some in rw counts (omega arith))
counted_some (cell ∷ cells) last some = omega arith

-- a delimiter row has a column
pub IsDelimiterRow-some_alignment : (bytes : List ℕ) (n : ℕ) (alignments : List Alignment)
    → IsDelimiterRow bytes n alignments → 0 < length alignments
IsDelimiterRow-some_alignment bytes n alignments it =
    let some = counted_some it.cells it.last it.some_hyphen in
    omega (arith, some, ap length it.aligned, length-map (counted_cells it.cells it.last) alignment)
