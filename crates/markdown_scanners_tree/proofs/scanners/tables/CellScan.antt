-- The scan of a delimiter row's cells: what its turns keep, and what it answers at the row's end.
use Rattle.std.proofs.Common.{◌≡◌, ℕ, suc, ◌+◌, ◌-◌, ◌≤◌, ◌<◌, Bool, true, false, not, ◌==◌, ◌⊎◌, inl, inr, List, [], ◌∷◌, ◌++◌, map, length}
use Rattle.std.proofs.Common.{take, drop, refl, sym, ap, ◌∙◌, arith, Some, None, append_assoc}
use Rattle.std.specs.List.{prefix_len, list_all, list_any}
use Rattle.std.proofs.lemmas.List.{take-append-drop, length-drop, length-take, drop-drop, append-nil, map-append}
use Rattle.std.proofs.lemmas.Bool.{eqb-true}
use Rattle.std.proofs.Math.Dec.{eqb-suc-zero}
use Rattle.markdown_values.specs.declared.values.Alignment.{Alignment}
use Rattle.markdown_scanners_tree.specs.Ascii.{vertical_line}
use Rattle.markdown_scanners_tree.specs.Bytes.{begins_with, line_ending}
use Rattle.markdown_scanners_tree.specs.scanners.tables.DelimiterRow.{is_cell_byte, is_cell, alignment, counted_last_cell, is_empty, is_space, is_hyphen, is_pipe}
use Rattle.markdown_scanners_tree.specs.scanners.tables.BegunRow.{begins_with_cell}
use Rattle.markdown_scanners_tree.specs.scanners.tables.private.ScannedCells.{AreCells, NoCells, AreScannedCells}
use Rattle.markdown_scanners_tree.proofs.PrefixLemmas.{from_offset, both_true, list_all-prefix, begins_with-after_prefix}
use Rattle.markdown_scanners_tree.proofs.scanners.tables.CellLemmas.{AreCells-tail, AreCells-cons, AreCells-last}

-- How far a scan of a delimiter row has come: the cells of the row are those that are done, and then those of what is
-- left.
pub record Progress (bytes : List ℕ) (done : List (List ℕ)) (left : List ℕ) : Type 0 where
  pub extend : (more : List (List ℕ)) (last rest : List ℕ) (ending : ℕ) → AreCells left more last rest ending
      → AreCells bytes (done ++ more) last rest ending
  pub only : (cells : List (List ℕ)) (last rest : List ℕ) (ending : ℕ) → AreCells bytes cells last rest ending
      → (more : List (List ℕ)) × (cells ≡ done ++ more) × AreCells left more last rest ending

Progress-more : (bytes : List ℕ) (done : List (List ℕ)) (cell left : List ℕ) → is_cell cell ≡ true
    → Progress bytes done (cell ++ vertical_line ∷ left) → Progress bytes (done ++ cell ∷ []) left
Progress-more bytes done cell left is progress = record {
  extend =
      λ more last rest ending are. rw (append_assoc done (cell ∷ []) more)
      (progress.extend (cell ∷ more) last rest ending (AreCells-cons cell left more last rest ending is are));
  only = λ cells last rest ending are. (
      let before = progress.only cells last rest ending are in
      let all = both_true (list_all is_cell_byte cell) (list_any is_hyphen cell) is in
      let after = AreCells-tail cell left all.0 before.0 last rest ending before.2 in
      (after.0, rw (append_assoc done (cell ∷ []) after.0) (before.1 ∙ ap (λ x. done ++ x) after.1), after.3));
}

-- What is left is the run of cell bytes and what follows it.
left_parts : (left : List ℕ) (n : ℕ) → n ≡ prefix_len is_cell_byte left
    → (take n left ++ drop n left ≡ left) × (list_all is_cell_byte (take n left) ≡ true)
    × (begins_with is_cell_byte (drop n left) ≡ false)
left_parts left n run = (
  take-append-drop n left,
  rw run (list_all-prefix is_cell_byte left),
  rw run (begins_with-after_prefix is_cell_byte left),
)

piped_parts : (left : List ℕ) (n : ℕ) → begins_with is_pipe (drop n left) ≡ true
    → drop n left ≡ vertical_line ∷ drop (n + 1) left
piped_parts left n pipe = parts (drop n left) pipe (drop-drop 1 n left)
  where
    parts : (after : List ℕ) → begins_with is_pipe after ≡ true → drop 1 after ≡ drop (n + 1) left
        → after ≡ vertical_line ∷ drop (n + 1) left
    parts [] pipe next = absurd (let no_byte : false ≡ true = pipe in cc)
    parts (b ∷ after) pipe next = let is : b ≡ 124 = eqb-true b 124 pipe in rw is (ap (λ x. vertical_line ∷ x) next)

Progress-step : (bytes : List ℕ) (done : List (List ℕ)) (left : List ℕ) (n : ℕ) → n ≡ prefix_len is_cell_byte left
    → begins_with is_pipe (drop n left) ≡ true
    → list_any is_hyphen (take n left) ≡ true → Progress bytes done left
    → Progress bytes (done ++ take n left ∷ []) (drop (n + 1) left)
Progress-step bytes done left n run pipe hyphen progress =
    let parts = left_parts left n run in
    let whole : take n left ++ vertical_line ∷ drop (n + 1) left ≡ left =
    ap (λ x. take n left ++ x) (sym (piped_parts left n pipe)) ∙ parts.0 in
    let all : list_all is_cell_byte (take n left) ≡ true = parts.1 in
    Progress-more bytes done (take n left) (drop (n + 1) left) (rw (all, hyphen) refl) (rw whole progress)

-- a cell that a pipe ends and that has no hyphen
Progress-refused : (bytes : List ℕ) (done : List (List ℕ)) (left : List ℕ) (n : ℕ)
    → n ≡ prefix_len is_cell_byte left → begins_with is_pipe (drop n left) ≡ true
    → list_any is_hyphen (take n left) ≡ false → Progress bytes done left → NoCells bytes
Progress-refused bytes done left n run pipe hyphen progress cells last rest ending are =
    let parts = left_parts left n run in
    let whole : take n left ++ vertical_line ∷ drop (n + 1) left ≡ left =
    ap (λ x. take n left ++ x) (sym (piped_parts left n pipe)) ∙ parts.0 in
    let before = progress.only cells last rest ending are in
    let after = AreCells-tail (take n left) (drop (n + 1) left) parts.1 before.0 last rest ending (rw whole before.2) in
    let both = both_true (list_all is_cell_byte (take n left)) (list_any is_hyphen (take n left)) after.2 in
    let is_hyphen = both.1 in
    cc

-- the last cell
Progress-last : (bytes : List ℕ) (done : List (List ℕ)) (left : List ℕ) (n ending : ℕ)
    → n ≡ prefix_len is_cell_byte left → line_ending (drop n left) ≡ Some ending → Progress bytes done left
    → AreCells bytes done (take n left) (drop n left) ending
Progress-last bytes done left n ending run ends progress =
    let parts = left_parts left n run in
    let none : AreCells left [] (take n left) (drop n left) ending =
    record { parts = sym parts.0; all_cells = refl; last_cell = parts.1; ends = ends } in
    rw append-nil at (progress.extend [] (take n left) (drop n left) ending none)

Progress-no_end : (bytes : List ℕ) (done : List (List ℕ)) (left : List ℕ) (n : ℕ) → n ≡ prefix_len is_cell_byte left
    → begins_with is_pipe (drop n left) ≡ false → line_ending (drop n left) ≡ None
    → Progress bytes done left → NoCells bytes
Progress-no_end bytes done left n run no_pipe no_end progress cells last rest ending are =
    let parts = left_parts left n run in
    let before = progress.only cells last rest ending are in
    let after =
    AreCells-last (take n left) (drop n left) parts.1 parts.2 no_pipe before.0 last rest ending (rw parts.0 before.2) in
    let some = after.2 in
    cc

cell_slice : (bytes : List ℕ) (i n : ℕ) → take (i + n - i) (drop i bytes) ≡ take n (drop i bytes)
cell_slice bytes i n = ap (λ m. take m (drop i bytes)) (let same : i + n - i ≡ n = omega arith in same)

pub within_slice : (bytes : List ℕ) (i n : ℕ) → n ≤ length (take (length bytes - i) (drop i bytes)) → n ≤ length bytes - i
within_slice bytes i n within =
    omega (arith, within, length-take (length bytes - i) (drop i bytes), length-drop i bytes)

-- the steps of the scan, by what its calls answered
module _ (bytes : List ℕ) (done : List (List ℕ)) (i n : ℕ) (alignments : List Alignment)
    (aligned : alignments ≡ map alignment done) (progress : Progress bytes done (drop i bytes))
    (inside : i ≤ length bytes)
    (run : n ≡ prefix_len is_cell_byte (take (length bytes - i) (drop i bytes))) where
  run_is : n ≡ prefix_len is_cell_byte (drop i bytes)
  run_is = rw (from_offset bytes i) at run

  pub scanned_cell : n < length (take (length bytes - i) (drop i bytes))
      → begins_with is_pipe (drop n (take (length bytes - i) (drop i bytes))) ≡ true → (hyphen : Bool)
      → hyphen ≡ list_any is_hyphen (take (i + n - i) (drop i bytes)) → hyphen ≡ true → (new : List Alignment)
      (a : Alignment) → new ≡ alignments ++ a ∷ [] → a ≡ alignment (take (i + n - i) (drop i bytes))
      → (x : List (List ℕ)) × (new ≡ map alignment x) × Progress bytes x (drop (i + (n + 1)) bytes)
      × (i + (n + 1) ≤ length bytes)
  scanned_cell below pipe hyphen has is new a pushed is_alignment =
      let piped : begins_with is_pipe (drop n (drop i bytes)) ≡ true = rw (from_offset bytes i) at pipe in
      let has_hyphen : list_any is_hyphen (take n (drop i bytes)) ≡ true =
      rw (cell_slice bytes i n) at (sym has ∙ is) in
      let step = Progress-step bytes done (drop i bytes) n run_is piped has_hyphen progress in (
        done ++ take n (drop i bytes) ∷ [],
        rw (map-append alignment done (take n (drop i bytes) ∷ []))
            (rw (pushed, aligned, is_alignment, cell_slice bytes i n) refl),
        rw (drop-drop (n + 1) i bytes) at step,
        (let room = within_slice bytes i (suc n) below in omega (arith, room, inside)),
      )

  pub scanned_refused : begins_with is_pipe (drop n (take (length bytes - i) (drop i bytes))) ≡ true → (hyphen : Bool)
      → hyphen ≡ list_any is_hyphen (take (i + n - i) (drop i bytes)) → hyphen ≡ false → NoCells bytes
  scanned_refused pipe hyphen has is =
      let piped : begins_with is_pipe (drop n (drop i bytes)) ≡ true = rw (from_offset bytes i) at pipe in
      let no_hyphen : list_any is_hyphen (take n (drop i bytes)) ≡ false =
      rw (cell_slice bytes i n) at (sym has ∙ is) in
      Progress-refused bytes done (drop i bytes) n run_is piped no_hyphen progress

  module _
      (no_pipe : begins_with is_pipe (drop (prefix_len is_cell_byte (take (length bytes - i) (drop i bytes)))
      (take (length bytes - i) (drop i bytes))) ≡ false) where
    pub scanned_no_end : None ≡ line_ending (take (length bytes - (i + n)) (drop (i + n) bytes)) → NoCells bytes
    scanned_no_end no_end =
        let stop : begins_with is_pipe (drop n (drop i bytes)) ≡ false = rw (← run, from_offset bytes i) at no_pipe in
        let none : line_ending (drop n (drop i bytes)) ≡ None =
        rw (drop-drop n i bytes) (sym (rw (from_offset bytes (i + n)) at no_end)) in
        Progress-no_end bytes done (drop i bytes) n run_is stop none progress

  pub scanned_last : (ending : ℕ) → n ≤ length (take (length bytes - i) (drop i bytes))
      → Some ending ≡ line_ending (take (length bytes - (i + n)) (drop (i + n) bytes))
      → (new : List Alignment) → new ≡ alignments ++ map alignment (counted_last_cell (take (i + n - i) (drop i bytes)))
      → (len : ℕ) (empty : Bool) → len ≡ length alignments → empty ≡ (len == 0)
      → (hyphen : Bool) → hyphen ≡ list_any is_hyphen (take (i + n - i) (drop i bytes))
      → AreScannedCells bytes (i + n + ending) new (not empty) hyphen
  scanned_last ending within ends new pushed len empty counted_len is_empty_is hyphen has =
      let some : line_ending (drop n (drop i bytes)) ≡ Some ending =
      rw (drop-drop n i bytes) (sym (rw (from_offset bytes (i + n)) at ends)) in
      let room = within_slice bytes i n within in
      record {
        cells = done;
        last = take n (drop i bytes);
        rest = drop n (drop i bytes);
        ending = ending;
        are_cells = Progress-last bytes done (drop i bytes) n ending run_is some progress;
        counted = omega (arith, room, inside, length-drop n (drop i bytes), length-drop i bytes);
        aligned =
            rw (map-append alignment done (counted_last_cell (take n (drop i bytes))))
            (rw (pushed, aligned, cell_slice bytes i n) refl);
        tells_ended = ap not (is_empty_is ∙ emptiness done len (counted_len ∙ ap length aligned));
        tells_hyphen = rw (cell_slice bytes i n) at has;
      }
    where
      emptiness : (done : List (List ℕ)) (len : ℕ) → len ≡ length (map alignment done) → (len == 0) ≡ is_empty done
      emptiness [] len same = rw same refl
      emptiness (cell ∷ cells) len same = rw same (eqb-suc-zero (length (map alignment cells)))

pub push_none : (alignments : List Alignment) (last : List ℕ) → list_any (λ b. not (is_space b)) last ≡ false
    → alignments ≡ alignments ++ map alignment (counted_last_cell last)
push_none alignments last none = rw none (sym (append-nil alignments))

-- A first cell is read where a cell is: this one, or one before it.
module _ (bytes : List ℕ) (i n : ℕ) (before : (i ≡ 0) ⊎ (begins_with_cell bytes ≡ true))
    (run : n ≡ prefix_len is_cell_byte (take (length bytes - i) (drop i bytes))) where
  at_front : (first : i ≡ 0) → n ≡ prefix_len is_cell_byte bytes
  at_front first = rw (from_offset bytes i, first) at run

  pub begun_by_ended : begins_with is_pipe (drop n (take (length bytes - i) (drop i bytes))) ≡ true → (hyphen : Bool)
      → hyphen ≡ list_any is_hyphen (take (i + n - i) (drop i bytes)) → hyphen ≡ true → begins_with_cell bytes ≡ true
  begun_by_ended pipe hyphen has is =
      elim before [
        | inr begun ↦ begun
        | inl first ↦ (
            let piped : begins_with is_pipe (drop n bytes) ≡ true = rw (from_offset bytes i, first) at pipe in
            let some : list_any is_hyphen (take n bytes) ≡ true = rw (cell_slice bytes i n, first) at (sym has ∙ is) in
            rw (← at_front first, piped, some) refl
            )
      ]

  pub begun_by_last :
      begins_with is_pipe (drop (prefix_len is_cell_byte (take (length bytes - i) (drop i bytes)))
      (take (length bytes - i) (drop i bytes))) ≡ false
      → list_any (λ b. not (is_space b)) (take (i + n - i) (drop i bytes)) ≡ true → begins_with_cell bytes ≡ true
  begun_by_last no_pipe counts =
      elim before [
        | inr begun ↦ begun
        | inl first ↦ (
            let none : begins_with is_pipe (drop n bytes) ≡ false =
            rw (← run, from_offset bytes i, first) at no_pipe in
            let some : list_any (λ b. not (is_space b)) (take n bytes) ≡ true =
            rw (cell_slice bytes i n, first) at counts in
            rw (← at_front first, none, some) refl
            )
      ]
