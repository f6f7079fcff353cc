-- A row that is UTF-8 may be cut where its cells begin and end, and their contents are UTF-8.
use Rattle.std.proofs.Common.{ℕ, zero, suc, ◌+◌, ◌-◌, ◌<◌, ◌≤◌, ◌≡◌, Bool, true, false, not, ◌==◌, ◌&&◌, List, [], ◌∷◌, ◌++◌, length, take, drop, get_or}
use Rattle.std.proofs.Common.{inl, inr, refl, sym, ap, ◌∙◌, subst, arith, append_assoc, eqb-true, length-append, if◌then◌else◌}
use Rattle.std.specs.Prelude.{slice_index}
use Rattle.std.specs.List.{AllByRecursion, join_with_byte, prefix_len, suffix_len}
use Rattle.std.specs.Str.{IsUtf8, IsCharBoundary}
use Rattle.std.proofs.lemmas.Bool.Decides.{leb_tells, nat_tests}
use Rattle.std.proofs.lemmas.List.{drop-drop, get_or-drop, get_or-take, length-drop, length-take, take_all}
use Rattle.std.proofs.lemmas.List.Sums.{prefix_len-le-length, prefix_len_stops}
use Rattle.std.proofs.lemmas.Str.{IsCharBoundary-after_ascii, IsCharBoundary-before_ascii, IsCharBoundary-end}
use Rattle.std.proofs.lemmas.Str.{IsCharBoundary-from_rest, IsCharBoundary-start, IsUtf8-append, IsUtf8-drop, IsUtf8-take}
use Rattle.std.proofs.Math.Seq.{drop-append_seam, take-append_seam}
use Rattle.markdown_scanners_tree.specs.Ascii.{backslash, space, vertical_line}
use Rattle.markdown_scanners_tree.specs.Bytes.{begins_with, is_line_ending, is_space_or_tab, line_head}
use Rattle.markdown_scanners_tree.specs.scanners.tables.DelimiterRow.{is_pipe}
use Rattle.markdown_blocks.specs.blocks.Tables.{cells_in}
use Rattle.markdown_blocks.specs.cells.Cells.{cell_at, cells_at, cells_of, pieces}
use Rattle.markdown_blocks.specs.cells.Contents.{bytes_of_cell, content_of_cell, escapes_pipe, unescaped, unescaped_offsets}
use Rattle.markdown_blocks.specs.declared.cells.Cell.{Cell}
use Rattle.markdown_blocks.specs.info.Info.{without_end, without_front}
use Rattle.markdown_blocks.proofs.cells.LawLemmas.{pieces_joined}
use Rattle.markdown_blocks.proofs.content.AsciiCuts.{cut_before_end, cut_after_front, spaces_low}
use Rattle.markdown_blocks.proofs.content.CutMoves.{between_utf8, cut_of_front, cut_of_part, cut_of_rest}

-- a row may be cut where a cell begins and ends
abbrev pub IsCellCut : List ℕ → Cell → Type 0
IsCellCut row cell = IsCharBoundary row cell.start × IsCharBoundary row cell.end

-- ---- cells

module _ (row : List ℕ) (utf8 : IsUtf8 row) where
  -- that of a piece that stands in the row
  cell_cut : (from : ℕ) (p : List ℕ) → take (length p) (drop from row) ≡ p → IsUtf8 p → IsCharBoundary row (from + length p)
      → IsCellCut row (cell_at from p)
  cell_cut from p stands own ends =
      let n = prefix_len is_space_or_tab p in
      let w = without_front p in
      let m = length w - suffix_len is_space_or_tab w in
      let few = prefix_len-le-length is_space_or_tab p in
      let begins : IsCharBoundary p n = cut_after_front is_space_or_tab spaces_low p own in
      let inner : IsCharBoundary w m = cut_before_end is_space_or_tab spaces_low w in
      let last : IsCharBoundary p (n + m) = IsCharBoundary-from_rest p n m few inner in
      let size : length (without_end w) ≡ m = (let short = length-take m w in omega (arith, short)) in
      let in_row : (i : ℕ) → IsCharBoundary p i → IsCharBoundary row (from + i) =
      λ i cut. cut_of_part row from (length p) i ends (subst (λ (t : List ℕ). IsCharBoundary t i) (sym stands) cut) in
      let end : from + (n + m) ≡ from + n + length (without_end w) = omega (arith, size) in
      (in_row n begins, subst (IsCharBoundary row) end (in_row (n + m) last))

  cells_cut_at : (from : ℕ) (ps : List (List ℕ)) → IsCharBoundary row from → drop from row ≡ join_with_byte vertical_line ps
      → AllByRecursion (IsCellCut row) (cells_at from ps)
  cells_cut_at from [] begins stands = tt
  cells_cut_at from (p ∷ []) begins stands =
      let size = length-drop from row in
      let within = begins.0 in
      let end : length row ≡ from + length p = omega (arith, size, within, ap length stands) in (
        cell_cut from p (ap (take (length p)) stands ∙ take_all (length p) p (omega arith)) (subst IsUtf8 stands (IsUtf8-drop row from utf8 begins))
            (subst (IsCharBoundary row) end (IsCharBoundary-end row)),
        tt,
      )
  cells_cut_at from (p ∷ q ∷ ps) begins stands =
      let n = length p in
      let rest = join_with_byte vertical_line (q ∷ ps) in
      let within = begins.0 in
      let size = length-drop from row in
      let sizes = ap length stands ∙ length-append p (vertical_line ∷ rest) in
      let there : drop (from + n) row ≡ vertical_line ∷ rest =
      sym (drop-drop n from row) ∙ ap (drop n) stands ∙ drop-append_seam p (vertical_line ∷ rest) in
      let inside : from + n < length row = omega (arith, size, within, sizes) in
      let byte : get_or row (from + n) 0 ≡ vertical_line =
      ap (λ k. get_or row k 0) (let same : from + n ≡ from + n + 0 = omega arith in same) ∙ sym (get_or-drop (from + n) row 0 0)
      ∙ ap (λ (t : List ℕ). get_or t 0 0) there in
      let ends = IsCharBoundary-before_ascii row (from + n) inside (omega (arith, byte)) in
      let front : take n (drop from row) ≡ p = ap (take n) stands ∙ take-append_seam p (vertical_line ∷ rest) in
      let own : IsUtf8 p = subst IsUtf8 front (IsUtf8-take (drop from row) n (IsUtf8-drop row from utf8 begins) (cut_of_rest row from n ends)) in (
        cell_cut from p front own ends,
        cells_cut_at (from + n + 1) (q ∷ ps) (IsCharBoundary-after_ascii row (from + n) utf8 inside (omega (arith, byte)))
            (sym (drop-drop 1 (from + n) row) ∙ ap (drop 1) there),
      )

all_taken : {X : Type 0} (P : X → Type 0) (n : ℕ) (xs : List X) → AllByRecursion P xs → AllByRecursion P (take n xs)
all_taken P zero xs all = tt
all_taken P (suc n) [] all = tt
all_taken P (suc n) (x ∷ xs) all = (all.0, all_taken P n xs all.1)

all_dropped : {X : Type 0} (P : X → Type 0) (n : ℕ) (xs : List X) → AllByRecursion P xs → AllByRecursion P (drop n xs)
all_dropped P zero xs all = all
all_dropped P (suc n) [] all = tt
all_dropped P (suc n) (x ∷ xs) all = all_dropped P n xs all.1

all_by : {X : Type 0} (P Q : X → Type 0) (xs : List X) → ((x : X) → P x → Q x) → AllByRecursion P xs → AllByRecursion Q xs
all_by P Q [] each all = tt
all_by P Q (x ∷ xs) each all = (each x all.0, all_by P Q xs each all.1)

-- ---- the row of a line

ending_low : (b : ℕ) → not (is_line_ending b) ≡ false → b < 128
ending_low b is = grind (arith, nat_tests)

head_cut : (text : List ℕ) → IsCharBoundary text (length (line_head text))
head_cut text =
    let test : ℕ → Bool = λ b. not (is_line_ending b) in
    let n = prefix_len test text in
    let few = prefix_len-le-length test text in
    let size : n ≡ length (line_head text) = (let short = length-take n text in omega (arith, short, few)) in
    subst (IsCharBoundary text) size (elim (leb_tells (length text) n) [
      | inl all ↦ (let same : length text ≡ n = omega (arith, all.1, few) in subst (IsCharBoundary text) same (IsCharBoundary-end text))
      | inr stops ↦ IsCharBoundary-before_ascii text n (omega (arith, stops.1))
          (ending_low (get_or text n 0) (prefix_len_stops test text 0 (omega (arith, stops.1))))
    ])

-- a line may be cut where its row ends
pub row_cut : (text : List ℕ) → IsCharBoundary text (length (without_end (line_head text)))
row_cut text =
    let head = line_head text in
    let m = length head - suffix_len is_space_or_tab head in
    let size : m ≡ length (without_end head) = (let short = length-take m head in omega (arith, short)) in
    let n = prefix_len (λ b. not (is_line_ending b)) text in
    let count : length head ≡ n = (let short = length-take n text in omega (arith, short, prefix_len-le-length (λ b. not (is_line_ending b)) text)) in
    let ends : IsCharBoundary text n = subst (IsCharBoundary text) count (head_cut text) in
    subst (IsCharBoundary text) size (cut_of_front text n m ends (cut_before_end is_space_or_tab spaces_low head))

-- a line that is UTF-8 may be cut where its cells begin and end
pub cells_cut : (text : List ℕ) → IsUtf8 text → AllByRecursion (IsCellCut text) (cells_of text)
cells_cut text utf8 =
    let head = line_head text in
    let n = prefix_len (λ b. not (is_line_ending b)) text in
    let m = length head - suffix_len is_space_or_tab head in
    let count : length head ≡ n = (let short = length-take n text in omega (arith, short, prefix_len-le-length (λ b. not (is_line_ending b)) text)) in
    let line = without_end head in
    let from = prefix_len is_space_or_tab line in
    let row = without_front line in
    let head_ends : IsCharBoundary text n = subst (IsCharBoundary text) count (head_cut text) in
    let own : IsUtf8 line = IsUtf8-take head m (IsUtf8-take text n utf8 head_ends) (cut_before_end is_space_or_tab spaces_low head) in
    let in_text : (i : ℕ) → IsCharBoundary line i → IsCharBoundary text i =
    λ i cut. cut_of_front text n i head_ends (cut_of_front head m i (cut_before_end is_space_or_tab spaces_low head) cut) in
    let begins : IsCharBoundary line from = cut_after_front is_space_or_tab spaces_low line own in
    let all = cells_cut_at line own from (pieces space row) begins (sym (pieces_joined space row)) in
    all_by (IsCellCut line) (IsCellCut text) (cells_of text) (λ cell cut. (in_text cell.start cut.0, in_text cell.end cut.1))
    (all_taken (IsCellCut line) (cells_in row) (drop (if begins_with is_pipe row then 1 else 0) (cells_at from (pieces space row)))
    (all_dropped (IsCellCut line) (if begins_with is_pipe row then 1 else 0) (cells_at from (pieces space row)) all))

-- ---- contents

escape_is : (b : ℕ) (bs : List ℕ) → escapes_pipe (b ∷ bs) ≡ true → b ≡ backslash
escape_is b bs is = by (b == backslash) refl is
  where
    by : (t : Bool) → (b == backslash) ≡ t → t && begins_with is_pipe bs ≡ true → b ≡ backslash
    by true same both = eqb-true b backslash same
    by false other both = absurd (cc)

-- bytes that are UTF-8 are so without the backslashes that escape pipes
unescaped_utf8 : (front bytes : List ℕ) → IsUtf8 (front ++ bytes) → IsUtf8 (front ++ unescaped bytes)
unescaped_utf8 front [] utf8 = utf8
unescaped_utf8 front (b ∷ bs) utf8 = by (escapes_pipe (b ∷ bs)) refl (λ first own. unescaped_utf8 first bs own)
  where
    by : (s : Bool) → escapes_pipe (b ∷ bs) ≡ s → ((first : List ℕ) → IsUtf8 (first ++ bs) → IsUtf8 (first ++ unescaped bs))
        → IsUtf8 (front ++ unescaped (b ∷ bs))
    by true is later =
        let whole = front ++ b ∷ bs in
        let n = length front in
        let there : drop n whole ≡ b ∷ bs = drop-append_seam front (b ∷ bs) in
        let byte : get_or whole n 0 ≡ b =
        ap (λ k. get_or whole k 0) (let same : n ≡ n + 0 = omega arith in same) ∙ sym (get_or-drop n whole 0 0) ∙ ap (λ (t : List ℕ). get_or t 0 0) there in
        let low : get_or whole n 0 < 128 = omega (arith, byte, escape_is b bs is) in
        let inside : n < length whole = (let sizes = length-append front (b ∷ bs) in omega (arith, sizes)) in
        let first : IsUtf8 front = subst IsUtf8 (take-append_seam front (b ∷ bs))
        (IsUtf8-take whole n utf8 (IsCharBoundary-before_ascii whole n inside low)) in
        let rest : IsUtf8 bs = subst IsUtf8 (sym (drop-drop 1 n whole) ∙ ap (drop 1) there)
        (IsUtf8-drop whole (n + 1) utf8 (IsCharBoundary-after_ascii whole n utf8 inside low)) in
        rw is (IsUtf8-append front (unescaped bs) first (later [] rest))
    by false is later =
        rw is (subst IsUtf8 (append_assoc front (b ∷ []) (unescaped bs))
        (later (front ++ b ∷ []) (subst IsUtf8 (sym (append_assoc front (b ∷ []) bs)) utf8)))

-- the content of a cell
pub cell_utf8 : (row : List ℕ) (cell : Cell) → IsUtf8 row → cell.start ≤ cell.end → IsCellCut row cell → IsUtf8 (content_of_cell row cell).text
cell_utf8 row cell utf8 less cut =
    unescaped_utf8 [] (bytes_of_cell row cell) (between_utf8 row cell.start cell.end utf8 less cut.0 cut.1)

module _ (row : List ℕ) where
  -- where bytes stand in a row up to a boundary, and what is left of them may be cut after one
  unescaped_cut : (bytes : List ℕ) (from n : ℕ) → take n (drop from row) ≡ bytes → IsCharBoundary row (from + length bytes) → (i : ℕ)
      → i < length (unescaped bytes) → IsCharBoundary (unescaped bytes) (i + 1) → IsCharBoundary row (get_or (unescaped_offsets from bytes) i 0 + 1)
  unescaped_cut [] from n stands ends i low cut = absurd (omega (arith, low))
  unescaped_cut (b ∷ bs) from zero stands ends i low cut = absurd (cc)
  unescaped_cut (b ∷ bs) from (suc n) stands ends i low cut =
      by (escapes_pipe (b ∷ bs)) refl i low cut (unescaped_cut bs (from + 1) n rest (subst (IsCharBoundary row) further ends))
    where
      further : from + length (b ∷ bs) ≡ from + 1 + length bs
      further = omega arith

      rest : take n (drop (from + 1) row) ≡ bs
      rest = next (drop from row) stands (sym (drop-drop 1 from row))
        where
          next : (t : List ℕ) → take (suc n) t ≡ b ∷ bs → drop (from + 1) row ≡ drop 1 t → take n (drop (from + 1) row) ≡ bs
          next [] is at = absurd (cc)
          next (c ∷ t) is at = ap (take n) at ∙ (let same : take n t ≡ bs = cc in same)

      -- after a byte that stays, another that stays, or a backslash, or the end of the cell
      here : (cs : List ℕ) → bs ≡ cs → IsCharBoundary (b ∷ unescaped bs) 1 → IsCharBoundary row (from + 1)
      here [] none cut =
          let end : from + length (b ∷ bs) ≡ from + 1 = (let size = ap length none in omega (arith, size)) in
          subst (IsCharBoundary row) end ends
      here (c ∷ cs) some cut = first (escapes_pipe (c ∷ cs)) refl
        where
          size : 0 < length (take n (drop (from + 1) row))
          size = (let same = ap length rest in let more = ap length some in omega (arith, same, more))

          inside : from + 1 < length row
          inside = (let few = length-take n (drop (from + 1) row) in let left = length-drop (from + 1) row in omega (arith, size, few, left))

          byte : get_or row (from + 1) 0 ≡ c
          byte =
              ap (λ k. get_or row k 0) (let same : from + 1 ≡ from + 1 + 0 = omega arith in same) ∙ sym (get_or-drop (from + 1) row 0 0)
              ∙ sym (get_or-take n (drop (from + 1) row) 0 0 (let few = length-take n (drop (from + 1) row) in omega (arith, size, few)))
              ∙ ap (λ (t : List ℕ). get_or t 0 0) (rest ∙ some)

          first : (s : Bool) → escapes_pipe (c ∷ cs) ≡ s → IsCharBoundary row (from + 1)
          first true is = IsCharBoundary-before_ascii row (from + 1) inside (omega (arith, byte, escape_is c cs is))
          first false is =
              let text : unescaped bs ≡ c ∷ unescaped cs = ap unescaped some ∙ rw is refl in
              let at : IsCharBoundary (b ∷ c ∷ unescaped cs) 1 = subst (λ (t : List ℕ). IsCharBoundary (b ∷ t) 1) text cut in (
                omega (arith, inside),
                λ low high. subst (λ k. 192 ≤ k) (sym byte) (at.1 (omega arith) (subst (λ k. 128 ≤ k) byte high)),
              )

      by : (s : Bool) → escapes_pipe (b ∷ bs) ≡ s → (i : ℕ) → i < length (unescaped (b ∷ bs)) → IsCharBoundary (unescaped (b ∷ bs)) (i + 1)
          → ((i : ℕ) → i < length (unescaped bs) → IsCharBoundary (unescaped bs) (i + 1)
          → IsCharBoundary row (get_or (unescaped_offsets (from + 1) bs) i 0 + 1))
          → IsCharBoundary row (get_or (unescaped_offsets from (b ∷ bs)) i 0 + 1)
      by true is i low cut later = rw is (later i (rw is at low) (rw is at cut))
      by false is zero low cut later = rw is (here bs refl (rw is at cut))
      by false is (suc i) low cut later =
          let whole : IsCharBoundary (b ∷ unescaped bs) (suc i + 1) = rw is at cut in
          let at : suc i + 1 ≡ suc (i + 1) = omega arith in
          let inner = subst (IsCharBoundary (b ∷ unescaped bs)) at whole in
          let less : suc i < length (b ∷ unescaped bs) = rw is at low in
          let within = inner.0 in
          rw is (later i (omega (arith, less)) (omega (arith, within), λ low high. inner.1 (omega (arith, low)) high))

-- where the content of a cell may be cut after one of its bytes, so may the row after that byte's from
pub cell_ends : (row : List ℕ) (cell : Cell) → cell.start ≤ cell.end → IsCellCut row cell → (offset : ℕ)
    → offset < length (content_of_cell row cell).text → IsCharBoundary (content_of_cell row cell).text (offset + 1)
    → IsCharBoundary row (slice_index (content_of_cell row cell).offsets offset + 1)
cell_ends row cell less cut offset low at =
    let n = cell.end - cell.start in
    let within = cut.1.0 in
    let size : length (bytes_of_cell row cell) ≡ n =
    (let few = length-take n (drop cell.start row) in let left = length-drop cell.start row in omega (arith, few, left, within, less)) in
    let end : cell.end ≡ cell.start + length (bytes_of_cell row cell) = omega (arith, size, less) in
    unescaped_cut row (bytes_of_cell row cell) cell.start n refl (subst (IsCharBoundary row) end cut.1) offset low at
