-- The pieces of a row, from its front, and its cells.
use Rattle.std.proofs.Common.{ℕ, zero, suc, ◌+◌, ◌-◌, ◌<◌, ◌≤◌, Bool, true, false, ◌==◌, List, [], ◌∷◌, ◌++◌, length, take, drop, get_or, if◌then◌else◌}
use Rattle.std.proofs.Common.{◌≡◌, refl, sym, ap, subst, ◌∙◌, arith, length-append}
use Rattle.std.proofs.lemmas.Bool.Decides.{nat_tests}
use Rattle.std.proofs.lemmas.List.{at_drop_more, take_rest}
use Rattle.std.proofs.Math.Seq.{take-length}
use mir.Val.{bool_byte}
use Rattle.markdown_scanners_tree.specs.Ascii.{space, backslash}
use Rattle.markdown_scanners_tree.specs.Bytes.{begins_with}
use Rattle.markdown_scanners_tree.specs.scanners.tables.DelimiterRow.{is_pipe}
use Rattle.markdown_scanners_tree.specs.scanners.TextLines.{with_first}
use Rattle.markdown_blocks.specs.blocks.Tables.{separates, separators, ends_separated, cells_in}
use Rattle.markdown_blocks.specs.cells.Cells.{after_byte, pieces, first_len, cell_at, cells_at, cells_left, cells_of_row}
use Rattle.markdown_blocks.specs.declared.cells.Cell.{Cell}

-- a byte more before the end of a first piece
first_after : (s : Bool) (b : ℕ) (ps : List (List ℕ)) → first_len (after_byte s b ps) ≡ (if s then 0 else suc (first_len ps))
first_after true b ps = refl
first_after false b [] = refl
first_after false b (p ∷ ps) = refl

first_at : (row : List ℕ) (i before : ℕ) → i < length row
    → first_len (pieces before (drop i row))
    ≡ (if separates before (get_or row i 0) then 0 else suc (first_len (pieces (get_or row i 0) (drop (i + 1) row))))
first_at row i before below =
    at_drop_more (λ r. first_len (pieces before r)) row i 0 below
    ∙ first_after (separates before (get_or row i 0)) (get_or row i 0) (pieces (get_or row i 0) (drop (i + 1) row))

-- a byte before which no backslash stands separates after any other
pub plain_before : (b : ℕ) (bs : List ℕ) → (b == backslash) ≡ false → pieces b bs ≡ pieces space bs
plain_before b [] plain = refl
plain_before b (c ∷ bs) plain = rw plain refl

pub separates_plain : (before b : ℕ) → separates before b ≡ true → (b == backslash) ≡ false
separates_plain before b is = grind (arith, nat_tests)

-- what stands after the first piece
abbrev pub after_first : List ℕ → List (List ℕ)
after_first [] = []
after_first (b ∷ after) = pieces space after

pub first_and_after : (before : ℕ) (row : List ℕ)
    → pieces before row ≡ take (first_len (pieces before row)) row ∷ after_first (drop (first_len (pieces before row)) row)
first_and_after before [] = refl
first_and_after before (b ∷ bs) = by (separates before b) refl (first_and_after b bs)
  where
    by : (s : Bool) → s ≡ separates before b
        → pieces b bs ≡ take (first_len (pieces b bs)) bs ∷ after_first (drop (first_len (pieces b bs)) bs)
        → after_byte s b (pieces b bs)
        ≡ take (first_len (after_byte s b (pieces b bs))) (b ∷ bs) ∷ after_first (drop (first_len (after_byte s b (pieces b bs))) (b ∷ bs))
    by true is here = ap (λ ps. [] ∷ ps) (plain_before b bs (separates_plain before b (sym is)))
    by false is here =
        let n = first_len (pieces b bs) in
        let size : first_len (with_first b (pieces b bs)) ≡ suc n = first_after false b (pieces b bs) in
        ap (with_first b) here ∙ ap (λ m. take m (b ∷ bs) ∷ after_first (drop m (b ∷ bs))) (sym size)

-- as many pieces as there are pipes that separate, and one
after_size : (s : Bool) (b : ℕ) (ps : List (List ℕ)) (n : ℕ) → length ps ≡ suc n → length (after_byte s b ps) ≡ suc ((if s then 1 else 0) + n)
after_size true b ps n is = omega (arith, is)
after_size false b [] n is = cc
after_size false b (p ∷ ps) n is = omega (arith, is)

pub length-pieces : (before : ℕ) (row : List ℕ) → length (pieces before row) ≡ suc (separators before row)
length-pieces before [] = refl
length-pieces before (b ∷ bs) = after_size (separates before b) b (pieces b bs) (separators b bs) (length-pieces b bs)

pub length-cells_at : (offset : ℕ) (ps : List (List ℕ)) → length (cells_at offset ps) ≡ length ps
length-cells_at offset [] = refl
length-cells_at offset (p ∷ ps) = ap suc (length-cells_at (offset + length p + 1) ps)

take-cells_at : (offset : ℕ) (ps qs : List (List ℕ)) → take (length ps) (cells_at offset (ps ++ qs)) ≡ cells_at offset ps
take-cells_at offset [] qs = refl
take-cells_at offset (p ∷ ps) qs = ap (λ cs. cell_at offset p ∷ cs) (take-cells_at (offset + length p + 1) ps qs)

-- without a pipe at the end
after_last : (s : Bool) (b : ℕ) (ps qs : List (List ℕ)) (n : ℕ) → length ps ≡ suc n → after_byte s b (ps ++ qs) ≡ after_byte s b ps ++ qs
after_last true b ps qs n is = refl
after_last false b [] qs n is = cc
after_last false b (p ∷ ps) qs n is = refl

pieces_last : (before : ℕ) (row : List ℕ) (n : ℕ) → length row ≡ suc n → ends_separated before row ≡ true
    → pieces before row ≡ pieces before (take n row) ++ [] ∷ []
pieces_last before [] n size ends = cc
pieces_last before (b ∷ []) zero size ends = rw ends refl
pieces_last before (b ∷ []) (suc n) size ends = absurd (omega (arith, size))
pieces_last before (b ∷ c ∷ bs) zero size ends = absurd (omega (arith, size))
pieces_last before (b ∷ c ∷ bs) (suc n) size ends =
    ap (after_byte (separates before b) b) (pieces_last b (c ∷ bs) n (omega (arith, size)) ends)
    ∙ after_last (separates before b) b (pieces b (take n (c ∷ bs))) ([] ∷ []) (separators b (take n (c ∷ bs)))
    (length-pieces b (take n (c ∷ bs)))

-- whether a row ends so, by its last two bytes
ends_at : (before : ℕ) (row : List ℕ) (i : ℕ) → length row ≡ suc (suc i)
    → ends_separated before row ≡ separates (get_or row i 0) (get_or row (suc i) 0)
ends_at before [] i size = cc
ends_at before (b ∷ []) i size = absurd (omega (arith, size))
ends_at before (b ∷ c ∷ []) zero size = refl
ends_at before (b ∷ c ∷ []) (suc i) size = absurd (omega (arith, size))
ends_at before (b ∷ c ∷ d ∷ bs) zero size = absurd (omega (arith, size))
ends_at before (b ∷ c ∷ d ∷ bs) (suc i) size = ends_at b (c ∷ d ∷ bs) i (omega (arith, size))

pub ends_by_two : (before : ℕ) (row : List ℕ) → 2 ≤ length row
    → ends_separated before row ≡ separates (get_or row (length row - 2) 0) (get_or row (length row - 1) 0)
ends_by_two before row long =
    ends_at before row (length row - 2) (omega (arith, long))
    ∙ ap (λ i. separates (get_or row (length row - 2) 0) (get_or row i 0)) (omega (arith, long))

ends_filled : (before : ℕ) (row : List ℕ) → ends_separated before row ≡ true → 1 ≤ length row
ends_filled before [] ends = cc
ends_filled before (b ∷ bs) ends = omega arith

-- the cells of a row without the pipes at its ends
inner_cells : (from : ℕ) (row inner : List ℕ) → inner ≡ take (length row - (if ends_separated space row then 1 else 0)) row
    → take (separators space row + 1 - (if ends_separated space row then 1 else 0)) (cells_at from (pieces space row)) ≡ cells_at from (pieces space inner)
inner_cells from row inner is = by (ends_separated space row) refl
  where
    by : (s : Bool) → ends_separated space row ≡ s
        → take (separators space row + 1 - (if ends_separated space row then 1 else 0)) (cells_at from (pieces space row)) ≡ cells_at from (pieces space inner)
    by true ends =
        let given = rw ends at is in
        let filled : length row ≡ suc (length row - 1) = omega (arith, ends_filled space row ends) in
        let last = pieces_last space row (length row - 1) filled ends in
        let size : separators space row ≡ length (pieces space (take (length row - 1) row)) =
        omega (arith, length-pieces space row, ap length last, length-append (pieces space (take (length row - 1) row)) ([] ∷ [])) in
        rw ends (ap (λ ps. take (separators space row + 1 - 1) (cells_at from ps)) last
        ∙ ap (λ n. take n (cells_at from (pieces space (take (length row - 1) row) ++ [] ∷ []))) (omega (arith, size))
        ∙ take-cells_at from (pieces space (take (length row - 1) row)) ([] ∷ [])
        ∙ ap (λ r. cells_at from (pieces space r)) (sym given))
    by false ends =
        let given = rw ends at is in
        let size : separators space row + 1 - 0 ≡ length (cells_at from (pieces space row)) =
        omega (arith, length-pieces space row, length-cells_at from (pieces space row)) in
        rw ends (ap (λ n. take n (cells_at from (pieces space row))) size ∙ take-length (cells_at from (pieces space row))
        ∙ ap (λ r. cells_at from (pieces space r)) (sym (given ∙ ap (λ n. take n row) (omega arith) ∙ take-length row)))

take_none : {A : Type 0} (m : ℕ) (xs : List A) → xs ≡ [] → take m xs ≡ []
take_none zero xs none = refl
take_none (suc m) [] none = refl
take_none (suc m) (x ∷ xs) none = cc

drop_take_less : {A : Type 0} (k n : ℕ) (xs : List A) → take (n - k) (drop k xs) ≡ drop k (take n xs)
drop_take_less zero n xs = ap (λ m. take m xs) (omega arith)
drop_take_less (suc k) zero xs =
    let none : zero - suc k ≡ 0 = omega arith in
    ap (λ m. take m (drop (suc k) xs)) none
drop_take_less (suc k) (suc n) [] = take_none (suc n - suc k) [] refl
drop_take_less (suc k) (suc n) (x ∷ xs) =
    let less : suc n - suc k ≡ n - k = omega arith in
    ap (λ m. take m (drop k xs)) less ∙ drop_take_less k n xs

outer_cells : (from : ℕ) (row inner : List ℕ) (front : ℕ) → inner ≡ take (length row - (if ends_separated space row then 1 else 0)) row
    → front ≡ (if begins_with is_pipe row then 1 else 0) → cells_of_row from row ≡ drop front (cells_at from (pieces space inner))
outer_cells from row inner front is at =
    let count : cells_in row ≡ separators space row + 1 - (if ends_separated space row then 1 else 0) - front = omega (arith, at) in
    ap (λ k. take (cells_in row) (drop k (cells_at from (pieces space row)))) (sym at)
    ∙ ap (λ n. take n (drop front (cells_at from (pieces space row)))) count
    ∙ drop_take_less front (separators space row + 1 - (if ends_separated space row then 1 else 0)) (cells_at from (pieces space row))
    ∙ ap (drop front) (inner_cells from row inner is)

-- a pipe at the front
begins_take : (n : ℕ) (row : List ℕ) → begins_with is_pipe row ≡ true → 1 ≤ length (take n row) → begins_with is_pipe (take n row) ≡ true
begins_take zero row is long = absurd (omega arith)
begins_take (suc n) [] is long = cc
begins_take (suc n) (b ∷ bs) is long = is

empty_first : (from : ℕ) → from + length {A = ℕ} [] + 1 ≡ from + 1
empty_first from = omega arith

none_more : (from : ℕ) → from + 0 ≡ from
none_more from = omega arith

piped : (from : ℕ) (inner : List ℕ) → begins_with is_pipe inner ≡ true → drop 1 (cells_at from (pieces space inner)) ≡ cells_at (from + 1) (pieces space (drop 1 inner))
piped from [] is = cc
piped from (b ∷ bs) is =
    let separates_it : separates space b ≡ true = rw is refl in
    rw separates_it (rw (empty_first from) (ap (cells_at (from + 1)) (plain_before b bs (separates_plain space b separates_it))))

-- a row that is a pipe alone, and any other
pub cells_none : (from : ℕ) (row inner : List ℕ) (front : ℕ) → inner ≡ take (length row - (if ends_separated space row then 1 else 0)) row
    → front ≡ (if begins_with is_pipe row then 1 else 0) → length inner < front → cells_of_row from row ≡ []
cells_none from row inner front is at low = outer_cells from row inner front is at ∙ by inner (begins_with is_pipe row) at low
  where
    by : (i : List ℕ) (s : Bool) → front ≡ (if s then 1 else 0) → length i < front → drop front (cells_at from (pieces space i)) ≡ []
    by [] true one few = rw one refl
    by (b ∷ bs) true one few = absurd (omega (arith, one, few))
    by i false one few = absurd (omega (arith, one, few))

pub cells_some : (from : ℕ) (row inner : List ℕ) (front : ℕ) → inner ≡ take (length row - (if ends_separated space row then 1 else 0)) row
    → front ≡ (if begins_with is_pipe row then 1 else 0) → front ≤ length inner
    → cells_of_row from row ≡ cells_at (from + front) (pieces space (take (length inner - front) (drop front inner)))
cells_some from row inner front is at low =
    outer_cells from row inner front is at ∙ by (begins_with is_pipe row) refl ∙ ap (λ r. cells_at (from + front) (pieces space r)) (sym (take_rest inner front))
  where
    by : (s : Bool) → begins_with is_pipe row ≡ s → drop front (cells_at from (pieces space inner)) ≡ cells_at (from + front) (pieces space (drop front inner))
    by true piped_row =
        let one : front ≡ 1 = rw piped_row at at in
        let long : 1 ≤ length inner = omega (arith, one, low) in
        let also : begins_with is_pipe inner ≡ true =
        subst (λ i. begins_with is_pipe i ≡ true) (sym is)
        (begins_take (length row - (if ends_separated space row then 1 else 0)) row piped_row (omega (arith, long, ap length is))) in
        rw one (piped from inner also)
    by false none = let nought : front ≡ 0 = rw none at at in rw (nought, none_more from) refl

-- the first piece, where none is after it and where one is
pub last_piece : (offset : ℕ) (rest piece after : List ℕ) → piece ≡ take (first_len (pieces space rest)) rest
    → after ≡ drop (first_len (pieces space rest)) rest → length after < 1 → cells_at offset (pieces space rest) ≡ cell_at offset piece ∷ []
last_piece offset rest piece [] front back low =
    ap (cells_at offset) (first_and_after space rest ∙ ap (λ r. take (first_len (pieces space rest)) rest ∷ after_first r) (sym back)
    ∙ ap (λ p. p ∷ []) (sym front))
last_piece offset rest piece (b ∷ bs) front back low = absurd (omega arith)

pub next_piece : (offset : ℕ) (rest piece after : List ℕ) → piece ≡ take (first_len (pieces space rest)) rest
    → after ≡ drop (first_len (pieces space rest)) rest → 1 ≤ length after
    → cells_at offset (pieces space rest)
    ≡ cell_at offset piece ∷ cells_at (offset + (length piece + 1)) (pieces space (take (length after - 1) (drop 1 after)))
next_piece offset rest piece [] front back low = absurd (omega arith)
next_piece offset rest piece (b ∷ bs) front back low =
    ap (cells_at offset) (first_and_after space rest ∙ ap (λ r. take (first_len (pieces space rest)) rest ∷ after_first r) (sym back)
    ∙ ap (λ p. p ∷ pieces space bs) (sym front))
    ∙ ap (λ n. cell_at offset piece ∷ cells_at n (pieces space bs)) (omega arith)
    ∙ ap (λ r. cell_at offset piece ∷ cells_at (offset + (length piece + 1)) (pieces space r)) (sym (ap (λ n. take n bs) (omega arith) ∙ take-length bs))

-- the next of the cells that are left, where none is after it and where one is
module _ (is_done : Bool) (offset : ℕ) (rest : List ℕ) (n : ℕ) (piece after : List ℕ) (cell : Cell) (goes : is_done ≡ false)
    (count : n ≡ first_len (pieces space rest)) (front : piece ≡ take n rest) (back : after ≡ drop n rest) (is : cell ≡ cell_at offset piece) where
  in_front : piece ≡ take (first_len (pieces space rest)) rest
  in_front = front ∙ ap (λ m. take m rest) count

  in_back : after ≡ drop (first_len (pieces space rest)) rest
  in_back = back ∙ ap (λ m. drop m rest) count

  pub last_left : length after < 1 → cells_left is_done offset rest ≡ cell ∷ []
  last_left none = rw (goes, is) (last_piece offset rest piece after in_front in_back none)

  pub next_left : 1 ≤ length after
      → cells_left is_done offset rest
      ≡ cell ∷ cells_left is_done (offset + (length piece + 1)) (take (length after - 1) (drop 1 after))
  next_left some = rw (goes, is) (next_piece offset rest piece after in_front in_back some)

pub one_byte : (s : Bool) → bool_byte s ≡ (if s then 1 else 0)
one_byte true = refl
one_byte false = refl

-- a byte of a row more
module _ (row : List ℕ) (i before : ℕ) (below : i < length row) (separated : Bool) (is : separated ≡ separates before (get_or row i 0)) where
  pub ended_here : separated ≡ true → first_len (pieces before (drop i row)) ≡ 0
  ended_here given = let here = first_at row i before below in rw (← is, given) at here

  pub goes_on : separated ≡ false → first_len (pieces before (drop i row)) ≡ suc (first_len (pieces (get_or row i 0) (drop (i + 1) row)))
  goes_on given = let here = first_at row i before below in rw (← is, given) at here
