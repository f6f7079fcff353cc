-- The pieces of a row are the only ones.
use Rattle.std.proofs.Common.{ℕ, ◌≤◌, Bool, true, false, ◌==◌, List, [], ◌∷◌, ◌++◌, length}
use Rattle.std.proofs.Common.{◌≡◌, ◌≢◌, refl, sym, ap, ◌∙◌, arith}
use Rattle.std.specs.Prelude.{⊤}
use Rattle.std.specs.List.{AllByRecursion, join_with_byte}
use Rattle.std.proofs.lemmas.Bool.Decides.{nat_tests}
use Rattle.markdown_scanners_tree.specs.Ascii.{space, backslash, vertical_line}
use Rattle.markdown_scanners_tree.specs.scanners.TextLines.{with_first}
use Rattle.markdown_blocks.specs.blocks.Tables.{separates, separators}
use Rattle.markdown_blocks.specs.cells.Cells.{after_byte, pieces}
use Rattle.markdown_blocks.specs.cells.Pieces.{ArePieces, EndPlain, last_byte}
use Rattle.markdown_blocks.proofs.cells.CellLemmas.{length-pieces, plain_before, separates_plain}
use Rattle.markdown_blocks.proofs.cells.LawLemmas.{pieces_joined}

-- after a plain byte, as after a space
separators_plain : (b : ℕ) (bs : List ℕ) → (b == backslash) ≡ false → separators b bs ≡ separators space bs
separators_plain b [] plain = refl
separators_plain b (c ∷ bs) plain = rw plain refl

last_plain : (b : ℕ) (bs : List ℕ) → last_byte b bs ≢ backslash → last_byte space bs ≢ backslash
last_plain b [] plain = λ same. absurd (omega (arith, same))
last_plain b (c ∷ bs) plain = plain

after_plain : (before b : ℕ) → separates before b ≡ true → before ≢ backslash
after_plain before b is = grind (arith, nat_tests)

separates_here : (before : ℕ) → before ≢ backslash → separates before vertical_line ≡ true
separates_here before plain = grind (arith, nat_tests)

-- the pieces of bytes before which this one stands
abbrev Whole : ℕ → List (List ℕ) → Type 0
Whole before [] = ⊥
Whole before (p ∷ ps) = (separators before p ≡ 0) × AllByRecursion (λ piece. separators space piece ≡ 0) ps

abbrev Parted : ℕ → List (List ℕ) → Type 0
Parted before [] = ⊤
Parted before (p ∷ []) = ⊤
Parted before (p ∷ q ∷ ps) = (last_byte before p ≢ backslash) × EndPlain (q ∷ ps)

pieces_whole : (before : ℕ) (row : List ℕ) → Whole before (pieces before row)
pieces_whole before [] = (refl, tt)
pieces_whole before (b ∷ bs) = by (separates before b) refl (pieces b bs) (pieces_whole b bs)
  where
    by : (s : Bool) → separates before b ≡ s → (ps : List (List ℕ)) → Whole b ps → Whole before (after_byte s b ps)
    by s is [] w = absurd w
    by true is (p ∷ ps) w = (refl, (sym (separators_plain b p (separates_plain before b is)) ∙ w.0, w.1))
    by false is (p ∷ ps) w = (rw is (omega (arith, w.0)), w.1)

further : (b : ℕ) (ps : List (List ℕ)) → Parted b ps → EndPlain ps
further b [] w = tt
further b (p ∷ []) w = tt
further b (p ∷ q ∷ ps) w = (last_plain b p w.0, w.1)

pieces_parted : (before : ℕ) (row : List ℕ) → Parted before (pieces before row)
pieces_parted before [] = tt
pieces_parted before (b ∷ bs) = by (separates before b) refl (pieces b bs) (pieces_parted b bs)
  where
    by : (s : Bool) → separates before b ≡ s → (ps : List (List ℕ)) → Parted b ps → Parted before (after_byte s b ps)
    by true is [] w = tt
    by true is (p ∷ ps) w = (after_plain before b is, further b (p ∷ ps) w)
    by false is [] w = tt
    by false is (p ∷ []) w = tt
    by false is (p ∷ q ∷ ps) w = w

all_whole : (ps : List (List ℕ)) → Whole space ps → AllByRecursion (λ piece. separators space piece ≡ 0) ps
all_whole [] w = tt
all_whole (p ∷ ps) w = w

pub row_pieces : (row : List ℕ) → ArePieces row (pieces space row)
row_pieces row = record {
  some = omega (arith, length-pieces space row);
  joined = pieces_joined space row;
  whole = all_whole (pieces space row) (pieces_whole space row);
  parted = further space (pieces space row) (pieces_parted space row);
}

-- in bytes in which none separates
none_first : (before b : ℕ) (bs : List ℕ) → separators before (b ∷ bs) ≡ 0 → (separates before b ≡ false) × (separators b bs ≡ 0)
none_first before b bs none = by (separates before b) refl
  where
    by : (s : Bool) → separates before b ≡ s → (separates before b ≡ false) × (separators b bs ≡ 0)
    by true is = let some = rw is at none in absurd (omega (arith, some))
    by false is = let same = rw is at none in (is, omega (arith, same))

piece_last : (before : ℕ) (piece : List ℕ) → separators before piece ≡ 0 → pieces before piece ≡ piece ∷ []
piece_last before [] none = refl
piece_last before (b ∷ bs) none =
    let first = none_first before b bs none in
    rw (first.0) (ap (with_first b) (piece_last b bs first.1))

piece_front : (before : ℕ) (piece rest : List ℕ) → separators before piece ≡ 0 → last_byte before piece ≢ backslash
    → pieces before (piece ++ vertical_line ∷ rest) ≡ piece ∷ pieces space rest
piece_front before [] rest none plain =
    let here = separates_here before plain in
    rw here (ap (λ ps. [] ∷ ps) (plain_before vertical_line rest refl))
piece_front before (b ∷ bs) rest none plain =
    let first = none_first before b bs none in
    rw (first.0) (ap (with_first b) (piece_front b bs rest first.1 plain))

only_pieces : (ps : List (List ℕ)) → 1 ≤ length ps → AllByRecursion (λ piece. separators space piece ≡ 0) ps → EndPlain ps
    → pieces space (join_with_byte vertical_line ps) ≡ ps
only_pieces [] some whole plain = absurd (omega (arith, some))
only_pieces (p ∷ []) some whole plain = piece_last space p whole.0
only_pieces (p ∷ q ∷ ps) some whole plain =
    piece_front space p (join_with_byte vertical_line (q ∷ ps)) whole.0 plain.0
    ∙ ap (λ xs. p ∷ xs) (only_pieces (q ∷ ps) (omega arith) whole.1 plain.1)

-- a row has one list of pieces
pub one_list_of_pieces : (row : List ℕ) (ps : List (List ℕ)) → ArePieces row ps → ps ≡ pieces space row
one_list_of_pieces row ps is = sym (only_pieces ps is.some is.whole is.parted) ∙ ap (pieces space) is.joined
