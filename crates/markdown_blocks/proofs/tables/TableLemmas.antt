-- Cells of a row, read from its front, and lines that are rows.
use Rattle.std.proofs.Common.{ℕ, ◌+◌, ◌<◌, ◌≤◌, Bool, true, false, IsTrue, List, [], ◌∷◌, length, drop, get_or, not, Option, Some, None}
use Rattle.std.proofs.Common.{◌≡◌, refl, sym, ap, subst, ◌∙◌, arith}
use Rattle.std.specs.Prelude.{is_some}
use Rattle.std.proofs.lemmas.List.{at_drop_more, drop_all}
use mir.Val.{bool_byte}
use Rattle.markdown_scanners_tree.specs.SomeExactly.{SomeExactly}
use Rattle.markdown_scanners_tree.specs.line.State.{LineState}
use Rattle.markdown_blocks.specs.containers.Containers.{OpenContainers, Rest, rest_at, asked_first, asked_in, begun_at, match_line, IsInside, rest_in, without_terms}
use Rattle.markdown_blocks.specs.declared.blocks.BlockKind.TheVariants.{Paragraph}
use Rattle.markdown_blocks.specs.blocks.Leaves.{Begins, BeginTable, IsRow, In, IsHead, LeavesParagraph}
use Rattle.markdown_blocks.specs.definitions.Content.{words_in}
use Rattle.markdown_blocks.specs.blocks.Tables.{separates, separators, ends_separated, cells}
use Rattle.markdown_blocks.specs.delimiter_rows.DelimiterRows.{IsDelimiter}

-- whether the last byte of a row separates, where this is known of the one before what is left of it
abbrev pub ends_from : Bool → ℕ → List ℕ → Bool
ends_from is_last before [] = is_last
ends_from is_last before (b ∷ bs) = ends_separated before (b ∷ bs)

pub ends_from-front : (before : ℕ) (row : List ℕ) → ends_from false before row ≡ ends_separated before row
ends_from-front before [] = refl
ends_from-front before (b ∷ bs) = refl

ends_from-next : (is_last : Bool) (before b : ℕ) (bs : List ℕ) → ends_from (separates before b) b bs ≡ ends_from is_last before (b ∷ bs)
ends_from-next is_last before b [] = refl
ends_from-next is_last before b (c ∷ bs) = refl

-- a byte more
module _ (row : List ℕ) (i before : ℕ) (below : i < length row) (separated : Bool) (is : separated ≡ separates before (get_or row i 0)) where
  pub counted_next : (count n all : ℕ) → n ≡ bool_byte separated → count + separators before (drop i row) ≡ all
      → (count + n) + separators (get_or row i 0) (drop (i + 1) row) ≡ all
  counted_next count n all one so_far = by separated is one (at_drop_more (separators before) row i 0 below)
    where
      by : (s : Bool) → s ≡ separates before (get_or row i 0) → n ≡ bool_byte s
          → separators before (drop i row) ≡ separators before (get_or row i 0 ∷ drop (i + 1) row)
          → (count + n) + separators (get_or row i 0) (drop (i + 1) row) ≡ all
      by true given one next = let next_one = rw (← given) at next in omega (arith, one, next_one, so_far)
      by false given one next = let next_none = rw (← given) at next in omega (arith, one, next_none, so_far)

  pub ends_next : (is_last last : Bool) → ends_from is_last before (drop i row) ≡ last
      → ends_from separated (get_or row i 0) (drop (i + 1) row) ≡ last
  ends_next is_last last so_far =
      rw is (ends_from-next is_last before (get_or row i 0) (drop (i + 1) row) ∙ sym (at_drop_more (ends_from is_last before) row i 0 below) ∙ so_far)

pub few_more : (separated : Bool) (count i n : ℕ) → n ≡ bool_byte separated → count ≤ i → count + n ≤ i + 1
few_more true count i n one few = omega (arith, one, few)
few_more false count i n one few = omega (arith, one, few)

-- a line that stands in the containers begins no definition of a term
inside_asked : (outer : OpenContainers) (line : List ℕ) → IsInside outer.containers line → asked_in outer line ≡ without_terms outer.extensions
inside_asked outer line inside =
    ap (asked_first outer.extensions false) (drop_all (match_line outer.containers line).kept outer.containers (omega (arith, inside)))

-- a test of a line in which none begins
pub row_given : (outer : OpenContainers) (line : List ℕ) (s : LineState) (rest : Rest) (r : Bool) → s ≡ (match_line outer.containers line).state → rest ≡ rest_at s
    → IsInside outer.containers line → begun_at (asked_in outer line) s ≡ None → (IsTrue r → Begins Paragraph rest) × (Begins Paragraph rest → IsTrue r)
    → (IsTrue r → IsRow outer line) × (IsRow outer line → IsTrue r)
row_given outer line s rest r same is inside none tells =
    let at : rest ≡ rest_at (match_line outer.containers line).state = is ∙ ap rest_at same in (
      λ t. (
        subst (λ z. begun_at (without_terms outer.extensions) z ≡ None) same (subst (λ x. begun_at x s ≡ None) (inside_asked outer line inside) none),
        (inside, subst (Begins Paragraph) at (tells.0 t)),
      ),
      λ row. tells.1 (subst (Begins Paragraph) (sym at) row.1.1),
    )

-- a delimiter row has one number of columns
pub one_number : (rest : Rest) (columns other : ℕ) → IsDelimiter columns rest → IsDelimiter other rest → other ≡ columns
one_number rest columns other d o = o.2 ∙ sym d.2

-- a line that is the delimiter row of no table
pub no_delimiter : (outer : OpenContainers) (text line : List ℕ) → ((columns : ℕ) → ¬ In outer.containers (IsDelimiter columns) line)
    → (columns : ℕ) → ¬ IsHead outer text columns line
no_delimiter outer text line none columns head = none columns head.2

-- or of a table of so many columns
module _ (outer : OpenContainers) (text line : List ℕ) (columns : ℕ) (found : In outer.containers (IsDelimiter columns) line) where
  pub no_head : (cells text ≡ columns → LeavesParagraph outer line) → (other : ℕ) → ¬ IsHead outer text other line
  no_head leaves other head =
      let same : other ≡ columns = one_number (rest_in outer.containers line) columns other found.1 head.2.1 in
      head.1 (leaves (head.3 ∙ same))

-- the header row of a table
module _ (outer : OpenContainers) (line next : List ℕ) (lines : List (List ℕ)) where
  pub no_begin : ((columns : ℕ) → ¬ In outer.containers (IsDelimiter columns) next) → ¬ BeginTable outer (line ∷ next ∷ lines)
  no_begin none (columns, head) = none columns head.2

  pub begin_given : (words : List ℕ) (found : Option ℕ) (some : Bool) → words ≡ words_in outer.containers line
      → SomeExactly (λ columns. IsHead outer words columns next) found → some ≡ is_some found
      → (IsTrue some → BeginTable outer (line ∷ next ∷ lines)) × (BeginTable outer (line ∷ next ∷ lines) → IsTrue some)
  begin_given words (Some columns) some same head is =
      (λ t. (columns, subst (λ w. IsHead outer w columns next) same head), λ table. is)
  begin_given words None some same none is = (λ t. let both : true ≡ false = sym t ∙ is in cc, by)
    where
      by : BeginTable outer (line ∷ next ∷ lines) → IsTrue some
      by (columns, head) = absurd (none columns (subst (λ w. IsHead outer w columns next) (sym same) head))

pub same_line : (lines : List (List ℕ)) (a b : List ℕ) (xs ys : List (List ℕ)) → lines ≡ a ∷ xs → lines ≡ b ∷ ys → a ≡ b
same_line lines a b xs ys is other = let both : a ∷ xs ≡ b ∷ ys = sym is ∙ other in cc
