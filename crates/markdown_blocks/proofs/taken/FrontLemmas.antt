-- The lines at the front of a text are all lines of their bytes.
use Rattle.std.proofs.Common.{ℕ, zero, suc, Bool, true, false, List, [], ◌∷◌, ◌++◌, ◌≤◌, ◌≡◌, ◌≢◌, length, take, drop}
use Rattle.std.proofs.Common.{refl, sym, ap, ◌∙◌, arith, append-nil, length-append}
use Rattle.markdown_scanners_tree.specs.scanners.TextLines.{ends_line, with_first, lines_of}
use Rattle.markdown_blocks.proofs.taken.TakenLemmas.{lines_bytes}
use Rattle.markdown_blocks.proofs.whole.WholeLemmas.{alone, some_lines}
use Rattle.markdown_blocks.specs.declared.taken.Extent.{Extent}
use Rattle.markdown_blocks.specs.taken.Lines.{IsTaken}

nothing_before : (ls xs : List (List ℕ)) → xs ≡ ls ++ xs → ls ≡ []
nothing_before [] xs same = refl
nothing_before (l ∷ ls) xs same = absurd (omega (arith, ap length same, length-append (l ∷ ls) xs))

-- a line ends in a front of the text as in all of it
ends_kept : (b : ℕ) (bs : List ℕ) (n : ℕ) → ends_line (b ∷ bs) ≡ true → ends_line (b ∷ take n bs) ≡ true
ends_kept b bs zero is = alone b bs is
ends_kept b [] (suc n) is = is
ends_kept b (c ∷ cs) (suc n) is = is

first_is : (l m : List ℕ) (ls ms : List (List ℕ)) → l ∷ ls ≡ m ∷ ms → l ≡ m
first_is l m ls ms same = cc

others_are : (l m : List ℕ) (ls ms : List (List ℕ)) → l ∷ ls ≡ m ∷ ms → ls ≡ ms
others_are l m ls ms same = cc

-- what is to be shown of a text
IsFrontOf : ℕ → List ℕ → Type 0
IsFrontOf n text = (ls : List (List ℕ)) → n ≤ length text → lines_of text ≡ ls ++ lines_of (drop n text) → lines_of (take n text) ≡ ls

-- a byte at least is that of a line
some_line : (text : List ℕ) (n : ℕ) (ls : List (List ℕ)) → suc n ≤ length text → lines_of text ≡ ls ++ lines_of (drop (suc n) text) → ls ≢ []
some_line text n [] within parts none = omega (arith, lines_bytes text (suc n) [] within parts)
some_line text n (l ∷ ls) within parts none = cc

ended : (b : ℕ) (bs : List ℕ) (n : ℕ) (ls : List (List ℕ)) → ends_line (b ∷ bs) ≡ true → n ≤ length bs
    → (b ∷ []) ∷ lines_of bs ≡ ls ++ lines_of (drop n bs) → ls ≢ [] → IsFrontOf n bs → lines_of (b ∷ take n bs) ≡ ls
unfolding IsFrontOf
ended b bs n [] is within parts some more = absurd (some refl)
ended b bs n (l ∷ ls) is within parts some more =
    rw (ends_kept b bs n is) (ap (λ x. x ∷ lines_of (take n bs)) (first_is (b ∷ []) l (lines_of bs) (ls ++ lines_of (drop n bs)) parts)
    ∙ ap (λ xs. l ∷ xs) (more ls within (others_are (b ∷ []) l (lines_of bs) (ls ++ lines_of (drop n bs)) parts)))

joined_first : (b : ℕ) (front : List ℕ) (xs : List (List ℕ)) (l : List ℕ) (ls rest : List (List ℕ)) → xs ≢ []
    → with_first b xs ≡ l ∷ (ls ++ rest) → ((ks : List (List ℕ)) → xs ≡ ks ++ rest → lines_of front ≡ ks)
    → with_first b (lines_of front) ≡ l ∷ ls
joined_first b front [] l ls rest some parts more = absurd (some refl)
joined_first b front (x ∷ xs) l ls rest some parts more =
    ap (with_first b) (more (x ∷ ls) (ap (λ ys. x ∷ ys) (others_are (b ∷ x) l xs (ls ++ rest) parts)))
    ∙ ap (λ y. y ∷ ls) (first_is (b ∷ x) l xs (ls ++ rest) parts)

same_length : (b : ℕ) (xs : List (List ℕ)) → xs ≢ [] → length (with_first b xs) ≡ length xs
same_length b [] some = absurd (some refl)
same_length b (x ∷ xs) some = refl

goes_on : (b : ℕ) (bs : List ℕ) (n : ℕ) (ls : List (List ℕ)) → ends_line (b ∷ bs) ≡ false → n ≤ length bs
    → with_first b (lines_of bs) ≡ ls ++ lines_of (drop n bs) → ls ≢ [] → IsFrontOf n bs → lines_of (b ∷ take n bs) ≡ ls
unfolding IsFrontOf
goes_on b bs n [] is within parts some more = absurd (some refl)
goes_on b [] zero (l ∷ ls) is within parts some more = rw is (parts ∙ append-nil (l ∷ ls))
goes_on b (c ∷ cs) zero (l ∷ ls) is within parts some more =
    let there : lines_of (c ∷ cs) ≢ [] = λ none. (let same : c ∷ cs ≡ [] = some_lines (c ∷ cs) none in cc) in
    let size = ap length parts ∙ length-append (l ∷ ls) (lines_of (c ∷ cs)) in
    absurd (omega (arith, size, same_length b (lines_of (c ∷ cs)) there))
goes_on b [] (suc n) (l ∷ ls) is within parts some more = absurd (omega (arith, within))
goes_on b (c ∷ cs) (suc n) (l ∷ ls) is within parts some more =
    let there : lines_of (c ∷ cs) ≢ [] = λ none. (let same : c ∷ cs ≡ [] = some_lines (c ∷ cs) none in cc) in
    rw is (joined_first b (c ∷ take n cs) (lines_of (c ∷ cs)) l ls (lines_of (drop n cs)) there parts (λ ks. more ks within))

front_of : (text : List ℕ) (n : ℕ) → IsFrontOf n text
unfolding IsFrontOf
front_of text zero = λ ls within parts. sym (nothing_before ls (lines_of text) parts)
front_of [] (suc n) = λ ls within parts. absurd (omega (arith, within))
front_of (b ∷ bs) (suc n) = λ ls within parts. by (ends_line (b ∷ bs)) refl ls within parts (front_of bs n)
  where
    by : (ends : Bool) → ends_line (b ∷ bs) ≡ ends → (ls : List (List ℕ)) → suc n ≤ length (b ∷ bs)
        → lines_of (b ∷ bs) ≡ ls ++ lines_of (drop n bs) → IsFrontOf n bs → lines_of (b ∷ take n bs) ≡ ls
    by true is ls within parts more =
        ended b bs n ls is (omega (arith, within)) (rw is at parts) (some_line (b ∷ bs) n ls within parts) more
    by false is ls within parts more =
        goes_on b bs n ls is (omega (arith, within)) (rw is at parts) (some_line (b ∷ bs) n ls within parts) more

-- the lines that are taken are those of their bytes
pub lines_of_taken : (text : List ℕ) (taken : Extent) (lines : List (List ℕ)) → IsTaken text taken lines → lines_of (take taken.bytes text) ≡ lines
unfolding IsFrontOf
lines_of_taken text taken lines h = front_of text taken.bytes lines h.within h.parts

pub front_lines : (text : List ℕ) (n : ℕ) (lines : List (List ℕ)) → n ≤ length text → lines_of text ≡ lines ++ lines_of (drop n text)
    → lines_of (take n text) ≡ lines
unfolding IsFrontOf
front_lines text n lines within parts = front_of text n lines within parts
