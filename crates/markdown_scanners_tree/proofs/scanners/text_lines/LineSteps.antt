-- The lines of a text are those that are taken from its front, in turn.
use Rattle.std.proofs.Common.{ℕ, suc, List, [], ◌∷◌, ◌+◌, ◌<◌, ◌≡◌, ◌==◌, Bool, true, false, length, take, drop, refl, sym, ap, ◌∙◌, subst, arith, inl, inr, one-add}
use Rattle.std.specs.Prelude.{nat_le}
use Rattle.std.specs.List.{concat, list_all}
use Rattle.std.proofs.lemmas.Bool.{cases_Bool, eqb-true, and_from, le-leb}
use Rattle.markdown_scanners_tree.specs.Bytes.{begins_with, is_line_ending, line_head, line_length}
use Rattle.markdown_scanners_tree.specs.scanners.TextLines.{ends_line, with_first, lines_of}
use Rattle.markdown_scanners_tree.proofs.PrefixLemmas.{both_true}

concat-with_first : (b : ℕ) (ls : List (List ℕ)) → concat (with_first b ls) ≡ b ∷ concat ls
concat-with_first b [] = refl
concat-with_first b (l ∷ ls) = refl

pub lines_joined : (bytes : List ℕ) → concat (lines_of bytes) ≡ bytes
lines_joined [] = refl
lines_joined (b ∷ bs) = elim (cases_Bool (ends_line (b ∷ bs))) [
  | inl ends ↦ rw ends (ap (λ z. b ∷ z) (lines_joined bs))
  | inr goes ↦ rw goes (concat-with_first b (lines_of bs) ∙ ap (λ z. b ∷ z) (lines_joined bs))
]

-- a line has a byte
abbrev pub has_byte : List ℕ → Bool
has_byte line = nat_le 1 (length line)

some_byte : (b : ℕ) (l : List ℕ) → has_byte (b ∷ l) ≡ true
some_byte b l = le-leb 1 (length (b ∷ l)) (omega arith)

filled-with_first : (b : ℕ) (ls : List (List ℕ)) → list_all has_byte ls ≡ true → list_all has_byte (with_first b ls) ≡ true
filled-with_first b [] all = and_from _ _ (some_byte b []) refl
filled-with_first b (l ∷ ls) all = and_from _ _ (some_byte b l) (both_true _ _ all).1

pub lines_filled : (bytes : List ℕ) → list_all has_byte (lines_of bytes) ≡ true
lines_filled [] = refl
lines_filled (b ∷ bs) = elim (cases_Bool (ends_line (b ∷ bs))) [
  | inl ends ↦ rw ends (and_from _ _ (some_byte b []) (lines_filled bs))
  | inr goes ↦ rw goes (filled-with_first b (lines_of bs) (lines_filled bs))
]

-- The first line is as long as the lines' definition says.
plain_length : (b : ℕ) (bs : List ℕ) → is_line_ending b ≡ false → line_length (b ∷ bs) ≡ suc (line_length bs)
plain_length b bs plain = rw (plain, one-add) (by (length (line_head bs)) _)
  where
    by : (n m : ℕ) → suc n + m ≡ suc (n + m)
    by n m = omega arith

-- what is given of the first line
FirstLine : List ℕ → Type 0
FirstLine bytes = lines_of bytes ≡ take (line_length bytes) bytes ∷ lines_of (drop (line_length bytes) bytes)

first_of : (bytes : List ℕ) (n : ℕ) → line_length bytes ≡ n → lines_of bytes ≡ take n bytes ∷ lines_of (drop n bytes)
    → FirstLine bytes
unfolding FirstLine
first_of bytes n is e = subst (λ m. lines_of bytes ≡ take m bytes ∷ lines_of (drop m bytes)) (sym is) e

plain_line : (b : ℕ) (bs : List ℕ) → is_line_ending b ≡ false → ends_line (b ∷ bs) ≡ false → FirstLine bs
    → FirstLine (b ∷ bs)
unfolding FirstLine
plain_line b bs plain goes rest =
    first_of (b ∷ bs) (suc (line_length bs)) (plain_length b bs plain) (rw goes (ap (with_first b) rest))

last_plain : (b : ℕ) → is_line_ending b ≡ false → ends_line (b ∷ []) ≡ false → FirstLine (b ∷ [])
last_plain b plain goes = first_of (b ∷ []) 1 (plain_length b [] plain) (rw goes refl)

line_feed_line : (bs : List ℕ) → FirstLine (10 ∷ bs)
line_feed_line bs = first_of (10 ∷ bs) 1 refl refl

return_line : (bs : List ℕ) → begins_with (λ c. c == 10) bs ≡ false → FirstLine (13 ∷ bs)
return_line bs alone = first_of (13 ∷ bs) 1 (rw alone refl) (rw alone refl)

two_line : (bs : List ℕ) → FirstLine (13 ∷ 10 ∷ bs)
two_line bs = first_of (13 ∷ 10 ∷ bs) 2 refl refl

by_return : (bs : List ℕ) → FirstLine (13 ∷ bs)
by_return [] = return_line [] refl
by_return (c ∷ cs) = elim (cases_Bool (c == 10)) [
  | inl lf ↦ subst (λ z. FirstLine (13 ∷ z ∷ cs)) (sym (eqb-true c 10 lf)) (two_line cs)
  | inr other ↦ return_line (c ∷ cs) other
]

by_byte : (b : ℕ) (bs : List ℕ) → (is_line_ending b ≡ false → ends_line (b ∷ bs) ≡ false → FirstLine (b ∷ bs))
    → FirstLine (b ∷ bs)
by_byte b bs plain = elim (cases_Bool (b == 10)) [
  | inl lf ↦ subst (λ z. FirstLine (z ∷ bs)) (sym (eqb-true b 10 lf)) (line_feed_line bs)
  | inr no_lf ↦ elim (cases_Bool (b == 13)) [
    | inl cr ↦ subst (λ z. FirstLine (z ∷ bs)) (sym (eqb-true b 13 cr)) (by_return bs)
    | inr no_cr ↦ plain (rw (no_lf, no_cr) refl) (rw (no_lf, no_cr) refl)
  ]
]

first_line : (b : ℕ) (bs : List ℕ) → FirstLine (b ∷ bs)
first_line b [] = by_byte b [] (last_plain b)
first_line b (c ∷ cs) = by_byte b (c ∷ cs) (λ plain goes. plain_line b (c ∷ cs) plain goes (first_line c cs))

pub first_line-taken : (bytes : List ℕ) (n : ℕ) → 0 < length bytes → n ≡ line_length bytes
    → lines_of bytes ≡ take n bytes ∷ lines_of (drop n bytes)
unfolding FirstLine
first_line-taken [] n some is = absurd (omega arith)
first_line-taken (b ∷ bs) n some is =
    subst (λ m. lines_of (b ∷ bs) ≡ take m (b ∷ bs) ∷ lines_of (drop m (b ∷ bs))) (sym is) (first_line b bs)
