-- Where a text is cut after whole lines, its lines are those of the parts.
use Rattle.std.proofs.Common.{ℕ, zero, suc, Bool, true, false, IsTrue, ◌==◌, List, [], ◌∷◌, ◌++◌, ◌≤◌, ◌≡◌, ◌≢◌, length, take, drop}
use Rattle.std.proofs.Common.{refl, sym, ap, ◌∙◌, inl, inr, arith, append_assoc, append-nil}
use Rattle.std.specs.Prelude.{MatchBool}
use Rattle.std.proofs.lemmas.Bool.{cases_Bool}
use Rattle.std.proofs.lemmas.List.{take_all, drop_all, drop-append-le, length-take-le, take-append-drop}
use Rattle.markdown_scanners_tree.specs.scanners.TextLines.{ends_line, with_first, lines_of}
use Rattle.markdown_blocks.specs.taken.Whole.{surely_ends_line, AreWhole}

-- the last byte of the text, if it has one, ends a line where these bytes follow
unfoldable pub LastEnds : List ℕ → List ℕ → Type 0
LastEnds [] more = Unit
LastEnds (b ∷ []) more = ends_line (b ∷ more) ≡ true
LastEnds (b ∷ c ∷ text) more = LastEnds (c ∷ text) more

pub some_lines : (text : List ℕ) → lines_of text ≡ [] → text ≡ []
some_lines [] none = refl
some_lines (b ∷ bs) none = elim (cases_Bool (ends_line (b ∷ bs))) [
  | inl ends ↦ absurd (ended (rw ends at none))
  | inr goes ↦ absurd (gone_on (lines_of bs) (rw goes at none))
]
  where
    ended : (b ∷ []) ∷ lines_of bs ≡ [] → ⊥
    ended same = cc

    gone_on : (lines : List (List ℕ)) → with_first b lines ≡ [] → ⊥
    gone_on [] same = cc
    gone_on (l ∷ lines) same = cc

with_first-append : (b : ℕ) (lines more : List (List ℕ)) → lines ≢ [] → with_first b (lines ++ more) ≡ with_first b lines ++ more
with_first-append b [] more some = absurd (some refl)
with_first-append b (l ∷ lines) more some = refl

pub alone : (b : ℕ) (more : List ℕ) → ends_line (b ∷ more) ≡ true → ends_line (b ∷ []) ≡ true
alone b more ends = elim (cases_Bool (b == 10)) [
  | inl lf ↦ rw lf refl
  | inr other ↦ elim (cases_Bool (b == 13)) [
    | inl cr ↦ rw (other, cr) refl
    | inr plain ↦ let both : false ≡ true = rw (other, plain) at ends in cc
  ]
]

pub lines_cut : (text more : List ℕ) → LastEnds text more → lines_of (text ++ more) ≡ lines_of text ++ lines_of more
unfolding LastEnds
lines_cut [] more ends = refl
lines_cut (b ∷ []) more ends = rw (ends, alone b more ends) refl
lines_cut (b ∷ c ∷ text) more ends = elim (cases_Bool (ends_line (b ∷ c ∷ text))) [
  | inl here ↦ rw (here) (ap (λ ls. (b ∷ []) ∷ ls) (lines_cut (c ∷ text) more ends))
  | inr goes ↦ rw (goes) (ap (with_first b) (lines_cut (c ∷ text) more ends)
      ∙ with_first-append b (lines_of (c ∷ text)) (lines_of more) (λ none. let same : c ∷ text ≡ [] = some_lines (c ∷ text) none in cc))
]

ends-drop : (n : ℕ) (text more : List ℕ) → LastEnds text more → LastEnds (drop n text) more
unfolding LastEnds
ends-drop zero text more ends = ends
ends-drop (suc n) [] more ends = ends
ends-drop (suc zero) (b ∷ []) more ends = tt
ends-drop (suc (suc n)) (b ∷ []) more ends = tt
ends-drop (suc n) (b ∷ c ∷ text) more ends = ends-drop n (c ∷ text) more ends

surely : (b : ℕ) (bs more : List ℕ) → surely_ends_line (b ∷ bs) ≡ true → ends_line (b ∷ (bs ++ more)) ≡ true
surely b [] more ends = elim (cases_Bool (b == 10)) [
  | inl lf ↦ rw lf refl
  | inr other ↦ elim (cases_Bool (b == 13)) [
    | inl cr ↦ let both : false ≡ true = rw (other, cr) at ends in cc
    | inr plain ↦ let both : false ≡ true = rw (other, plain) at ends in cc
  ]
]
surely b (c ∷ bs) more ends = ends

front_ends : (text more : List ℕ) (count : ℕ) → count ≤ length text
    → ((offset : ℕ) → count ≡ suc offset → surely_ends_line (drop offset text) ≡ true) → LastEnds (take count text) (drop count text ++ more)
unfolding LastEnds
front_ends text more zero within ended = tt
front_ends [] more (suc count) within ended = tt
front_ends (b ∷ bs) more (suc zero) within ended = surely b bs more (ended 0 refl)
front_ends (b ∷ []) more (suc (suc count)) within ended = absurd (omega arith)
front_ends (b ∷ c ∷ text) more (suc (suc count)) within ended =
    front_ends (c ∷ text) more (suc count) (omega arith) (λ offset is. ended (suc offset) (ap suc is))

-- the lines of a text whose front is whole, or whose end is that of the input
pub front_cut : (text more : List ℕ) (count : ℕ) (has_ended : Bool) → MatchBool has_ended (count ≡ length text) (AreWhole text count)
    → (IsTrue has_ended → more ≡ []) → (n : ℕ) → n ≤ count
    → lines_of (drop n text ++ more) ≡ lines_of (drop n (take count text)) ++ lines_of (drop count text ++ more)
front_cut text more count true all none n within =
    let front : take count text ≡ text = take_all count text (omega (arith, all)) in
    let back : drop count text ≡ [] = drop_all count text (omega (arith, all)) in
    rw (none refl, front, back) (ap lines_of (append-nil (drop n text)) ∙ sym (append-nil (lines_of (drop n text))))
front_cut text more count false whole none n within =
    let long : length (take count text) ≡ count = length-take-le count text whole.within in
    ap (λ t. lines_of (t ++ more)) (ap (drop n) (sym (take-append-drop count text)) ∙ drop-append-le n (take count text) (drop count text) (omega arith))
    ∙ ap lines_of (append_assoc (drop n (take count text)) (drop count text) more)
    ∙ lines_cut (drop n (take count text)) (drop count text ++ more) (ends-drop n (take count text) (drop count text ++ more)
    (front_ends text more count whole.within whole.ended))
