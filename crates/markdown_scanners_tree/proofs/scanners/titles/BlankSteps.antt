-- Blank lines of a text, byte by byte.
use Rattle.std.proofs.Common.{◌≡◌, ℕ, ◌<◌, ◌&&◌, ◌==◌, ◌≢◌, Bool, true, false, not, List, [], ◌∷◌, ◌++◌, length, drop, refl, ap, ◌∙◌, sym, inl, inr, one-add, arith}
use Rattle.std.specs.List.{concat, list_all, prefix_len}
use Rattle.std.proofs.lemmas.Bool.{cases_Bool, false≢true, or_cases, or_parts, or_left, or_right, and_parts, and_from}
use Rattle.std.proofs.lemmas.Bool.Decides.{nat_tests}
use Rattle.markdown_scanners_tree.specs.Ascii.{backslash}
use Rattle.markdown_scanners_tree.specs.Bytes.{is_line_ending, is_white_space_in_line, is_at_line_end, is_blank}
use Rattle.markdown_scanners_tree.specs.scanners.TextLines.{ends_line, with_first, lines_of}
use Rattle.markdown_scanners_tree.specs.scanners.titles.LinkTitle.{is_filled}
use Rattle.markdown_scanners_tree.specs.scanners.titles.private.TitleFrom.{later_lines_filled}
use Rattle.markdown_scanners_tree.proofs.PrefixLemmas.{both_true}
use Rattle.markdown_scanners_tree.proofs.scanners.text_lines.LineSteps.{lines_joined}

-- A byte that is neither white space nor a line ending, and escapes nothing.
pub record IsMark (b : ℕ) : Type 0 where
  pub no_ending : is_line_ending b ≡ false
  pub no_space : is_white_space_in_line b ≡ false
  pub no_escape : b ≢ backslash

blank_ending : (b : ℕ) (bs : List ℕ) → is_line_ending b ≡ true → is_blank (b ∷ bs) ≡ true
blank_ending b bs ends = rw ends refl

blank_plain : (b : ℕ) (bs : List ℕ) → is_line_ending b ≡ false
    → is_blank (b ∷ bs) ≡ (is_white_space_in_line b && is_blank bs)
blank_plain b bs plain = rw (plain, one-add) refl

-- a byte more at the front of two rests of which both are blank, or neither
same_blank : (b : ℕ) (bs cs : List ℕ) → is_blank bs ≡ is_blank cs → is_blank (b ∷ bs) ≡ is_blank (b ∷ cs)
same_blank b bs cs same = elim (cases_Bool (is_line_ending b)) [
  | inl ends ↦ blank_ending b bs ends ∙ sym (blank_ending b cs ends)
  | inr plain ↦ blank_plain b bs plain
      ∙ (ap (λ x. is_white_space_in_line b && x) same ∙ sym (blank_plain b cs plain))
]

-- a line is blank where a line ending, or nothing, follows its white space
no_ending_of : (b : ℕ) → is_white_space_in_line b ≡ true → is_line_ending b ≡ false
no_ending_of b space = grind (arith, nat_tests)

abbrev pub past_space : List ℕ → List ℕ
past_space bs = drop (prefix_len is_white_space_in_line bs) bs

pub blank_at : (bs : List ℕ) → is_at_line_end (past_space bs) ≡ is_blank bs
blank_at [] = refl
blank_at (b ∷ bs) = elim (cases_Bool (is_white_space_in_line b)) [
  | inl space ↦
      let passed : past_space (b ∷ bs) ≡ past_space bs = rw (space, one-add) refl in
      ap is_at_line_end passed ∙ (blank_at bs
      ∙ sym (blank_plain b bs (no_ending_of b space) ∙ ap (λ x. x && is_blank bs) space))
  | inr other ↦
      let here : past_space (b ∷ bs) ≡ b ∷ bs = rw other refl in
      ap is_at_line_end here ∙ elim (cases_Bool (is_line_ending b)) [
        | inl ends ↦ ends ∙ sym (blank_ending b bs ends)
        | inr plain ↦ plain ∙ sym (blank_plain b bs plain ∙ ap (λ x. x && is_blank bs) other)
      ]
]

marked : (b : ℕ) (bs : List ℕ) → IsMark b → is_blank (b ∷ bs) ≡ false
marked b bs mark = blank_plain b bs mark.no_ending ∙ ap (λ x. x && is_blank bs) mark.no_space

-- what stands after a mark says nothing of the line before it
pub blank_cut : (mark : ℕ) → IsMark mark → (front rest : List ℕ)
    → is_blank (front ++ mark ∷ rest) ≡ is_blank (front ++ mark ∷ [])
blank_cut mark is [] rest = marked mark rest is ∙ sym (marked mark [] is)
blank_cut mark is (b ∷ front) rest =
    same_blank b (front ++ mark ∷ rest) (front ++ mark ∷ []) (blank_cut mark is front rest)

pub ends_cut : (b mark : ℕ) (front rest : List ℕ)
    → ends_line (b ∷ (front ++ mark ∷ rest)) ≡ ends_line (b ∷ (front ++ mark ∷ []))
ends_cut b mark [] rest = refl
ends_cut b mark (c ∷ front) rest = refl

pub goes_on : (b : ℕ) (bs : List ℕ) → is_line_ending b ≡ false → ends_line (b ∷ bs) ≡ false
goes_on b bs plain = let parts = or_parts (b == 10) (b == 13) plain in rw (parts.0, parts.1) refl

ending_of : (b : ℕ) (bs : List ℕ) → ends_line (b ∷ bs) ≡ true → is_line_ending b ≡ true
ending_of b bs ends = elim (or_cases (b == 10) _ ends) [
  | inl lf ↦ or_left (b == 10) (b == 13) lf
  | inr cr ↦ or_right (b == 10) (b == 13) (and_parts (b == 13) _ cr).0
]

lines_ended : (b : ℕ) (bs : List ℕ) → ends_line (b ∷ bs) ≡ true → lines_of (b ∷ bs) ≡ (b ∷ []) ∷ lines_of bs
lines_ended b bs ends = rw ends refl

lines_gone_on : (b : ℕ) (bs : List ℕ) → ends_line (b ∷ bs) ≡ false
    → lines_of (b ∷ bs) ≡ with_first b (lines_of bs)
lines_gone_on b bs goes = rw goes refl

-- whether the first line is blank, or there is none
abbrev first_is_blank : List (List ℕ) → Bool
first_is_blank [] = true
first_is_blank (line ∷ lines) = is_blank line

first_blank : (bs : List ℕ) → first_is_blank (lines_of bs) ≡ is_blank bs
first_blank [] = refl
first_blank (b ∷ bs) = elim (cases_Bool (ends_line (b ∷ bs))) [
  | inl ends ↦ ap first_is_blank (lines_ended b bs ends)
      ∙ (blank_ending b [] (ending_of b bs ends) ∙ sym (blank_ending b bs (ending_of b bs ends)))
  | inr goes ↦ ap first_is_blank (lines_gone_on b bs goes) ∙ go (lines_of bs) (first_blank bs)
] where
  go : (lines : List (List ℕ)) → first_is_blank lines ≡ is_blank bs
      → first_is_blank (with_first b lines) ≡ is_blank (b ∷ bs)
  go [] same = same_blank b [] bs same
  go (line ∷ lines) same = same_blank b line bs same

-- a byte that ends no line, and one after which a line begins that is not blank
pub filled_on : (b : ℕ) (bs : List ℕ) → ends_line (b ∷ bs) ≡ false
    → later_lines_filled (b ∷ bs) ≡ later_lines_filled bs
filled_on b bs goes =
    ap (λ lines. list_all is_filled (drop 1 lines)) (lines_gone_on b bs goes) ∙ go (lines_of bs) where
      go : (lines : List (List ℕ))
          → list_all is_filled (drop 1 (with_first b lines)) ≡ list_all is_filled (drop 1 lines)
      go [] = refl
      go (line ∷ lines) = refl

pub filled_ended : (b : ℕ) (bs : List ℕ) → ends_line (b ∷ bs) ≡ true → is_blank bs ≡ false
    → later_lines_filled (b ∷ bs) ≡ later_lines_filled bs
filled_ended b bs ends filled =
    ap (λ lines. list_all is_filled (drop 1 lines)) (lines_ended b bs ends)
    ∙ go (lines_of bs) (first_blank bs ∙ filled) where
      go : (lines : List (List ℕ)) → first_is_blank lines ≡ false
          → list_all is_filled lines ≡ list_all is_filled (drop 1 lines)
      go [] first = refl
      go (line ∷ lines) first = ap (λ x. not x && list_all is_filled lines) first

-- a byte after which a blank line begins
pub not_filled : (b : ℕ) (bs : List ℕ) → ends_line (b ∷ bs) ≡ true → is_blank bs ≡ true → 0 < length bs
    → later_lines_filled (b ∷ bs) ≡ true → ⊥
not_filled b bs ends blank some filled =
    go (lines_of bs) (first_blank bs ∙ blank) (ap length (lines_joined bs))
    (sym (ap (λ lines. list_all is_filled (drop 1 lines)) (lines_ended b bs ends)) ∙ filled) where
      go : (lines : List (List ℕ)) → first_is_blank lines ≡ true → length (concat lines) ≡ length bs
          → list_all is_filled lines ≡ true → ⊥
      go [] first joined all = absurd (omega (arith, joined, some))
      go (line ∷ lines) first joined all =
          false≢true (sym (ap not first) ∙ (both_true (is_filled line) (list_all is_filled lines) all).0)

-- after a mark each line is filled where each but the first is
pub all_filled : (b : ℕ) (bs : List ℕ) → IsMark b → later_lines_filled bs ≡ true
    → list_all is_filled (lines_of (b ∷ bs)) ≡ true
all_filled b bs mark filled =
    ap (list_all is_filled) (lines_gone_on b bs (goes_on b bs mark.no_ending)) ∙ go (lines_of bs) filled where
      go : (lines : List (List ℕ)) → list_all is_filled (drop 1 lines) ≡ true
          → list_all is_filled (with_first b lines) ≡ true
      go [] later = and_from (is_filled (b ∷ [])) true (ap not (marked b [] mark)) refl
      go (line ∷ lines) later =
          and_from (is_filled (b ∷ line)) (list_all is_filled lines) (ap not (marked b line mark)) later

pub later_filled : (b : ℕ) (bs : List ℕ) → IsMark b → list_all is_filled (lines_of (b ∷ bs)) ≡ true
    → later_lines_filled bs ≡ true
later_filled b bs mark filled =
    go (lines_of bs) (sym (ap (list_all is_filled) (lines_gone_on b bs (goes_on b bs mark.no_ending))) ∙ filled) where
      go : (lines : List (List ℕ)) → list_all is_filled (with_first b lines) ≡ true
          → list_all is_filled (drop 1 lines) ≡ true
      go [] all = refl
      go (line ∷ lines) all = (both_true (is_filled (b ∷ line)) (list_all is_filled lines) all).1
