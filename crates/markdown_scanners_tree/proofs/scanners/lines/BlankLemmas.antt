-- Line endings, heads of lines and blank lines.
use Rattle.std.proofs.Common.{subst, ◌≡◌, ℕ, ◌+◌, Bool, true, false, not, cond, List, [], ◌∷◌, ◌++◌, length, take, drop, refl, sym, ap, ◌∙◌, arith, inl, inr, nat_eq, Some, None}
use Rattle.std.specs.List.{prefix_len, list_all}
use Rattle.std.proofs.lemmas.List.{take-append-drop}
use Rattle.std.proofs.lemmas.List.Folds.{length-prefix_len}
use Rattle.std.proofs.lemmas.Bool.{cases_Bool, eqb-true}
use Rattle.std.proofs.lemmas.Bool.Decides.{nat_tests}
use Rattle.std.proofs.Math.Seq.{drop-append_seam, take-append_seam}
use Rattle.markdown_scanners_tree.specs.Bytes.{begins_with, is_white_space_in_line, is_line_ending, line_ending, line_head, line_length, IsBlankLine, is_blank, blank_line}
use Rattle.markdown_scanners_tree.proofs.PrefixLemmas.{list_all-prefix, list_all-implies, begins_with-after_prefix, prefix_len-parts}

-- a line ending does not begin with white space in the line, nor with any byte but LF and CR
pub first-line_ending : (p : ℕ → Bool) → p 10 ≡ false → p 13 ≡ false → (rest : List ℕ) (ending : ℕ)
    → line_ending rest ≡ Some ending → begins_with p rest ≡ false
first-line_ending p lf cr [] ending h = refl
first-line_ending p lf cr (b ∷ bs) ending h =
    elim (cases_Bool (nat_eq b 10)) [
      | inl lf_is ↦ rw (eqb-true b 10 lf_is) lf
      | inr no_lf ↦ elim (cases_Bool (nat_eq b 13)) [
        | inl cr_is ↦ rw (eqb-true b 13 cr_is) cr
        | inr no_cr ↦ absurd (let refused = rw (no_lf, no_cr) at h in cc)
      ]
    ]

-- a byte that ends no line
abbrev pub ends_no_line : ℕ → Bool
ends_no_line b = not (is_line_ending b)

-- what ends the head of a line is a line ending
pub line_ending-exists : (rest : List ℕ) → begins_with ends_no_line rest ≡ false
    → (ending : ℕ) × (line_ending rest ≡ Some ending)
line_ending-exists [] stop = (0, refl)
line_ending-exists (b ∷ bytes) stop =
    elim (cases_Bool (nat_eq b 10)) [
      | inl lf ↦ (1, rw lf refl)
      | inr no_lf ↦ elim (cases_Bool (nat_eq b 13)) [
        | inl cr ↦ elim (cases_Bool (begins_with (λ c. nat_eq c 10) bytes)) [
          | inl then_lf ↦ (2, rw (no_lf, cr, then_lf) refl)
          | inr alone ↦ (1, rw (no_lf, cr, alone) refl)
        ]
        | inr no_cr ↦ absurd (let goes_on = rw (no_lf, no_cr) at stop in cc)
      ]
    ]

-- bytes that end no line, before a line ending, are the head
pub head_parts : (prefix rest : List ℕ) (ending : ℕ) → list_all ends_no_line prefix ≡ true
    → line_ending rest ≡ Some ending → prefix_len ends_no_line (prefix ++ rest) ≡ length prefix
head_parts prefix rest ending all ends =
    prefix_len-parts ends_no_line prefix rest all (first-line_ending ends_no_line refl refl rest ending ends)

line_head-parts : (prefix rest : List ℕ) (ending : ℕ) → list_all ends_no_line prefix ≡ true
    → line_ending rest ≡ Some ending → line_head (prefix ++ rest) ≡ prefix
line_head-parts prefix rest ending all ends =
    rw (head_parts prefix rest ending all ends) (take-append_seam prefix rest)

pub line_length-parts : (prefix rest : List ℕ) (ending : ℕ) → list_all ends_no_line prefix ≡ true
    → line_ending rest ≡ Some ending → line_length (prefix ++ rest) ≡ length prefix + ending
line_length-parts prefix rest ending all ends =
    let at = head_parts prefix rest ending all ends in
    rw (at, take-append_seam prefix rest, drop-append_seam prefix rest, ends) refl

abbrev rest_after_space : List ℕ → List ℕ
rest_after_space bytes = drop (prefix_len is_white_space_in_line bytes) bytes

pub IsBlankLine-found : (bytes : List ℕ) (ending : ℕ) → line_ending (rest_after_space bytes) ≡ Some ending
    → IsBlankLine bytes (prefix_len is_white_space_in_line bytes + ending)
IsBlankLine-found bytes ending h = record {
  space = take (prefix_len is_white_space_in_line bytes) bytes;
  rest = rest_after_space bytes;
  ending = ending;
  parts = sym (take-append-drop (prefix_len is_white_space_in_line bytes) bytes);
  spaces = list_all-prefix is_white_space_in_line bytes;
  ends = h;
  counted = ap (λ n. n + ending) (sym (length-prefix_len is_white_space_in_line bytes));
}

-- the parts of a blank line are the run of white space and what follows it
pub IsBlankLine-only : (bytes : List ℕ) (n : ℕ) → IsBlankLine bytes n → (ending : ℕ)
    × (line_ending (rest_after_space bytes) ≡ Some ending) × (n ≡ prefix_len is_white_space_in_line bytes + ending)
IsBlankLine-only bytes n line =
    let run : prefix_len is_white_space_in_line (line.space ++ line.rest) ≡ length line.space =
    prefix_len-parts is_white_space_in_line line.space line.rest line.spaces
    (first-line_ending is_white_space_in_line refl refl line.rest line.ending line.ends) in
    rw line.parts (rw run (line.ending, rw (drop-append_seam line.space line.rest) line.ends, line.counted))

space_in_line : (b : ℕ) → is_white_space_in_line b ≡ true → ends_no_line b ≡ true
space_in_line b h = grind (arith, nat_tests)

-- the length of a blank line
pub blank_line-is : (bytes : List ℕ) (n : ℕ) → IsBlankLine bytes n → blank_line bytes ≡ Some n
blank_line-is bytes n line =
    let all = list_all-implies is_white_space_in_line ends_no_line space_in_line line.space line.spaces in
    let head : line_head (line.space ++ line.rest) ≡ line.space =
    line_head-parts line.space line.rest line.ending all line.ends in
    let blank : is_blank bytes ≡ true = rw line.parts (ap (list_all is_white_space_in_line) head ∙ line.spaces) in
    let counted : line_length bytes ≡ n =
    rw line.parts (line_length-parts line.space line.rest line.ending all line.ends) ∙ sym line.counted in
    ap (λ t. cond t (Some (line_length bytes)) None) blank ∙ ap (λ k. Some k) counted

-- a text begins with one blank line at most
pub one_blank_line : (bytes : List ℕ) (n n' : ℕ) → IsBlankLine bytes n → IsBlankLine bytes n' → n ≡ n'
one_blank_line bytes n n' is is' =
    let same : Some n ≡ Some n' = sym (blank_line-is bytes n is) ∙ blank_line-is bytes n' is' in
    cc

-- the test answers the question
pub is_blank-found : (bytes : List ℕ) → (n : ℕ) × IsBlankLine bytes n → is_blank bytes ≡ true
is_blank-found bytes (n, line) = elim (cases_Bool (is_blank bytes)) [
  | inl blank ↦ blank
  | inr other ↦ absurd (let none : blank_line bytes ≡ None = rw other refl in
      let some : Some n ≡ None = sym (blank_line-is bytes n line) ∙ none in cc)
]

pub is_blank-only : (bytes : List ℕ) → is_blank bytes ≡ true → IsBlankLine bytes (line_length bytes)
is_blank-only bytes blank =
    let h = prefix_len ends_no_line bytes in
    let ends = line_ending-exists (drop h bytes) (begins_with-after_prefix ends_no_line bytes) in
    let line : IsBlankLine bytes (length (take h bytes) + ends.0) = record {
      space = take h bytes;
      rest = drop h bytes;
      ending = ends.0;
      parts = sym (take-append-drop h bytes);
      spaces = blank;
      ends = ends.1;
      counted = refl;
    } in
    let some : Some (line_length bytes) ≡ Some (length (take h bytes) + ends.0) =
    sym (ap (λ t. cond t (Some (line_length bytes)) None) blank)
    ∙ blank_line-is bytes (length (take h bytes) + ends.0) line in
    let same : line_length bytes ≡ length (take h bytes) + ends.0 = cc in
    subst (IsBlankLine bytes) (sym same) line

-- and where there is none
pub blank_line-none : (bytes : List ℕ) → ((n : ℕ) → ¬ IsBlankLine bytes n) → blank_line bytes ≡ None
blank_line-none bytes none = elim (cases_Bool (is_blank bytes)) [
  | inl blank ↦ absurd (none (line_length bytes) (is_blank-only bytes blank))
  | inr other ↦ ap (λ t. cond t (Some (line_length bytes)) None) other
]

-- a blank line stands at the front exactly where the test says so
pub ruleset blank_lines = (is_blank-found, is_blank-only)
