-- A blank line ends where its spaces and tabs do.
use Rattle.std.proofs.Common.{ℕ, true, false, one-add, ◌==◌, ◌≡◌, List, [], ◌∷◌, drop, is_some, refl, ap, ◌∙◌, arith}
use Rattle.std.specs.List.{list_all, prefix_len}
use Rattle.std.proofs.lemmas.Bool.Decides.{nat_tests}
use Rattle.markdown_scanners_tree.specs.Bytes.{begins_with, is_line_ending, is_space_or_tab, is_white_space_in_line, line_ending, line_head}
use Rattle.markdown_scanners_tree.specs.Bytes.{is_blank as is_white}
use Rattle.markdown_scanners_tree.proofs.PrefixLemmas.{list_all-implies}
use Rattle.markdown_scanners_tree.proofs.line.ColumnLemmas.{bool_cases}
use Rattle.markdown_scanners_tree.proofs.line.WrittenLemmas.{head-cons}
use Rattle.markdown_blocks.specs.blank_lines.BlankLines.{is_blank}

-- a line ending stands there
ends_here : (b : ℕ) (bs : List ℕ) → is_line_ending b ≡ true → is_some (line_ending (b ∷ bs)) ≡ true
ends_here b bs ends =
    bool_cases (b == 10)
    (λ lf. rw lf refl)
    (λ other. let cr : (b == 13) ≡ true = rw other at ends in
    bool_cases (begins_with (λ c. c == 10) bs) (λ both. rw (other, cr, both) refl) (λ alone. rw (other, cr, alone) refl))

goes_on_here : (b : ℕ) (bs : List ℕ) → is_line_ending b ≡ false → is_some (line_ending (b ∷ bs)) ≡ false
goes_on_here b bs goes =
    let lf : (b == 10) ≡ false = grind (arith, nat_tests) in
    let cr : (b == 13) ≡ false = grind (arith, nat_tests) in
    rw (lf, cr) refl

pub blank_by : (line : List ℕ) → is_blank line ≡ is_some (line_ending (drop (prefix_len is_space_or_tab line) line))
blank_by [] = refl
blank_by (b ∷ bs) =
    bool_cases (is_line_ending b)
    (λ ends. let word : is_space_or_tab b ≡ false = grind (arith, nat_tests) in
    rw ends (rw word (let there = ends_here b bs ends in cc)))
    (λ goes. bool_cases (is_space_or_tab b)
    (λ space. ap (list_all is_space_or_tab) (head-cons b bs goes) ∙ rw (space, one-add) (blank_by bs))
    (λ word. ap (list_all is_space_or_tab) (head-cons b bs goes) ∙ rw word (let none = goes_on_here b bs goes in cc)))

-- it holds white space alone
space_is_white : (b : ℕ) → is_space_or_tab b ≡ true → is_white_space_in_line b ≡ true
space_is_white b is = grind (arith, nat_tests)

pub blank_is_white : (line : List ℕ) → is_blank line ≡ true → is_white line ≡ true
blank_is_white line blank = list_all-implies is_space_or_tab is_white_space_in_line space_is_white (line_head line) blank
