-- List markers, the number of their digits, and the space after them.
use Rattle.std.proofs.Common.{◌≡◌, ℕ, zero, suc, ◌+◌, ◌<◌, ◌≤◌, Bool, true, false, cond, List, [], ◌∷◌, ◌++◌, length, take, drop, get_or, refl, sym, ap, ◌∙◌, arith, append_assoc}
use Rattle.std.specs.List.{prefix_len, list_all}
use Rattle.std.proofs.lemmas.Bool.Decides.{nat_tests}
use Rattle.std.proofs.lemmas.List.{take-append-drop, length-append, length-take, length-take-le, take_more}
use Rattle.std.proofs.lemmas.List.Folds.{length-prefix_len}
use Rattle.std.proofs.Math.Seq.{drop-append_seam}
use Rattle.markdown_scanners_tree.specs.Bytes.{begins_with, is_digit, IsBlankLine}
use Rattle.markdown_scanners_tree.specs.scanners.Indent.{IsIndent}
use Rattle.markdown_scanners_tree.specs.scanners.list_items.ListMarker.{is_bullet, is_delimiter}
use Rattle.markdown_scanners_tree.specs.scanners.list_items.ListItem.{IsListMarker, bullet, ordered, IsItemSpace, blank, indented_code, text}
use Rattle.std.specs.Str.Parse.{AllDigits, digits_value}
use Rattle.std.specs.Int.{IsInRange}
use Rattle.std.proofs.lemmas.Str.{digit_value_digit}
use Rattle.markdown_scanners_tree.proofs.PrefixLemmas.{both_true, list_all-prefix, prefix_len-parts}
use Rattle.markdown_scanners_tree.proofs.scanners.indent.IndentLemmas.{one_indent}

-- how many bytes a list marker at the front has, if one stands there
abbrev pub marker_length : List ℕ → ℕ
marker_length bytes = cond (begins_with is_bullet bytes) 1 (prefix_len is_digit bytes + 1)

delimiter_no_digit : (b : ℕ) → is_delimiter b ≡ true → is_digit b ≡ false
delimiter_no_digit b is = grind (arith, nat_tests)

digit_no_bullet : (b : ℕ) → is_digit b ≡ true → is_bullet b ≡ false
digit_no_bullet b is = grind (arith, nat_tests)

-- what stands before and at the delimiter of an ordered list marker
pub ordered-parts : (digits : List ℕ) (delimiter : ℕ) (rest : List ℕ) → 1 ≤ length digits
    → list_all is_digit digits ≡ true → is_delimiter delimiter ≡ true
    → (begins_with is_bullet ((digits ++ delimiter ∷ []) ++ rest) ≡ false)
    × (prefix_len is_digit ((digits ++ delimiter ∷ []) ++ rest) ≡ length digits)
    × (drop (length digits) ((digits ++ delimiter ∷ []) ++ rest) ≡ delimiter ∷ rest)
ordered-parts [] delimiter rest one all is = absurd (omega (arith, one))
ordered-parts (d ∷ digits) delimiter rest one all is =
    let joined : ((d ∷ digits) ++ delimiter ∷ []) ++ rest ≡ (d ∷ digits) ++ (delimiter ∷ rest) =
    append_assoc (d ∷ digits) (delimiter ∷ []) rest in (
      digit_no_bullet d (both_true (is_digit d) (list_all is_digit digits) all).0,
      ap (prefix_len is_digit) joined
          ∙ prefix_len-parts is_digit (d ∷ digits) (delimiter ∷ rest) all (delimiter_no_digit delimiter is),
      ap (drop (length (d ∷ digits))) joined ∙ drop-append_seam (d ∷ digits) (delimiter ∷ rest),
    )

pub marker-length : (marker : List ℕ) (delimiter start : ℕ) (rest : List ℕ) → IsListMarker marker delimiter start
    → marker_length (marker ++ rest) ≡ length marker
marker-length marker delimiter start rest (bullet b is) = rw is refl
marker-length marker delimiter start rest (ordered digits d one few all is) =
    let at = ordered-parts digits d rest one all is in
    rw at.0 (omega (arith, at.1, length-append digits (d ∷ [])))

-- a marker where no bullet stands: one to nine digits and a delimiter
ordered-only : (bytes marker : List ℕ) (delimiter start : ℕ) (rest : List ℕ) → bytes ≡ marker ++ rest
    → begins_with is_bullet bytes ≡ false → IsListMarker marker delimiter start
    → (1 ≤ prefix_len is_digit bytes) × (prefix_len is_digit bytes ≤ 9)
    × (begins_with is_delimiter (drop (prefix_len is_digit bytes) bytes) ≡ true)
ordered-only bytes marker delimiter start rest parts no_bullet (bullet b is) =
    absurd (let begins = rw (parts, is) at no_bullet in cc)
ordered-only bytes marker delimiter start rest parts no_bullet (ordered digits d one few all is) =
    let at = ordered-parts digits d rest one all is in
    let run : prefix_len is_digit bytes ≡ length digits = ap (prefix_len is_digit) parts ∙ at.1 in
    let after : drop (prefix_len is_digit bytes) bytes ≡ d ∷ rest =
    ap (λ n. drop n bytes) run ∙ ap (drop (length digits)) parts ∙ at.2 in
    (omega (arith, run, one), omega (arith, run, few), rw after is)

pub ordered-scanned : (bytes : List ℕ) (n : ℕ) → n ≡ prefix_len is_digit bytes → 1 ≤ n → n ≤ 9 → n < length bytes
    → is_delimiter (get_or bytes n 0) ≡ true
    → IsListMarker (take (n + 1) bytes) (get_or bytes n 0) (digits_value 10 (take n bytes))
ordered-scanned bytes n run one few inside is =
    let counted : length (take n bytes) ≡ n = rw run (length-prefix_len is_digit bytes) in
    let all : list_all is_digit (take n bytes) ≡ true = rw run (list_all-prefix is_digit bytes) in
    rw (take_more bytes n 0 inside)
    (ordered (take n bytes) (get_or bytes n 0) (omega (arith, counted, one)) (omega (arith, counted, few)) all is)

pub begins-at : (p : ℕ → Bool) (bytes : List ℕ) (n : ℕ) → begins_with p (drop n bytes) ≡ true
    → (n < length bytes) × (p (get_or bytes n 0) ≡ true)
begins-at p [] zero begins = cc
begins-at p [] (suc n) begins = cc
begins-at p (b ∷ bytes) zero begins = (omega arith, begins)
begins-at p (b ∷ bytes) (suc n) begins = let later = begins-at p bytes n begins in (omega (arith, later.0), later.1)

-- what a marker at the front says of its digits, where no bullet stands there
pub ordered-taken : (bytes : List ℕ) (k delimiter start n : ℕ) → n ≡ prefix_len is_digit bytes
    → begins_with is_bullet bytes ≡ false → IsListMarker (take k bytes) delimiter start
    → (1 ≤ n) × (n ≤ 9) × (n < length bytes) × (is_delimiter (get_or bytes n 0) ≡ true)
ordered-taken bytes k delimiter start n run no_bullet marker =
    let only = ordered-only bytes (take k bytes) delimiter start (drop k bytes)
    (sym (take-append-drop k bytes)) no_bullet marker in
    let at = begins-at is_delimiter bytes n (ap (λ m. begins_with is_delimiter (drop m bytes)) run ∙ only.2) in
    (omega (arith, run, only.0), omega (arith, run, only.1), at.0, at.1)

-- the rest of a line item is what follows the marker
pub item-rest : (bytes : List ℕ) (width delimiter start : ℕ) → width ≤ length bytes
    → IsListMarker (take width bytes) delimiter start → (marker rest : List ℕ) (delimiter' start' : ℕ)
    → bytes ≡ marker ++ rest
    → IsListMarker marker delimiter' start' → rest ≡ drop width bytes
item-rest bytes width delimiter start inside is marker rest delimiter' start' parts is' =
    let here : marker_length bytes ≡ length (take width bytes) = ap marker_length (sym (take-append-drop width bytes))
    ∙ marker-length (take width bytes) delimiter start (drop width bytes) is in
    let there : marker_length bytes ≡ length marker =
    ap marker_length parts ∙ marker-length marker delimiter' start' rest is' in
    let counted : length marker ≡ width = sym there ∙ here ∙ length-take-le width bytes inside in
    sym (ap (λ n. drop n bytes) (sym counted) ∙ ap (drop (length marker)) parts ∙ drop-append_seam marker rest)

pub all_digits : (digits : List ℕ) → list_all is_digit digits ≡ true → AllDigits 10 digits
all_digits [] all = tt
all_digits (d ∷ digits) all =
    let both = both_true (is_digit d) (list_all is_digit digits) all in
    let in_range : IsInRange 48 57 d = (grind (arith, nat_tests), grind (arith, nat_tests)) in
    (omega (arith, digit_value_digit d in_range, in_range.1), all_digits digits both.1)

-- an indent of no column belongs to no item, unless its line is blank
pub item_space-none : (rest : List ℕ) (offset : ℕ) → ((n : ℕ) → ¬ IsBlankLine rest n) → IsIndent rest 5 offset 0
    → (at space : ℕ) → ¬ IsItemSpace rest at space
item_space-none rest offset none indent at space (blank n line) = none n line
item_space-none rest offset none indent at space (indented_code p s not_blank other deep) =
    let same : 0 ≡ s = ap (λ (r : ℕ × ℕ). r.1) (one_indent rest 5 (offset, 0) (p, s) indent other) in
    omega (arith, same, deep)
item_space-none rest offset none indent at space (text p s not_blank other some few) =
    let same : 0 ≡ s = ap (λ (r : ℕ × ℕ). r.1) (one_indent rest 5 (offset, 0) (p, s) indent other) in
    omega (arith, same, some)

pub bullet-scanned : (bytes : List ℕ) → begins_with is_bullet bytes ≡ true
    → IsListMarker (take 1 bytes) (get_or bytes 0 0) 0
bullet-scanned [] begins = cc
bullet-scanned (b ∷ bytes) begins = bullet b begins

-- a list marker has a byte at least
marker_filled : (marker : List ℕ) (delimiter start : ℕ) → IsListMarker marker delimiter start → 0 < length marker
marker_filled marker delimiter start (bullet b is) = omega arith
marker_filled marker delimiter start (ordered digits d one few all is) =
    omega (arith, length-append digits (d ∷ []))

pub width_filled : (bytes : List ℕ) (width delimiter start : ℕ) → IsListMarker (take width bytes) delimiter start
    → 0 < width
width_filled bytes width delimiter start is =
    omega (arith, marker_filled (take width bytes) delimiter start is, length-take width bytes)
