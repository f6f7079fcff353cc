-- A text begins with one ATX heading at most, and with one underline of a setext heading.
use Rattle.std.proofs.Common.{◌≡◌, ℕ, ◌==◌, List, [], ◌∷◌, get_or, length, sym, ap, subst, ◌∙◌, refl, arith, Some}
use Rattle.std.specs.Prelude.{if◌then◌else◌}
use Rattle.markdown_values.specs.values.Headings.{heading_number}
use Rattle.markdown_values.specs.declared.values.HeadingLevel.{HeadingLevel}
use Rattle.markdown_values.specs.declared.values.HeadingLevel.TheVariants.{H1, H2, H3, H4, H5, H6}
use Rattle.markdown_scanners_tree.specs.Ascii.{equals_sign}
use Rattle.markdown_scanners_tree.specs.Bytes.{IsBlankLine}
use Rattle.markdown_scanners_tree.specs.scanners.Headings.{IsAtxHeading, underline_byte, IsSetextUnderline}
use Rattle.markdown_scanners_tree.proofs.SomeExactlyLemmas.{same_pair}
use Rattle.markdown_scanners_tree.proofs.RunLemmas.{one_begun_run}
use Rattle.markdown_scanners_tree.proofs.scanners.lines.BlankLemmas.{one_blank_line}
use Rattle.markdown_scanners_tree.proofs.scanners.headings.HeadingLemmas.{atx-only}

-- A level is known by its number.
abbrev levels : List HeadingLevel
levels = H1 ∷ H2 ∷ H3 ∷ H4 ∷ H5 ∷ H6 ∷ []

by_number : (level : HeadingLevel) → get_or (H1 ∷ levels) (heading_number level) H1 ≡ level
by_number H1 = refl
by_number H2 = refl
by_number H3 = refl
by_number H4 = refl
by_number H5 = refl
by_number H6 = refl

one_level : (level level' : HeadingLevel) → heading_number level ≡ heading_number level' → level ≡ level'
one_level level level' same =
    sym (by_number level) ∙ (ap (λ n. get_or (H1 ∷ levels) n H1) same ∙ by_number level')

-- a level
pub one_atx_heading : (bytes : List ℕ) (level level' : HeadingLevel) → IsAtxHeading bytes level
    → IsAtxHeading bytes level' → level ≡ level'
one_atx_heading bytes level level' is is' =
    one_level level level' (sym (atx-only bytes level is).0 ∙ (atx-only bytes level' is').0)

-- The byte of an underline tells its level.
by_byte : (level : HeadingLevel) (byte : ℕ) → underline_byte level ≡ Some byte
    → level ≡ (if byte == equals_sign then H1 else H2)
by_byte H1 byte is = let byte_is : equals_sign ≡ byte = cc in
    subst (λ (b : ℕ). H1 ≡ (if b == equals_sign then H1 else H2)) byte_is refl
by_byte H2 byte is = let byte_is : 45 ≡ byte = cc in
    subst (λ (b : ℕ). H2 ≡ (if b == equals_sign then H1 else H2)) byte_is refl
by_byte H3 byte is = cc
by_byte H4 byte is = cc
by_byte H5 byte is = cc
by_byte H6 byte is = cc

-- how many bytes it has, and the level
pub one_underline : (bytes : List ℕ) (n : ℕ) (level : HeadingLevel) (n' : ℕ) (level' : HeadingLevel)
    → IsSetextUnderline bytes n level → IsSetextUnderline bytes n' level'
    → ◌≡◌ {A = ℕ × HeadingLevel} (n, level) (n', level')
one_underline bytes n level n' level' is is' =
    let same =
    one_begun_run bytes is.byte is.run is.rest is'.byte is'.run is'.rest is.is_run is'.is_run is.at_least_one
    is'.at_least_one in
    let blank = one_blank_line is'.rest is.blank is'.blank
    (subst (λ (rest : List ℕ). IsBlankLine rest is.blank) same.2 is.blank_rest) is'.blank_rest in
    same_pair (omega (arith, is.counted, is'.counted, ap length same.1, blank))
    (by_byte level is.byte is.of_level
    ∙ (ap (λ (b : ℕ). if b == equals_sign then H1 else H2) same.0 ∙ sym (by_byte level' is'.byte is'.of_level)))
