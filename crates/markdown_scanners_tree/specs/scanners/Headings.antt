-- The lines of headings. (CommonMark 0.31.2, sections 4.2, ATX headings, and 4.3, setext headings)
use Rattle.std.specs.Prelude.{ℕ, List, ◌++◌, ◌≡◌, ◌+◌, ◌≤◌, length, Option, Some, None, IsTrue, replicate}
use Rattle.markdown_values.specs.values.Headings.{heading_number}
use Rattle.markdown_values.specs.declared.values.HeadingLevel.{HeadingLevel}
use Rattle.markdown_values.specs.declared.values.HeadingLevel.TheVariants.{H1, H2}
use Rattle.markdown_scanners_tree.specs.Ascii.{number_sign, hyphen, equals_sign}
use Rattle.markdown_scanners_tree.specs.Bytes.{is_white_space, ends_or_begins_with, IsBlankLine}
use Rattle.markdown_scanners_tree.specs.scanners.Lines.{IsRunOf}

-- An ATX heading: as many `#` as its level, then white space or the end of the text. (4.2)
pub record IsAtxHeading (bytes : List ℕ) (level : HeadingLevel) : Type 0 where
  pub rest : List ℕ
  pub parts : bytes ≡ replicate (heading_number level) number_sign ++ rest
  pub ends : IsTrue (ends_or_begins_with is_white_space rest)

-- the byte that a setext heading's underline is made of, `=` at level 1 and `-` at level 2
abbrev pub underline_byte : HeadingLevel → Option ℕ
underline_byte H1 = Some equals_sign
underline_byte H2 = Some hyphen
underline_byte _ = None

-- The underline of a setext heading: one or more `=`, or one or more `-`, then the rest of a blank
-- line, n bytes together. (4.3)
pub record IsSetextUnderline (bytes : List ℕ) (n : ℕ) (level : HeadingLevel) : Type 0 where
  pub byte : ℕ
  pub run : List ℕ
  pub rest : List ℕ
  pub blank : ℕ
  pub of_level : underline_byte level ≡ Some byte
  pub is_run : IsRunOf byte bytes run rest
  pub at_least_one : 1 ≤ length run
  pub blank_rest : IsBlankLine rest blank
  pub counted : n ≡ length run + blank
