-- Metadata blocks at the head of a document: YAML between `---`, or text between `+++`. (No part
-- of CommonMark.)
use Rattle.std.specs.Prelude.{ℕ, Bool, List, ◌∷◌, ◌++◌, ◌≡◌, ◌==◌, ◌||◌, ◌&&◌, ◌+◌, length, Some, IsTrue}
use Rattle.std.specs.List.{list_all}
use Rattle.markdown_scanners_tree.specs.Ascii.{tab, line_feed, form_feed, carriage_return, space, plus_sign, hyphen, full_stop}
use Rattle.markdown_scanners_tree.specs.Bytes.{line_ending, NoBlankLine}
use Rattle.markdown_scanners_tree.specs.scanners.Lines.{IsRunOf}

-- a byte of the closing line of a block that the byte opens: the byte itself, and `.` where it is
-- `-`
abbrev pub is_closing_byte : ℕ → ℕ → Bool
is_closing_byte opening b = b == opening || (opening == hyphen && b == full_stop)

-- A line of exactly three of the byte, then spaces up to the line's end: n bytes, without the line
-- ending.
pub record IsLineOfThree (byte : ℕ) (bytes : List ℕ) (n : ℕ) : Type 0 where
  pub run : List ℕ
  pub rest : List ℕ
  pub spaces : List ℕ
  pub after : List ℕ
  pub is_run : IsRunOf byte bytes run rest
  pub exactly_three : length run ≡ 3
  pub parts : rest ≡ spaces ++ after
  pub spaces_only : IsTrue (list_all (λ b. b == space) spaces)
  pub ending : ℕ
  pub ends : line_ending after ≡ Some ending
  pub counted : n ≡ 3 + length spaces

-- The line at the front closes a block that the byte opens.
pub record IsClosingMetadataBlock (bytes : List ℕ) (opening n : ℕ) : Type 0 where
  pub byte : ℕ
  pub closing : IsTrue (is_closing_byte opening byte)
  pub line : IsLineOfThree byte bytes n

-- A line after the first one closes a block that the byte opens. (A line ends at LF here.)
pub record HasLaterClose (bytes : List ℕ) (opening : ℕ) : Type 0 where
  pub before : List ℕ
  pub after : List ℕ
  pub n : ℕ
  pub later : bytes ≡ before ++ line_feed ∷ after
  pub closed : IsClosingMetadataBlock after opening n

-- a byte that may follow the opening bytes in their line: space, tab, CR, form feed
abbrev pub is_after_opening : ℕ → Bool
is_after_opening b = b == space || b == tab || b == carriage_return || b == form_feed

-- A block's first line: exactly three of the byte and what may follow them, up to an LF. What
-- follows the LF is the body.
pub record IsOpeningLine (byte : ℕ) (bytes body : List ℕ) : Type 0 where
  pub run : List ℕ
  pub rest : List ℕ
  pub after : List ℕ
  pub is_run : IsRunOf byte bytes run rest
  pub exactly_three : length run ≡ 3
  pub parts : rest ≡ after ++ line_feed ∷ body
  pub all_after_opening : IsTrue (list_all is_after_opening after)

-- A metadata block that the byte opens: its first line, a next line that is neither blank (as the
-- end of the text is) nor closes it, and a later line that closes it.
pub record IsBlockOf (byte : ℕ) (bytes : List ℕ) : Type 0 where
  pub body : List ℕ
  pub opening : IsOpeningLine byte bytes body
  pub not_blank : NoBlankLine body
  pub not_closed : (n : ℕ) → ¬ IsClosingMetadataBlock body byte n
  pub closed : HasLaterClose body byte

-- A metadata block of a style that is enabled: `-` opens a block of YAML, `+` one between pluses.
pub record IsMetadataBlock (bytes : List ℕ) (yaml pluses : Bool) (byte : ℕ) : Type 0 where
  pub enabled : IsTrue ((byte == hyphen && yaml) || (byte == plus_sign && pluses))
  pub block : IsBlockOf byte bytes
