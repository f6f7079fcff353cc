-- List items. (CommonMark 0.31.2, section 5.2)
use Rattle.std.specs.Prelude.{ℕ, List, [], ◌∷◌, ◌++◌, ◌≡◌, ◌+◌, ◌≤◌, ◌<◌, length, IsTrue}
use Rattle.std.specs.List.{list_all}
use Rattle.markdown_scanners_tree.specs.Bytes.{is_digit, IsBlankLine, NoBlankLine}
use Rattle.markdown_scanners_tree.specs.scanners.Indent.{IsIndent}
use Rattle.markdown_scanners_tree.specs.scanners.list_items.ListMarker.{is_bullet, is_delimiter}
use Rattle.std.specs.Str.Parse.{digits_value}

-- A list marker, its last byte and the number that it starts at: a bullet, which starts at 0, or
-- one to nine digits and a delimiter.
pub data IsListMarker : List ℕ → ℕ → ℕ → Type 0 where
  bullet : (b : ℕ) → IsTrue (is_bullet b) → IsListMarker (b ∷ []) b 0
  ordered : (digits : List ℕ) (delimiter : ℕ) → 1 ≤ length digits → length digits ≤ 9
      → IsTrue (list_all is_digit digits) → IsTrue (is_delimiter delimiter)
      → IsListMarker (digits ++ delimiter ∷ []) delimiter (digits_value 10 digits)

-- What an item's first line has after its marker, with how many bytes and columns of it belong to
-- the indent:
-- no byte and one column where it is blank, one of each where more than four columns of space
-- stand there, else all that space, of which there is some.
pub data IsItemSpace (rest : List ℕ) : ℕ → ℕ → Type 0 where
  blank : (n : ℕ) → IsBlankLine rest n → IsItemSpace rest 0 1
  indented_code : (offset space : ℕ) → NoBlankLine rest → IsIndent rest 5 offset space → 4 < space
      → IsItemSpace rest 1 1
  text : (offset space : ℕ) → NoBlankLine rest → IsIndent rest 5 offset space → 0 < space → space ≤ 4
      → IsItemSpace rest offset space

-- A list item begins here: a marker and what follows it, `n` bytes together and `indent` columns.
pub record IsListItem (bytes : List ℕ) (n delimiter start indent : ℕ) : Type 0 where
  pub marker : List ℕ
  pub rest : List ℕ
  pub offset : ℕ
  pub space : ℕ
  pub parts : bytes ≡ marker ++ rest
  pub is_marker : IsListMarker marker delimiter start
  pub is_space : IsItemSpace rest offset space
  pub counted : n ≡ length marker + offset
  pub columns_are : indent ≡ length marker + space
