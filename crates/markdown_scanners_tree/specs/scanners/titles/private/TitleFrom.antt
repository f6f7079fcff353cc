-- A link title after the byte that opens it.
use Rattle.std.specs.Prelude.{ℕ, Bool, ◌&&◌, List, [], ◌∷◌, ◌++◌, ◌≡◌, length, drop, IsTrue}
use Rattle.std.specs.List.{list_all, concat}
use Rattle.markdown_scanners_tree.specs.Bytes.{is_blank}
use Rattle.markdown_scanners_tree.specs.scanners.Escapes.{units}
use Rattle.markdown_scanners_tree.specs.scanners.TextLines.{ends_line, lines_of}
use Rattle.markdown_scanners_tree.specs.scanners.titles.LinkTitle.{stands_in_title, is_filled}

-- a line ends with the first byte, and the next one is blank
abbrev pub is_before_blank_line : List ℕ → Bool
is_before_blank_line bytes = ends_line bytes && is_blank (drop 1 bytes)

-- no line but the first is blank
abbrev pub later_lines_filled : List ℕ → Bool
later_lines_filled bytes = list_all is_filled (drop 1 (lines_of bytes))

-- n bytes of the title stand before what closes it, and no line that begins among them is blank.
pub record IsTitleFrom (opening closing : ℕ) (after : List ℕ) (n : ℕ) : Type 0 where
  pub inner : List (List ℕ)
  pub more : List (List ℕ)
  pub splits : units after ≡ inner ++ (closing ∷ []) ∷ more
  pub each_stands : IsTrue (list_all (stands_in_title opening closing) inner)
  pub n_is_length : n ≡ length (concat inner)
  pub filled : IsTrue (later_lines_filled (concat inner ++ closing ∷ []))
