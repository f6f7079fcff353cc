-- Link titles. (CommonMark 0.31.2, section 6.3, links)
use Rattle.std.specs.Prelude.{ℕ, Bool, ◌||◌, ◌==◌, not, List, [], ◌∷◌, ◌++◌, ◌≡◌, ◌+◌, length, take, Option, Some, None, IsTrue, if◌then◌else◌}
use Rattle.std.specs.List.{list_all, concat}
use Rattle.markdown_scanners_tree.specs.Ascii.{quotation_mark, apostrophe, left_parenthesis, right_parenthesis}
use Rattle.markdown_scanners_tree.specs.Bytes.{is_blank}
use Rattle.markdown_scanners_tree.specs.scanners.Escapes.{units}
use Rattle.markdown_scanners_tree.specs.scanners.TextLines.{lines_of}
use Rattle.markdown_scanners_tree.specs.scanners.links.LinkDestination.{is_single}

-- what closes a title after what opens it: the same straight quote, or the matching parenthesis
abbrev pub closing_of : ℕ → Option ℕ
closing_of opening =
    if opening == quotation_mark || opening == apostrophe then Some opening
    else if opening == left_parenthesis then Some right_parenthesis
    else None

-- what may stand in a title: neither of these two bytes, unless a backslash escapes it
abbrev pub stands_in_title : ℕ → ℕ → List ℕ → Bool
stands_in_title opening closing unit = not (is_single opening unit || is_single closing unit)

-- a line that is not blank
abbrev pub is_filled : List ℕ → Bool
is_filled line = not (is_blank line)

-- The text begins with a link title of n bytes: what opens it, the units in it, and what closes it. It may span lines,
-- and none of them is blank.
pub record IsLinkTitle (text : List ℕ) (n : ℕ) : Type 0 where
  pub opening : ℕ
  pub closing : ℕ
  pub after : List ℕ
  pub inner : List (List ℕ)
  pub more : List (List ℕ)
  pub opens : text ≡ opening ∷ after
  pub matching : closing_of opening ≡ Some closing
  pub splits : units after ≡ inner ++ (closing ∷ []) ∷ more
  pub each_stands : IsTrue (list_all (stands_in_title opening closing) inner)
  pub n_is_length : n ≡ length (concat inner) + 2
  pub no_blank_line : IsTrue (list_all is_filled (lines_of (take n text)))
