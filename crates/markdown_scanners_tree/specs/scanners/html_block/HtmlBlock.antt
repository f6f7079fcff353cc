-- HTML blocks that a known name opens. (CommonMark 0.31.2, section 4.6, start condition 6)
use Rattle.std.specs.Prelude.{ℕ, Bool, true, ◌||◌, ◌&&◌, ◌==◌, List, [], ◌∷◌, ◌++◌, ◌≡◌, ◌⊎◌, map, codes, Contains, IsTrue}
use Rattle.std.specs.List.{AllPass}
use Rattle.std.specs.Char.{to_ascii_lowercase}
use Rattle.markdown_scanners_tree.specs.Ascii.{tab, space, slash, greater_than_sign}
use Rattle.markdown_scanners_tree.specs.Bytes.{begins_with, is_alphanumeric, is_line_ending}

-- the names, in ascending order
abbrev pub block_names : List (List ℕ)
block_names =
    codes "address" ∷ codes "article" ∷ codes "aside" ∷ codes "base" ∷ codes "basefont" ∷ codes "blockquote" ∷
    codes "body" ∷ codes "caption" ∷ codes "center" ∷ codes "col" ∷ codes "colgroup" ∷ codes "dd" ∷
    codes "details" ∷ codes "dialog" ∷ codes "dir" ∷ codes "div" ∷ codes "dl" ∷ codes "dt" ∷
    codes "fieldset" ∷ codes "figcaption" ∷ codes "figure" ∷ codes "footer" ∷ codes "form" ∷ codes "frame" ∷
    codes "frameset" ∷ codes "h1" ∷ codes "h2" ∷ codes "h3" ∷ codes "h4" ∷ codes "h5" ∷
    codes "h6" ∷ codes "head" ∷ codes "header" ∷ codes "hr" ∷ codes "html" ∷ codes "iframe" ∷
    codes "legend" ∷ codes "li" ∷ codes "link" ∷ codes "main" ∷ codes "menu" ∷ codes "menuitem" ∷
    codes "nav" ∷ codes "noframes" ∷ codes "ol" ∷ codes "optgroup" ∷ codes "option" ∷ codes "p" ∷
    codes "param" ∷ codes "search" ∷ codes "section" ∷ codes "summary" ∷ codes "table" ∷ codes "tbody" ∷
    codes "td" ∷ codes "tfoot" ∷ codes "th" ∷ codes "thead" ∷ codes "title" ∷ codes "tr" ∷
    codes "track" ∷ codes "ul" ∷ []

-- The name is one of them, without regard to ASCII case.
abbrev pub IsBlockName : List ℕ → Type 0
IsBlockName name = Contains block_names (map to_ascii_lowercase name)

-- What follows the name is the end, a space, a tab, a line ending, `>` or `/>`.
abbrev pub ends_block_name : List ℕ → Bool
ends_block_name [] = true
ends_block_name (b ∷ bs) =
    b == space || b == tab || is_line_ending b || b == greater_than_sign
    || (b == slash && begins_with (λ c. c == greater_than_sign) bs)

-- After `<` stand an optional `/`, the longest run of letters and digits, which is such a name, and then one of
-- these.
pub record IsBlockStart (bytes : List ℕ) : Type 0 where
  pub closing : List ℕ
  pub name : List ℕ
  pub rest : List ℕ
  pub parts : bytes ≡ closing ++ (name ++ rest)
  pub slash_or_none : (closing ≡ []) ⊎ (closing ≡ codes "/")
  pub letters_and_digits : AllPass is_alphanumeric name
  pub named : IsBlockName name
  pub ended : IsTrue (ends_block_name rest)
