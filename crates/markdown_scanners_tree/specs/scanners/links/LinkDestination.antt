-- Link destinations. (CommonMark 0.31.2, section 6.3, links)
use Rattle.std.specs.Prelude.{ℕ, Bool, true, false, ◌||◌, ◌==◌, not, nat_lt, nat_le, List, [], ◌∷◌, ◌++◌, ◌≡◌, ◌≢◌, ◌≤◌, ◌+◌, ◌⊎◌, ◌-◌, length, take, count_by, slice_range, IsTrue}
use Rattle.std.specs.List.{list_all, concat}
use Rattle.markdown_scanners_tree.specs.Ascii.{space, left_parenthesis, right_parenthesis, less_than_sign, greater_than_sign}
use Rattle.markdown_scanners_tree.specs.Bytes.{is_line_ending}
use Rattle.markdown_scanners_tree.specs.scanners.Escapes.{units}

-- the unit is this single byte
abbrev pub is_single : ℕ → List ℕ → Bool
is_single b [] = false
is_single b (c ∷ []) = c == b
is_single b (c ∷ d ∷ ds) = false

-- what may stand between `<` and `>`: no line ending, no unescaped `<` or `>`
abbrev pub stands_pointed : List ℕ → Bool
stands_pointed [] = false
stands_pointed (b ∷ []) = not (is_line_ending b || b == less_than_sign || b == greater_than_sign)
stands_pointed (b ∷ c ∷ cs) = true

-- n bytes in units without line endings, `<` and `>` stand before a single `>`.
pub record IsPointedFrom (after : List ℕ) (n : ℕ) : Type 0 where
  pub inner : List (List ℕ)
  pub more : List (List ℕ)
  pub splits : units after ≡ inner ++ (greater_than_sign ∷ []) ∷ more
  pub each_stands : IsTrue (list_all stands_pointed inner)
  pub n_is_length : n ≡ length (concat inner)

-- The text begins with `<`: the destination lies between it and the first unescaped `>`, and
-- `taken` counts both.
pub record IsPointedDestination (text : List ℕ)
    (taken : ℕ) (destination : List ℕ) : Type 0 where
  pub after : List ℕ
  pub n : ℕ
  pub opens : text ≡ less_than_sign ∷ after
  pub pointed : IsPointedFrom after n
  pub with_brackets : taken ≡ n + 2
  pub slice : destination ≡ slice_range text 1 (taken - 1)

-- what a bare destination is made of: no byte up to space, so no ASCII control character but 0x7F
abbrev pub stands_bare : List ℕ → Bool
stands_bare [] = false
stands_bare (b ∷ []) = nat_lt space b
stands_bare (b ∷ c ∷ cs) = true

abbrev pub opening_count : List (List ℕ) → ℕ
opening_count us = count_by (is_single left_parenthesis) us

abbrev pub closing_count : List (List ℕ) → ℕ
closing_count us = count_by (is_single right_parenthesis) us

-- After `depth` open parentheses, at each offset of the units from none to `most` are open, and
-- none at the end.
pub record IsBalanced (most depth : ℕ) (us : List (List ℕ)) : Type 0 where
  pub never_below : (k : ℕ) → k ≤ length us
      → closing_count (take k us) ≤ depth + opening_count (take k us)
  pub never_above : (k : ℕ) → k ≤ length us
      → depth + opening_count (take k us) ≤ most + closing_count (take k us)
  pub closed : depth + opening_count us ≡ closing_count us

-- what may follow: the end, a byte up to space, an unmatched `)`
abbrev pub ends_bare : List (List ℕ) → Bool
ends_bare [] = true
ends_bare ([] ∷ us) = false
ends_bare ((b ∷ []) ∷ us) = nat_le b space || b == right_parenthesis
ends_bare ((b ∷ c ∷ cs) ∷ us) = false

-- The text begins with a bare destination of n bytes, read after `depth` open parentheses: units
-- above space, balanced, up to the end, space or an unmatched `)`.
pub record IsBareFrom (most depth : ℕ) (text : List ℕ) (n : ℕ) : Type 0 where
  pub inner : List (List ℕ)
  pub more : List (List ℕ)
  pub splits : units text ≡ inner ++ more
  pub each_stands : IsTrue (list_all stands_bare inner)
  pub balanced : IsBalanced most depth inner
  pub ends : IsTrue (ends_bare more)
  pub n_is_length : n ≡ length (concat inner)

-- The text does not begin with `<`, and the destination is bare, with parentheses at most `most`
-- deep.
pub record IsBareDestination (most : ℕ) (text : List ℕ)
    (taken : ℕ) (destination : List ℕ) : Type 0 where
  pub unpointed : (after : List ℕ) → text ≢ less_than_sign ∷ after
  pub bare : IsBareFrom most 0 text taken
  pub slice : destination ≡ take taken text

-- The text begins with a link destination of `taken` bytes.
abbrev pub IsLinkDestination : ℕ → List ℕ → ℕ → List ℕ → Type 0
IsLinkDestination most text taken destination =
    IsPointedDestination text taken destination ⊎ IsBareDestination most text taken destination

-- The offsets of its own bytes among those that it takes: all of them, or all but the two brackets.
abbrev pub StandsInside : ℕ → ℕ → ℕ → Type 0
StandsInside taken start end =
    ((start ≡ 0) × (end ≡ taken)) ⊎ ((start ≡ 1) × (end + 1 ≡ taken))
