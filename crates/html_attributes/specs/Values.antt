-- What the values of attributes mean. (HTML Living Standard, section 13.1.2.3; CommonMark 0.31.2, section 2.5)
use Rattle.std.specs.Prelude.{ℕ, ◌≡◌, ◌⊎◌, List, [], ◌∷◌, ◌++◌}
use Rattle.std.specs.Str.Lossy.{utf8_lossy}
use Rattle.markdown_scanners_tree.specs.scanners.entities.CharacterReference.{Lookup}
use Rattle.markdown_scanners_tree.specs.scanners.unescaping.Unescaping.{Piece, Fits, IsAmpersandReference, IsItself, joined_meanings}

-- a character reference at the front of the value means its text, and another byte itself
abbrev pub IsFirstMeaning : Lookup → List ℕ → Piece → Type 0
IsFirstMeaning known value it =
    IsAmpersandReference known it.source it.meaning
    ⊎ (¬ (Fits (IsAmpersandReference known) value) × IsItself it.source it.meaning)

-- The value falls into these.
abbrev pub AreMeanings : Lookup → List ℕ → List Piece → Type 0
AreMeanings known value [] = value ≡ []
AreMeanings known value (it ∷ later) =
    (rest : List ℕ) × (value ≡ it.source ++ rest) × IsFirstMeaning known value it × AreMeanings known rest later

-- The value means this text; what is not UTF-8 is U+FFFD.
pub record IsMeaning (known : Lookup) (value text : List ℕ) : Type 0 where
  pub pieces : List Piece
  pub are_meanings : AreMeanings known value pieces
  pub is_joined : text ≡ utf8_lossy (joined_meanings pieces)
