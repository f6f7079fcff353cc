-- Backslash escapes and character references in a text.
-- (CommonMark 0.31.2, sections 2.4 and 2.5; GFM 0.29, section 4.10, for pipes in tables)
use Rattle.std.specs.Prelude.{ℕ, Bool, true, List, [], ◌∷◌, ◌++◌, ◌≡◌, ◌⊎◌}
use Rattle.std.specs.List.{flat_map}
use Rattle.markdown_scanners_tree.specs.Ascii.{carriage_return, ampersand, backslash, vertical_line}
use Rattle.markdown_scanners_tree.specs.Bytes.{is_punctuation}
use Rattle.markdown_scanners_tree.specs.scanners.entities.CharacterReference.{Lookup, IsReference}

-- a part of a text, and what it means
pub record Piece : Type 0 where
  pub source : List ℕ
  pub meaning : List ℕ

-- in a table: two backslashes and a pipe mean the pipe
abbrev pub IsTablePipe : Bool → List ℕ → List ℕ → Type 0
IsTablePipe in_table source meaning =
    (in_table ≡ true) × (source ≡ backslash ∷ backslash ∷ vertical_line ∷ [])
    × (meaning ≡ vertical_line ∷ [])

-- a backslash and punctuation mean the punctuation
abbrev pub IsBackslashEscape : List ℕ → List ℕ → Type 0
IsBackslashEscape source meaning =
    (p : ℕ) × (is_punctuation p ≡ true) × (source ≡ backslash ∷ p ∷ []) × (meaning ≡ p ∷ [])

-- a character reference from `&` on means its text
abbrev pub IsAmpersandReference : Lookup → List ℕ → List ℕ → Type 0
IsAmpersandReference known source meaning =
    (tail : List ℕ) × (source ≡ ampersand ∷ tail) × IsReference known source meaning

-- CR means nothing
abbrev pub IsDroppedReturn : List ℕ → List ℕ → Type 0
IsDroppedReturn source meaning = (source ≡ carriage_return ∷ []) × (meaning ≡ [])

-- one byte means itself
abbrev pub IsItself : List ℕ → List ℕ → Type 0
IsItself source meaning = (b : ℕ) × (source ≡ b ∷ []) × (meaning ≡ b ∷ [])

-- a relation of sources and meanings fits at the front of the text
abbrev pub Fits : (List ℕ → List ℕ → Type 0) → List ℕ → Type 0
Fits R text = (source rest meaning : List ℕ) × (text ≡ source ++ rest) × R source meaning

-- the cases of a piece, each where none before it fits at the front of the text
abbrev pub IsFirstFit : Bool → Lookup → List ℕ → Piece → Type 0
IsFirstFit in_table known text p =
    IsTablePipe in_table p.source p.meaning
    ⊎ (¬ (Fits (IsTablePipe in_table) text) × (IsBackslashEscape p.source p.meaning
    ⊎ (¬ (Fits IsBackslashEscape text) × (IsAmpersandReference known p.source p.meaning
    ⊎ (¬ (Fits (IsAmpersandReference known) text) × (IsDroppedReturn p.source p.meaning
    ⊎ (¬ (Fits IsDroppedReturn text) × IsItself p.source p.meaning)))))))

-- The text is the join of the pieces, each the first that fits at its offset.
abbrev pub ArePieces : Bool → Lookup → List ℕ → List Piece → Type 0
ArePieces in_table known text [] = text ≡ []
ArePieces in_table known text (p ∷ ps) =
    (rest : List ℕ) × (text ≡ p.source ++ rest) × IsFirstFit in_table known text p
    × ArePieces in_table known rest ps

-- The text falls into pieces.
abbrev pub HasPieces : Bool → Lookup → List ℕ → Type 0
HasPieces in_table known text = (pieces : List Piece) × ArePieces in_table known text pieces

-- The property holds of the pieces of the text, whatever list of pieces it falls into.
abbrev pub ForPieces : Bool → Lookup → List ℕ → (List Piece → Type 0) → Type 0
ForPieces in_table known text P =
    (pieces : List Piece) → ArePieces in_table known text pieces → P pieces

-- the meanings, joined
abbrev pub joined_meanings : List Piece → List ℕ
joined_meanings ps = flat_map (λ p. p.meaning) ps

-- Each piece is one byte that means itself.
abbrev pub AreThemselves : List Piece → Type 0
AreThemselves [] = Unit {0}
AreThemselves (p ∷ ps) = IsItself p.source p.meaning × AreThemselves ps
