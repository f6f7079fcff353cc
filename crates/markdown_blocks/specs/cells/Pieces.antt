-- The pieces of a row, by what stands between them. (GitHub Flavored Markdown 0.29, section 4.10, tables)
use Rattle.std.specs.Prelude.{ℕ, ◌≤◌, ◌≡◌, ◌≢◌, List, [], ◌∷◌, length, ⊤}
use Rattle.std.specs.List.{AllByRecursion, join_with_byte}
use Rattle.markdown_scanners_tree.specs.Ascii.{space, backslash, vertical_line}
use Rattle.markdown_blocks.specs.blocks.Tables.{separators}

-- the last of the bytes, or this one, which stands before them
abbrev pub last_byte : ℕ → List ℕ → ℕ
last_byte before [] = before
last_byte before (b ∷ bs) = last_byte b bs

-- none of the pieces but the last ends with a backslash
abbrev pub EndPlain : List (List ℕ) → Type 0
EndPlain [] = ⊤
EndPlain (piece ∷ []) = ⊤
EndPlain (piece ∷ next ∷ later) = (last_byte space piece ≢ backslash) × EndPlain (next ∷ later)

-- Joined with pipes they are the row. No pipe separates within one of them, and each between two of them does.
pub record ArePieces (row : List ℕ) (pieces : List (List ℕ)) : Type 0 where
  pub some : 1 ≤ length pieces
  pub joined : join_with_byte vertical_line pieces ≡ row
  pub whole : AllByRecursion (λ piece. separators space piece ≡ 0) pieces
  pub parted : EndPlain pieces
