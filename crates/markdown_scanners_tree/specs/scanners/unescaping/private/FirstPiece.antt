-- The first piece of a text: its length, how many bytes are dropped at its front, and what stands
-- in for them.
use Rattle.std.specs.Prelude.{ℕ, Bool, false, List, [], ◌∷◌, ◌++◌, ◌≡◌, ◌⊎◌, ◌≤◌, ◌<◌, ◌+◌, ◌-◌, length, drop, slice_index, slice_range, ◌&&◌, ◌||◌, ◌==◌, String}
use Rattle.std.specs.String.{string_bytes, string_len, string_capacity, StringUnchanged}
use Rattle.markdown_scanners_tree.specs.Ascii.{carriage_return, ampersand, backslash, vertical_line}
use Rattle.markdown_scanners_tree.specs.scanners.entities.CharacterReference.{Lookup, StartsWithReference}
use Rattle.markdown_scanners_tree.specs.scanners.unescaping.Unescaping.{Piece, IsFirstFit, IsItself}

-- The text begins with two backslashes and a pipe.
abbrev pub starts_pipe : List ℕ → Bool
starts_pipe [] = false
starts_pipe (a ∷ []) = false
starts_pipe (a ∷ b ∷ []) = false
starts_pipe (a ∷ b ∷ c ∷ rest) = a == backslash && b == backslash && c == vertical_line

-- a changed piece may begin with this byte
abbrev pub begins_change : ℕ → Bool
begins_change b = b == backslash || b == ampersand || b == carriage_return

-- The text begins with a character reference of n bytes, from `&` on.
abbrev pub StartsWithAmpersandReference : Lookup → List ℕ → ℕ → List ℕ → Type 0
StartsWithAmpersandReference known text n meaning =
    (slice_index text 0 ≡ ampersand) × StartsWithReference known text n meaning

-- The text's first piece is n bytes long, and it means `instead` and then what it has after its
-- first `dropped` bytes. Where none is dropped it is one byte that means itself; else it is not,
-- and the text may be cut before it and after what is dropped.
pub record IsFirstPiece (in_table : Bool) (known : Lookup) (text : List ℕ)
    (n dropped : ℕ) (instead : List ℕ) : Type 0 where
  pub piece : Piece
  pub rest : List ℕ
  pub splits : text ≡ piece.source ++ rest
  pub first : IsFirstFit in_table known text piece
  pub n_is_length : n ≡ length piece.source
  pub at_least_one : 1 ≤ n
  pub dropped_within : dropped ≤ n
  pub means : piece.meaning ≡ instead ++ drop dropped piece.source
  pub itself : dropped ≡ 0 → IsItself piece.source piece.meaning
  pub changed : 0 < dropped → ¬ IsItself piece.source piece.meaning
  pub from_ascii : 0 < dropped → slice_index text 0 < 128
  pub to_ascii : 0 < dropped → slice_index text (dropped - 1) < 128

-- Each of the n bytes at the front is a piece that means itself.
abbrev pub ArePlain : Bool → Lookup → List ℕ → ℕ → Type 0
ArePlain in_table known text n =
    (k : ℕ) → k < n → IsFirstPiece in_table known (drop k text) 1 0 []

-- The first piece is changed: it is n bytes long, some are dropped, and these stand in for them.
pub record IsChanged (in_table : Bool) (known : Lookup) (text : List ℕ)
    (n dropped : ℕ) (instead : List ℕ) : Type 0 where
  pub first : IsFirstPiece in_table known text n dropped instead
  pub some : 0 < dropped

-- The length of what stands at the front, how many bytes are dropped of it, and how many stand in
-- for them: of pieces that mean themselves, or of one that is changed.
abbrev pub IsFirstSize : Bool → Lookup → List ℕ → ℕ → ℕ → ℕ → Type 0
IsFirstSize in_table known text source dropped inserted =
    ((dropped ≡ 0) × (inserted ≡ 0) × ArePlain in_table known text source)
    ⊎ ((instead : List ℕ) × IsChanged in_table known text source dropped instead
    × (inserted ≡ length instead))

-- how many bytes are appended at a changed piece: the text from `run` up to its offset, and what
-- stands in for its front
abbrev pub change_len : ℕ → ℕ → List ℕ → ℕ
change_len run offset instead = (offset - run) + length instead

-- At a changed piece the text from `run` up to its offset and what stands in for its front are
-- appended, and `run'` is the offset after what is dropped, `next` that after the piece. At pieces
-- that mean themselves all stays but the offset.
abbrev pub IsPushed : {Z : Type 0} → Bool → Lookup → List ℕ → ℕ → ℕ → String Z → String Z → ℕ → ℕ → Type 0
IsPushed in_table known text run offset old new run' next =
    ((run' ≡ run) × StringUnchanged old new
    × ArePlain in_table known (drop offset text) (next - offset))
    ⊎ ((dropped : ℕ) × (instead : List ℕ)
    × IsChanged in_table known (drop offset text) (next - offset) dropped instead
    × (run' ≡ offset + dropped)
    × (string_bytes new ≡ string_bytes old ++ (slice_range text run offset ++ instead))
    × (string_len new ≡ string_len old + change_len run offset instead))

-- There is room for what is appended at a changed piece.
abbrev pub HasRoom : {Z : Type 0} → Bool → Lookup → List ℕ → ℕ → ℕ → String Z → Type 0
HasRoom in_table known text run offset old = (n dropped : ℕ) (instead : List ℕ)
    → IsChanged in_table known (drop offset text) n dropped instead
    → string_len old + change_len run offset instead ≤ string_capacity old
