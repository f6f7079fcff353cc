-- Places in bytes, and between two characters of a text.
use Rattle.std.specs.Prelude.{ℕ, List, ◌≤◌, ◌<◌, ◌⊎◌, length}
use Rattle.std.specs.Str.{IsUtf8, IsCharBoundary}

-- The bytes are a text, and a character begins at the offset, or the text ends there.
abbrev pub IsTextPlace : List ℕ → ℕ → Type 0
IsTextPlace bytes offset = IsUtf8 bytes × IsCharBoundary bytes offset

-- What a call comes to that is given bytes and an offset in them: the offset is past the end, and this is returned; or else what
-- the bytes have there.
abbrev pub IsAnswerAt : List ℕ → ℕ → Type 0 → Type 0 → Type 0
IsAnswerAt bytes offset Refused Answered =
    ((length bytes < offset) × Refused) ⊎ ((offset ≤ length bytes) × Answered)
