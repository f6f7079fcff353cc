-- The offsets of a content's bytes by segments, in each of which they stand one after the other.
use Rattle.std.specs.Prelude.{ℕ, ◌+◌, ◌-◌, ◌^◌, ◌<◌, ◌≤◌, ◌≡◌, ◌⊎◌, nat_lt, nat_le, List, [], ◌∷◌, ◌++◌, length, ⊤, if◌then◌else◌}
use Rattle.markdown_blocks.specs.content.Content.{text_of}
use Rattle.markdown_blocks.specs.content.Parts.{Part}
use Rattle.markdown_blocks.specs.declared.content.Segment.{Segment}

-- the offset of the byte at an offset, where this segment goes on up to it
abbrev pub offset_in : Segment → ℕ → ℕ
offset_in s offset =
    if nat_lt (offset - s.offset) s.columns then s.source - 1 else s.source + (offset - s.offset - s.columns)

-- the same, where further segments begin later
abbrev pub offset_at : Segment → List Segment → ℕ → ℕ
offset_at s [] offset = offset_in s offset
offset_at s (t ∷ later) offset = if nat_le t.offset offset then offset_at t later offset else offset_in s offset

-- the segments begin one after the other, from this offset on
abbrev pub Rising : ℕ → List Segment → Type 0
Rising offset [] = ⊤
Rising offset (s ∷ later) = (offset ≤ s.offset) × Rising s.offset later

-- a segment for each part, from this offset on
abbrev pub segments_from : ℕ → List Part → List Segment
segments_from offset [] = []
segments_from offset (p ∷ parts) =
    record { offset = offset; columns = p.columns; source = p.offset }
    ∷ segments_from (offset + length (text_of p)) parts

-- what a content holds: bytes that are lent, or built, and the segments that they stand in
pub record Held (lent built : List ℕ) (first : Segment) (later : List Segment) : Type 0 where
  pub one : (lent ≡ []) ⊎ (built ≡ [])
  pub begins : first.offset ≡ 0
  pub rising : Rising first.offset later
  pub fits : (offset : ℕ) → offset < length (lent ++ built) → offset_at first later offset < 2 ^ 64
