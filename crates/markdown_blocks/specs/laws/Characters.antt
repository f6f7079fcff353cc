-- Where a page that is UTF-8 may be cut: blocks begin and end next to bytes of ASCII.
use Rattle.std.specs.Prelude.{ℕ, ◌+◌, List, [], ◌∷◌, take, drop, ⊤}
use Rattle.std.specs.Str.{IsUtf8, IsCharBoundary}
use Rattle.markdown_blocks.specs.events.Events.{Event, starts, leaf, ends, LeafBlock, block_end}

-- The page may be cut where the lines of a leaf block begin and end, where its text begins, and where that may be cut; the lines are UTF-8,
-- and so is the text, which the first of them has after its containers.
pub record IsCutOut (page : List ℕ) (block : LeafBlock) : Type 0 where
  pub begins : IsCharBoundary page block.start
  pub ends : IsCharBoundary page (block_end block)
  pub lines : IsUtf8 (take block.bytes (drop block.start page))
  pub offset : IsCharBoundary page block.offset
  pub text : IsUtf8 block.text
  pub in_text : (offset : ℕ) → IsCharBoundary block.text offset → IsCharBoundary page (block.offset + offset)

-- so may it at each leaf block among the events, and before the marker of each container
abbrev pub AreCutOut : List ℕ → List Event → Type 0
AreCutOut page [] = ⊤
AreCutOut page (starts container offset ∷ later) = IsCharBoundary page offset × AreCutOut page later
AreCutOut page (leaf block ∷ later) = IsCutOut page block × AreCutOut page later
AreCutOut page (ends ∷ later) = AreCutOut page later
