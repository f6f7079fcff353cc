-- What scans answer where they find a link destination. (CommonMark 0.31.2, section 6.3, links)
use Rattle.std.specs.Prelude.{ℕ, ◌≤◌, List, length, slice_range, Option, option_map}
use Rattle.std.specs.Str.{IsUtf8, IsCharBoundary}
use Rattle.std.specs.declared.ops.Range.{Range}
use Rattle.markdown_scanners_tree.specs.scanners.links.LinkDestination.{IsLinkDestination, StandsInside}

-- The text begins with a link destination: how many bytes it takes, and its raw text.
abbrev pub IsDestination : ℕ → List ℕ → ℕ × List ℕ → Type 0
IsDestination most text r = IsLinkDestination most text r.0 r.1

-- an answer with the raw text itself in place of where it stands
abbrev pub with_raw_text : List ℕ → Option (ℕ × Range ℕ) → Option (ℕ × List ℕ)
with_raw_text text answer = option_map (λ r. (r.0, slice_range text r.1.start r.1.end)) answer

-- The raw text of a destination stands in the `taken` bytes at the front: it is all of them, or what stands between
-- brackets. A text may be cut where it begins and ends, and after all that the destination takes.
pub record RawTextStandsIn (text : List ℕ) (taken : ℕ) (raw : Range ℕ) : Type 0 where
  pub inside : StandsInside taken raw.start raw.end
  pub ordered : (raw.start ≤ raw.end) × (raw.end ≤ taken)
  pub within : taken ≤ length text
  pub begins : IsUtf8 text → IsCharBoundary text raw.start
  pub ends : IsUtf8 text → IsCharBoundary text raw.end
  pub after : IsUtf8 text → IsCharBoundary text taken
