-- Where the pieces and the links of a text stand in it.
use Rattle.std.specs.Prelude.{ℕ, ◌≡◌, ◌<◌, ◌≤◌, List, slice_range, take, Option, IfSome, ⊤}
use Rattle.std.specs.List.{All, flat_map}
use Rattle.std.specs.Str.{IsCharBoundary}
use Rattle.markdown_scanners_tree.specs.scanners.reference_definitions.ReferenceDefinition.{IsCutAt}
use Rattle.markdown_inlines.specs.declared.links.Link.{Link}
use Rattle.markdown_inlines.specs.declared.links.LinkTarget.{LinkTarget}
use Rattle.markdown_inlines.specs.declared.links.LinkTarget.TheVariants.{Inline, Full, Collapsed, Shortcut, Wiki}
use Rattle.markdown_inlines.specs.declared.pieces.Piece.{Piece}

-- the bytes that a piece has in the text
abbrev pub source_of : List ℕ → Piece → List ℕ
source_of text piece = slice_range text piece.start piece.end

-- A piece has some bytes in the text, which may be cut on both sides of it.
pub record IsSource (text : List ℕ) (piece : Piece) : Type 0 where
  pub some : piece.start < piece.end
  pub begins : IsCharBoundary text piece.start
  pub ends : IsCharBoundary text piece.end

-- Each of the pieces stands in the text; joined, they are what stands before an offset of it.
pub record AreSources (text : List ℕ) (pieces : List Piece) (offset : ℕ) : Type 0 where
  pub each : All (IsSource text) pieces
  pub joined : flat_map (source_of text) pieces ≡ take offset text

-- A text may be cut on both sides of each part of a link's target.
abbrev pub IsTargetSource : List ℕ → LinkTarget → Type 0
IsTargetSource text (Inline destination title) = IsCutAt text destination × IfSome title (IsCutAt text)
IsTargetSource text (Full label) = IsCutAt text label
IsTargetSource text Collapsed = ⊤
IsTargetSource text Shortcut = ⊤
IsTargetSource text (Wiki target) = IsCutAt text target

-- A link stands in the text around its link text; it may be cut on both sides of each.
pub record IsLinkSource (text : List ℕ) (link : Link) : Type 0 where
  pub source : IsCutAt text link.source
  pub link_text : IsCutAt text link.text
  pub begins : link.source.start < link.text.start
  pub in_order : link.text.start ≤ link.text.end
  pub ends : link.text.end < link.source.end
  pub target : IsTargetSource text link.target

-- so does each of the links that openers begin
abbrev pub AreLinkSources : List ℕ → List (Option Link) → Type 0
AreLinkSources text links = All (λ (link : Option Link). IfSome link (IsLinkSource text)) links
