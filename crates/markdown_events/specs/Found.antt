-- What is known of each inline of a text.
use Rattle.std.specs.Prelude.{ℕ, ◌+◌, ◌-◌, ◌≤◌, ◌≡◌, ◌⊎◌, List, Option, Some, slice_get, drop, ⊤, if◌then◌else◌}
use Rattle.std.specs.Str.{IsCharBoundary}
use Rattle.html_entities.specs.Entities.{html_entity}
use Rattle.markdown_scanners_tree.specs.scanners.entities.CharacterReference.{StartsWithReference}
use Rattle.markdown_inlines.specs.Inlines.{IsWikiTarget}
use Rattle.markdown_inlines.specs.Links.{Known, IsTarget}
use Rattle.markdown_inlines.specs.Sources.{IsSource, IsLinkSource}
use Rattle.markdown_inlines.specs.declared.inlines.Inline.{Inline}
use Rattle.markdown_inlines.specs.declared.inlines.Inline.TheVariants as I
use Rattle.markdown_inlines.specs.declared.links.Link.{Link}
use Rattle.markdown_inlines.specs.declared.links.LinkTarget.{LinkTarget}
use Rattle.markdown_inlines.specs.declared.links.LinkTarget.TheVariants.{Full, Wiki}
use Rattle.markdown_inlines.specs.declared.pieces.Piece.{Piece}
use Rattle.markdown_inlines.specs.declared.pieces.PieceKind.{PieceKind}
use Rattle.markdown_inlines.specs.declared.pieces.PieceKind.TheVariants as K

-- where a text may be cut within a piece, and that a reference stands there
abbrev pub HasParts : PieceKind → List ℕ → Piece → Type 0
HasParts K.Escape source piece = IsCharBoundary source (piece.start + 1)
HasParts K.Reference source piece =
    (len : ℕ) × (meaning : List ℕ) × StartsWithReference html_entity (drop piece.start source) len meaning
HasParts (K.Code backticks) source piece =
    (piece.start + backticks ≤ piece.end - backticks) × (backticks ≤ piece.end)
    × IsCharBoundary source (piece.start + backticks) × IsCharBoundary source (piece.end - backticks)
HasParts K.Uri source piece =
    (piece.start + 1 ≤ piece.end - 1) × IsCharBoundary source (piece.start + 1) × IsCharBoundary source (piece.end - 1)
HasParts K.Email source piece =
    (piece.start + 1 ≤ piece.end - 1) × IsCharBoundary source (piece.start + 1) × IsCharBoundary source (piece.end - 1)
HasParts kind source piece = ⊤

-- The text may be cut before the label that follows a link text.
abbrev pub IsLabelCut : List ℕ → LinkTarget → Type 0
IsLabelCut source (Full label) = IsCharBoundary source (label.start + 1)
IsLabelCut source target = ⊤

-- The target of a wikilink stands before its link text.
abbrev pub HasTargetBefore : LinkTarget → Link → Type 0
HasTargetBefore (Wiki range) it = (it.source.start ≤ range.start) × (range.start ≤ range.end) × (range.end ≤ it.text.start)
HasTargetBefore target it = ⊤

-- where the left bracket of a link stands
abbrev pub link_bracket : Link → ℕ
link_bracket it = if it.is_image then it.source.start + 1 else it.source.start

-- A link leads where its link text is followed, or as a wikilink.
abbrev pub IsAimed : List ℕ → Known → Link → Type 0
IsAimed text known it =
    IsTarget text known it.text.start it.text.end it.target it.source.end
    ⊎ IsWikiTarget text (link_bracket it) it.text.start it.text.end it.target it.source.end

-- A piece stands in the text, a delimiter begins where the text may be cut, and the opener that begins a link has one, of which this holds.
abbrev pub IsThereWith : List ℕ → List (Option Link) → (Link → Type 0) → Inline → Type 0
IsThereWith text links Holds (I.Leaf piece) = IsSource text piece × HasParts piece.kind text piece
IsThereWith text links Holds (I.StartLink number) = (it : Link) × (slice_get links number ≡ Some (Some it)) × Holds it
IsThereWith text links Holds (I.EndLink piece) = IsSource text piece
IsThereWith text links Holds (I.StartEmphasis offset count) = IsCharBoundary text offset
IsThereWith text links Holds (I.EndEmphasis offset count) = IsCharBoundary text offset
IsThereWith text links Holds (I.StartStrikethrough offset count) = IsCharBoundary text offset
IsThereWith text links Holds (I.EndStrikethrough offset count) = IsCharBoundary text offset

-- what is known of a link
abbrev pub IsKnownLink : List ℕ → Known → Link → Type 0
IsKnownLink text known it =
    IsLinkSource text it × IsLabelCut text it.target × HasTargetBefore it.target it × IsAimed text known it

-- An inline stands in the text, and a link is known.
abbrev pub IsThere : List ℕ → Known → List (Option Link) → Inline → Type 0
IsThere text known links inline = IsThereWith text links (IsKnownLink text known) inline
