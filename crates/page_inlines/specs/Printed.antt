-- What the program prints of a page: a line for each of its blocks that has inlines, and then one for each of these.
use Rattle.std.specs.Prelude.{ℕ, ◌+◌, ◌≡◌, ◌⊎◌, List, [], ◌∷◌, ◌++◌, length, take, drop, Option, MatchBool}
use Rattle.std.specs.List.{concat, flat_map}
use Rattle.std.specs.Option.{is_some}
use Rattle.std.specs.Str.{IsUtf8}
use Rattle.markdown_scanners_tree.specs.scanners.TextLines.{lines_of}
use Rattle.markdown_values.specs.declared.values.extensions.Extensions.{Extensions}
use Rattle.markdown_blocks.specs.blocks.Pages.{Piece, IsPage}
use Rattle.markdown_blocks.specs.byte_order_mark.ByteOrderMark.{text_of, text_start}
use Rattle.markdown_blocks.specs.content.Content.{Placed, IsContent}
use Rattle.markdown_blocks.specs.declared.containers.Container.{Container}
use Rattle.markdown_blocks.specs.events.Events.{LeafBlock, AreLeavesOf}
use Rattle.markdown_blocks.specs.link_definitions.LinkDefinitions.{Named, HasDefinitions, first_of}
use Rattle.markdown_inlines.specs.Inlines.{Setting}
use Rattle.markdown_inlines.specs.Links.{Known}
use Rattle.markdown_inlines.specs.Output.{AreInlines}
use Rattle.markdown_inlines.specs.declared.inlines.Inline.{Inline}
use Rattle.markdown_inlines.specs.declared.links.Link.{Link}
use Rattle.page_inlines.specs.Lines.{has_inlines, block_line, inline_line, not_text}

-- the labels that a page defines which is read with these extensions (4.7)
pub record AreLabelsOf (asked : Extensions) (page : List ℕ) (known : Known) : Type 0 where
  pub named : List Named
  pub defined : HasDefinitions asked page named
  pub each : (label : List ℕ) → known label ≡ is_some (first_of label named)

-- the lines of the inlines of a content that is text, before whose block so many bytes of the page stand
pub record AreInlineLines (setting : Setting) (start : ℕ) (content : Placed) (lines : List ℕ) : Type 0 where
  pub inlines : List Inline
  pub links : List (Option Link)
  pub is_text : IsUtf8 content.text
  pub are_inlines : AreInlines content.text setting inlines links
  pub are_lines : lines ≡ flat_map (inline_line start content links) inlines

-- a content that is not UTF-8 has no inlines, but a line that says so
abbrev pub AreContentLines : Setting → ℕ → Placed → List ℕ → Type 0
AreContentLines setting start content lines =
    AreInlineLines setting start content lines ⊎ ((¬ IsUtf8 content.text) × (lines ≡ not_text))

-- the lines of the page that a leaf block has
abbrev pub lines_in_page : List ℕ → LeafBlock → List (List ℕ)
lines_in_page page block = lines_of (take block.bytes (drop block.start page))

-- What is printed of a leaf block that has inlines, in these containers; its first line goes on with so many of them: its line, and
-- those of its content.
pub record IsBlockText (setting : Setting) (page : List ℕ) (outer : List Container) (kept : ℕ) (block : LeafBlock) (text : List ℕ) : Type 0 where
  pub content : Placed
  pub lines : List ℕ
  pub is_content : IsContent block.kind outer kept (lines_in_page page block) content
  pub are_lines : AreContentLines setting block.start content lines
  pub text_is : text ≡ block_line (length outer) block ++ lines

-- of other leaf blocks nothing is printed
abbrev pub IsLeafText : Setting → List ℕ → List Container → ℕ → LeafBlock → List ℕ → Type 0
IsLeafText setting page outer kept block text =
    MatchBool (has_inlines block.kind) (IsBlockText setting page outer kept block text) (text ≡ [])

-- What is printed of leaf blocks in these containers, one after another. The first line of the first goes on with so many of them; the
-- others, which follow link reference definitions, go on with all.
abbrev pub IsLeavesText : Setting → List ℕ → List Container → ℕ → List LeafBlock → List ℕ → Type 0
IsLeavesText setting page outer kept [] text = text ≡ []
IsLeavesText setting page outer kept (block ∷ later) text =
    (here : List ℕ) × (more : List ℕ) × IsLeafText setting page outer kept block here
    × IsLeavesText setting page outer (length outer) later more × (text ≡ here ++ more)

-- what is printed of the leaf blocks of pieces, before which so many lines and bytes of the page stand
abbrev pub IsPiecesText : Setting → List ℕ → ℕ → ℕ → List Piece → List ℕ → Type 0
IsPiecesText setting page line start [] text = text ≡ []
IsPiecesText setting page line start (piece ∷ later) text =
    (leaves : List LeafBlock) × (here : List ℕ) × (more : List ℕ) × AreLeavesOf line start piece leaves
    × IsLeavesText setting page (piece.kept ++ piece.begun) (length piece.kept) leaves here
    × IsPiecesText setting page (line + length (piece.first ∷ piece.later)) (start + length (concat (piece.first ∷ piece.later))) later more
    × (text ≡ here ++ more)

-- The text is what is printed of the page, which is read with these extensions.
pub record IsPrinted (asked : Extensions) (page text : List ℕ) : Type 0 where
  pub known : Known
  pub are_its_labels : AreLabelsOf asked page known
  pub pieces : List Piece
  pub is_page : IsPage asked (text_of page) pieces
  pub is_text : IsPiecesText (record { asked = asked; known = known }) page 0 (text_start page) pieces text
