-- The lines that are printed of blocks and their inlines.
use Rattle.std.specs.Prelude.{ℕ, Bool, true, false, ◌==◌, ◌+◌, ◌-◌, List, [], ◌∷◌, ◌++◌, codes, get_or, slice_index, slice_range}
use Rattle.std.specs.Prelude.{Option, Some, None, if◌then◌else◌}
use Rattle.std.specs.Fmt.{decimal}
use Rattle.std.specs.declared.ops.Range.{Range}
use Rattle.markdown_scanners_tree.specs.Ascii.{line_feed}
use Rattle.markdown_blocks.specs.content.Content.{Placed}
use Rattle.markdown_blocks.specs.declared.blocks.BlockKind.{BlockKind}
use Rattle.markdown_blocks.specs.declared.blocks.BlockKind.TheVariants.{Heading, Setext, Paragraph}
use Rattle.markdown_blocks.specs.events.Events.{LeafBlock}
use Rattle.markdown_inlines.specs.declared.inlines.Inline.{Inline}
use Rattle.markdown_inlines.specs.declared.inlines.Inline.TheVariants as I
use Rattle.markdown_inlines.specs.declared.links.Link.{Link}
use Rattle.markdown_inlines.specs.declared.links.LinkTarget.{LinkTarget}
use Rattle.markdown_inlines.specs.declared.links.LinkTarget.TheVariants as T
use Rattle.markdown_inlines.specs.declared.pieces.Piece.{Piece}
use Rattle.markdown_inlines.specs.declared.pieces.PieceKind.{PieceKind}
use Rattle.markdown_inlines.specs.declared.pieces.PieceKind.TheVariants as K
use Rattle.page_blocks.specs.Info.{bytes_text}
use Rattle.page_blocks.specs.Printed.{kind_text}

-- the blocks that have inlines: headings and paragraphs (CommonMark 0.31.2, chapter 6; the cells of tables are left out)
abbrev pub has_inlines : BlockKind → Bool
has_inlines (Heading level) = true
has_inlines (Setext level) = true
has_inlines Paragraph = true
has_inlines kind = false

-- the line of such a block in so many containers, as fillaqut blocks has it
abbrev pub block_line : ℕ → LeafBlock → List ℕ
block_line depth block =
    decimal (block.line + 1) ++ codes " " ++ decimal (block.line + block.lines) ++ codes " " ++ decimal depth ++ codes " "
    ++ kind_text block.kind block.text ++ line_feed ∷ []

-- the line of a content that is not UTF-8
abbrev pub not_text : List ℕ
not_text = codes "  not UTF-8" ++ line_feed ∷ []

-- how many bytes of the page stand before the byte at an offset of a content, before whose block so many stand
abbrev pub offset_of : ℕ → Placed → ℕ → ℕ
offset_of start content offset = start + slice_index content.offsets offset

-- where what is printed of begins and ends in the page
abbrev pub front : ℕ → ℕ → List ℕ
front from to = codes "  " ++ decimal from ++ codes " " ++ decimal to ++ codes " "

-- the same of what stands in a content from one offset up to another
abbrev pub span : ℕ → Placed → ℕ → ℕ → List ℕ
span start content from to = front (offset_of start content from) (offset_of start content (to - 1) + 1)

-- the bytes from one offset up to another, in quotation marks
abbrev pub quoted : List ℕ → ℕ → ℕ → List ℕ
quoted text from to = codes " \"" ++ bytes_text (slice_range text from to) ++ codes "\""

abbrev pub quoted_range : List ℕ → Range ℕ → List ℕ
quoted_range text range = quoted text range.start range.end

-- the word for a piece that holds no others; a bracket or a delimiter that is one is text
abbrev pub piece_word : PieceKind → List ℕ
piece_word K.Escape = codes "escape"
piece_word K.HardBreak = codes "hard break"
piece_word K.SoftBreak = codes "soft break"
piece_word K.Reference = codes "reference"
piece_word (K.Code backticks) = codes "code"
piece_word K.Uri = codes "uri"
piece_word K.Email = codes "email"
piece_word K.Html = codes "html"
piece_word kind = codes "text"

-- the word for emphasis with so many delimiters on each side
abbrev pub emphasis_word : ℕ → List ℕ
emphasis_word count = if count == 2 then codes "strong" else codes "emphasis"

-- a title, if there is one
abbrev pub title_text : List ℕ → Option (Range ℕ) → List ℕ
title_text text None = []
title_text text (Some title) = quoted_range text title

-- where a link leads with this link text: its destination and its title as they are written, or the label that stands for them, or the
-- target of a wikilink
abbrev pub target_text : List ℕ → Range ℕ → LinkTarget → List ℕ
target_text text words (T.Inline destination title) = codes " inline" ++ quoted_range text destination ++ title_text text title
target_text text words (T.Full label) = codes " full" ++ quoted_range text label
target_text text words T.Collapsed = codes " collapsed" ++ quoted_range text words
target_text text words T.Shortcut = codes " shortcut" ++ quoted_range text words
target_text text words (T.Wiki target) = codes " wikilink" ++ quoted_range text target

abbrev pub link_word : Bool → List ℕ
link_word true = codes "start image"
link_word false = codes "start link"

-- the start of a link or an image, at its opening bracket
abbrev pub link_text : ℕ → Placed → Link → List ℕ
link_text start content link =
    span start content link.source.start link.text.start ++ link_word link.is_image ++ target_text content.text link.text link.target
    ++ line_feed ∷ []

abbrev pub opened_text : ℕ → Placed → Option Link → List ℕ
opened_text start content None = []
opened_text start content (Some link) = link_text start content link

-- the start or end of emphasis or strikethrough
abbrev pub emphasis_text : List ℕ → List ℕ → ℕ → Placed → ℕ → ℕ → List ℕ
emphasis_text word kind start content offset count =
    front (offset_of start content offset) (offset_of start content offset + count) ++ word ++ kind ++ line_feed ∷ []

abbrev pub piece_text : ℕ → Placed → Piece → List ℕ
piece_text start content piece =
    span start content piece.start piece.end ++ piece_word piece.kind ++ quoted content.text piece.start piece.end ++ line_feed ∷ []

abbrev pub end_text : ℕ → Placed → Piece → List ℕ
end_text start content piece = span start content piece.start piece.end ++ codes "end link" ++ line_feed ∷ []

-- the line of an inline of a content with these links, before whose block so many bytes of the page stand
abbrev pub inline_line : ℕ → Placed → List (Option Link) → Inline → List ℕ
inline_line start content links (I.Leaf piece) = piece_text start content piece
inline_line start content links (I.StartEmphasis offset count) =
    emphasis_text (codes "start ") (emphasis_word count) start content offset count
inline_line start content links (I.EndEmphasis offset count) = emphasis_text (codes "end ") (emphasis_word count) start content offset count
inline_line start content links (I.StartStrikethrough offset count) =
    emphasis_text (codes "start ") (codes "strikethrough") start content offset count
inline_line start content links (I.EndStrikethrough offset count) =
    emphasis_text (codes "end ") (codes "strikethrough") start content offset count
inline_line start content links (I.StartLink number) = opened_text start content (get_or links number None)
inline_line start content links (I.EndLink piece) = end_text start content piece
