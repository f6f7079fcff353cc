-- The inlines of a text, as C gets them. (CommonMark 0.31.2, chapter 6)
use Rattle.std.specs.Prelude.{ℕ, ◌≡◌, ◌≤◌, ◌+◌, ◌-◌, ◌==◌, bit_and, ◌⊎◌, List, map, get_or, Option, Some, None, if◌then◌else◌}
use Rattle.std.specs.declared.ops.Range.{Range}
use Rattle.std.specs.Str.{IsUtf8}
use Rattle.markdown_inlines.specs.Output.{AreInlines}
use Rattle.markdown_inlines.specs.declared.inlines.Inline.{Inline as Found}
use Rattle.markdown_inlines.specs.declared.inlines.Inline.TheVariants.{Leaf, StartEmphasis, EndEmphasis, StartLink, EndLink}
use Rattle.markdown_inlines.specs.declared.inlines.Inline.TheVariants.{StartStrikethrough, EndStrikethrough}
use Rattle.markdown_inlines.specs.declared.links.Link.{Link}
use Rattle.markdown_inlines.specs.declared.links.LinkTarget.{LinkTarget}
use Rattle.markdown_inlines.specs.declared.links.LinkTarget.TheVariants as T
use Rattle.markdown_inlines.specs.declared.pieces.Piece.{Piece}
use Rattle.markdown_inlines.specs.declared.pieces.PieceKind.{PieceKind}
use Rattle.markdown_inlines.specs.declared.pieces.PieceKind.TheVariants as K
use Rattle.markdown_scanners_c.specs.Answers.{none}
use Rattle.markdown_scanners_c.specs.Buffer.{IsWritten}
use Rattle.markdown_scanners_c.specs.Extensions.{AreExtensions, extensions_of}
use Rattle.markdown_scanners_c.specs.KnownLabels.{AreTexts, known_in}
use Rattle.markdown_scanners_c.specs.Status.{bad_kind, not_utf8, no_memory}
use Rattle.markdown_scanners_c.specs.declared.inlines.Inline.{Inline}
use Rattle.markdown_scanners_c.specs.declared.inlines.InlineCount.{InlineCount}
use Rattle.markdown_scanners_c.specs.declared.known_labels.View.{View}

-- The numbers of `enum mds_inline_kind`. A delimiter in no emphasis and a bracket of no link are text.
abbrev pub piece_number : PieceKind → ℕ
piece_number K.Escape = 1
piece_number K.Reference = 2
piece_number (K.Code backticks) = 3
piece_number K.Uri = 4
piece_number K.Email = 5
piece_number K.Html = 6
piece_number K.SoftBreak = 7
piece_number K.HardBreak = 8
piece_number kind = 0

-- what begins with two delimiters is strong emphasis
abbrev pub start_number : ℕ → ℕ
start_number count = if count == 2 then 11 else 9

abbrev pub end_number : ℕ → ℕ
end_number count = if count == 2 then 12 else 10

abbrev pub opener_number : Link → ℕ
opener_number link = if link.is_image then 14 else 13

abbrev pub link_end : ℕ
link_end = 15

abbrev pub strikethrough : ℕ
strikethrough = 16

abbrev pub strikethrough_end : ℕ
strikethrough_end = 17

-- how many backticks stand on each side of the content of a code span
abbrev pub backticks_of : PieceKind → ℕ
backticks_of (K.Code backticks) = backticks
backticks_of kind = 0

abbrev pub length_of : Range ℕ → ℕ
length_of range = range.end - range.start

-- an inline of a kind, with so many bytes at an offset, which leads nowhere
abbrev pub inline_at : ℕ → ℕ → ℕ → Inline
inline_at kind start len = record {
  kind = kind;
  target = 0;
  start = start;
  length = len;
  count = 0;
  end = 0;
  destination_start = 0;
  destination_length = 0;
  title_start = 0;
  title_length = 0;
  label_start = 0;
  label_length = 0;
}

abbrev pub piece_returned : Piece → Inline
piece_returned piece = record (inline_at (piece_number piece.kind) piece.start (piece.end - piece.start)) {
  count = backticks_of piece.kind;
}

abbrev pub title_start : Option (Range ℕ) → ℕ
title_start None = none
title_start (Some title) = title.start

abbrev pub title_length : Option (Range ℕ) → ℕ
title_length None = 0
title_length (Some title) = length_of title

-- with what stands between the brackets of a label
abbrev pub with_label : ℕ → ℕ → ℕ → Inline → Inline
with_label target start len it = record it { target = target; label_start = start; label_length = len }

-- With where a link leads, by the numbers of `enum mds_link_target`: the destination and the title that stand there, or the
-- label that is looked up, which is the link text where no other follows; of a wikilink its target is the destination.
abbrev pub with_target : Range ℕ → LinkTarget → Inline → Inline
with_target text (T.Inline destination title) it = record it {
  target = 1;
  destination_start = destination.start;
  destination_length = length_of destination;
  title_start = title_start title;
  title_length = title_length title;
}
with_target text (T.Full label) it = with_label 2 (label.start + 1) (length_of label - 2) it
with_target text T.Collapsed it = with_label 3 text.start (length_of text) it
with_target text T.Shortcut it = with_label 4 text.start (length_of text) it
with_target text (T.Wiki target) it = record it {
  target = 5;
  destination_start = target.start;
  destination_length = length_of target;
}

-- the opener of a link or an image, with where all of it ends and where it leads
abbrev pub link_returned : Link → Inline
link_returned link =
    with_target link.text link.target
    (record (inline_at (opener_number link) link.source.start (link.text.start - link.source.start)) { end = link.source.end })

-- the opener with this link, which it has wherever it begins one
abbrev pub opener_returned : Option Link → Inline
opener_returned None = inline_at 0 0 0
opener_returned (Some link) = link_returned link

abbrev pub inline_returned : List (Option Link) → Found → Inline
inline_returned links (Leaf piece) = piece_returned piece
inline_returned links (StartEmphasis offset count) = inline_at (start_number count) offset count
inline_returned links (EndEmphasis offset count) = inline_at (end_number count) offset count
inline_returned links (StartStrikethrough offset count) = inline_at strikethrough offset count
inline_returned links (EndStrikethrough offset count) = inline_at strikethrough_end offset count
inline_returned links (StartLink number) = opener_returned (get_or links number None)
inline_returned links (EndLink piece) = inline_at link_end piece.start (piece.end - piece.start)

-- Some bit is no extension; or the text or a label is not UTF-8; or memory was refused; or the inlines of the text are written.
unfoldable pub IsTextReturned : List ℕ → List View → ℕ → List Inline → List Inline → InlineCount → Type 0
IsTextReturned text labels extensions old new returned =
    ((returned.status ≡ bad_kind) × (returned.count ≡ 0) × (new ≡ old) × ¬ (AreExtensions extensions))
    ⊎ ((returned.status ≡ not_utf8) × (returned.count ≡ 0) × (new ≡ old)
    × AreExtensions extensions × ¬ (IsUtf8 text × AreTexts labels))
    ⊎ ((returned.status ≡ no_memory) × (returned.count ≡ 0) × (new ≡ old)
    × AreExtensions extensions × IsUtf8 text × AreTexts labels)
    ⊎ ((inlines : List Found) × (links : List (Option Link)) × AreExtensions extensions × IsUtf8 text × AreTexts labels
    × AreInlines text (record { asked = extensions_of extensions; known = known_in labels }) inlines links
    × IsWritten (map (inline_returned links) inlines) old new returned.status returned.count)
