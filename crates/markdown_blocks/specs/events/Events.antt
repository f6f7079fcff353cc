-- The events of a page: its containers and leaf blocks, in order. (CommonMark 0.31.2, chapter 3, "Blocks and inlines")
use Rattle.std.specs.Prelude.{ℕ, ◌+◌, ◌-◌, ◌≡◌, ◌≢◌, ◌⊎◌, List, [], ◌∷◌, ◌++◌, length, take, drop, map, replicate}
use Rattle.std.specs.List.{concat}
use Rattle.markdown_scanners_tree.specs.declared.scanners.reference_definitions.ReferenceDefinition.{ReferenceDefinition}
use Rattle.markdown_scanners_tree.specs.line.State.{LineState}
use Rattle.markdown_scanners_tree.specs.scanners.TextLines.{lines_of}
use Rattle.markdown_blocks.specs.blocks.Pages.{Piece, IsPage}
use Rattle.markdown_blocks.specs.byte_order_mark.ByteOrderMark.{text_of, text_start}
use Rattle.markdown_blocks.specs.containers.Containers.{Rest, rest_in, match_line, marker_start, after_marker}
use Rattle.markdown_blocks.specs.declared.blocks.BlockKind.{BlockKind}
use Rattle.markdown_blocks.specs.declared.blocks.BlockKind.TheVariants.{Definition}
use Rattle.markdown_values.specs.declared.values.extensions.Extensions.{Extensions}
use Rattle.markdown_blocks.specs.declared.containers.Container.{Container}
use Rattle.markdown_blocks.specs.declared.events.BlockEvent.{BlockEvent}
use Rattle.markdown_blocks.specs.declared.events.BlockEvent.TheVariants.{Start, Block, End}
use Rattle.markdown_blocks.specs.declared.leaf.Leaf.{Leaf}
use Rattle.markdown_blocks.specs.definitions.Content.{content_in}
use Rattle.markdown_blocks.specs.definitions.Definitions.{IsDefinition}

-- a leaf block: its kind, how many lines and bytes stand before it, how many it has, what its first line has after its containers,
-- and how many bytes of the page stand before that text
pub record LeafBlock : Type 0 where
  pub kind : BlockKind
  pub line : ℕ
  pub lines : ℕ
  pub start : ℕ
  pub bytes : ℕ
  pub indent : ℕ
  pub text : List ℕ
  pub offset : ℕ

-- how many bytes of the page stand before what follows a leaf block
abbrev pub block_end : LeafBlock → ℕ
block_end block = block.start + block.bytes

-- a container begins, before whose marker so many bytes of the page stand; a leaf block stands in those that have begun; or the
-- innermost of them ends
pub data Event : Type 0 where
  starts : Container → ℕ → Event
  leaf : LeafBlock → Event
  ends : Event

-- lines of a block, before which so many lines and bytes of the page stand, and what the first of them has after its containers
pub record Part : Type 0 where
  pub line : ℕ
  pub start : ℕ
  pub words : Rest
  pub lines : List (List ℕ)

-- the first of the lines
abbrev pub first_of : List (List ℕ) → List ℕ
first_of [] = []
first_of (line ∷ lines) = line

-- the lines as a leaf block of this kind
abbrev pub leaf_of : BlockKind → Part → LeafBlock
leaf_of kind part = record {
  kind = kind;
  line = part.line;
  lines = length part.lines;
  start = part.start;
  bytes = length (concat part.lines);
  indent = part.words.indent;
  text = part.words.text;
  offset = part.start + (length (first_of part.lines) - length part.words.text);
}

-- the first of the lines, so many
abbrev pub first_lines : ℕ → Part → Part
first_lines count part = record part { lines = take count part.lines }

-- the lines after those, in these containers
abbrev pub first_rest : List Container → List (List ℕ) → Rest
first_rest outer [] = record { indent = 0; text = [] }
first_rest outer (line ∷ lines) = rest_in outer line

abbrev pub later_lines : List Container → ℕ → Part → Part
later_lines outer count part = record {
  line = part.line + length (take count part.lines);
  start = part.start + length (concat (take count part.lines));
  words = first_rest outer (drop count part.lines);
  lines = drop count part.lines;
}

-- how many lines the definition at the front of a content has
abbrev pub lines_taken : List ℕ → ReferenceDefinition → ℕ
lines_taken content definition = length (lines_of (take definition.len content))

-- The leaf blocks of lines that are a block of this kind in these containers, with this content: where it begins with a definition,
-- that, with as many lines as it has, and those of the lines after it; else the block itself. No lines have none. (4.7)
abbrev pub AreLeaves : List Container → BlockKind → Part → List ℕ → List LeafBlock → Type 0
AreLeaves outer kind part content [] = part.lines ≡ []
AreLeaves outer kind part content (block ∷ more) =
    (part.lines ≢ [])
    × (((definition : ReferenceDefinition) × IsDefinition content definition
    × (block ≡ leaf_of Definition (first_lines (lines_taken content definition) part))
    × AreLeaves outer kind (later_lines outer (lines_taken content definition) part) (drop definition.len content) more)
    ⊎ (((definition : ReferenceDefinition) → ¬ IsDefinition content definition) × (block ≡ leaf_of kind part) × (more ≡ [])))

-- a piece before which so many lines and bytes stand, and its leaf blocks
abbrev pub part_of : ℕ → ℕ → Piece → Part
part_of line start piece = record {
  line = line;
  start = start;
  words = piece.words;
  lines = piece.first ∷ piece.later;
}

abbrev pub piece_content : Piece → List ℕ
piece_content piece = content_in piece.kind (piece.kept ++ piece.begun) piece.words.text piece.later

abbrev pub AreLeavesOf : ℕ → ℕ → Piece → List LeafBlock → Type 0
AreLeavesOf line start piece leaves =
    AreLeaves (piece.kept ++ piece.begun) piece.kind (part_of line start piece) (piece_content piece) leaves

-- the containers that the rest of a line begins, one in the other, where so many bytes of the page stand before the line
abbrev pub started : ℕ → LineState → List Container → List Event
started start s [] = []
started start s (c ∷ inner) = starts c (start + marker_start s) ∷ started start (after_marker s) inner

-- The events of a piece with these leaf blocks, before which these containers are open: those that its first line does not go on
-- with end, those that it begins start, and its leaf blocks stand in them.
abbrev pub piece_events : List Container → ℕ → Piece → List LeafBlock → List Event
piece_events outer start piece leaves =
    replicate (length outer - length piece.kept) ends
    ++ started start (match_line outer piece.first).state piece.begun ++ map leaf leaves

-- the events of pieces, before which these containers are open and so many lines and bytes stand
abbrev pub AreEvents : List Container → ℕ → ℕ → List Piece → List Event → Type 0
AreEvents outer line start [] events = events ≡ []
AreEvents outer line start (piece ∷ later) events =
    (leaves : List LeafBlock) × (more : List Event) × AreLeavesOf line start piece leaves
    × (events ≡ piece_events outer start piece leaves ++ more)
    × AreEvents (piece.kept ++ piece.begun) (line + length (piece.first ∷ piece.later))
    (start + length (concat (piece.first ∷ piece.later))) later more

-- how many containers are open after pieces, before which so many are
abbrev pub open_after : ℕ → List Piece → ℕ
open_after depth [] = depth
open_after depth (piece ∷ later) = open_after (length (piece.kept ++ piece.begun)) later

-- the events of a page with these extensions on: those of the pieces of its text, and then all containers end
abbrev pub IsEventsOf : Extensions → List ℕ → List Event → Type 0
IsEventsOf asked page events =
    (pieces : List Piece) × (blocks : List Event) × IsPage asked (text_of page) pieces
    × AreEvents [] 0 (text_start page) pieces blocks
    × (events ≡ blocks ++ replicate (open_after 0 pieces) ends)

-- what an event of the library says
abbrev pub seen_leaf : Leaf → LeafBlock
seen_leaf l = record {
  kind = l.kind;
  line = l.line;
  lines = l.lines;
  start = l.start;
  bytes = l.bytes;
  indent = l.indent;
  text = l.text.now;
  offset = l.offset;
}

abbrev pub seen_event : BlockEvent → Event
seen_event (Start container offset) = starts container offset
seen_event (Block l) = leaf (seen_leaf l)
seen_event End = ends
