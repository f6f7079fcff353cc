-- A page cut into its blocks, in their containers.
use Rattle.std.specs.Prelude.{ℕ, Bool, true, false, ◌&&◌, ◌||◌, ◌==◌, ◌≡◌, ◌↔◌, ◌++◌, List, [], ◌∷◌, drop, length, take, IsTrue, ⊤}
use Rattle.std.specs.List.{flat_map}
use Rattle.markdown_scanners_tree.specs.line.State.{LineState}
use Rattle.markdown_scanners_tree.specs.scanners.TextLines.{lines_of}
use Rattle.markdown_blocks.specs.containers.Containers.{Between, OpenContainers, Rest, rest_at, rest_in, asked_between, match_line, Opens, last_past_first_line}
use Rattle.markdown_blocks.specs.declared.blocks.BlockKind.{BlockKind}
use Rattle.markdown_blocks.specs.declared.blocks.BlockKind.TheVariants.{Blank, Paragraph}
use Rattle.markdown_blocks.specs.declared.blocks.Block.{Block}
use Rattle.markdown_values.specs.declared.values.extensions.Extensions.{Extensions}
use Rattle.markdown_blocks.specs.declared.containers.Container.{Container}
use Rattle.markdown_blocks.specs.blocks.Leaves.{BeginTable, EndsRead, IsLeaf, IsLeafAfter, Leaves}
use Rattle.markdown_blocks.specs.blocks.Over.{IsOver}
use Rattle.markdown_blocks.specs.definitions.Content.{content_in}
use Rattle.markdown_blocks.specs.definitions.Definitions.{HasText}
use Rattle.markdown_blocks.specs.taken.Lines.{IsTaken}

-- a block of a page: whether its first line is the header row that ends the paragraph before it; the open containers that the line
-- goes on with, those that it begins, what it has after them, the block's kind, its lines, and whether it may be a term that is
-- defined after it
pub record Piece : Type 0 where
  pub header : Bool
  pub kept : List Container
  pub begun : List Container
  pub words : Rest
  pub kind : BlockKind
  pub first : List ℕ
  pub later : List (List ℕ)
  pub term : Bool

-- the lines of the blocks, joined
abbrev pub lines_in : List Piece → List (List ℕ)
lines_in pieces = flat_map (λ piece. piece.first ∷ piece.later) pieces

-- The open containers that a line goes on with: all of them where it goes on with the paragraph before it, lazy or not, and else
-- those that it stands in. (5.1, laziness)
abbrev pub kept_by : Bool → Between → List ℕ → List Container
kept_by true before line = before.containers
kept_by false before line = last_past_first_line (take (match_line before.containers line).kept before.containers)

-- such a line begins none after them, and any other line those whose markers stand there
abbrev pub OpensAfter : Bool → Extensions → LineState → List Container → LineState → Type 0
OpensAfter true asked s begun after = (begun ≡ []) × (after ≡ s)
OpensAfter false asked s begun after = Opens asked s begun after

-- of these open containers the line goes on with the first ones alone, and begins the others, which have this rest of it
pub record AreOpened (before : Between) (header : Bool) (line : List ℕ) (kept begun : List Container) (rest : Rest) : Type 0 where
  pub goes_on : kept ≡ kept_by header before line
  pub position : LineState
  pub begins : OpensAfter header (asked_between before line) (match_line before.containers line).state begun position
  pub is_rest : rest ≡ rest_at position

-- the containers that a piece stands in
abbrev pub containers_of : Piece → List Container
containers_of piece = piece.kept ++ piece.begun

abbrev pub outer_of : Between → Piece → OpenContainers
outer_of before piece = record { extensions = before.extensions; containers = containers_of piece }

-- a block of this kind with this content may be a term: where definition lists are on, a paragraph that is more than link reference
-- definitions
abbrev pub IsTerm : Extensions → BlockKind → List ℕ → Type 0
IsTerm asked kind content = IsTrue asked.definition_lists × (kind ≡ Paragraph) × HasText content

-- blank lines, which are no block
abbrev pub is_blank_kind : BlockKind → Bool
is_blank_kind Blank = true
is_blank_kind kind = false

-- a paragraph
abbrev pub is_paragraph_kind : BlockKind → Bool
is_paragraph_kind Paragraph = true
is_paragraph_kind kind = false

-- the piece is one blank line that closes none of these containers and begins none
abbrev pub is_blank_between : List Container → Piece → Bool
is_blank_between outer piece =
    is_blank_kind piece.kind && (length piece.later == 0) && (length piece.kept == length outer) && (length piece.begun == 0)

-- what stands between a piece and the next line: the term that was there still does after one blank line
abbrev pub opened_by : Between → Piece → Between
opened_by before piece = record {
  extensions = before.extensions;
  containers = containers_of piece;
  term = piece.term || (before.term && is_blank_between before.containers piece);
  paragraph = is_paragraph_kind piece.kind;
}

-- the containers that are open between blocks, and the extensions that are on
abbrev pub open_between : Between → OpenContainers
open_between before = record { extensions = before.extensions; containers = before.containers }

-- A paragraph stands before these lines, and they begin with the header row of a table: that goes on with the paragraph, and the next
-- line is the delimiter row. (GFM 4.10)
abbrev pub BeginWithHeader : Between → List (List ℕ) → Type 0
BeginWithHeader before [] = ⊥
BeginWithHeader before (line ∷ lines) =
    IsTrue before.paragraph × (¬ Leaves (open_between before) (EndsRead before.extensions before.term) line)
    × BeginTable (open_between before) (line ∷ lines)

-- where these containers are open, the piece is a block, and this rest of the page follows
pub record IsPiece (before : Between) (piece : Piece) (rest : List (List ℕ)) : Type 0 where
  pub is_header : IsTrue piece.header ↔ BeginWithHeader before (piece.first ∷ (piece.later ++ rest))
  pub opened : AreOpened before piece.header piece.first piece.kept piece.begun piece.words
  pub leaf : IsLeafAfter piece.header (outer_of before piece) piece.kind piece.words piece.later rest
  pub is_term : IsTrue piece.term
      ↔ IsTerm before.extensions piece.kind (content_in piece.kind (containers_of piece) piece.words.text piece.later)

-- Each is a block where the containers of the one before it are open, and the blocks after it and these lines are the rest.
abbrev pub AreBlocks : Between → List Piece → List (List ℕ) → Type 0
AreBlocks before [] rest = ⊤
AreBlocks before (piece ∷ later) rest =
    IsPiece before piece (lines_in later ++ rest) × AreBlocks (opened_by before piece) later rest

-- no container is open, and these extensions are on
abbrev pub root : Extensions → Between
root asked = record { extensions = asked; containers = []; term = false; paragraph = false }

-- with these extensions on the blocks, joined, are the lines of the text, and each of them is a block
pub record IsPage (asked : Extensions) (text : List ℕ) (pieces : List Piece) : Type 0 where
  pub joined : lines_in pieces ≡ lines_of text
  pub each : AreBlocks (root asked) pieces []

-- the same of the lines at the front of the text, where these are after them
pub record IsFront (asked : Extensions) (text : List ℕ) (pieces : List Piece) (rest : List (List ℕ)) : Type 0 where
  pub joined : lines_in pieces ++ rest ≡ lines_of text
  pub each : AreBlocks (root asked) pieces rest

-- the block at the front of a text, in these containers, whose first line has this rest
pub record IsBlockOf (text : List ℕ) (outer : OpenContainers) (line : List ℕ) (first : Rest) (block : Block) : Type 0 where
  pub later : List (List ℕ)
  pub taken : IsTaken text block.taken (line ∷ later)
  pub leaf : IsLeaf outer block.kind first later (lines_of (drop block.taken.bytes text))

-- the same where that line is the header row that ends the paragraph before it, or not
pub record IsBlockAfter (header : Bool) (text : List ℕ) (outer : OpenContainers) (line : List ℕ) (first : Rest) (block : Block) : Type 0 where
  pub later : List (List ℕ)
  pub taken : IsTaken text block.taken (line ∷ later)
  pub leaf : IsLeafAfter header outer block.kind first later (lines_of (drop block.taken.bytes text))

-- the line goes on with the paragraph before the text, which is a term or not, and the block is the table whose header row it is
pub record IsTableAfter (term : Bool) (text : List ℕ) (outer : OpenContainers) (line : List ℕ) (block : Block) : Type 0 where
  pub goes_on : ¬ Leaves outer (EndsRead outer.extensions term) line
  pub begins : BeginTable outer (lines_of text)
  pub is_table : IsBlockAfter true text outer line (rest_in outer.containers line) block

-- the front of the lines is no block that ends there whatever lines follow: of no first block is it shown that it is over
abbrev pub NoneIsOver : Between → List ℕ → Bool → Type 0
NoneIsOver before text has_ended =
    (piece : Piece) (rest : List (List ℕ)) → lines_of text ≡ (piece.first ∷ piece.later) ++ rest → IsPiece before piece rest
    → ¬ IsOver (containers_of piece) piece.kind has_ended rest
