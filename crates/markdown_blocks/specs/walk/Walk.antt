-- One step of a walk over a page: the next block, and what is between it and the next one.
use Rattle.std.specs.Prelude.{ℕ, Bool, ◌≡◌, ◌⊎◌, ◌↔◌, IsTrue, List, [], ◌∷◌, ◌++◌, drop, length}
use Rattle.markdown_scanners_tree.specs.declared.scanners.reference_definitions.ReferenceDefinition.{ReferenceDefinition}
use Rattle.markdown_scanners_tree.specs.scanners.TextLines.{lines_of}
use Rattle.markdown_blocks.specs.blocks.Pages.{Piece, AreOpened, BeginWithHeader, IsBlockAfter, IsPiece, opened_by}
use Rattle.markdown_blocks.specs.containers.Containers.{Between, Rest, match_line}
use Rattle.markdown_blocks.specs.declared.blocks.Block.{Block}
use Rattle.markdown_blocks.specs.declared.containers.Container.{Container}
use Rattle.markdown_blocks.specs.declared.step.Step.{Step}
use Rattle.markdown_blocks.specs.declared.walk.Standing.{Standing}
use Rattle.markdown_blocks.specs.definitions.Content.{content_in}
use Rattle.markdown_blocks.specs.definitions.Definitions.{IsDefinition}
use Rattle.markdown_blocks.specs.taken.Lines.{IsTaken}

-- what stands between two blocks where these containers are open
abbrev pub between : Standing → List Container → Between
between standing containers = record {
  extensions = standing.extensions;
  containers = containers;
  term = standing.is_after_term;
  paragraph = standing.is_after_paragraph;
}

-- where these containers are open, the line opens new ones, so many of which were open before, and what is left of it is this
pub record IsOpening (old : Between) (header : Bool) (line : List ℕ) (new : List Container) (count : ℕ) (words : Rest) : Type 0 where
  pub kept : List Container
  pub begun : List Container
  pub open_now : new ≡ kept ++ begun
  pub counted : count ≡ length kept
  pub opened : AreOpened old header line kept begun words

-- the block at the front of a text, where the first line opens these containers, so many of which were open before, and this is left
-- of it then
pub record IsFirst (old : Between) (text line : List ℕ) (new : List Container) (count : ℕ) (words : Rest) (block : Block) : Type 0 where
  pub header : Bool
  pub is_header : IsTrue header ↔ BeginWithHeader old (lines_of text)
  pub opening : IsOpening old header line new count words
  pub found : IsBlockAfter header text (record { extensions = old.extensions; containers = new }) line words block

-- what the first line of the step's block has after its containers
abbrev pub rest_of : Step → Rest
rest_of step = record { indent = step.indent; text = step.text.now }

-- Where these containers are open, the step is the block at the front of the lines, if these further lines stand after them;
-- then the new ones are open.
pub record IsStep (old : Between) (lines : List ℕ) (more : List (List ℕ)) (step : Step) (new : Between) : Type 0 where
  pub piece : Piece
  pub is_piece : IsPiece old piece (lines_of (drop step.block.taken.bytes lines) ++ more)
  pub taken : IsTaken lines step.block.taken (piece.first ∷ piece.later)
  pub open_now : new ≡ opened_by old piece
  pub counted : step.kept ≡ length piece.kept
  pub kind : piece.kind ≡ step.block.kind
  pub words : piece.words ≡ rest_of step
  pub line : step.line.now ≡ piece.first
  pub offset : step.start ≡ (match_line old.containers piece.first).state
  pub all : lines_of step.lines.now ≡ piece.first ∷ piece.later

-- the content of a block, or nothing where that begins with no definition
abbrev pub IsGathered : List ℕ → List ℕ → Type 0
IsGathered content gathered =
    (gathered ≡ content) ⊎ ((gathered ≡ []) × ((definition : ReferenceDefinition) → ¬ IsDefinition content definition))

-- what is gathered of the content of the step's block, in these containers
abbrev pub IsContentOf : Step → List Container → List ℕ → Type 0
IsContentOf step containers gathered =
    (line : List ℕ) (later : List (List ℕ)) → lines_of step.lines.now ≡ line ∷ later
    → IsGathered (content_in step.block.kind containers step.text.now later) gathered
