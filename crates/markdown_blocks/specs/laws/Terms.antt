-- Where definitions of terms stand, said of blocks alone. (pulldown-cmark, definition lists)
use Rattle.std.specs.Prelude.{◌≡◌, ◌⊎◌, List, [], ◌∷◌, length, drop, ⊤}
use Rattle.markdown_blocks.specs.declared.blocks.BlockKind.TheVariants.{Blank, Paragraph}
use Rattle.markdown_blocks.specs.declared.containers.Container.{Container}
use Rattle.markdown_blocks.specs.declared.containers.Container.TheVariants.{TermDefinition}
use Rattle.markdown_blocks.specs.blocks.Pages.{Piece, containers_of}
use Rattle.markdown_blocks.specs.definitions.Content.{content_in}
use Rattle.markdown_blocks.specs.definitions.Definitions.{HasText}

-- the containers that are open after these blocks, of which the last comes first
abbrev pub open_after : List Piece → List Container
open_after [] = []
open_after (last ∷ before) = containers_of last

-- the last of the blocks is a term: a paragraph that is more than link reference definitions
abbrev pub EndWithTerm : List Piece → Type 0
EndWithTerm [] = ⊥
EndWithTerm (last ∷ before) =
    (last.kind ≡ Paragraph) × HasText (content_in last.kind (containers_of last) last.words.text last.later)

-- the block is one blank line, which goes on with all of these containers, and begins none
abbrev pub IsOneBlankLine : List Container → Piece → Type 0
IsOneBlankLine outer piece =
    (piece.kind ≡ Blank) × (piece.later ≡ []) × (length piece.kept ≡ length outer) × (piece.begun ≡ [])

-- a term stands after them, with at most one blank line after it
abbrev pub TermStands : List Piece → Type 0
TermStands [] = ⊥
TermStands (last ∷ before) = EndWithTerm (last ∷ before) ⊎ (IsOneBlankLine (open_after before) last × EndWithTerm before)

-- Where these of the open containers end, none of them, a term stands there; or else the outermost of them is the definition of one.
abbrev pub FollowsTerm : List Piece → List Container → Type 0
FollowsTerm before [] = TermStands before
FollowsTerm before (TermDefinition definition ∷ inner) = ⊤
FollowsTerm before (container ∷ inner) = ⊥

-- none of the containers is the definition of a term
abbrev pub AreNoDefinitions : List Container → Type 0
AreNoDefinitions [] = ⊤
AreNoDefinitions (TermDefinition definition ∷ inner) = ⊥
AreNoDefinitions (container ∷ inner) = AreNoDefinitions inner

-- Of the containers that a block begins after these ones only the first is the definition of a term, and that follows the term, or
-- another definition of it.
abbrev pub BeginAfterTerm : List Piece → List Container → List Container → Type 0
BeginAfterTerm before ended [] = ⊤
BeginAfterTerm before ended (TermDefinition definition ∷ inner) = FollowsTerm before ended × AreNoDefinitions inner
BeginAfterTerm before ended (container ∷ inner) = AreNoDefinitions inner

-- so does each block after these ones
abbrev pub HaveTerms : List Piece → List Piece → Type 0
HaveTerms before [] = ⊤
HaveTerms before (piece ∷ later) =
    BeginAfterTerm before (drop (length piece.kept) (open_after before)) piece.begun × HaveTerms (piece ∷ before) later
