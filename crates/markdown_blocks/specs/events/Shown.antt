-- The events of a page, and what is written in its link reference definitions. (CommonMark 0.31.2, section 4.7)
use Rattle.std.specs.Prelude.{ℕ, ◌+◌, ◌≡◌, List, [], ◌∷◌, ◌++◌, Option, None, Some, length, drop, map, replicate}
use Rattle.std.specs.List.{concat}
use Rattle.markdown_scanners_tree.specs.declared.scanners.reference_definitions.ReferenceDefinition.{ReferenceDefinition}
use Rattle.markdown_blocks.specs.blocks.Pages.{Piece, IsPage}
use Rattle.markdown_blocks.specs.byte_order_mark.ByteOrderMark.{text_of, text_start}
use Rattle.markdown_values.specs.declared.values.extensions.Extensions.{Extensions}
use Rattle.markdown_blocks.specs.declared.containers.Container.{Container}
use Rattle.markdown_blocks.specs.definitions.Definitions.{IsDefinition}
use Rattle.markdown_blocks.specs.events.Events.{Event, starts, leaf, ends, LeafBlock, AreLeavesOf, piece_content, piece_events, open_after}
use Rattle.markdown_blocks.specs.link_definitions.LinkDefinitions.{Target, slice, target_of}

-- what is written in a definition: its label, between the brackets, and where it leads
pub record Written : Type 0 where
  pub label : List ℕ
  pub target : Target

abbrev pub written_of : List ℕ → ReferenceDefinition → Written
written_of text definition = record { label = slice definition.label text; target = target_of text definition }

-- what is written in the definition that a content begins with, if it begins with one, and what is left of the content then
abbrev pub IsWritten : List ℕ → Option Written → List ℕ → Type 0
IsWritten content None rest = ((definition : ReferenceDefinition) → ¬ IsDefinition content definition) × (rest ≡ content)
IsWritten content (Some written) rest =
    (definition : ReferenceDefinition) × IsDefinition content definition × (written ≡ written_of content definition)
    × (rest ≡ drop definition.len content)

-- what is written in the definition that an event is, where this is left of its block's content
abbrev pub IsWrittenIn : List ℕ → Event → Option Written → List ℕ → Type 0
IsWrittenIn content (starts container offset) written rest = (written ≡ None) × (rest ≡ content)
IsWrittenIn content (leaf block) written rest = IsWritten content written rest
IsWrittenIn content ends written rest = (written ≡ None) × (rest ≡ content)

-- an event, and what is written in the definition that it is, if it is one
pub record Shown : Type 0 where
  pub event : Event
  pub written : Option Written

abbrev pub events_in : List Shown → List Event
events_in shown = map (λ s. s.event) shown

-- events of a block with what is written in them, where this is left of its content
abbrev pub AreShown : List ℕ → List Event → List Shown → Type 0
AreShown content [] shown = shown ≡ []
AreShown content (event ∷ events) shown =
    (written : Option Written) × (rest : List ℕ) × (later : List Shown) × IsWrittenIn content event written rest
    × (shown ≡ record { event = event; written = written } ∷ later) × AreShown rest events later

-- the same of the events of pieces, before which these containers are open and so many lines and bytes stand
abbrev pub AreShownOf : List Container → ℕ → ℕ → List Piece → List Shown → Type 0
AreShownOf outer line start [] shown = shown ≡ []
AreShownOf outer line start (piece ∷ later) shown =
    (leaves : List LeafBlock) × (here : List Shown) × (more : List Shown) × AreLeavesOf line start piece leaves
    × AreShown (piece_content piece) (piece_events outer start piece leaves) here × (shown ≡ here ++ more)
    × AreShownOf (piece.kept ++ piece.begun) (line + length (piece.first ∷ piece.later))
    (start + length (concat (piece.first ∷ piece.later))) later more

-- a container ends, in which nothing is written
abbrev pub end_shown : Shown
end_shown = record { event = ends; written = None }

-- the same of the events of a page with these extensions on
abbrev pub IsShownOf : Extensions → List ℕ → List Shown → Type 0
IsShownOf asked page shown =
    (pieces : List Piece) × (blocks : List Shown) × IsPage asked (text_of page) pieces
    × AreShownOf [] 0 (text_start page) pieces blocks
    × (shown ≡ blocks ++ replicate (open_after 0 pieces) end_shown)
