-- Pieces have one list of events.
use Rattle.std.proofs.Common.{ℕ, List, [], ◌∷◌, ◌++◌, ◌+◌, ◌≡◌, inl, inr, length, drop, refl, sym, ap, ◌∙◌, subst}
use Rattle.std.specs.List.{concat}
use Rattle.markdown_scanners_tree.proofs.ForCallers.{one_reference_definition}
use Rattle.markdown_scanners_tree.specs.declared.scanners.reference_definitions.ReferenceDefinition.{ReferenceDefinition}
use Rattle.markdown_blocks.specs.blocks.Pages.{Piece}
use Rattle.markdown_blocks.specs.declared.blocks.BlockKind.{BlockKind}
use Rattle.markdown_blocks.specs.declared.blocks.BlockKind.TheVariants.{Definition}
use Rattle.markdown_blocks.specs.declared.containers.Container.{Container}
use Rattle.markdown_blocks.specs.definitions.Definitions.{most_nested}
use Rattle.markdown_blocks.specs.events.Events.{Event, LeafBlock, Part, AreLeaves, leaf_of, first_lines, later_lines, lines_taken}
use Rattle.markdown_blocks.specs.events.Events.{part_of, piece_content, piece_events, AreEvents}

-- a block has one list of leaf blocks
pub one_list_of_leaves : (outer : List Container) (kind : BlockKind) (part : Part) (content : List ℕ) (leaves others : List LeafBlock)
    → AreLeaves outer kind part content leaves → AreLeaves outer kind part content others → leaves ≡ others
one_list_of_leaves outer kind part content [] [] are are' = refl
one_list_of_leaves outer kind part content [] (block ∷ others) are are' = absurd (are'.0 are)
one_list_of_leaves outer kind part content (block ∷ leaves) [] are are' = absurd (are.0 are')
one_list_of_leaves outer kind part content (block ∷ leaves) (other ∷ others) (some, inl (d, is, given, more)) (some', inl (d', is', given', more')) =
    let same : d ≡ d' = one_reference_definition most_nested content d d' is is' in
    let later : AreLeaves outer kind (later_lines outer (lines_taken content d') part) (drop d'.len content) leaves =
    subst (λ (e : ReferenceDefinition). AreLeaves outer kind (later_lines outer (lines_taken content e) part) (drop e.len content) leaves) same more in
    ap (λ l. l ∷ leaves) (given ∙ ap (λ e. leaf_of Definition (first_lines (lines_taken content e) part)) same ∙ sym given')
    ∙ ap (λ ls. other ∷ ls) (one_list_of_leaves outer kind (later_lines outer (lines_taken content d') part) (drop d'.len content) leaves others later more')
one_list_of_leaves outer kind part content (block ∷ leaves) (other ∷ others) (some, inl (d, is, given, more)) (some', inr own) = absurd (own.0 d is)
one_list_of_leaves outer kind part content (block ∷ leaves) (other ∷ others) (some, inr own) (some', inl (d, is, given, more)) = absurd (own.0 d is)
one_list_of_leaves outer kind part content (block ∷ leaves) (other ∷ others) (some, inr own) (some', inr own') =
    ap (λ l. l ∷ leaves) (own.1 ∙ sym own'.1) ∙ ap (λ ls. other ∷ ls) (own.2 ∙ sym own'.2)

pub one_list_of_blocks : (outer : List Container) (line start : ℕ) (pieces : List Piece) (events others : List Event)
    → AreEvents outer line start pieces events → AreEvents outer line start pieces others → events ≡ others
one_list_of_blocks outer line start [] events others are are' = are ∙ sym are'
one_list_of_blocks outer line start (piece ∷ later) events others are are' =
    let leaves = one_list_of_leaves (piece.kept ++ piece.begun) piece.kind (part_of line start piece) (piece_content piece) are.0 are'.0 are.2 are'.2 in
    let more = one_list_of_blocks (piece.kept ++ piece.begun) (line + length (piece.first ∷ piece.later))
    (start + length (concat (piece.first ∷ piece.later))) later are.1 are'.1 are.4 are'.4 in
    are.3 ∙ ap (λ ls. piece_events outer start piece ls ++ are.1) leaves ∙ ap (λ es. piece_events outer start piece are'.0 ++ es) more ∙ sym are'.3
