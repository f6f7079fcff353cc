-- Each container of a page holds something.
use Rattle.std.proofs.Common.{ℕ, zero, suc, Bool, true, false, ◌-◌, ◌≡◌, ◌∙◌, List, [], ◌∷◌, ◌++◌, length, map, replicate, refl, sym, subst}
use Rattle.std.proofs.Common.{append_assoc, append-nil}
use Rattle.std.specs.Prelude.{◌≢◌, ⊤}
use Rattle.markdown_scanners_tree.specs.line.State.{LineState}
use Rattle.markdown_blocks.specs.byte_order_mark.ByteOrderMark.{text_start}
use Rattle.markdown_blocks.specs.blocks.Pages.{Piece}
use Rattle.markdown_blocks.specs.containers.Containers.{after_marker, match_line}
use Rattle.markdown_blocks.specs.declared.blocks.BlockKind.{BlockKind}
use Rattle.markdown_values.specs.declared.values.extensions.Extensions.{Extensions}
use Rattle.markdown_blocks.specs.declared.containers.Container.{Container}
use Rattle.markdown_blocks.specs.events.Events.{AreEvents, AreLeaves, Event, IsEventsOf, LeafBlock, Part, ends, leaf, open_after, part_of}
use Rattle.markdown_blocks.specs.events.Events.{piece_content, started, starts}
use Rattle.markdown_blocks.specs.laws.Order.{HoldSome}
use Rattle.markdown_blocks.specs.lists.Lists.{Nodes, nothing, leaf_then, container_then, flatten}
use Rattle.markdown_blocks.proofs.lists.PageLemmas.{regroup}

-- no container ends directly after it has begun, nor at the front where one has just begun
abbrev AreFilled : Bool → List Event → Type 0
AreFilled fresh [] = ⊤
AreFilled fresh (starts container offset ∷ later) = AreFilled true later
AreFilled fresh (leaf block ∷ later) = AreFilled false later
AreFilled fresh (ends ∷ later) = (fresh ≡ false) × AreFilled false later

ends_filled : (count : ℕ) (rest : List Event) → AreFilled false rest → AreFilled false (replicate count ends ++ rest)
ends_filled zero rest filled = filled
ends_filled (suc count) rest filled = (refl, ends_filled count rest filled)

started_filled : (start : ℕ) (s : LineState) (containers : List Container) (fresh : Bool) (rest : List Event)
    → ((b : Bool) → AreFilled b rest) → AreFilled fresh (started start s containers ++ rest)
started_filled start s [] fresh rest filled = filled fresh
started_filled start s (c ∷ inner) fresh rest filled = started_filled start (after_marker s) inner true rest filled

later_filled : (leaves : List LeafBlock) (rest : List Event) → AreFilled false rest → AreFilled false (map leaf leaves ++ rest)
later_filled [] rest filled = filled
later_filled (block ∷ leaves) rest filled = later_filled leaves rest filled

leaves_filled : (outer : List Container) (kind : BlockKind) (part : Part) (content : List ℕ) (leaves : List LeafBlock) (rest : List Event)
    → part.lines ≢ [] → AreLeaves outer kind part content leaves → AreFilled false rest → (fresh : Bool) → AreFilled fresh (map leaf leaves ++ rest)
leaves_filled outer kind part content [] rest some none filled fresh = absurd (some none)
leaves_filled outer kind part content (block ∷ leaves) rest some are filled fresh = later_filled leaves rest filled

pieces_filled : (pieces : List Piece) (outer : List Container) (line start : ℕ) (events rest : List Event) → AreEvents outer line start pieces events
    → AreFilled false rest → AreFilled false (events ++ rest)
pieces_filled [] outer line start events rest are filled = subst (λ (es : List Event). AreFilled false (es ++ rest)) (sym are) filled
pieces_filled (piece ∷ later) outer line start events rest (leaves, more, are, is, after) filled =
    let gone = replicate (length outer - length piece.kept) ends in
    let s = (match_line outer piece.first).state in
    let next = pieces_filled later (piece.kept ++ piece.begun) _ _ more rest after filled in
    subst (λ (es : List Event). AreFilled false (es ++ rest)) (sym is)
    (subst (AreFilled false) (sym (regroup gone (started start s piece.begun) (map leaf leaves) more rest))
    (ends_filled (length outer - length piece.kept) (started start s piece.begun ++ (map leaf leaves ++ (more ++ rest)))
    (started_filled start s piece.begun false (map leaf leaves ++ (more ++ rest))
    (leaves_filled (piece.kept ++ piece.begun) piece.kind (part_of line start piece) (piece_content piece) leaves (more ++ rest) (λ none. cc) are next))))

nodes_filled : (nodes : Nodes) (fresh : Bool) (rest : List Event) → AreFilled fresh (flatten nodes ++ rest)
    → HoldSome nodes × ((then : Bool) × AreFilled then rest)
nodes_filled nothing fresh rest filled = (tt, (fresh, filled))
nodes_filled (leaf_then block later) fresh rest filled = nodes_filled later false rest filled
nodes_filled (container_then container offset inner later) fresh rest filled =
    let inside = subst (AreFilled true) (append_assoc (flatten inner) (ends ∷ flatten later) rest) filled in
    let held = nodes_filled inner true (ends ∷ (flatten later ++ rest)) inside in
    let more = nodes_filled later false rest held.1.1.1 in
    ((some inner inside, held.0, more.0), more.1)
  where
    some : (inner : Nodes) → AreFilled true (flatten inner ++ (ends ∷ (flatten later ++ rest))) → inner ≢ nothing
    some nothing inside = λ none. (let both : true ≡ false = inside.0 in cc)
    some (leaf_then block after) inside = λ none. cc
    some (container_then c at within after) inside = λ none. cc

-- Each container of a page holds something.
pub containers_hold_some : (asked : Extensions) (page : List ℕ) (nodes : Nodes) → IsEventsOf asked page (flatten nodes) → HoldSome nodes
containers_hold_some asked page nodes (pieces, blocks, is_page, are, is) =
    let count = open_after 0 pieces in
    let none : AreFilled false (replicate count ends) = subst (AreFilled false) (append-nil (replicate count ends)) (ends_filled count [] tt) in
    let all = pieces_filled pieces [] 0 (text_start page) blocks (replicate count ends) are none in
    (nodes_filled nodes false [] (subst (AreFilled false) (sym is ∙ sym (append-nil (flatten nodes))) all)).0
