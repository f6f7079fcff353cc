-- The events of a page are those of nodes, and the page has one list of lists.
use Rattle.std.proofs.Common.{ℕ, zero, suc, List, [], ◌∷◌, ◌++◌, ◌+◌, ◌-◌, ◌≤◌, ◌≡◌, length, take}
use Rattle.std.proofs.Common.{refl, sym, ap, ◌∙◌, subst, arith, append_assoc, length-append}
use Rattle.std.specs.Prelude.{map, replicate}
use Rattle.std.proofs.lemmas.List.{length-take}
use Rattle.markdown_blocks.specs.byte_order_mark.ByteOrderMark.{text_start}
use Rattle.markdown_blocks.proofs.events.EventLemmas.{kept_few_by, one_list_of_events}
use Rattle.markdown_blocks.proofs.lists.ListLemmas.{page_lists}
use Rattle.markdown_blocks.specs.blocks.Pages.{Piece, IsPiece, AreBlocks, opened_by, root}
use Rattle.markdown_scanners_tree.specs.line.State.{LineState}
use Rattle.markdown_blocks.specs.containers.Containers.{Between, match_line, marker_start, after_marker}
use Rattle.markdown_values.specs.declared.values.extensions.Extensions.{Extensions}
use Rattle.markdown_blocks.specs.declared.containers.Container.{Container}
use Rattle.markdown_blocks.specs.declared.lists.ListBlock.{ListBlock}
use Rattle.markdown_blocks.specs.events.Events.{Event, starts, leaf, ends, LeafBlock, started, AreEvents, open_after, IsEventsOf}
use Rattle.markdown_blocks.specs.lists.Tracked.{at_start, lists_given}
use Rattle.markdown_blocks.specs.lists.Lists.{Nodes, nothing, leaf_then, container_then, flatten, lists_of, AreListsOf}

-- what stands in the innermost of so many containers, in the one around it after that, and so on
abbrev AreNested : ℕ → List Event → Type 0
AreNested zero events = (nodes : Nodes) × (events ≡ flatten nodes)
AreNested (suc depth) events =
    (nodes : Nodes) × (rest : List Event) × (events ≡ flatten nodes ++ (ends ∷ rest)) × AreNested depth rest

nest_leaf : (depth : ℕ) (block : LeafBlock) (events : List Event) → AreNested depth events → AreNested depth (leaf block ∷ events)
nest_leaf zero block events n = (leaf_then block n.0, ap (λ es. leaf block ∷ es) n.1)
nest_leaf (suc depth) block events n = (leaf_then block n.0, n.1, ap (λ es. leaf block ∷ es) n.2, n.3)

nest_end : (depth : ℕ) (events : List Event) → AreNested depth events → AreNested (suc depth) (ends ∷ events)
nest_end depth events n = (nothing, events, refl, n)

nest_start : (depth : ℕ) (c : Container) (offset : ℕ) (events : List Event) → AreNested (suc depth) events → AreNested depth (starts c offset ∷ events)
nest_start zero c offset events n =
    (container_then c offset n.0 n.3.0, ap (λ es. starts c offset ∷ es) (n.2 ∙ ap (λ es. flatten n.0 ++ (ends ∷ es)) n.3.1))
nest_start (suc depth) c offset events n = (
  container_then c offset n.0 n.3.0,
  n.3.1,
  ap (λ es. starts c offset ∷ es) (n.2 ∙ ap (λ es. flatten n.0 ++ (ends ∷ es)) n.3.2
      ∙ sym (append_assoc (flatten n.0) (ends ∷ flatten n.3.0) (ends ∷ n.3.1))),
  n.3.3,
)

nest_ends : (count depth deeper : ℕ) (events : List Event) → count + depth ≡ deeper → AreNested depth events
    → AreNested deeper (replicate count ends ++ events)
nest_ends zero depth deeper events sum n = subst (λ d. AreNested d events) (let same : depth ≡ deeper = omega (arith, sum) in same) n
nest_ends (suc count) depth deeper events sum n =
    subst (λ d. AreNested d (replicate (suc count) ends ++ events)) (let same : suc (count + depth) ≡ deeper = omega (arith, sum) in same)
    (nest_end (count + depth) (replicate count ends ++ events) (nest_ends count depth (count + depth) events refl n))

nest_starts : (cs : List Container) (start : ℕ) (s : LineState) (depth deeper : ℕ) (events : List Event) → depth + length cs ≡ deeper
    → AreNested deeper events → AreNested depth (started start s cs ++ events)
nest_starts [] start s depth deeper events sum n = subst (λ d. AreNested d events) (let same : deeper ≡ depth = omega (arith, sum) in same) n
nest_starts (c ∷ cs) start s depth deeper events sum n =
    nest_start depth c (start + marker_start s) (started start (after_marker s) cs ++ events)
    (nest_starts cs start (after_marker s) (suc depth) deeper events (omega (arith, sum)) n)

nest_leaves : (leaves : List LeafBlock) (depth : ℕ) (events : List Event) → AreNested depth events → AreNested depth (map leaf leaves ++ events)
nest_leaves [] depth events n = n
nest_leaves (block ∷ leaves) depth events n = nest_leaf depth block (map leaf leaves ++ events) (nest_leaves leaves depth events n)

nest_none : (depth : ℕ) → AreNested depth (replicate depth ends)
nest_none zero = (nothing, refl)
nest_none (suc depth) = nest_end depth (replicate depth ends) (nest_none depth)

kept_few : (outer : Between) (piece : Piece) (rest : List (List ℕ)) → IsPiece outer piece rest → length piece.kept ≤ length outer.containers
kept_few outer piece rest p =
    let here = ap length p.opened.goes_on in
    omega (arith, here, kept_few_by piece.header outer piece.first)

-- the events of a piece, and those after it
pub regroup : (x y z blocks all : List Event) → x ++ y ++ z ++ blocks ++ all ≡ x ++ (y ++ (z ++ (blocks ++ all)))
regroup x y z blocks all =
    append_assoc (x ++ y ++ z) blocks all ∙ append_assoc (x ++ y) z (blocks ++ all) ∙ append_assoc x y (z ++ (blocks ++ all))

events_nested : (pieces : List Piece) (outer : Between) (line start : ℕ) (blocks : List Event) → AreBlocks outer pieces []
    → AreEvents outer.containers line start pieces blocks
    → AreNested (length outer.containers) (blocks ++ replicate (open_after (length outer.containers) pieces) ends)
events_nested [] outer line start blocks each are = subst (λ es. AreNested (length outer.containers) (es ++ replicate (length outer.containers) ends))
    (sym are) (nest_none (length outer.containers))
events_nested (piece ∷ later) outer line start blocks each are =
    let few = kept_few outer piece _ each.0 in
    let inside = piece.kept ++ piece.begun in
    let all = replicate (open_after (length inside) later) ends in
    let gone = replicate (length outer.containers - length piece.kept) ends in
    let new = started start (match_line outer.containers piece.first).state piece.begun in
    let n = events_nested later (opened_by outer piece) _ _ are.1 each.1 are.4 in
    subst (AreNested (length outer.containers)) (sym (ap (λ es. es ++ all) are.3 ∙ regroup gone new (map leaf are.0) are.1 all))
    (nest_ends (length outer.containers - length piece.kept) (length piece.kept) (length outer.containers) _ (omega (arith, few))
    (nest_starts piece.begun start (match_line outer.containers piece.first).state (length piece.kept) (length inside) _
    (sym (length-append piece.kept piece.begun)) (nest_leaves are.0 (length inside) (are.1 ++ all) n)))

-- the events of a page are those of nodes
pub events_of_nodes : (asked : Extensions) (page : List ℕ) (events : List Event) → IsEventsOf asked page events → (nodes : Nodes)
    × (events ≡ flatten nodes)
events_of_nodes asked page events h =
    let n = events_nested h.0 (root asked) 0 (text_start page) h.1 h.2.each h.3 in
    (n.0, h.4 ∙ n.1)

-- what the lists of such nodes are, the page's are
pub lists_are : (asked : Extensions) (page : List ℕ) (all : List Event) (found : List ListBlock) → IsEventsOf asked page all
    → ((nodes : Nodes) → all ≡ flatten nodes → lists_of nodes ≡ found) → AreListsOf asked page found
lists_are asked page all found events same =
    let n = events_of_nodes asked page all events in
    (n.0, subst (IsEventsOf asked page) n.1 events, sym (same n.0 n.1))

-- a page has one list of lists
pub one_list_of_lists : (asked : Extensions) (page : List ℕ) (lists others : List ListBlock) → AreListsOf asked page lists
    → AreListsOf asked page others → lists ≡ others
one_list_of_lists asked page lists others h h' =
    let same = one_list_of_events asked page (flatten h.0) (flatten h'.0) h.1 h'.1 in
    h.2 ∙ sym (page_lists h.0) ∙ ap (lists_given at_start) same ∙ page_lists h'.0 ∙ sym h'.2
