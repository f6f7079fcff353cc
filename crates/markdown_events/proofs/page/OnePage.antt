-- A page has one list of events.
use Rattle.std.proofs.Common.{ℕ, false, List, [], ◌∷◌, ◌++◌, Option, Some, None, inl, inr, ◌≡◌, refl, sym, ap, subst, ◌∙◌, append-nil, append_assoc, arith}
use Rattle.std.specs.Bool.{⊤}
use Rattle.markdown_blocks.proofs.ForCallers.{one_list_of_events, one_list_of_named}
use Rattle.markdown_blocks.specs.declared.containers.Container.{Container}
use Rattle.markdown_blocks.specs.declared.containers.Container.TheVariants.{Quote, Item, Footnote, TermDefinition}
use Rattle.markdown_blocks.specs.events.Events.{Event, starts, leaf, ends, LeafBlock}
use Rattle.markdown_blocks.specs.first_blocks.Waiting.{waiting_next}
use Rattle.markdown_blocks.specs.link_definitions.LinkDefinitions.{Named, first_of}
use Rattle.markdown_blocks.specs.lists.Lists.{Nodes, nothing, leaf_then, container_then, flatten}
use Rattle.markdown_events.specs.InlineEvents.{EventSetting, RangedEvent, with_cells}
use Rattle.markdown_values.specs.declared.values.extensions.Extensions.{Extensions}
use Rattle.markdown_events.specs.declared.page.reading.Room.{Room}
use Rattle.markdown_events.specs.page.LeafEvents.{Place}
use Rattle.markdown_events.specs.page.PageEvents.{ArePageEvents, AreNodeEvents, OpenList, after_block, event_setting, container_tag, element_of}
use Rattle.markdown_events.specs.page.References.{AreEventsInRoom, added, page_room, room_after, without_references}
use Rattle.markdown_events.specs.page.Settings.{built}
use Rattle.markdown_events.specs.page.PageEvents.{ending, inside, list_after, list_end, list_in, list_start, outermost, starting}
use Rattle.markdown_events.specs.page.Spans.{container_end, span_of}
use Rattle.markdown_events.proofs.page.task_events.TaskLaws.{one_list_of_block_events}
use Rattle.markdown_values.specs.values.Tags.{item}

-- ---- block events have one tree

-- what follows the blocks of a container, or of the page
IsTail : List Event → Type 0
IsTail [] = ⊤
IsTail (ends ∷ later) = ⊤
IsTail (event ∷ later) = ⊥

kind : List Event → ℕ
kind [] = 0
kind (starts container offset ∷ later) = 1
kind (leaf block ∷ later) = 2
kind (ends ∷ later) = 3

rest_of : List Event → List Event
rest_of [] = []
rest_of (event ∷ later) = later

container_in : Container → List Event → Container
container_in default (starts container offset ∷ later) = container
container_in default events = default

place_in : ℕ → List Event → ℕ
place_in default (starts container offset ∷ later) = offset
place_in default events = default

block_in : LeafBlock → List Event → LeafBlock
block_in default (leaf block ∷ later) = block
block_in default events = default

-- no tail begins as other nodes do
tail_is : (events : List Event) → IsTail events → (kind events ≡ 1 → ⊥) × (kind events ≡ 2 → ⊥)
unfolding IsTail kind
tail_is [] h = (λ e. omega (arith, e), λ e. omega (arith, e))
tail_is (ends ∷ later) h = (λ e. omega (arith, e), λ e. omega (arith, e))
tail_is (starts container offset ∷ later) h = absurd h
tail_is (leaf block ∷ later) h = absurd h

record AreSame (n m : Nodes) (s t : List Event) : Type 0 where
  nodes : n ≡ m
  tails : s ≡ t

one_tree : (n m : Nodes) (s t : List Event) → IsTail s → IsTail t → flatten n ++ s ≡ flatten m ++ t → AreSame n m s t
unfolding IsTail kind rest_of container_in place_in block_in
one_tree nothing nothing s t p q e = record { nodes = refl; tails = e }
one_tree nothing (leaf_then block later) s t p q e = absurd ((tail_is s p).1 (ap kind e))
one_tree nothing (container_then container offset inner later) s t p q e = absurd ((tail_is s p).0 (ap kind e))
one_tree (leaf_then block later) nothing s t p q e = absurd ((tail_is t q).1 (sym (ap kind e)))
one_tree (container_then container offset inner later) nothing s t p q e = absurd ((tail_is t q).0 (sym (ap kind e)))
one_tree (leaf_then block later) (leaf_then other after) s t p q e =
    let next = one_tree later after s t p q (ap rest_of e) in
    record {
      nodes = ap (λ b. leaf_then b later) (ap (block_in block) e) ∙ ap (λ n. leaf_then other n) next.nodes;
      tails = next.tails;
    }
one_tree (leaf_then block later) (container_then container offset inner after) s t p q e = absurd (omega (arith, ap kind e))
one_tree (container_then container offset inner later) (leaf_then block after) s t p q e = absurd (omega (arith, ap kind e))
one_tree (container_then container offset inner later) (container_then other where_it_is within_it after) s t p q e =
    let held = one_tree inner within_it (ends ∷ (flatten later ++ s)) (ends ∷ (flatten after ++ t)) tt tt
    (sym (append_assoc (flatten inner) (ends ∷ flatten later) s) ∙ (ap rest_of e ∙ append_assoc (flatten within_it) (ends ∷ flatten after) t)) in
    let next = one_tree later after s t p q (ap rest_of held.tails) in
    record {
      nodes = ap (λ c. container_then c offset inner later) (ap (container_in container) e)
          ∙ (ap (λ p. container_then other p inner later) (ap (place_in offset) e)
          ∙ (ap (λ n. container_then other where_it_is n later) held.nodes ∙ ap (λ n. container_then other where_it_is within_it n) next.nodes));
      tails = next.tails;
    }

pub one_tree_of_events : (n m : Nodes) → flatten n ≡ flatten m → n ≡ m
unfolding IsTail
one_tree_of_events n m e = (one_tree n m [] [] tt tt (append-nil (flatten n) ∙ (e ∙ sym (append-nil (flatten m))))).nodes

-- ---- a tree has one list of events

-- of a container that is no item, where what it holds and what follows it have one list
abbrev pub OtherEvents : List ℕ → EventSetting → Container → ℕ → Nodes → Nodes → Room → Place → List RangedEvent → Type 0
OtherEvents page setting container offset inner later room here events =
    (held : List RangedEvent) × (rest : List RangedEvent) × AreNodeEvents page setting room (inside container false here) (Some container) None inner held
    × AreNodeEvents page setting (room_after room held) (after_block here) None None later rest
    × (events ≡ starting (container_tag container) offset (container_end container inner) ++ held
    ++ ending (element_of (container_tag container) offset (container_end container inner)) ++ rest)

one_of_other : (page : List ℕ) (setting : EventSetting) (container : Container) (offset : ℕ) (inner later : Nodes) (room : Room) (here : Place)
    → (events others : List RangedEvent) → (h : OtherEvents page setting container offset inner later room here events)
    → (k : OtherEvents page setting container offset inner later room here others) → h.0 ≡ k.0 → h.1 ≡ k.1 → events ≡ others
one_of_other page setting container offset inner later room here events others h k held rest =
    let tag = container_tag container in
    let to = container_end container inner in
    h.4 ∙ (ap (λ es. starting tag offset to ++ es ++ ending (element_of tag offset to) ++ h.1) held
    ∙ (ap (λ es. starting tag offset to ++ k.0 ++ ending (element_of tag offset to) ++ es) rest ∙ sym k.4))

-- ---- a block has one list of events

one_list_in_room : (page : List ℕ) (setting : EventSetting) (room : Room) (here : Place) (waiting : Option Container) (block : LeafBlock)
    → (events others : List RangedEvent) → AreEventsInRoom page setting room here waiting block events
    → AreEventsInRoom page setting room here waiting block others → events ≡ others
one_list_in_room page setting room here waiting block events others (inl (are, fits)) (inl (are_too, fits_too)) =
    one_list_of_block_events page (with_cells room.cells setting) here waiting block events others are are_too
one_list_in_room page setting room here waiting block events others (inl (are, fits)) (inr (all, are_all, more, text)) =
    absurd (omega (arith, fits, more, ap added (one_list_of_block_events page (with_cells room.cells setting) here waiting block events all are are_all)))
one_list_in_room page setting room here waiting block events others (inr (all, are_all, more, text)) (inl (are, fits)) =
    absurd (omega (arith, fits, more, ap added (one_list_of_block_events page (with_cells room.cells setting) here waiting block others all are are_all)))
one_list_in_room page setting room here waiting block events others (inr (all, are_all, more, text)) (inr (all_too, are_all_too, more_too, text_too)) =
    one_list_of_block_events page (without_references (with_cells room.cells setting)) here waiting block events others text text_too

-- ---- nodes have one list of events

one_list_of_node_events : (page : List ℕ) (setting : EventSetting) (nodes : Nodes) (room : Room) (here : Place) (waiting : Option Container)
    → (current : Option OpenList)
    → (events others : List RangedEvent) → AreNodeEvents page setting room here waiting current nodes events
    → AreNodeEvents page setting room here waiting current nodes others → events ≡ others
one_list_of_node_events page setting nothing room here waiting current events others h k = h ∙ sym k
one_list_of_node_events page setting (leaf_then block later) room here waiting current events others h k =
    let leaf_same = one_list_in_room page setting room here waiting block h.0 k.0 h.2 k.2 in
    let rest_same = one_list_of_node_events page setting later (room_after room k.0) (after_block here) (waiting_next waiting (leaf block)) current h.1 k.1
    (subst (λ own. AreNodeEvents page setting (room_after room own) (after_block here)
    (waiting_next waiting (leaf block)) current later h.1) leaf_same h.3) k.3 in
    h.4 ∙ (ap (λ es. es ++ h.1) leaf_same ∙ (ap (λ es. k.0 ++ es) rest_same ∙ sym k.4))
one_list_of_node_events page setting (container_then (Item one) offset inner later) room here waiting current events others h k =
    let span = span_of (Item one) inner later in
    let now = list_in current one offset span in
    let held = one_list_of_node_events page setting inner room (inside (Item one) now.is_tight here) (Some (Item one)) None h.0 k.0 h.2 k.2 in
    let rest = one_list_of_node_events page setting later (room_after room k.0) (after_block here) None (list_after span.is_last now) h.1 k.1
    (subst (λ own. AreNodeEvents page setting (room_after room own) (after_block here) None (list_after span.is_last now) later h.1) held h.3) k.3 in
    h.4 ∙ (ap (λ es. list_start current one offset span ++ starting item offset span.to ++ es ++ ending (element_of item offset span.to)
    ++ list_end span.is_last now ++ h.1) held
    ∙ (ap (λ es. list_start current one offset span ++ starting item offset span.to ++ k.0 ++ ending (element_of item offset span.to)
    ++ list_end span.is_last now ++ es) rest ∙ sym k.4))
one_list_of_node_events page setting (container_then Quote offset inner later) room here waiting current events others h k =
    let held = one_list_of_node_events page setting inner room (inside Quote false here) (Some Quote) None h.0 k.0 h.2 k.2 in
    one_of_other page setting Quote offset inner later room here events others h k held
    (one_list_of_node_events page setting later (room_after room k.0) (after_block here) None None h.1 k.1
    (subst (λ own. AreNodeEvents page setting (room_after room own) (after_block here) None None later h.1) held h.3) k.3)
one_list_of_node_events page setting (container_then Footnote offset inner later) room here waiting current events others h k =
    let held = one_list_of_node_events page setting inner room (inside Footnote false here) (Some Footnote) None h.0 k.0 h.2 k.2 in
    one_of_other page setting Footnote offset inner later room here events others h k held
    (one_list_of_node_events page setting later (room_after room k.0) (after_block here) None None h.1 k.1
    (subst (λ own. AreNodeEvents page setting (room_after room own) (after_block here) None None later h.1) held h.3) k.3)
one_list_of_node_events page setting (container_then (TermDefinition one) offset inner later) room here waiting current events others h k =
    let held = one_list_of_node_events page setting inner room (inside (TermDefinition one) false here) (Some (TermDefinition one)) None h.0 k.0 h.2 k.2 in
    one_of_other page setting (TermDefinition one) offset inner later room here events others h k held
    (one_list_of_node_events page setting later (room_after room k.0) (after_block here) None None h.1 k.1
    (subst (λ own. AreNodeEvents page setting (room_after room own) (after_block here) None None later h.1) held h.3) k.3)

-- a page has one list of events
pub one_list_of_page_events : (page : List ℕ) (setting : Extensions) (events others : List RangedEvent) → ArePageEvents page setting events
    → ArePageEvents page setting others → events ≡ others
one_list_of_page_events page setting events others h k =
    let nodes = one_tree_of_events h.nodes k.nodes
    (one_list_of_events (built setting) page (flatten h.nodes) (flatten k.nodes) h.are_blocks k.are_blocks) in
    let named = one_list_of_named (built setting) page h.named k.named h.are_defined k.are_defined in
    let first = subst (λ n. AreNodeEvents page (event_setting setting (λ label. first_of label h.named)) (page_room page) outermost None None n events) nodes h.are_events in
    let second = subst (λ (all : List Named). AreNodeEvents page (event_setting setting (λ label. first_of label all)) (page_room page) outermost None None k.nodes events)
    named first in
    one_list_of_node_events page (event_setting setting (λ label. first_of label k.named)) k.nodes (page_room page) outermost None None events others second k.are_events
