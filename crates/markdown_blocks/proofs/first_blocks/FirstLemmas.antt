-- Events that are followed one by one show the first blocks of their nodes.
use Rattle.std.proofs.Common.{ℕ, Bool, true, false, List, [], ◌∷◌, ◌++◌, Option, Some, None, ◌≡◌, if◌then◌else◌}
use Rattle.std.proofs.Common.{refl, sym, ap, ◌∙◌, subst, append_assoc, append-nil}
use Rattle.std.specs.List.{filter_map}
use Rattle.std.specs.Option.{option_map, option_to_list}
use Rattle.markdown_blocks.proofs.events.EventLemmas.{one_list_of_events}
use Rattle.markdown_blocks.proofs.lists.PageLemmas.{events_of_nodes}
use Rattle.markdown_values.specs.declared.values.extensions.Extensions.{Extensions}
use Rattle.markdown_blocks.specs.declared.containers.Container.{Container}
use Rattle.markdown_blocks.specs.events.Events.{Event, ends, LeafBlock, IsEventsOf}
use Rattle.markdown_blocks.specs.events.Given.{Left, Gives}
use Rattle.markdown_blocks.specs.first_blocks.FirstBlocks.{First, first_in, firsts_of}
use Rattle.markdown_blocks.specs.first_blocks.Waiting.{firsts_after}
use Rattle.markdown_blocks.specs.blocks.Pages.{is_blank_kind}
use Rattle.markdown_blocks.specs.lists.Lists.{Nodes, nothing, leaf_then, container_then, flatten}

-- what follows what stands in a container, or in the page
abbrev tail : Bool → List Event → List Event
tail false later = []
tail true later = ends ∷ later

abbrev first_of : Option Container → Nodes → Option First
first_of None nodes = None
first_of (Some container) nodes = first_in container nodes

-- the first blocks of nodes, the first of which may be one of the container that waits for it, and those after
abbrev AreFound : Nodes → Type 0
AreFound nodes = (waiting : Option Container) (inside : Bool) (later : List Event)
    → firsts_after waiting (flatten nodes ++ tail inside later)
    ≡ option_to_list (first_of waiting nodes) ++ (firsts_of nodes ++ firsts_after None (tail inside later))

found_nothing : AreFound nothing
found_nothing None false later = refl
found_nothing None true later = refl
found_nothing (Some container) false later = refl
found_nothing (Some container) true later = refl

abbrev first_here : LeafBlock → Option Container → Option First
first_here block waiting = option_map (λ container. record { container = container; block = block }) waiting

found_leaf : (block : LeafBlock) (nodes : Nodes) → AreFound nodes → AreFound (leaf_then block nodes)
found_leaf block nodes found None inside later = by_kind (is_blank_kind block.kind)
  where
    by_kind : (k : Bool)
        → option_to_list (if k then None else first_here block None)
        ++ firsts_after (if k then None else None) (flatten nodes ++ tail inside later)
        ≡ firsts_of nodes ++ firsts_after None (tail inside later)
    by_kind true = found None inside later
    by_kind false = found None inside later
found_leaf block nodes found (Some c) inside later = by_kind (is_blank_kind block.kind)
  where
    by_kind : (k : Bool)
        → option_to_list (if k then None else first_here block (Some c))
        ++ firsts_after (if k then Some c else None) (flatten nodes ++ tail inside later)
        ≡ option_to_list (if k then first_in c nodes else first_here block (Some c))
        ++ (firsts_of nodes ++ firsts_after None (tail inside later))
    by_kind true = found (Some c) inside later
    by_kind false = ap (λ fs. option_to_list (first_here block (Some c)) ++ fs) (found None inside later)

found_container : (c : Container) (offset : ℕ) (inner nodes : Nodes) → AreFound inner → AreFound nodes → AreFound (container_then c offset inner nodes)
found_container c offset inner nodes found_in found waiting inside later =
    let after = firsts_after None (tail inside later) in
    ap (firsts_after (Some c)) (append_assoc (flatten inner) (ends ∷ flatten nodes) (tail inside later))
    ∙ found_in (Some c) true (flatten nodes ++ tail inside later)
    ∙ ap (λ fs. option_to_list (first_in c inner) ++ (firsts_of inner ++ fs)) (found None inside later)
    ∙ sym (append_assoc (option_to_list (first_in c inner)) (firsts_of inner) (firsts_of nodes ++ after))
    ∙ sym (append_assoc (option_to_list (first_in c inner) ++ firsts_of inner) (firsts_of nodes) after)
    ∙ none waiting
  where
    none : (waiting : Option Container)
        → firsts_of (container_then c offset inner nodes) ++ firsts_after None (tail inside later)
        ≡ option_to_list (first_of waiting (container_then c offset inner nodes))
        ++ (firsts_of (container_then c offset inner nodes) ++ firsts_after None (tail inside later))
    none None = refl
    none (Some other) = refl

firsts_found : (nodes : Nodes) → AreFound nodes
firsts_found nothing = found_nothing
firsts_found (leaf_then block nodes) = found_leaf block nodes (firsts_found nodes)
firsts_found (container_then c offset inner nodes) = found_container c offset inner nodes (firsts_found inner) (firsts_found nodes)

-- the first blocks of a page's nodes
pub page_firsts : (nodes : Nodes) → firsts_after None (flatten nodes) ≡ firsts_of nodes
page_firsts nodes = ap (firsts_after None) (sym (append-nil (flatten nodes))) ∙ firsts_found nodes None false [] ∙ append-nil (firsts_of nodes)

-- What a page shows at its first blocks, and what is found of it where these events are left and this container waits for its
-- first block.
module _ {A : Type 0} (find : First → Option A) (asked : Extensions) where
  abbrev pub IsShown : List ℕ → List A → Type 0
  IsShown page all = (nodes : Nodes) × IsEventsOf asked page (flatten nodes) × (all ≡ filter_map find (firsts_of nodes))

  abbrev pub IsFoundSoFar : List ℕ → Left → Option Container → List A → Type 0
  IsFoundSoFar page left waiting found = (events : List Event) → Gives left events → (all : List Event) × IsEventsOf asked page all
      × ((nodes : Nodes) → all ≡ flatten nodes → filter_map find (firsts_of nodes) ≡ found ++ filter_map find (firsts_after waiting events))

  pub found_at_start : (page : List ℕ) (left : Left) → ((events : List Event) → Gives left events → IsEventsOf asked page events)
      → IsFoundSoFar page left None []
  found_at_start page left gives events g =
      (events, gives events g, λ nodes same. ap (filter_map find) (sym (page_firsts nodes) ∙ ap (firsts_after None) (sym same)))

  -- an event is read, at which this is found, if anything
  pub found_further : (page : List ℕ) (left left' : Left) (waiting waiting' : Option Container) (found : List A) (event : Event) (one : Option A)
      → IsFoundSoFar page left waiting found
      → ((events : List Event) → Gives left' events → Gives left (event ∷ events))
      → ((events : List Event) → filter_map find (firsts_after waiting (event ∷ events))
      ≡ option_to_list one ++ filter_map find (firsts_after waiting' events))
      → IsFoundSoFar page left' waiting' (found ++ option_to_list one)
  found_further page left left' waiting waiting' found event one so_far gives shows events g =
      let before = so_far (event ∷ events) (gives events g) in (
        before.0,
        before.1,
        λ nodes same. before.2 nodes same ∙ ap (λ fs. found ++ fs) (shows events)
            ∙ sym (append_assoc found (option_to_list one) (filter_map find (firsts_after waiting' events))),
      )

  pub found_at_end : (page : List ℕ) (left : Left) (waiting : Option Container) (found : List A) → IsFoundSoFar page left waiting found
      → Gives left [] → IsShown page found
  found_at_end page left waiting found so_far none =
      let before = so_far [] none in
      let n = events_of_nodes asked page before.0 before.1 in
      (n.0, subst (IsEventsOf asked page) n.1 before.1, sym (before.2 n.0 n.1 ∙ append-nil found))

  pub one_shown : (page : List ℕ) (all others : List A) → IsShown page all → IsShown page others → all ≡ others
  one_shown page all others h h' =
      let same = one_list_of_events asked page (flatten h.0) (flatten h'.0) h.1 h'.1 in
      h.2 ∙ ap (filter_map find) (sym (page_firsts h.0) ∙ ap (firsts_after None) same ∙ page_firsts h'.0) ∙ sym h'.2
