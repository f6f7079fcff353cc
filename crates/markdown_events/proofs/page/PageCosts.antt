-- What the events of a page cost, where each event has a cost: so much for each of its bytes, and so much for each cell.
use Rattle.std.proofs.Common.{ℕ, suc, Bool, true, false, ◌+◌, ◌*◌, ◌<◌, ◌≤◌, ◌≡◌, ◌^◌, List, [], ◌∷◌, ◌++◌, length, map, Option, Some, None}
use Rattle.std.proofs.Common.{ap, refl, sym, subst, arith, append-nil}
use Rattle.std.specs.Prelude.{⊤}
use Rattle.std.proofs.Math.Nat.{mul-le-mul_left}
use Rattle.markdown_values.specs.declared.values.extensions.Extensions.{Extensions}
use Rattle.markdown_values.specs.values.Events.{end, start}
use Rattle.markdown_values.specs.values.Tags.{item}
use Rattle.markdown_blocks.specs.byte_order_mark.ByteOrderMark.{text_start}
use Rattle.markdown_blocks.specs.containers.Containers.{past_first_line}
use Rattle.markdown_blocks.specs.declared.containers.Container.{Container}
use Rattle.markdown_blocks.specs.declared.containers.Container.TheVariants.{Quote, Item, Footnote, TermDefinition}
use Rattle.markdown_blocks.specs.declared.containers.ListItem.{ListItem}
use Rattle.markdown_blocks.specs.events.Events.{Event, IsEventsOf, LeafBlock, ends, leaf, starts}
use Rattle.markdown_blocks.specs.first_blocks.Waiting.{waiting_next}
use Rattle.markdown_blocks.specs.laws.Order.{ContentsStand}
use Rattle.markdown_blocks.specs.laws.Sizes.{HasFewDigits, HaveBytes, HaveFewDigits, containers_begun}
use Rattle.markdown_blocks.specs.link_definitions.LinkDefinitions.{first_of}
use Rattle.markdown_blocks.specs.lists.Lists.{Nodes, nothing, leaf_then, container_then, flatten}
use Rattle.markdown_blocks.proofs.ForCallers.{few_containers, items_have_few_digits, leaves_have_bytes, page_contents_stand}
use Rattle.markdown_events.specs.InlineEvents.{EventSetting, RangedEvent}
use Rattle.markdown_events.specs.TagEnds.{tag_end}
use Rattle.markdown_events.specs.Targets.{Targets, or_else}
use Rattle.markdown_events.specs.declared.page.reading.Room.{Room}
use Rattle.markdown_events.specs.page.LeafEvents.{Place}
use Rattle.markdown_events.specs.page.PageEvents.{AreNodeEvents, ArePageEvents, ArePageEventsWith, OpenList, after_block, container_tag, element_of}
use Rattle.markdown_events.specs.page.PageEvents.{ending, event_setting, inside, list_after, list_end, list_in, list_start, list_tag, outermost, starting}
use Rattle.markdown_events.specs.page.References.{begun_cells, page_room, room_after}
use Rattle.markdown_events.specs.page.Settings.{built}
use Rattle.markdown_events.specs.page.Spans.{block_end, container_end, span_of}
use Rattle.markdown_events.specs.declared.page.spans.Span.{Span}
use Rattle.markdown_events.proofs.inline_events.Costs.{Cost, total, total_both}
use Rattle.markdown_events.proofs.page.BlockCosts.{IsBlockCost, IsSized, block_cost}
use Rattle.markdown_events.proofs.page.CellRoom.{bytes_of, few_bytes}
use Rattle.markdown_events.proofs.page.OnePage.{OtherEvents}
use Rattle.markdown_events.proofs.page.RoomLemmas.{cells_both}
use Rattle.markdown_events.proofs.page.TreeLemmas.{cells_in_item, cells_in_other}
use Rattle.markdown_events.proofs.page.leaf_events.PagePlaces.{LeavesStandIn, page_leaves_stand}

-- A container costs so much, an item of a list with the start and the end of that.
pub record IsPageCost (cost : Cost) (byte tail edge held line info row cell block holder : ℕ) : Type 0 where
  pub blocks : IsBlockCost cost byte tail edge held line info row cell block
  pub of_container : (one : Container) → cost (start (container_tag one)) + cost (end (tag_end (container_tag one))) ≤ holder
  pub of_item : (one : ListItem) → one.start < 10 ^ 9
      → cost (start (list_tag one)) + cost (start item) + cost (end (tag_end {A = List ℕ} item)) + edge ≤ holder

-- ---- what is known of nodes

-- how many containers are among them and in them
abbrev containers_in : Nodes → ℕ
containers_in nothing = 0
containers_in (leaf_then block later) = containers_in later
containers_in (container_then one offset inner later) = suc (containers_in inner + containers_in later)

-- what is known of each leaf block, and of the number of each item
abbrev AreSized : Nodes → Type 0
AreSized nothing = ⊤
AreSized (leaf_then block later) = IsSized block × AreSized later
AreSized (container_then one offset inner later) = HasFewDigits one × AreSized inner × AreSized later

begun_both : (a b : List Event) → containers_begun (a ++ b) ≡ containers_begun a + containers_begun b
begun_both [] b = omega arith
begun_both (starts one offset ∷ a) b = omega (arith, begun_both a b)
begun_both (leaf block ∷ a) b = begun_both a b
begun_both (ends ∷ a) b = begun_both a b

begun_is : (nodes : Nodes) → containers_begun (flatten nodes) ≡ containers_in nodes
begun_is nothing = refl
begun_is (leaf_then block later) = begun_is later
begun_is (container_then one offset inner later) =
    omega (arith, begun_both (flatten inner) (ends ∷ flatten later), begun_is inner, begun_is later)

-- what holds of events holds of two lists of them
bytes_parts : (a b : List Event) → HaveBytes (a ++ b) → HaveBytes a × HaveBytes b
bytes_parts [] b have = (tt, have)
bytes_parts (leaf block ∷ a) b have = let more = bytes_parts a b have.1 in ((have.0, more.0), more.1)
bytes_parts (starts one offset ∷ a) b have = bytes_parts a b have
bytes_parts (ends ∷ a) b have = bytes_parts a b have

digits_parts : (a b : List Event) → HaveFewDigits (a ++ b) → HaveFewDigits a × HaveFewDigits b
digits_parts [] b have = (tt, have)
digits_parts (leaf block ∷ a) b have = digits_parts a b have
digits_parts (starts one offset ∷ a) b have = let more = digits_parts a b have.1 in ((have.0, more.0), more.1)
digits_parts (ends ∷ a) b have = digits_parts a b have

stand_parts : (count : ℕ) (a b : List Event) → LeavesStandIn count (a ++ b) → LeavesStandIn count a × LeavesStandIn count b
stand_parts count [] b stand = (tt, stand)
stand_parts count (leaf block ∷ a) b stand = let more = stand_parts count a b stand.1 in ((stand.0, more.0), more.1)
stand_parts count (starts one offset ∷ a) b stand = stand_parts count a b stand
stand_parts count (ends ∷ a) b stand = stand_parts count a b stand

sized : (page : List ℕ) (nodes : Nodes) (outer : List Container) (kept passed count : ℕ) → HaveBytes (flatten nodes) → HaveFewDigits (flatten nodes)
    → LeavesStandIn count (flatten nodes) → ContentsStand page outer kept passed nodes → AreSized nodes
sized page nothing outer kept passed count have few stand hold = tt
sized page (leaf_then block later) outer kept passed count have few stand hold =
    let text = hold.1.within in
    let found = stand.0.offset in (
      record { bytes = have.0; within = omega (arith, text, found.begins) },
      sized page later outer (length outer) _ count have.1 few stand.1 hold.2,
    )
sized page (container_then one offset inner later) outer kept passed count have few stand hold =
    let all = bytes_parts (flatten inner) (ends ∷ flatten later) have in
    let digits = digits_parts (flatten inner) (ends ∷ flatten later) few.1 in
    let stood = stand_parts count (flatten inner) (ends ∷ flatten later) stand in (
      few.0,
      sized page inner (outer ++ past_first_line one ∷ []) kept _ count all.0 digits.0 stood.0 hold.0,
      sized page later outer (length outer) _ count all.1 digits.1 stood.1 hold.1,
    )

page_sized : (asked : Extensions) (page : List ℕ) (nodes : Nodes) → IsEventsOf asked page (flatten nodes) → AreSized nodes
page_sized asked page nodes are =
    sized page nodes [] 0 (text_start page) (length page) (leaves_have_bytes asked page (flatten nodes) are)
    (items_have_few_digits asked page (flatten nodes) are) (page_leaves_stand asked page (flatten nodes) are) (page_contents_stand asked page nodes are)

-- ---- costs

module _ (cost : Cost) (byte tail edge held line info row cell block holder : ℕ)
    (is : IsPageCost cost byte tail edge held line info row cell block holder) where
  list_begins : (current : Option OpenList) (one : ListItem) (offset : ℕ) (span : Span)
      → total cost (list_start current one offset span) ≤ cost (start (list_tag one))
  list_begins None one offset span = omega arith
  list_begins (Some current) one offset span = omega arith

  list_ends : (is_last : Bool) (current : OpenList) → total cost (list_end is_last current) ≤ edge
  list_ends true current = omega (arith, is.blocks.inlines.ends current.element.tag)
  list_ends false current = omega arith

  -- around what an item holds
  item_costs : (current : Option OpenList) (one : ListItem) (offset : ℕ) (span : Span) (now : OpenList) (inner next : List RangedEvent)
      → one.start < 10 ^ 9
      → total cost (list_start current one offset span ++ starting item offset span.to ++ inner ++ ending (element_of item offset span.to)
      ++ list_end span.is_last now ++ next) ≤ holder + total cost inner + total cost next
  item_costs current one offset span now inner next few =
      let lists = list_start current one offset span in
      let begins = starting item offset span.to in
      let closes = ending (element_of item offset span.to) in
      let last = list_end span.is_last now in
      omega (
        arith,
        list_begins current one offset span,
        list_ends span.is_last now,
        is.of_item one few,
        total_both cost lists begins,
        total_both cost (lists ++ begins) inner,
        total_both cost (lists ++ begins ++ inner) closes,
        total_both cost (lists ++ begins ++ inner ++ closes) last,
        total_both cost (lists ++ begins ++ inner ++ closes ++ last) next,
      )

  other_costs : (one : Container) (offset to : ℕ) (inner next : List RangedEvent)
      → total cost (starting (container_tag one) offset to ++ inner ++ ending (element_of (container_tag one) offset to) ++ next)
      ≤ holder + total cost inner + total cost next
  other_costs one offset to inner next =
      let closes = ending (element_of (container_tag one) offset to) in
      omega (arith, is.of_container one, total_both cost inner closes, total_both cost (inner ++ closes) next)

  module _ (page : List ℕ) (setting : EventSetting) where
    abbrev NodesCost : Nodes → Type 0
    NodesCost nodes = (room : Room) (here : Place) (waiting : Option Container) (current : Option OpenList) (events : List RangedEvent)
        → AreNodeEvents page setting room here waiting current nodes events
        → total cost events ≤ holder * containers_in nodes + (block + held) * bytes_of nodes + cell * begun_cells events

    other_cost : (one : Container) (offset : ℕ) (inner later : Nodes) → NodesCost inner → NodesCost later → (room : Room) (here : Place)
        → (events : List RangedEvent) → OtherEvents page setting one offset inner later room here events
        → total cost events ≤ holder * suc (containers_in inner + containers_in later) + (block + held) * (bytes_of inner + bytes_of later)
        + cell * begun_cells events
    other_cost one offset inner later inner_cost later_cost room here events (inside_it, rest, are_inside, are_rest, all) =
        omega (
          arith,
          ap (total cost) all,
          ap (λ (es : List RangedEvent). cell * begun_cells es) all,
          ap (λ n. cell * n) (cells_in_other one offset (container_end one inner) inside_it rest),
          other_costs one offset (container_end one inner) inside_it rest,
          inner_cost room (inside one false here) (Some one) None inside_it are_inside,
          later_cost (room_after room inside_it) (after_block here) None None rest are_rest,
        )

    nodes_cost : (nodes : Nodes) → AreSized nodes → NodesCost nodes
    nodes_cost nothing sizes room here waiting current events none = omega (arith, ap (total cost) none)
    nodes_cost (leaf_then one later) sizes room here waiting current events (own, rest, are, are_rest, all) =
        omega (
          arith,
          ap (total cost) all,
          total_both cost own rest,
          ap (λ (es : List RangedEvent). cell * begun_cells es) all,
          ap (λ n. cell * n) (cells_both own rest),
          block_cost cost byte tail edge held line info row cell block is.blocks page setting room here waiting one own sizes.0 are,
          nodes_cost later sizes.1 (room_after room own) (after_block here) (waiting_next waiting (leaf one)) current rest are_rest,
        )
    nodes_cost (container_then (Item one) offset inner later) sizes room here waiting current events (inside_it, rest, are_inside, are_rest, all) =
        let span = span_of (Item one) inner later in
        let now = list_in current one offset span in
        omega (
          arith,
          ap (total cost) all,
          ap (λ (es : List RangedEvent). cell * begun_cells es) all,
          ap (λ n. cell * n) (cells_in_item current one offset span now inside_it rest),
          item_costs current one offset span now inside_it rest sizes.0,
          nodes_cost inner sizes.1 room (inside (Item one) now.is_tight here) (Some (Item one)) None inside_it are_inside,
          nodes_cost later sizes.2 (room_after room inside_it) (after_block here) None (list_after span.is_last now) rest are_rest,
        )
    nodes_cost (container_then Quote offset inner later) sizes room here waiting current events are =
        other_cost Quote offset inner later (nodes_cost inner sizes.1) (nodes_cost later sizes.2) room here events are
    nodes_cost (container_then Footnote offset inner later) sizes room here waiting current events are =
        other_cost Footnote offset inner later (nodes_cost inner sizes.1) (nodes_cost later sizes.2) room here events are
    nodes_cost (container_then (TermDefinition one) offset inner later) sizes room here waiting current events are =
        other_cost (TermDefinition one) offset inner later (nodes_cost inner sizes.1) (nodes_cost later sizes.2) room here events are

  tree_cost : (page : List ℕ) (setting : Extensions) (targets : Targets) (nodes : Nodes) (events : List RangedEvent)
      → IsEventsOf (built setting) page (flatten nodes)
      → AreNodeEvents page (event_setting setting targets) (page_room page) outermost None None nodes events
      → total cost events ≤ (holder + block + held) * length page + cell * begun_cells events
  tree_cost page setting targets nodes events are_blocks are =
      let few : containers_in nodes ≤ length page =
      omega (arith, begun_is nodes, few_containers (built setting) page (flatten nodes) are_blocks) in
      omega (
        arith,
        nodes_cost page (event_setting setting targets) nodes (page_sized (built setting) page nodes are_blocks) (page_room page) outermost None None events are,
        mul-le-mul_left holder few,
        mul-le-mul_left (block + held) (few_bytes (built setting) page nodes are_blocks),
      )

  -- The events of a page cost so much for each of its bytes, and for each cell.
  pub page_cost : (page : List ℕ) (setting : Extensions) (events : List RangedEvent) → ArePageEvents page setting events
      → total cost events ≤ (holder + block + held) * length page + cell * begun_cells events
  page_cost page setting events are =
      tree_cost page setting (λ label. first_of label are.named) are.nodes events are.are_blocks are.are_events

  -- also where labels that the page does not define lead as these say
  pub page_cost_with : (page : List ℕ) (setting : Extensions) (more : Targets) (events : List RangedEvent) → ArePageEventsWith page setting more events
      → total cost events ≤ (holder + block + held) * length page + cell * begun_cells events
  page_cost_with page setting more events are =
      tree_cost page setting (or_else (λ label. first_of label are.named) more) are.nodes events are.are_blocks are.are_events
