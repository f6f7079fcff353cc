-- The events of a page balance, and nest.
use Rattle.std.proofs.Common.{ℕ, Bool, true, false, not, List, [], ◌∷◌, ◌++◌, Option, Some, None, ◌≡◌, refl, sym, subst, append_assoc}
use Rattle.std.proofs.Common.{if◌then◌else◌}
use Rattle.std.specs.Prelude.{⊤, IsTrue, is_some}
use Rattle.markdown_values.specs.values.Tags.{TagView, item}
use Rattle.markdown_blocks.specs.blocks.Pages.{is_blank_kind}
use Rattle.markdown_blocks.specs.declared.containers.Container.{Container}
use Rattle.markdown_blocks.specs.declared.containers.Container.TheVariants.{Quote, Item, Footnote, TermDefinition}
use Rattle.markdown_blocks.specs.declared.containers.ListItem.{ListItem}
use Rattle.markdown_blocks.specs.events.Events.{LeafBlock, leaf}
use Rattle.markdown_blocks.specs.first_blocks.Waiting.{waiting_next}
use Rattle.markdown_blocks.specs.link_definitions.LinkDefinitions.{first_of}
use Rattle.markdown_blocks.specs.lists.Lists.{Nodes, nothing, leaf_then, container_then}
use Rattle.markdown_events.specs.EventLaws.{AreBalanced, Started}
use Rattle.markdown_events.specs.InlineEvents.{EventSetting, RangedEvent}
use Rattle.markdown_events.specs.Nesting.{AreNested, without_ranges}
use Rattle.markdown_events.specs.TagEnds.{tag_end}
use Rattle.markdown_events.specs.declared.elements.Element.{Element}
use Rattle.markdown_values.specs.declared.values.extensions.Extensions.{Extensions}
use Rattle.markdown_events.specs.declared.page.levels.ItemList.{ItemList}
use Rattle.markdown_events.specs.declared.page.reading.Room.{Room}
use Rattle.markdown_events.specs.page.LeafEvents.{Place}
use Rattle.markdown_events.specs.page.PageEvents.{AreNodeEvents, ArePageEvents, ArePageEventsWith, OpenList, after_block, event_setting}
use Rattle.markdown_events.specs.page.PageEvents.{container_tag, ending, inside}
use Rattle.markdown_events.specs.page.PageEvents.{list_after, list_end, list_in, list_tag, outermost}
use Rattle.markdown_events.specs.Targets.{Targets, or_else}
use Rattle.markdown_events.specs.page.Places.{element}
use Rattle.markdown_events.specs.page.Spans.{container_end, front_list, is_alike, span_of}
use Rattle.markdown_events.specs.page.References.{page_room, room_after}
use Rattle.markdown_events.proofs.page.OnePage.{OtherEvents}
use Rattle.markdown_events.proofs.inline_events.NoTables.{IsOther}
use Rattle.markdown_events.proofs.page.NestLemmas.{AreOutside, Stand, StandIn, alone_balance, alone_nested, element_stands, more_outside}
use Rattle.markdown_events.proofs.page.RoomLemmas.{in_room}
use Rattle.markdown_events.proofs.page.task_events.TaskLaws.{block_events_stand}

-- ---- the list that is open

abbrev started_as : TagView (List ℕ) → Element → Started
started_as tag one = (tag, record { start = one.from; end = one.to })

-- The list is the innermost of these elements, and nodes go on with it; the others are around it. Where none is open, they are all.
abbrev AreOpen : Option OpenList → Nodes → List Started → List Started → Type 0
AreOpen None nodes elements outer = elements ≡ outer
AreOpen (Some list) nodes elements outer =
    (tag : TagView (List ℕ)) × (list.element.tag ≡ tag_end tag) × IsOther tag × (elements ≡ started_as tag list.element ∷ outer)
    × IsTrue (is_some (front_list nodes))

-- no element is a table or a part of one, where the others aren't
open_outside : (current : Option OpenList) (nodes : Nodes) (elements outer : List Started) → AreOpen current nodes elements outer → AreOutside outer
    → AreOutside elements
open_outside None nodes elements outer are outside = subst AreOutside (sym are) outside
open_outside (Some list) nodes elements outer (tag, closes, other, are, some) outside =
    subst AreOutside (sym are) (more_outside (started_as tag list.element) outer other outside)

-- a list that goes on does so in the nodes that follow
alike_is_some : (one : ListItem) (list : Option ItemList) → is_alike one list ≡ true → IsTrue (is_some list)
alike_is_some one None is = absurd (cc)
alike_is_some one (Some list) is = refl

-- a blank line leaves it open, and no other leaf block stands before its items
open_after_leaf : (block : LeafBlock) (later : Nodes) (current : Option OpenList) (elements outer : List Started)
    → AreOpen current (leaf_then block later) elements outer → AreOpen current later elements outer
open_after_leaf block later None elements outer are = are
open_after_leaf block later (Some list) elements outer (tag, closes, other, are, some) =
    (tag, closes, other, are, by_kind (is_blank_kind block.kind) some)
  where
    by_kind : (k : Bool) → IsTrue (is_some (if k then front_list later else None)) → IsTrue (is_some (front_list later))
    by_kind true some = some
    by_kind false some = absurd (let lost : false ≡ true = some in cc)

-- ---- nodes

pub reassociated : (a b c d : List RangedEvent) → a ++ b ++ c ++ d ≡ a ++ (b ++ (c ++ d))
reassociated a b c d = simp append_assoc

goes_on : (alike : Bool) → false ≡ not alike → alike ≡ true
goes_on true is = refl
goes_on false is = absurd (cc)

other_container : (container : Container) → IsOther (container_tag container)
other_container Quote = refl
other_container (Item one) = refl
other_container Footnote = refl
other_container (TermDefinition one) = refl

module _ (page : List ℕ) (setting : EventSetting) where
  -- with these elements open, of which the nodes end their list, what stands after them does so after their events
  abbrev NodesStand : Nodes → Type 0
  NodesStand nodes = (room : Room) (here : Place) (waiting : Option Container) (current : Option OpenList) (elements outer : List Started)
      (events more : List RangedEvent)
      → AreOpen current nodes elements outer → AreNodeEvents page setting room here waiting current nodes events → AreOutside outer → StandIn outer more
      → StandIn elements (events ++ more)

  -- nodes where no list is open stand outside of tables
  alone : (nodes : Nodes) → NodesStand nodes → (room : Room) (here : Place) (waiting : Option Container) (events : List RangedEvent)
      → AreNodeEvents page setting room here waiting None nodes events → Stand events
  alone nodes stand room here waiting events are elements rest outside gives =
      stand room here waiting None elements elements events rest refl are outside gives

  -- an item of a list that is open, and what follows it
  item_in_list : (one : ListItem) (later : Nodes) → NodesStand later → (room : Room) (here : Place) (list : OpenList) (tag : TagView (List ℕ))
      → list.element.tag ≡ tag_end tag → IsOther tag → (is_last : Bool) → is_last ≡ not (is_alike one (front_list later))
      → (outer : List Started) (whole rest more : List RangedEvent) → Stand whole
      → AreNodeEvents page setting room here None (list_after is_last list) later rest → AreOutside outer → StandIn outer more
      → StandIn (started_as tag list.element ∷ outer) (whole ++ list_end is_last list ++ rest ++ more)
  item_in_list one later stand room here list tag closes other true last outer whole rest more stands are outside gives =
      let elements : List Started = started_as tag list.element ∷ outer in
      let after = stand room here None None outer outer rest more refl are outside gives in
      subst (StandIn elements) (sym (reassociated whole (ending list.element) rest more))
      (stands elements (ending list.element ++ (rest ++ more)) (more_outside (started_as tag list.element) outer other outside)
      (tag, outer, refl, closes, after))
  item_in_list one later stand room here list tag closes other false last outer whole rest more stands are outside gives =
      let elements : List Started = started_as tag list.element ∷ outer in
      let some = alike_is_some one (front_list later) (goes_on (is_alike one (front_list later)) last) in
      let after = stand room here None (Some list) elements outer rest more (tag, closes, other, refl, some) are outside gives in
      subst (StandIn elements) (sym (reassociated whole [] rest more))
      (stands elements ([] ++ (rest ++ more)) (more_outside (started_as tag list.element) outer other outside) after)

  -- a container that is no item
  other_stands : (container : Container) (offset : ℕ) (inner later : Nodes) → NodesStand inner → NodesStand later → (room : Room) (here : Place)
      (elements outer : List Started) (events more : List RangedEvent) → elements ≡ outer
      → OtherEvents page setting container offset inner later room here events → AreOutside outer → StandIn outer more → StandIn elements (events ++ more)
  other_stands container offset inner later in_it after_it room here elements outer events more are_open (held, rest, are_held, are_rest, is) outside gives =
      let to = container_end container inner in
      let whole = element (container_tag container) offset to held in
      let stands = element_stands (container_tag container) offset to held (other_container container)
      (alone inner in_it room (inside container false here) (Some container) held are_held) in
      subst (λ (es : List RangedEvent). StandIn elements (es ++ more)) (sym is)
      (subst (StandIn elements) (sym (append_assoc whole rest more))
      (stands elements (rest ++ more) (subst AreOutside (sym are_open) outside)
      (after_it (room_after room held) (after_block here) None None elements outer rest more are_open are_rest outside gives)))

  nodes_stand : (nodes : Nodes) → NodesStand nodes
  nodes_stand nothing room here waiting None elements outer events more are_open is outside gives =
      subst (λ (es : List RangedEvent). StandIn elements (es ++ more)) (sym is) (subst (λ (e : List Started). StandIn e more) (sym are_open) gives)
  nodes_stand nothing room here waiting (Some list) elements outer events more (tag, closes, other, are, some) is outside gives =
      absurd (let lost : false ≡ true = some in cc)
  nodes_stand (leaf_then block later) room here waiting current elements outer events more are_open (own, rest, are_own, are_rest, is) outside gives =
      subst (λ (es : List RangedEvent). StandIn elements (es ++ more)) (sym is)
      (subst (StandIn elements) (sym (append_assoc own rest more))
      (in_room page setting room here waiting block own (λ s are. block_events_stand page s here waiting block own are) are_own elements (rest ++ more)
      (open_outside current (leaf_then block later) elements outer are_open outside)
      (nodes_stand later (room_after room own) (after_block here) (waiting_next waiting (leaf block)) current elements outer rest more
      (open_after_leaf block later current elements outer are_open) are_rest outside gives)))
  nodes_stand (container_then (Item one) offset inner later) room here waiting None elements outer events more are_open (held, rest, are_held, are_rest, is)
      outside gives =
      let span = span_of (Item one) inner later in
      let now = list_in None one offset span in
      let stands = element_stands item offset span.to held refl
      (alone inner (nodes_stand inner) room (inside (Item one) now.is_tight here) (Some (Item one)) held are_held) in
      subst (λ (es : List RangedEvent). StandIn elements (es ++ more)) (sym is)
      (subst (λ (e : List Started). ⊤ × StandIn (started_as (list_tag one) now.element ∷ e)
      (element item offset span.to held ++ list_end span.is_last now ++ rest ++ more)) (sym are_open) (
        tt,
        item_in_list one later (nodes_stand later) (room_after room held) (after_block here) now (list_tag one) refl refl span.is_last refl outer
            (element item offset span.to held) rest more stands are_rest outside gives,
      ))
  nodes_stand (container_then (Item one) offset inner later) room here waiting (Some list) elements outer events more (tag, closes, other, are_open, some)
      (held, rest, are_held, are_rest, is) outside gives =
      let span = span_of (Item one) inner later in
      let stands = element_stands item offset span.to held refl
      (alone inner (nodes_stand inner) room (inside (Item one) list.is_tight here) (Some (Item one)) held are_held) in
      subst (λ (es : List RangedEvent). StandIn elements (es ++ more)) (sym is)
      (subst (λ (e : List Started). StandIn e (element item offset span.to held ++ list_end span.is_last list ++ rest ++ more)) (sym are_open)
      (item_in_list one later (nodes_stand later) (room_after room held) (after_block here) list tag closes other span.is_last refl outer
      (element item offset span.to held) rest more stands are_rest outside gives))
  nodes_stand (container_then Quote offset inner later) room here waiting None elements outer events more are_open are outside gives =
      other_stands Quote offset inner later (nodes_stand inner) (nodes_stand later) room here elements outer events more are_open are outside gives
  nodes_stand (container_then Footnote offset inner later) room here waiting None elements outer events more are_open are outside gives =
      other_stands Footnote offset inner later (nodes_stand inner) (nodes_stand later) room here elements outer events more are_open are outside gives
  nodes_stand (container_then (TermDefinition one) offset inner later) room here waiting None elements outer events more are_open are outside gives =
      other_stands (TermDefinition one) offset inner later (nodes_stand inner) (nodes_stand later) room here elements outer events more are_open are outside gives
  nodes_stand (container_then c offset inner later) room here waiting (Some list) elements outer events more (tag, closes, other, are, some) is outside gives =
      absurd (let lost : false ≡ true = some in cc)

-- ---- the page

page_events_stand : (page : List ℕ) (setting : Extensions) (events : List RangedEvent) → ArePageEvents page setting events → Stand events
page_events_stand page setting events are =
    let read_with = event_setting setting (λ label. first_of label are.named) in
    alone page read_with are.nodes (nodes_stand page read_with are.nodes) (page_room page) outermost None events are.are_events

-- also where labels that the page does not define lead as these say
page_events_with_stand : (page : List ℕ) (setting : Extensions) (more : Targets) (events : List RangedEvent)
    → ArePageEventsWith page setting more events → Stand events
page_events_with_stand page setting more events are =
    let read_with = event_setting setting (or_else (λ label. first_of label are.named) more) in
    alone page read_with are.nodes (nodes_stand page read_with are.nodes) (page_room page) outermost None events are.are_events

-- starts and ends balance
pub page_events_balance : (page : List ℕ) (setting : Extensions) (events : List RangedEvent) → ArePageEvents page setting events
    → AreBalanced events
page_events_balance page setting events are = alone_balance events (page_events_stand page setting events are)

pub page_events_with_balance : (page : List ℕ) (setting : Extensions) (more : Targets) (events : List RangedEvent)
    → ArePageEventsWith page setting more events → AreBalanced events
page_events_with_balance page setting more events are = alone_balance events (page_events_with_stand page setting more events are)

-- rows stand in tables, cells in rows, and no table in another
pub page_events_nest : (page : List ℕ) (setting : Extensions) (events : List RangedEvent) → ArePageEvents page setting events
    → AreNested (without_ranges events)
page_events_nest page setting events are = alone_nested events (page_events_stand page setting events are)

pub page_events_with_nest : (page : List ℕ) (setting : Extensions) (more : Targets) (events : List RangedEvent)
    → ArePageEventsWith page setting more events → AreNested (without_ranges events)
page_events_with_nest page setting more events are = alone_nested events (page_events_with_stand page setting more events are)
