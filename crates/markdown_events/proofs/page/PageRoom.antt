-- References add no more to a page than it gives room.
use Rattle.std.proofs.Common.{ℕ, false, ◌≤◌, List, Option, Some, None, inl, inr, ap, arith}
use Rattle.markdown_blocks.specs.declared.containers.Container.{Container}
use Rattle.markdown_blocks.specs.declared.containers.Container.TheVariants.{Quote, Item, Footnote, TermDefinition}
use Rattle.markdown_blocks.specs.events.Events.{LeafBlock, leaf}
use Rattle.markdown_blocks.specs.first_blocks.Waiting.{waiting_next}
use Rattle.markdown_blocks.specs.link_definitions.LinkDefinitions.{first_of}
use Rattle.markdown_blocks.specs.lists.Lists.{Nodes, nothing, leaf_then, container_then}
use Rattle.markdown_values.specs.declared.values.extensions.Extensions.{Extensions}
use Rattle.markdown_events.specs.InlineEvents.{EventSetting, RangedEvent, with_cells}
use Rattle.markdown_events.specs.Targets.{Targets, or_else}
use Rattle.markdown_events.specs.declared.page.reading.Room.{Room}
use Rattle.markdown_events.specs.page.LeafEvents.{Place}
use Rattle.markdown_events.specs.page.PageEvents.{AreNodeEvents, ArePageEvents, ArePageEventsWith, OpenList, after_block, event_setting, inside}
use Rattle.markdown_events.specs.page.PageEvents.{list_after, list_in, outermost}
use Rattle.markdown_events.specs.page.References.{AreEventsInRoom, ReferencesFit, added, page_room, room_after}
use Rattle.markdown_events.specs.page.Spans.{container_end, span_of}
use Rattle.markdown_events.proofs.page.OnePage.{OtherEvents}
use Rattle.markdown_events.proofs.page.RoomLemmas.{added_both}
use Rattle.markdown_events.proofs.page.TextLemmas.{text_adds_nothing}
use Rattle.markdown_events.proofs.page.TreeLemmas.{added_by_item, added_by_other}

module _ (page : List ℕ) (setting : EventSetting) where
  block_fits : (room : Room) (here : Place) (waiting : Option Container) (block : LeafBlock) (events : List RangedEvent)
      → AreEventsInRoom page setting room here waiting block events → added events ≤ room.references
  block_fits room here waiting block events (inl (are, fits)) = fits
  block_fits room here waiting block events (inr (all, are_all, more, are)) = omega
      (arith, text_adds_nothing page (with_cells room.cells setting) here waiting block events are)

  abbrev Fit : Nodes → Type 0
  Fit nodes = (room : Room) (here : Place) (waiting : Option Container) (current : Option OpenList) (events : List RangedEvent)
      → AreNodeEvents page setting room here waiting current nodes events → added events ≤ room.references

  other_fits : (container : Container) (offset : ℕ) (inner later : Nodes) → Fit inner → Fit later → (room : Room) (here : Place) (events : List RangedEvent)
      → OtherEvents page setting container offset inner later room here events → added events ≤ room.references
  other_fits container offset inner later held_fit later_fit room here events (held, rest, are_held, are_rest, is) =
      omega (
        arith,
        ap added is,
        added_by_other container offset (container_end container inner) held rest,
        held_fit room (inside container false here) (Some container) None held are_held,
        later_fit (room_after room held) (after_block here) None None rest are_rest,
      )

  nodes_fit : (nodes : Nodes) → Fit nodes
  nodes_fit nothing room here waiting current events is = omega (arith, ap added is)
  nodes_fit (leaf_then block later) room here waiting current events (own, rest, are, are_rest, is) =
      omega (
        arith,
        ap added is,
        added_both own rest,
        block_fits room here waiting block own are,
        nodes_fit later (room_after room own) (after_block here) (waiting_next waiting (leaf block)) current rest are_rest,
      )
  nodes_fit (container_then (Item one) offset inner later) room here waiting current events (held, rest, are_held, are_rest, is) =
      let span = span_of (Item one) inner later in
      let now = list_in current one offset span in
      omega (
        arith,
        ap added is,
        added_by_item current one offset span now held rest,
        nodes_fit inner room (inside (Item one) now.is_tight here) (Some (Item one)) None held are_held,
        nodes_fit later (room_after room held) (after_block here) None (list_after span.is_last now) rest are_rest,
      )
  nodes_fit (container_then Quote offset inner later) room here waiting current events are =
      other_fits Quote offset inner later (nodes_fit inner) (nodes_fit later) room here events are
  nodes_fit (container_then Footnote offset inner later) room here waiting current events are =
      other_fits Footnote offset inner later (nodes_fit inner) (nodes_fit later) room here events are
  nodes_fit (container_then (TermDefinition one) offset inner later) room here waiting current events are =
      other_fits (TermDefinition one) offset inner later (nodes_fit inner) (nodes_fit later) room here events are

-- ---- the page

pub page_references_fit : (page : List ℕ) (setting : Extensions) (events : List RangedEvent) → ArePageEvents page setting events
    → ReferencesFit page events
page_references_fit page setting events are =
    nodes_fit page (event_setting setting (λ label. first_of label are.named)) are.nodes (page_room page) outermost None None events are.are_events

-- also where labels that the page does not define lead as these say
pub page_references_with_fit : (page : List ℕ) (setting : Extensions) (more : Targets) (events : List RangedEvent)
    → ArePageEventsWith page setting more events → ReferencesFit page events
page_references_with_fit page setting more events are =
    nodes_fit page (event_setting setting (or_else (λ label. first_of label are.named) more)) are.nodes (page_room page) outermost None None events
    are.are_events
