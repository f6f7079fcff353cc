-- A page has no more cells than it has bytes, and gives room.
use Rattle.std.proofs.Common.{ℕ, suc, Bool, true, false, ◌+◌, ◌-◌, ◌≤◌, ◌≡◌, List, [], ◌∷◌, ◌++◌, map, length, Option, Some, None, inl, inr, append-nil}
use Rattle.std.proofs.Common.{append_assoc}
use Rattle.std.proofs.Common.{ap, refl, sym, subst, arith}
use Rattle.markdown_values.specs.declared.values.extensions.Extensions.{Extensions}
use Rattle.markdown_values.specs.values.Events.{EventView, html, start, text}
use Rattle.markdown_values.specs.values.Tags.{TagView, code_block, html_block, paragraph}
use Rattle.markdown_blocks.specs.byte_order_mark.ByteOrderMark.{text_start}
use Rattle.markdown_blocks.specs.declared.blocks.BlockKind.{BlockKind}
use Rattle.markdown_blocks.specs.declared.blocks.BlockKind.TheVariants.{Blank, Break, Heading, Setext, Indented, Fenced, Html, Paragraph, Definition, Table}
use Rattle.markdown_blocks.specs.declared.containers.Container.{Container}
use Rattle.markdown_blocks.specs.declared.containers.Container.TheVariants.{Quote, Item, Footnote, TermDefinition}
use Rattle.markdown_blocks.specs.declared.first_blocks.Task.{Task}
use Rattle.markdown_blocks.specs.events.Events.{Event, IsEventsOf, LeafBlock, ends, leaf}
use Rattle.markdown_blocks.specs.first_blocks.Waiting.{waiting_next}
use Rattle.markdown_blocks.specs.laws.Order.{Follow}
use Rattle.markdown_blocks.specs.link_definitions.LinkDefinitions.{first_of}
use Rattle.markdown_blocks.specs.lists.Lists.{Nodes, nothing, leaf_then, container_then, flatten}
use Rattle.markdown_blocks.proofs.ForCallers.{page_in_order}
use Rattle.markdown_events.specs.InlineEvents.{EventSetting, RangedEvent, with_cells}
use Rattle.markdown_events.specs.Targets.{Targets, or_else}
use Rattle.markdown_events.specs.declared.page.reading.Room.{Room}
use Rattle.markdown_events.specs.page.LeafEvents.{AreLeafEventsOf, AreTextEvents, Place, in_paragraph, line_events, lines_offset, placed, plain_heading}
use Rattle.markdown_events.specs.page.Places.{element}
use Rattle.markdown_events.specs.page.PageEvents.{AreNodeEvents, ArePageEvents, ArePageEventsWith, OpenList, after_block, event_setting, inside}
use Rattle.markdown_events.specs.page.PageEvents.{list_after, list_in, outermost}
use Rattle.markdown_events.specs.page.References.{AreEventsInRoom, CellsFit, begins_cell, begun_cells, empty_cells, page_room, room_after}
use Rattle.markdown_events.specs.page.References.{without_references}
use Rattle.markdown_events.specs.page.Settings.{built}
use Rattle.markdown_events.specs.page.Spans.{block_end, container_end, span_of}
use Rattle.markdown_events.specs.page.TaskEvents.{AreEventsWith, after_marker, marker_event, task_here}
use Rattle.markdown_events.proofs.page.OnePage.{OtherEvents}
use Rattle.markdown_events.proofs.page.RoomLemmas.{cells_both, empty_both}
use Rattle.markdown_events.proofs.page.TreeLemmas.{cells_in_item, cells_in_other, empty_in_item, empty_in_other}
use Rattle.markdown_events.proofs.page.table_events.CellCounts.{cells_of_element, inlines_begin_no_cell, table_fits}

-- ---- a leaf block

-- no cell begins
abbrev BeginNone : List RangedEvent → Type 0
BeginNone events = begun_cells events ≡ 0

holds_none : (tag : TagView (List ℕ)) (from to : ℕ) (inner : List RangedEvent) → begins_cell (start tag) ≡ 0 → BeginNone inner
    → BeginNone (element tag from to inner)
holds_none tag from to inner plain none = omega (arith, plain, none, cells_of_element tag from to inner)

in_paragraph_none : (is_tight : Bool) (block : LeafBlock) (inner : List RangedEvent) → BeginNone inner → BeginNone (in_paragraph is_tight block inner)
in_paragraph_none true block inner none = none
in_paragraph_none false block inner none = holds_none paragraph _ _ inner refl none

lines_none : (event : List ℕ → EventView (List ℕ)) → ((line : List ℕ) → begins_cell (event line) ≡ 0) → (before : ℕ) (offsets : List ℕ) (from : ℕ)
    → (lines : List (List ℕ)) → BeginNone (map (placed before offsets) (line_events event from lines))
lines_none event plain before offsets from [] = refl
lines_none event plain before offsets from (line ∷ lines) =
    omega (arith, plain line, lines_none event plain before offsets (from + length line) lines)

-- what a block has less than its bytes is left of the room before it, or it is a table that is filled in
abbrev Fits : LeafBlock → ℕ → List RangedEvent → Type 0
Fits block cells events = begun_cells events + (cells - empty_cells events) ≤ block.bytes + cells

none_fits : (block : LeafBlock) (cells : ℕ) (events : List RangedEvent) → BeginNone events → Fits block cells events
none_fits block cells events none = omega (arith, none)

module _ (page : List ℕ) (setting : EventSetting) (here : Place) (block : LeafBlock) (events : List RangedEvent) where
  text_none : (inner : List RangedEvent) → AreTextEvents page setting here block inner → BeginNone inner
  text_none inner are =
      subst BeginNone (sym are.are_events) (inlines_begin_no_cell block.start are.content.offsets are.content.text setting are.inlines are.are_inlines)

  leaf_fits : (kind : BlockKind) → AreLeafEventsOf kind page setting here block events → Fits block setting.cells events
  leaf_fits Blank is = none_fits block setting.cells events (subst BeginNone (sym is) refl)
  leaf_fits Definition is = none_fits block setting.cells events (subst BeginNone (sym is) refl)
  leaf_fits Break is = none_fits block setting.cells events (subst BeginNone (sym is) refl)
  leaf_fits (Heading level) (inner, are, is) =
      none_fits block setting.cells events (subst BeginNone (sym is) (holds_none (plain_heading level) _ _ inner refl (text_none inner are)))
  leaf_fits (Setext level) (inner, are, is) =
      none_fits block setting.cells events (subst BeginNone (sym is) (holds_none (plain_heading level) _ _ inner refl (text_none inner are)))
  leaf_fits Paragraph (inner, are, is) =
      none_fits block setting.cells events (subst BeginNone (sym is) (in_paragraph_none here.is_tight block inner (text_none inner are)))
  leaf_fits Indented (inner, are, is) =
      none_fits block setting.cells events (subst BeginNone (sym is) (holds_none (code_block None) (lines_offset block inner) (block_end block) inner refl
      (subst BeginNone (sym are.are_events) (lines_none text (λ line. refl) block.start _ 0 _))))
  leaf_fits (Fenced count byte) (inner, info, are, meaning, is) =
      none_fits block setting.cells events (subst BeginNone (sym is) (holds_none (code_block (Some info)) (lines_offset block inner)
      (block_end block) inner refl
      (subst BeginNone (sym are.are_events) (lines_none text (λ line. refl) block.start _ 0 _))))
  leaf_fits (Html kind) (inner, are, is) =
      none_fits block setting.cells events (subst BeginNone (sym is) (holds_none html_block (lines_offset block inner) (block_end block) inner refl
      (subst BeginNone (sym are.are_events) (lines_none html (λ line. refl) block.start _ 0 _))))
  leaf_fits (Table columns) are = table_fits page setting here block columns events are

  with_fits : (task : Option Task) → AreEventsWith task page setting here block events → Fits block setting.cells events
  with_fits None are = leaf_fits block.kind are
  with_fits (Some task) are =
      let content = after_marker task are.content in
      let inlines = map (placed block.start content.offsets) are.inlines in
      let none : BeginNone (marker_event task ∷ inlines) =
      omega (arith, inlines_begin_no_cell block.start content.offsets content.text setting are.inlines are.are_inlines) in
      none_fits block setting.cells events (subst BeginNone (sym are.are_events)
      (in_paragraph_none here.is_tight block (marker_event task ∷ inlines) none))

block_fits : (page : List ℕ) (setting : EventSetting) (room : Room) (here : Place) (waiting : Option Container) (block : LeafBlock)
    → (events : List RangedEvent) → AreEventsInRoom page setting room here waiting block events → Fits block room.cells events
block_fits page setting room here waiting block events (inl (are, fits)) =
    with_fits page (with_cells room.cells setting) here block events (task_here setting.asked.tasks waiting block) are
block_fits page setting room here waiting block events (inr (all, are_all, more, are)) =
    with_fits page (without_references (with_cells room.cells setting)) here block events (task_here setting.asked.tasks waiting block) are

-- ---- nodes

-- how many bytes their lines have
abbrev pub bytes_of : Nodes → ℕ
bytes_of nothing = 0
bytes_of (leaf_then block later) = block.bytes + bytes_of later
bytes_of (container_then container offset inner later) = bytes_of inner + bytes_of later

-- lines of a page, one after another
bytes_follow : (page : List ℕ) (nodes : Nodes) (line passed : ℕ) (rest : List Event) → Follow page line passed (flatten nodes ++ rest)
    → (then : ℕ) × Follow page (line + bytes_of nodes) then rest
bytes_follow page nothing line passed rest follow = (passed, subst (λ n. Follow page n passed rest) (omega arith) follow)
bytes_follow page (leaf_then block later) line passed rest (begins, follow) =
    let more = bytes_follow page later (block_end block) (block_end block) rest follow in
    (more.0, subst (λ n. Follow page n more.0 rest) (omega (arith, begins.start)) more.1)
bytes_follow page (container_then container offset inner later) line passed rest (before, within, follow) =
    let held = bytes_follow page inner line (suc offset) (ends ∷ (flatten later ++ rest))
    (subst (Follow page line (suc offset)) (append_assoc (flatten inner) (ends ∷ flatten later) rest) follow) in
    let more = bytes_follow page later (line + bytes_of inner) held.0 rest held.1 in
    (more.0, subst (λ n. Follow page n more.0 rest) (omega arith) more.1)

pub few_bytes : (asked : Extensions) (page : List ℕ) (nodes : Nodes) → IsEventsOf asked page (flatten nodes) → bytes_of nodes ≤ length page
few_bytes asked page nodes are =
    let follow = page_in_order asked page (flatten nodes) are in
    let all = bytes_follow page nodes (text_start page) (text_start page) []
    (subst (Follow page (text_start page) (text_start page)) (sym (append-nil (flatten nodes))) follow) in
    omega (arith, all.1.0)

module _ (page : List ℕ) (setting : EventSetting) where
  abbrev NodesFit : Nodes → Type 0
  NodesFit nodes = (room : Room) (here : Place) (waiting : Option Container) (current : Option OpenList) (events : List RangedEvent)
      → AreNodeEvents page setting room here waiting current nodes events
      → begun_cells events + (room.cells - empty_cells events) ≤ bytes_of nodes + room.cells

  other_fits : (container : Container) (offset : ℕ) (inner later : Nodes) → NodesFit inner → NodesFit later → (room : Room) (here : Place)
      → (events : List RangedEvent) → OtherEvents page setting container offset inner later room here events
      → begun_cells events + (room.cells - empty_cells events) ≤ (bytes_of inner + bytes_of later) + room.cells
  other_fits container offset inner later held_fit later_fit room here events (held, rest, are_held, are_rest, is) =
      omega (
        arith,
        ap begun_cells is,
        ap empty_cells is,
        cells_in_other container offset (container_end container inner) held rest,
        empty_in_other container offset (container_end container inner) held rest,
        held_fit room (inside container false here) (Some container) None held are_held,
        later_fit (room_after room held) (after_block here) None None rest are_rest,
      )

  nodes_fit : (nodes : Nodes) → NodesFit nodes
  nodes_fit nothing room here waiting current events is = omega (arith, ap begun_cells is)
  nodes_fit (leaf_then block later) room here waiting current events (own, rest, are, are_rest, is) =
      omega (
        arith,
        ap begun_cells is,
        ap empty_cells is,
        cells_both own rest,
        empty_both own rest,
        block_fits page setting room here waiting block own are,
        nodes_fit later (room_after room own) (after_block here) (waiting_next waiting (leaf block)) current rest are_rest,
      )
  nodes_fit (container_then (Item one) offset inner later) room here waiting current events (held, rest, are_held, are_rest, is) =
      let span = span_of (Item one) inner later in
      let now = list_in current one offset span in
      omega (
        arith,
        ap begun_cells is,
        ap empty_cells is,
        cells_in_item current one offset span now held rest,
        empty_in_item current one offset span now held rest,
        nodes_fit inner room (inside (Item one) now.is_tight here) (Some (Item one)) None held are_held,
        nodes_fit later (room_after room held) (after_block here) None (list_after span.is_last now) rest are_rest,
      )
  nodes_fit (container_then Quote offset inner later) room here waiting current events are =
      other_fits Quote offset inner later (nodes_fit inner) (nodes_fit later) room here events are
  nodes_fit (container_then Footnote offset inner later) room here waiting current events are =
      other_fits Footnote offset inner later (nodes_fit inner) (nodes_fit later) room here events are
  nodes_fit (container_then (TermDefinition one) offset inner later) room here waiting current events are =
      other_fits (TermDefinition one) offset inner later (nodes_fit inner) (nodes_fit later) room here events are

-- ---- the page

tree_cells_fit : (page : List ℕ) (setting : Extensions) (targets : Targets) (nodes : Nodes) (events : List RangedEvent)
    → IsEventsOf (built setting) page (flatten nodes)
    → AreNodeEvents page (event_setting setting targets) (page_room page) outermost None None nodes events → CellsFit page events
tree_cells_fit page setting targets nodes events are_blocks are =
    omega (
      arith,
      nodes_fit page (event_setting setting targets) nodes (page_room page) outermost None None events are,
      few_bytes (built setting) page nodes are_blocks,
    )

pub page_cells_fit : (page : List ℕ) (setting : Extensions) (events : List RangedEvent) → ArePageEvents page setting events → CellsFit page events
page_cells_fit page setting events are =
    tree_cells_fit page setting (λ label. first_of label are.named) are.nodes events are.are_blocks are.are_events

-- also where labels that the page does not define lead as these say
pub page_cells_with_fit : (page : List ℕ) (setting : Extensions) (more : Targets) (events : List RangedEvent) → ArePageEventsWith page setting more events
    → CellsFit page events
page_cells_with_fit page setting more events are =
    tree_cells_fit page setting (or_else (λ label. first_of label are.named) more) are.nodes events are.are_blocks are.are_events
