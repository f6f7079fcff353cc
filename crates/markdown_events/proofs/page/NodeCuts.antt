-- The ranges of the events of nodes begin and end at character boundaries of the page, where those of each leaf block do.
use Rattle.std.proofs.Common.{ℕ, Bool, true, false, ◌==◌, ◌||◌, List, [], ◌∷◌, ◌++◌, length, Option, Some, None, ◌≡◌, sym, subst, if◌then◌else◌}
use Rattle.std.specs.Prelude.{⊤, IfSome}
use Rattle.std.specs.Str.{IsUtf8, IsCharBoundary}
use Rattle.std.proofs.lemmas.Str.{IsCharBoundary-start}
use Rattle.markdown_values.specs.values.Tags.{item}
use Rattle.markdown_blocks.specs.blocks.Pages.{is_blank_kind}
use Rattle.markdown_blocks.specs.containers.Containers.{past_first_line}
use Rattle.markdown_blocks.specs.declared.containers.Container.{Container}
use Rattle.markdown_blocks.specs.declared.containers.Container.TheVariants.{Quote, Item, Footnote, TermDefinition}
use Rattle.markdown_blocks.specs.declared.containers.ListItem.{ListItem}
use Rattle.markdown_blocks.specs.events.Events.{LeafBlock, leaf}
use Rattle.markdown_blocks.specs.first_blocks.Waiting.{waiting_next}
use Rattle.markdown_blocks.specs.laws.Characters.{IsCutOut}
use Rattle.markdown_blocks.specs.lists.Lists.{Nodes, nothing, leaf_then, container_then}
use Rattle.markdown_events.specs.EventLaws.{AreAtBoundaries}
use Rattle.markdown_events.specs.InlineEvents.{EventSetting, RangedEvent}
use Rattle.markdown_events.specs.declared.elements.Element.{Element}
use Rattle.markdown_events.specs.declared.page.levels.ItemList.{ItemList}
use Rattle.markdown_events.specs.declared.page.reading.Room.{Room}
use Rattle.markdown_events.specs.page.LeafEvents.{Place}
use Rattle.markdown_events.specs.page.PageEvents.{AreNodeEvents, OpenList, after_block, container_tag, element_of, ending, inside, list_after, list_end}
use Rattle.markdown_events.specs.page.PageEvents.{list_in, list_start, starting}
use Rattle.markdown_events.specs.page.Spans.{block_end, container_end, first_offset, front_list, is_parted}
use Rattle.markdown_events.specs.page.Spans.{is_set_off, last_end, lines_end, end_of, list_alone, list_with, span_of}
use Rattle.markdown_events.specs.page.References.{room_after}
use Rattle.markdown_events.specs.page.TaskEvents.{AreBlockEvents}
use Rattle.markdown_events.proofs.inline_events.Boundaries.{both_at}
use Rattle.markdown_events.proofs.page.RoomLemmas.{in_room}

module _ (page : List ℕ) (setting : EventSetting) where
  abbrev Cut : ℕ → Type 0
  Cut = IsCharBoundary page

  abbrev AreAt : List RangedEvent → Type 0
  AreAt = AreAtBoundaries page

  -- the events of a block do, which is in these containers, with the first of which its first line goes on, and the first of this one,
  -- wherever labels lead
  abbrev pub LeafAt : List Container → ℕ → Option Container → LeafBlock → Type 0
  LeafAt outer kept waiting block = (s : EventSetting) (is_tight : Bool) (events : List RangedEvent)
      → AreBlockEvents page s (record { containers = outer; kept = kept; is_tight = is_tight }) waiting block events → AreAt events

  -- the page may be cut out at each of the nodes, and the events of each block do
  abbrev pub NodesAt : List Container → ℕ → Option Container → Nodes → Type 0
  NodesAt outer kept waiting nothing = ⊤
  NodesAt outer kept waiting (leaf_then block later) =
      IsCutOut page block × LeafAt outer kept waiting block × NodesAt outer (length outer) (waiting_next waiting (leaf block)) later
  NodesAt outer kept waiting (container_then container offset inner later) =
      Cut offset × NodesAt (outer ++ past_first_line container ∷ []) kept (Some container) inner × NodesAt outer (length outer) None later

  module _ (utf8 : IsUtf8 page) where
    -- ---- where nodes begin and end

    first_cut : (nodes : Nodes) (outer : List Container) (kept : ℕ) (waiting : Option Container) → NodesAt outer kept waiting nodes
        → Cut (first_offset nodes)
    first_cut nothing outer kept waiting at = IsCharBoundary-start page utf8
    first_cut (leaf_then block later) outer kept waiting at = at.0.offset
    first_cut (container_then container offset inner later) outer kept waiting at = at.0

    lines_cut : (nodes : Nodes) (outer : List Container) (kept : ℕ) (waiting : Option Container) (from : ℕ) → NodesAt outer kept waiting nodes
        → Cut from → Cut (lines_end from nodes)
    lines_cut nothing outer kept waiting from at cut = cut
    lines_cut (leaf_then block later) outer kept waiting from at cut =
        lines_cut later outer (length outer) (waiting_next waiting (leaf block)) (block_end block) at.2 at.0.ends
    lines_cut (container_then container offset inner later) outer kept waiting from at cut =
        lines_cut later outer (length outer) None (lines_end 0 inner) at.2
        (lines_cut inner (outer ++ past_first_line container ∷ []) kept (Some container) 0 at.1 (IsCharBoundary-start page utf8))

    either_cut : (container : Container) (lines last : ℕ) → Cut lines → Cut last → Cut (end_of container lines last)
    either_cut Quote lines last at_lines at_last = at_lines
    either_cut (Item one) lines last at_lines at_last = at_last
    either_cut Footnote lines last at_lines at_last = at_last
    either_cut (TermDefinition one) lines last at_lines at_last = at_last

    last_cut : (nodes : Nodes) (outer : List Container) (kept : ℕ) (waiting : Option Container) (from : ℕ) → NodesAt outer kept waiting nodes
        → Cut from → Cut (last_end from nodes)
    last_cut nothing outer kept waiting from at cut = cut
    last_cut (leaf_then block later) outer kept waiting from at cut =
        last_cut later outer (length outer) (waiting_next waiting (leaf block)) (if is_blank_kind block.kind then from else block_end block) at.2
        (by (is_blank_kind block.kind))
      where
        by : (k : Bool) → Cut (if k then from else block_end block)
        by true = cut
        by false = at.0.ends
    last_cut (container_then container offset inner later) outer kept waiting from at cut =
        let first = first_cut inner (outer ++ past_first_line container ∷ []) kept (Some container) at.1 in
        last_cut later outer (length outer) None (container_end container inner) at.2
        (either_cut container (lines_end 0 inner) (last_end (first_offset inner) inner)
        (lines_cut inner (outer ++ past_first_line container ∷ []) kept (Some container) 0 at.1 (IsCharBoundary-start page utf8))
        (last_cut inner (outer ++ past_first_line container ∷ []) kept (Some container) (first_offset inner) at.1 first))

    end_cut : (container : Container) (inner : Nodes) (outer : List Container) (kept : ℕ) → NodesAt outer kept (Some container) inner
        → Cut (container_end container inner)
    end_cut container inner outer kept at =
        let first = first_cut inner outer kept (Some container) at in
        either_cut container (lines_end 0 inner) (last_end (first_offset inner) inner)
        (lines_cut inner outer kept (Some container) 0 at (IsCharBoundary-start page utf8))
        (last_cut inner outer kept (Some container) (first_offset inner) at first)

    -- ---- lists

    abbrev ListCut : Option ItemList → Type 0
    ListCut list = IfSome list (λ l. Cut l.to)

    with_cut : (one : ListItem) (inner : Nodes) (set_off : Bool) (list : Option ItemList) → Cut (container_end (Item one) inner) → ListCut list
        → Cut (list_with one inner set_off list).to
    with_cut one inner set_off None own cut = own
    with_cut one inner set_off (Some list) own cut = by (one.delimiter == list.delimiter)
      where
        by : (same : Bool)
            → Cut (if same then record list { is_loose = list.is_loose || (is_parted inner || set_off) } else list_alone one inner).to
        by true = cut
        by false = own

    front_cut : (nodes : Nodes) (outer : List Container) (kept : ℕ) (waiting : Option Container) → NodesAt outer kept waiting nodes
        → ListCut (front_list nodes)
    front_cut nothing outer kept waiting at = tt
    front_cut (leaf_then block later) outer kept waiting at =
        by (is_blank_kind block.kind) (front_cut later outer (length outer) (waiting_next waiting (leaf block)) at.2)
      where
        by : (k : Bool) → ListCut (front_list later) → ListCut (if k then front_list later else None)
        by true cut = cut
        by false cut = tt
    front_cut (container_then (Item one) offset inner later) outer kept waiting at =
        with_cut one inner (is_set_off one inner later) (front_list later)
        (end_cut (Item one) inner (outer ++ past_first_line (Item one) ∷ []) kept at.1) (front_cut later outer (length outer) None at.2)
    front_cut (container_then Quote offset inner later) outer kept waiting at = tt
    front_cut (container_then Footnote offset inner later) outer kept waiting at = tt
    front_cut (container_then (TermDefinition one) offset inner later) outer kept waiting at = tt

    -- ---- events

    -- a list that is open began and ends at boundaries
    abbrev pub OpenCut : Option OpenList → Type 0
    OpenCut list = IfSome list (λ l. Cut l.element.from × Cut l.element.to)

    ending_at : (element : Element) → Cut element.from × Cut element.to → AreAt (ending element)
    ending_at element cut = (cut, tt)

    abbrev pub NodeEventsAt : Nodes → Type 0
    NodeEventsAt nodes = (room : Room) (here : Place) (waiting : Option Container) (current : Option OpenList) (events : List RangedEvent)
        → NodesAt here.containers here.kept waiting nodes → OpenCut current → AreNodeEvents page setting room here waiting current nodes events → AreAt events

    -- an item, in the list that is open or that begins with it
    item_at : (one : ListItem) (offset : ℕ) (inner later : Nodes) → NodeEventsAt inner → NodeEventsAt later → (room : Room) (here : Place) (waiting : Option Container)
        → (now : OpenList) (events front held rest : List RangedEvent)
        → NodesAt here.containers here.kept waiting (container_then (Item one) offset inner later) → Cut now.element.from × Cut now.element.to
        → AreAt front → AreNodeEvents page setting room (inside (Item one) now.is_tight here) (Some (Item one)) None inner held
        → AreNodeEvents page setting (room_after room held) (after_block here) None (list_after (span_of (Item one) inner later).is_last now) later rest
        → events ≡ front ++ starting item offset (container_end (Item one) inner) ++ held
        ++ ending (element_of item offset (container_end (Item one) inner)) ++ list_end (span_of (Item one) inner later).is_last now ++ rest → AreAt events
    item_at one offset inner later inner_at later_at room here waiting now events front held rest at listed front_at are_held are_rest is =
        let last = (span_of (Item one) inner later).is_last in
        let end = container_end (Item one) inner in
        let to = end_cut (Item one) inner (here.containers ++ past_first_line (Item one) ∷ []) here.kept at.1 in
        let begins = starting item offset end in
        let ends = ending (element_of item offset end) in
        let first = both_at page front begins front_at ((at.0, to), tt) in
        let second = both_at page (front ++ begins) held first
        (inner_at room (inside (Item one) now.is_tight here) (Some (Item one)) None held at.1 tt are_held) in
        let whole = both_at page (front ++ begins ++ held) ends second ((at.0, to), tt) in
        let with_list = both_at page (front ++ begins ++ held ++ ends) (list_end last now) whole (ended last) in
        subst AreAt (sym is)
        (both_at page (front ++ begins ++ held ++ ends ++ list_end last now) rest with_list
        (later_at (room_after room held) (after_block here) None (list_after last now) rest at.2 (after last) are_rest))
      where
        ended : (last : Bool) → AreAt (list_end last now)
        ended true = (listed, tt)
        ended false = tt

        after : (last : Bool) → OpenCut (list_after last now)
        after true = tt
        after false = listed

    -- another container
    other_at : (container : Container) (offset : ℕ) (inner later : Nodes) → NodeEventsAt inner → NodeEventsAt later → (room : Room) (here : Place)
        → (waiting : Option Container) (events held rest : List RangedEvent)
        → NodesAt here.containers here.kept waiting (container_then container offset inner later)
        → AreNodeEvents page setting room (inside container false here) (Some container) None inner held
        → AreNodeEvents page setting (room_after room held) (after_block here) None None later rest
        → events ≡ starting (container_tag container) offset (container_end container inner) ++ held
        ++ ending (element_of (container_tag container) offset (container_end container inner)) ++ rest → AreAt events
    other_at container offset inner later inner_at later_at room here waiting events held rest at are_held are_rest is =
        let to = end_cut container inner (here.containers ++ past_first_line container ∷ []) here.kept at.1 in
        let begins = starting (container_tag container) offset (container_end container inner) in
        let ends = ending (element_of (container_tag container) offset (container_end container inner)) in
        let first = both_at page begins held ((at.0, to), tt) (inner_at room (inside container false here) (Some container) None held at.1 tt are_held) in
        let whole = both_at page (begins ++ held) ends first ((at.0, to), tt) in
        subst AreAt (sym is)
        (both_at page (begins ++ held ++ ends) rest whole (later_at (room_after room held) (after_block here) None None rest at.2 tt are_rest))

    pub nodes_at : (nodes : Nodes) → NodeEventsAt nodes
    nodes_at nothing room here waiting current events at listed is = subst AreAt (sym is) tt
    nodes_at (leaf_then block later) room here waiting current events at listed (own, rest, are, are_rest, is) =
        subst AreAt (sym is)
        (both_at page own rest (in_room page setting room here waiting block own (λ s block_are. at.1 s here.is_tight own block_are) are)
        (nodes_at later (room_after room own) (after_block here) (waiting_next waiting (leaf block)) current rest at.2 listed are_rest))
    nodes_at (container_then (Item one) offset inner later) room here waiting None events at listed (held, rest, are_held, are_rest, is) =
        let span = span_of (Item one) inner later in
        let to = with_cut one inner (is_set_off one inner later) (front_list later)
        (end_cut (Item one) inner (here.containers ++ past_first_line (Item one) ∷ []) here.kept at.1)
        (front_cut later here.containers (length here.containers) None at.2) in
        item_at one offset inner later (nodes_at inner) (nodes_at later) room here waiting (list_in None one offset span) events
        (list_start None one offset span) held rest at (at.0, to) ((at.0, to), tt) are_held are_rest is
    nodes_at (container_then (Item one) offset inner later) room here waiting (Some list) events at listed (held, rest, are_held, are_rest, is) =
        item_at one offset inner later (nodes_at inner) (nodes_at later) room here waiting list events [] held rest at listed tt are_held are_rest is
    nodes_at (container_then Quote offset inner later) room here waiting current events at listed (held, rest, are_held, are_rest, is) =
        other_at Quote offset inner later (nodes_at inner) (nodes_at later) room here waiting events held rest at are_held are_rest is
    nodes_at (container_then Footnote offset inner later) room here waiting current events at listed (held, rest, are_held, are_rest, is) =
        other_at Footnote offset inner later (nodes_at inner) (nodes_at later) room here waiting events held rest at are_held are_rest is
    nodes_at (container_then (TermDefinition one) offset inner later) room here waiting current events at listed (held, rest, are_held, are_rest, is) =
        other_at (TermDefinition one) offset inner later (nodes_at inner) (nodes_at later) room here waiting events held rest at are_held are_rest is
