-- Events that are followed one after another are those of their nodes.
use Rattle.std.proofs.Common.{ℕ, Bool, true, false, not, ◌||◌, ◌==◌, ◌-◌, List, [], ◌∷◌, ◌++◌, Option, Some, None, is_some, ◌≡◌, ◌+◌}
use Rattle.std.specs.Bool.{⊤}
use Rattle.std.proofs.Math.Seq.{take-append_seam}
use Rattle.std.proofs.lemmas.List.{length-append}
use Rattle.std.proofs.Common.{arith, append-nil}
use Rattle.std.proofs.Common.{length, take, drop, if◌then◌else◌, IsTrue, refl, sym, ap, subst, ◌∙◌, append_assoc}
use Rattle.markdown_values.specs.values.Tags.{item, list}
use Rattle.markdown_scanners_tree.specs.Ascii.{full_stop, right_parenthesis}
use Rattle.markdown_blocks.specs.containers.Containers.{past_first_line}
use Rattle.markdown_blocks.specs.declared.containers.Container.{Container}
use Rattle.markdown_blocks.specs.declared.containers.Container.TheVariants.{Quote, Item, Footnote, TermDefinition}
use Rattle.markdown_blocks.specs.declared.containers.ListItem.{ListItem}
use Rattle.markdown_blocks.specs.events.Events.{Event, leaf, ends, LeafBlock}
use Rattle.markdown_blocks.specs.first_blocks.Waiting.{waiting_next}
use Rattle.markdown_blocks.specs.blocks.Pages.{is_blank_kind}
use Rattle.markdown_blocks.specs.lists.Lists.{Nodes, nothing, leaf_then, container_then, flatten}
use Rattle.markdown_events.specs.InlineEvents.{EventSetting, RangedEvent}
use Rattle.markdown_events.specs.TagEnds.{tag_end}
use Rattle.markdown_events.specs.declared.page.open_elements.OpenElement.{OpenElement}
use Rattle.markdown_events.specs.declared.page.levels.ItemList.{ItemList}
use Rattle.markdown_events.specs.declared.page.spans.Span.{Span}
use Rattle.markdown_events.specs.declared.page.reading.Room.{Room}
use Rattle.markdown_events.specs.page.Given.{AreEventsFrom}
use Rattle.markdown_events.specs.page.OpenElements.{OpenElements, as_list, innermost_list, is_list, is_tight_in}
use Rattle.markdown_events.specs.page.OpenElements.{list_ending, list_starts, none_open, opened, passed, place_in, start_events, with_list}
use Rattle.markdown_events.specs.page.OpenElements.{without_list}
use Rattle.markdown_events.specs.page.PageEvents.{AreNodeEvents, OpenList, after_block, container_tag, element_of, ending, inside, list_after, list_end}
use Rattle.markdown_events.specs.page.PageEvents.{list_in, list_start, list_tag, outermost, starting}
use Rattle.markdown_events.specs.page.Spans.{container_end, front_list, is_alike, span_of, spans}
use Rattle.markdown_events.specs.page.References.{AreEventsInRoom, added, begun_cells, empty_cells, room_after}
use Rattle.markdown_events.proofs.page.RoomLemmas.{added_both, after_nothing, after_parts, cells_both, empty_both, room_after_both}

-- no list is directly in a list
abbrev AreParted : List OpenElement → Type 0
AreParted elements = innermost_list (without_list elements) ≡ None

-- ---- the list that an item is in

abbrev lists_after : Bool → List OpenElement → List OpenElement
lists_after is_last lists = if is_last then drop 1 lists else lists

-- what holds of the elements after an item of a list, by whether the innermost element is a list
record AreAfter (one : ListItem) (offset : ℕ) (span : Span) (elements : List OpenElement) : Type 0 where
  tight : is_tight_in (with_list one offset span elements) ≡ (list_in (innermost_list elements) one offset span).is_tight
  start : list_starts (Item one) (is_some (innermost_list elements)) offset span ≡ list_start (innermost_list elements) one offset span
  ending : list_ending (with_list one offset span elements) ≡ ending (list_in (innermost_list elements) one offset span).element
  list_now : innermost_list (with_list one offset span elements) ≡ Some (list_in (innermost_list elements) one offset span)
  around : drop 1 (with_list one offset span elements) ≡ without_list elements
  around_now : without_list (with_list one offset span elements) ≡ without_list elements

list_ends : (number : Option ℕ) → is_list (tag_end {A = List ℕ} (list number)) ≡ true
list_ends None = refl
list_ends (Some number) = refl

list_is_list : (one : ListItem) → is_list (tag_end (list_tag one)) ≡ true
list_is_list one = list_ends (if one.delimiter == full_stop || one.delimiter == right_parenthesis then Some one.start else None)

are_after_by : (one : ListItem) (offset : ℕ) (span : Span) (first : OpenElement) (outer : List OpenElement) (b : Bool)
    → is_list first.element.tag ≡ b → AreAfter one offset span (first ∷ outer)
are_after_by one offset span first outer true e = record {
  tight = rw e refl;
  start = rw e refl;
  ending = rw e refl;
  list_now = rw e (rw e refl);
  around = rw e refl;
  around_now = rw e (rw e refl);
}
are_after_by one offset span first outer false e = record {
  tight = rw e refl;
  start = rw e refl;
  ending = rw e refl;
  list_now = rw (e, list_is_list one) refl;
  around = rw e refl;
  around_now = rw (e, list_is_list one) refl;
}

are_after : (one : ListItem) (offset : ℕ) (span : Span) (elements : List OpenElement) → AreAfter one offset span elements
are_after one offset span [] = record {
  tight = refl;
  start = refl;
  ending = refl;
  list_now = rw (list_is_list one) refl;
  around = refl;
  around_now = rw (list_is_list one) refl;
}
are_after one offset span (first ∷ outer) = are_after_by one offset span first outer (is_list first.element.tag) refl

after_list : (one : ListItem) (offset : ℕ) (span : Span) (elements : List OpenElement) (is_last : Bool) → AreParted elements
    → innermost_list (lists_after is_last (with_list one offset span elements))
    ≡ list_after is_last (list_in (innermost_list elements) one offset span)
after_list one offset span elements true parted = rw (are_after one offset span elements).around parted
after_list one offset span elements false parted = (are_after one offset span elements).list_now

IsNot : Bool → Type 0
IsNot true = ⊥
IsNot false = ⊤

false_is_not : false ≡ true → ⊥
unfolding IsNot
false_is_not e = subst IsNot e tt

Has : Option OpenList → Type 0
Has None = ⊥
Has (Some now) = ⊤

none_is_none : (now : OpenList) → Some now ≡ None → ⊥
unfolding Has
none_is_none now e = subst Has e tt

-- where no list is directly in a list, leaving out the innermost twice is leaving it out once
some_first : (first : OpenElement) (outer : List OpenElement) → is_list first.element.tag ≡ true → innermost_list (first ∷ outer) ≡ Some (as_list first)
some_first first outer e = rw e refl

without_by : (first : OpenElement) (outer : List OpenElement) (b : Bool) → is_list first.element.tag ≡ b
    → innermost_list (first ∷ outer) ≡ None → without_list (first ∷ outer) ≡ first ∷ outer
without_by first outer true e none = absurd (none_is_none (as_list first) (sym (some_first first outer e) ∙ none))
without_by first outer false e none = rw e refl

without_none : (elements : List OpenElement) → innermost_list elements ≡ None → without_list elements ≡ elements
without_none [] none = refl
without_none (first ∷ outer) none = without_by first outer (is_list first.element.tag) refl none

around_list : (one : ListItem) (offset : ℕ) (span : Span) (elements : List OpenElement) (is_last : Bool) → AreParted elements
    → without_list (lists_after is_last (with_list one offset span elements)) ≡ without_list elements
around_list one offset span elements true parted =
    rw (are_after one offset span elements).around (without_none (without_list elements) parted)
around_list one offset span elements false parted = (are_after one offset span elements).around_now

list_ended : (one : ListItem) (offset : ℕ) (span : Span) (elements : List OpenElement) (is_last : Bool)
    → (if is_last then list_ending (with_list one offset span elements) else [])
    ≡ list_end is_last (list_in (innermost_list elements) one offset span)
list_ended one offset span elements true = (are_after one offset span elements).ending
list_ended one offset span elements false = refl

-- ---- the tree

-- after nodes, before which these elements are open and which are followed by containers with these spans
abbrev kept_after : Nodes → OpenElements → ℕ
kept_after nothing s = s.kept
kept_after (leaf_then block later) s = length s.containers
kept_after (container_then container before inner later) s = length s.containers

-- the container that waits for its first block after nodes, where this one does before them
abbrev waiting_after : Nodes → Option Container → Option Container
waiting_after nothing waiting = waiting
waiting_after (leaf_then block later) waiting = waiting_after later (waiting_next waiting (leaf block))
waiting_after (container_then container before inner later) waiting = waiting_after later None

abbrev after : Nodes → List Span → OpenElements → OpenElements
after nodes more s = record {
  spans = more;
  containers = s.containers;
  kept = kept_after nodes s;
  waiting = waiting_after nodes s.waiting;
  elements = without_list s.elements;
}

-- where a list is open, the nodes begin with one more of its items
abbrev GoesOn : Option OpenList → Nodes → Type 0
GoesOn None nodes = ⊤
GoesOn (Some now) nodes = IsTrue (is_some (front_list nodes))

abbrev with_spans : List Span → OpenElements → OpenElements
with_spans spans s = record s { spans = spans }

-- the events of nodes, and of what follows them
record AreBoth (page : List ℕ) (setting : EventSetting) (room : Room) (nodes : Nodes) (more : List Span) (tail : List Event) (s : OpenElements)
    (events : List RangedEvent) : Type 0 where
  here : List RangedEvent
  rest : List RangedEvent
  of_nodes : AreNodeEvents page setting room (place_in s) s.waiting (innermost_list s.elements) nodes here
  of_tail : AreEventsFrom page setting (room_after room here) (after nodes more s) tail rest
  both : events ≡ here ++ rest

kept_passed : (nodes : Nodes) (before : LeafBlock) (s : OpenElements) → kept_after nodes (passed before s) ≡ length s.containers
kept_passed nothing before s = refl
kept_passed (leaf_then block later) before s = refl
kept_passed (container_then container offset inner later) before s = refl

none_now : (now : Option OpenList) → GoesOn now nothing → now ≡ None
none_now None goes = refl
none_now (Some now) goes = absurd (false_is_not goes)

goes_on_leaf : (blank : Bool) (now : Option OpenList) (block : LeafBlock) (later : Nodes) → is_blank_kind block.kind ≡ blank
    → GoesOn now (leaf_then block later) → GoesOn now later
goes_on_leaf blank None block later e goes = tt
goes_on_leaf true (Some now) block later e goes = subst (λ b. IsTrue (is_some (if b then front_list later else None))) e goes
goes_on_leaf false (Some now) block later e goes = absurd (false_is_not (subst (λ b. IsTrue (is_some (if b then front_list later else None))) e goes))

nothing_goes_on : (page : List ℕ) (setting : EventSetting) (room : Room) (more : List Span) (tail : List Event) (s : OpenElements) (events : List RangedEvent)
    → AreParted s.elements → GoesOn (innermost_list s.elements) nothing
    → AreEventsFrom page setting room (with_spans more s) tail events → AreBoth page setting room nothing more tail s events
nothing_goes_on page setting room more tail s events parted goes are =
    record {
      here = [];
      rest = events;
      of_nodes = refl;
      of_tail = subst (λ room. AreEventsFrom page setting room (after nothing more s) tail events) (after_nothing room)
          (subst (λ elements. AreEventsFrom page setting room (record {
            spans = more;
            containers = s.containers;
            kept = s.kept;
            waiting = s.waiting;
            elements = elements;
          }) tail events) (sym (without_none s.elements (none_now (innermost_list s.elements) goes))) are);
      both = refl;
    }

leaf_goes_on : (page : List ℕ) (setting : EventSetting) (room : Room) (block : LeafBlock) (later : Nodes) (more : List Span) (tail : List Event)
    (s : OpenElements)
    → (here rest events : List RangedEvent) → AreEventsInRoom page setting room (place_in s) s.waiting block here → events ≡ here ++ rest
    → AreBoth page setting (room_after room here) later more tail (passed block s) rest → AreBoth page setting room (leaf_then block later) more tail s events
leaf_goes_on page setting room block later more tail s here rest events leaf_is both_are next = record {
  here = here ++ next.here;
  rest = next.rest;
  of_nodes = (here, next.here, leaf_is, next.of_nodes, refl);
  of_tail = subst (λ room. AreEventsFrom page setting room (after (leaf_then block later) more s) tail next.rest)
      (sym (room_after_both room here next.here))
      (subst (λ kept. AreEventsFrom page setting (room_after (room_after room here) next.here) (record {
        spans = more;
        containers = s.containers;
        kept = kept;
        waiting = waiting_after later (waiting_next s.waiting (leaf block));
        elements = without_list s.elements;
      }) tail next.rest) (kept_passed later block s) next.of_tail);
  both = both_are ∙ (ap (λ es. here ++ es) next.both ∙ sym (append_assoc here next.here next.rest));
}

-- ---- containers

one_less : (outer : List Container) (container : Container) → length (outer ++ container ∷ []) - 1 ≡ length outer
one_less outer container = rw (length-append outer (container ∷ [])) (omega arith)

pub front_of : (outer : List Container) (container : Container) → take (length (outer ++ container ∷ []) - 1) (outer ++ container ∷ []) ≡ outer
front_of outer container =
    ap (λ n. take n (outer ++ container ∷ [])) (one_less outer container) ∙ take-append_seam outer (container ∷ [])

-- where these elements are open after a container
abbrev past : List OpenElement → OpenElements → OpenElements
past elements s = record {
  spans = s.spans;
  containers = s.containers;
  kept = length s.containers;
  waiting = None;
  elements = elements;
}

kept_past : (nodes : Nodes) (elements : List OpenElement) (s : OpenElements) → kept_after nodes (past elements s) ≡ length s.containers
kept_past nothing elements s = refl
kept_past (leaf_then block later) elements s = refl
kept_past (container_then container before inner later) elements s = refl

abbrev inside_of : Container → List OpenElement → OpenElements → OpenElements
inside_of container elements s = record {
  spans = s.spans;
  containers = s.containers ++ past_first_line container ∷ [];
  kept = s.kept;
  waiting = Some container;
  elements = elements;
}

joined : (a b c d e f g : List RangedEvent) → (a ++ b) ++ (c ++ ((d ++ e) ++ (f ++ g))) ≡ (a ++ b ++ c ++ d ++ e ++ f) ++ g
joined a b c d e f g = simp append_assoc refl

alike_is_some : (one : ListItem) (front : Option ItemList) → is_alike one front ≡ true → IsTrue (is_some front)
alike_is_some one None e = e
alike_is_some one (Some front) e = refl

-- a list that an item is not the last of goes on with what follows
goes_on_by : (b : Bool) (now : OpenList) (later : Nodes) (one : ListItem) → is_alike one (front_list later) ≡ b → GoesOn (list_after (not b) now) later
goes_on_by true now later one e = alike_is_some one (front_list later) e
goes_on_by false now later one e = tt

-- ---- what is left of the room

no_list_start : (current : Option OpenList) (one : ListItem) (offset : ℕ) (span : Span) →
    let starts = list_start current one offset span in (added starts ≡ 0) × (empty_cells starts ≡ 0) × (begun_cells starts ≡ 0)
no_list_start None one offset span = (refl, refl, refl)
no_list_start (Some current) one offset span = (refl, refl, refl)

no_list_end : (is_last : Bool) (current : OpenList) → let ends = list_end is_last current in (added ends ≡ 0) × (empty_cells ends ≡ 0) × (begun_cells ends ≡ 0)
no_list_end true current = (refl, refl, refl)
no_list_end false current = (refl, refl, refl)

no_container : (container : Container) (offset to : ℕ) →
    let starts = starting (container_tag container) offset to in (added starts ≡ 0) × (empty_cells starts ≡ 0) × (begun_cells starts ≡ 0)
no_container Quote offset to = (refl, refl, refl)
no_container (Item one) offset to = (refl, refl, refl)
no_container Footnote offset to = (refl, refl, refl)
no_container (TermDefinition one) offset to = (refl, refl, refl)

-- around a list, and around what an item of it holds, nothing is added
pub added_by_item : (current : Option OpenList) (one : ListItem) (offset : ℕ) (span : Span) (now : OpenList) (held next : List RangedEvent)
    → added (list_start current one offset span ++ starting item offset span.to ++ held ++ ending (element_of item offset span.to)
    ++ list_end span.is_last now ++ next) ≡ added held + added next
added_by_item current one offset span now held next =
    let lists = list_start current one offset span in
    let starts = starting item offset span.to in
    let ends = ending (element_of item offset span.to) in
    let last = list_end span.is_last now in
    omega (
      arith,
      (no_list_start current one offset span).0,
      (no_list_end span.is_last now).0,
      added_both lists starts,
      added_both (lists ++ starts) held,
      added_both (lists ++ starts ++ held) ends,
      added_both (lists ++ starts ++ held ++ ends) last,
      added_both (lists ++ starts ++ held ++ ends ++ last) next,
    )

pub added_by_other : (container : Container) (offset to : ℕ) (held next : List RangedEvent)
    → added (starting (container_tag container) offset to ++ held ++ ending (element_of (container_tag container) offset to) ++ next)
    ≡ added held + added next
added_by_other container offset to held next =
    let ends = ending (element_of (container_tag container) offset to) in
    omega (arith, (no_container container offset to).0, added_both held ends, added_both (held ++ ends) next)

-- nor a cell
pub empty_in_item : (current : Option OpenList) (one : ListItem) (offset : ℕ) (span : Span) (now : OpenList) (held next : List RangedEvent)
    → empty_cells (list_start current one offset span ++ starting item offset span.to ++ held ++ ending (element_of item offset span.to)
    ++ list_end span.is_last now ++ next) ≡ empty_cells held + empty_cells next
empty_in_item current one offset span now held next =
    let lists = list_start current one offset span in
    let starts = starting item offset span.to in
    let ends = ending (element_of item offset span.to) in
    let last = list_end span.is_last now in
    omega (
      arith,
      (no_list_start current one offset span).1,
      (no_list_end span.is_last now).1,
      empty_both lists starts,
      empty_both (lists ++ starts) held,
      empty_both (lists ++ starts ++ held) ends,
      empty_both (lists ++ starts ++ held ++ ends) last,
      empty_both (lists ++ starts ++ held ++ ends ++ last) next,
    )

pub empty_in_other : (container : Container) (offset to : ℕ) (held next : List RangedEvent)
    → empty_cells (starting (container_tag container) offset to ++ held ++ ending (element_of (container_tag container) offset to) ++ next)
    ≡ empty_cells held + empty_cells next
empty_in_other container offset to held next =
    let ends = ending (element_of (container_tag container) offset to) in
    omega (arith, (no_container container offset to).1, empty_both held ends, empty_both (held ++ ends) next)

pub cells_in_item : (current : Option OpenList) (one : ListItem) (offset : ℕ) (span : Span) (now : OpenList) (held next : List RangedEvent)
    → begun_cells (list_start current one offset span ++ starting item offset span.to ++ held ++ ending (element_of item offset span.to)
    ++ list_end span.is_last now ++ next) ≡ begun_cells held + begun_cells next
cells_in_item current one offset span now held next =
    let lists = list_start current one offset span in
    let starts = starting item offset span.to in
    let ends = ending (element_of item offset span.to) in
    let last = list_end span.is_last now in
    omega (
      arith,
      (no_list_start current one offset span).2,
      (no_list_end span.is_last now).2,
      cells_both lists starts,
      cells_both (lists ++ starts) held,
      cells_both (lists ++ starts ++ held) ends,
      cells_both (lists ++ starts ++ held ++ ends) last,
      cells_both (lists ++ starts ++ held ++ ends ++ last) next,
    )

pub cells_in_other : (container : Container) (offset to : ℕ) (held next : List RangedEvent)
    → begun_cells (starting (container_tag container) offset to ++ held ++ ending (element_of (container_tag container) offset to) ++ next)
    ≡ begun_cells held + begun_cells next
cells_in_other container offset to held next =
    let ends = ending (element_of (container_tag container) offset to) in
    omega (arith, (no_container container offset to).2, cells_both held ends, cells_both (held ++ ends) next)

room_after_item : (room : Room) (current : Option OpenList) (one : ListItem) (offset : ℕ) (span : Span) (now : OpenList) (held next : List RangedEvent)
    → room_after room (list_start current one offset span ++ starting item offset span.to ++ held ++ ending (element_of item offset span.to)
    ++ list_end span.is_last now ++ next) ≡ room_after (room_after room held) next
room_after_item room current one offset span now held next =
    after_parts room held next _ (added_by_item current one offset span now held next) (empty_in_item current one offset span now held next)

room_after_other : (room : Room) (container : Container) (offset to : ℕ) (held next : List RangedEvent)
    → room_after room (starting (container_tag container) offset to ++ held ++ ending (element_of (container_tag container) offset to) ++ next)
    ≡ room_after (room_after room held) next
room_after_other room container offset to held next =
    after_parts room held next
    (starting (container_tag container) offset to ++ held ++ ending (element_of (container_tag container) offset to) ++ next)
    (added_by_other container offset to held next) (empty_in_other container offset to held next)

-- ---- containers and what follows them

-- what is given of an item: what it holds, its end, and what follows it
item_joined : (page : List ℕ) (setting : EventSetting) (room : Room) (one : ListItem) (offset : ℕ) (inner later : Nodes) (more : List Span) (tail : List Event)
    → (s : OpenElements) (events rest : List RangedEvent) → AreParted s.elements
    → let span = span_of (Item one) inner later in
    let lists = with_list one offset span s.elements in
    events ≡ start_events (Item one) offset span s.elements ++ rest
    → AreBoth page setting room inner (spans later ++ more) (ends ∷ (flatten later ++ tail)) (inside_of (Item one) (opened (Item one) offset span s.elements) s) rest
    → ((room2 : Room) (rest2 : List RangedEvent) → AreEventsFrom page setting room2 (with_spans (spans later ++ more) (past (lists_after span.is_last lists)
    s)) (flatten later ++ tail) rest2
    → AreBoth page setting room2 later more tail (past (lists_after span.is_last lists) s) rest2)
    → AreBoth page setting room (container_then (Item one) offset inner later) more tail s events
item_joined page setting room one offset inner later more tail s events rest parted given held follow =
    let span = span_of (Item one) inner later in
    let lists = with_list one offset span s.elements in
    let now = list_in (innermost_list s.elements) one offset span in
    let known = are_after one offset span s.elements in
    let rest2 = held.of_tail.0 in
    let next = follow (room_after room held.here) rest2 (subst (λ containers. AreEventsFrom page setting (room_after room held.here) (record {
      spans = spans later ++ more;
      containers = containers;
      kept = length containers;
      waiting = None;
      elements = lists_after span.is_last lists;
    }) (flatten later ++ tail) rest2) (front_of s.containers (past_first_line (Item one))) held.of_tail.1) in
    record {
      here = list_start (innermost_list s.elements) one offset span ++ starting item offset span.to ++ held.here
          ++ ending (element_of item offset span.to) ++ list_end span.is_last now ++ next.here;
      rest = next.rest;
      of_nodes = (
        held.here,
        next.here,
        subst (λ tight. AreNodeEvents page setting room (record { containers = s.containers ++ past_first_line (Item one) ∷ []; kept = s.kept; is_tight = tight })
            (Some (Item one)) None inner held.here)
            known.tight held.of_nodes,
        subst (λ current. AreNodeEvents page setting (room_after room held.here) (after_block (place_in s)) None current later next.here)
            (after_list one offset span s.elements span.is_last parted)
            (subst (λ around. AreNodeEvents page setting (room_after room held.here) (record {
              containers = s.containers;
              kept = length s.containers;
              is_tight = is_tight_in around;
            }) None (innermost_list (lists_after span.is_last lists)) later next.here) (around_list one offset span s.elements span.is_last parted) next.of_nodes),
        refl,
      );
      of_tail = subst (λ room. AreEventsFrom page setting room (after (container_then (Item one) offset inner later) more s) tail next.rest)
          (sym (room_after_item room (innermost_list s.elements) one offset span now held.here next.here))
          (subst (λ kept. AreEventsFrom page setting (room_after (room_after room held.here) next.here) (record {
            spans = more;
            containers = s.containers;
            kept = kept;
            waiting = waiting_after later None;
            elements = without_list s.elements;
          }) tail next.rest) (kept_past later (lists_after span.is_last lists) s)
          (subst (λ around. AreEventsFrom page setting (room_after (room_after room held.here) next.here) (record {
            spans = more;
            containers = s.containers;
            kept = kept_after later (past (lists_after span.is_last lists) s);
            waiting = waiting_after later None;
            elements = around;
          }) tail next.rest) (around_list one offset span s.elements span.is_last parted) next.of_tail));
      both = given
          ∙ (ap (λ starts. (starts ++ starting item offset span.to) ++ rest) known.start
          ∙ (ap (λ es. (list_start (innermost_list s.elements) one offset span ++ starting item offset span.to) ++ es)
          (held.both ∙ ap (λ es. held.here ++ es) (held.of_tail.2
          ∙ (ap (λ es. (ending (element_of item offset span.to) ++ es) ++ rest2) (list_ended one offset span s.elements span.is_last)
          ∙ ap (λ es. (ending (element_of item offset span.to) ++ list_end span.is_last now) ++ es) next.both)))
          ∙ joined (list_start (innermost_list s.elements) one offset span) (starting item offset span.to) held.here
          (ending (element_of item offset span.to)) (list_end span.is_last now) next.here next.rest));
    }

-- the same of a container that is no item
abbrev other_element : Container → ℕ → ℕ → OpenElement
other_element container offset to = record { element = element_of (container_tag container) offset to; is_tight = false; is_last = false }

record AreOther (page : List ℕ) (setting : EventSetting) (room : Room) (container : Container) (offset : ℕ) (inner later : Nodes) (more : List Span)
    (tail : List Event) (s : OpenElements) (events : List RangedEvent) : Type 0 where
  here : List RangedEvent
  rest : List RangedEvent
  of_nodes : (held : List RangedEvent) × (next : List RangedEvent)
      × AreNodeEvents page setting room (inside container false (place_in s)) (Some container) None inner held
      × AreNodeEvents page setting (room_after room held) (after_block (place_in s)) None None later next
      × (here ≡ starting (container_tag container) offset (container_end container inner) ++ held
      ++ ending (element_of (container_tag container) offset (container_end container inner)) ++ next)
  of_tail : AreEventsFrom page setting (room_after room here) (record {
    spans = more;
    containers = s.containers;
    kept = length s.containers;
    waiting = waiting_after later None;
    elements = without_list s.elements;
  }) tail rest
  both : events ≡ here ++ rest

joined_other : (a b c d e : List RangedEvent) → a ++ (b ++ (c ++ (d ++ e))) ≡ (a ++ b ++ c ++ d) ++ e
joined_other a b c d e = simp append_assoc refl

other_joined : (page : List ℕ) (setting : EventSetting) (room : Room) (container : Container) (offset : ℕ) (inner later : Nodes) (more : List Span) (tail : List Event)
    → (s : OpenElements) (events rest : List RangedEvent) → innermost_list s.elements ≡ None
    → let open_now = other_element container offset (container_end container inner) ∷ s.elements in
    innermost_list open_now ≡ None → is_tight_in (without_list open_now) ≡ false → without_list open_now ≡ open_now
    → events ≡ starting (container_tag container) offset (container_end container inner) ++ rest
    → AreBoth page setting room inner (spans later ++ more) (ends ∷ (flatten later ++ tail)) (inside_of container open_now s) rest
    → ((room2 : Room) (rest2 : List RangedEvent) → AreEventsFrom page setting room2 (with_spans (spans later ++ more) (past s.elements s))
    (flatten later ++ tail) rest2
    → AreBoth page setting room2 later more tail (past s.elements s) rest2)
    → AreOther page setting room container offset inner later more tail s events
other_joined page setting room container offset inner later more tail s events rest none no_list not_tight same given held follow =
    let tag = container_tag container in
    let to = container_end container inner in
    let open_now = other_element container offset to ∷ s.elements in
    let after_it = subst (λ elements. AreEventsFrom page setting (room_after room held.here) (record {
      spans = spans later ++ more;
      containers = s.containers ++ past_first_line container ∷ [];
      kept = kept_after inner (inside_of container open_now s);
      waiting = waiting_after inner (Some container);
      elements = elements;
    }) (ends ∷ (flatten later ++ tail)) held.rest) same held.of_tail in
    let rest2 = after_it.0 in
    let next = follow (room_after room held.here) rest2 (subst (λ containers. AreEventsFrom page setting (room_after room held.here) (record {
      spans = spans later ++ more;
      containers = containers;
      kept = length containers;
      waiting = None;
      elements = s.elements;
    }) (flatten later ++ tail) rest2) (front_of s.containers (past_first_line container)) after_it.1) in
    record {
      here = starting tag offset to ++ held.here ++ ending (element_of tag offset to) ++ next.here;
      rest = next.rest;
      of_nodes = (
        held.here,
        next.here,
        subst (λ tight. AreNodeEvents page setting room (record {
          containers = s.containers ++ past_first_line container ∷ [];
          kept = s.kept;
          is_tight = tight;
        }) (Some container) None inner held.here)
            not_tight
            (subst (λ current. AreNodeEvents page setting room (place_in (inside_of container open_now s)) (Some container) current inner held.here) no_list held.of_nodes),
        subst (λ current. AreNodeEvents page setting (room_after room held.here) (after_block (place_in s)) None current later next.here) none next.of_nodes,
        refl,
      );
      of_tail = subst (λ room. AreEventsFrom page setting room (record {
        spans = more;
        containers = s.containers;
        kept = length s.containers;
        waiting = waiting_after later None;
        elements = without_list s.elements;
      }) tail next.rest) (sym (room_after_other room container offset to held.here next.here))
          (subst (λ kept. AreEventsFrom page setting (room_after (room_after room held.here) next.here) (record {
            spans = more;
            containers = s.containers;
            kept = kept;
            waiting = waiting_after later None;
            elements = without_list s.elements;
          }) tail next.rest) (kept_past later s.elements s) next.of_tail);
      both = given ∙ (ap (λ es. starting tag offset to ++ es)
          (held.both ∙ ap (λ es. held.here ++ es) (after_it.2 ∙ (ap (λ es. es ++ rest2) (append-nil (ending (element_of tag offset to)))
          ∙ ap (λ es. ending (element_of tag offset to) ++ es) next.both)))
          ∙ joined_other (starting tag offset to) held.here (ending (element_of tag offset to)) next.here next.rest);
    }

-- ---- the whole

none_now_other : (now : Option OpenList) (nodes : Nodes) → front_list nodes ≡ None → GoesOn now nodes → now ≡ None
none_now_other None nodes front goes = refl
none_now_other (Some now) nodes front goes = absurd (false_is_not (subst (λ f. IsTrue (is_some f)) front goes))

split_events : (page : List ℕ) (setting : EventSetting) (room : Room) (inner later : Nodes) (more : List Span) (tail : List Event) (s : OpenElements)
    → (events : List RangedEvent)
    → AreEventsFrom page setting room (with_spans ((spans inner ++ spans later) ++ more) s) ((flatten inner ++ ends ∷ flatten later) ++ tail) events
    → AreEventsFrom page setting room (with_spans (spans inner ++ (spans later ++ more)) s) (flatten inner ++ (ends ∷ (flatten later ++ tail))) events
split_events page setting room inner later more tail s events are =
    subst (λ all. AreEventsFrom page setting room (with_spans all s) (flatten inner ++ (ends ∷ (flatten later ++ tail))) events)
    (append_assoc (spans inner) (spans later) more)
    (subst (λ blocks. AreEventsFrom page setting room (with_spans ((spans inner ++ spans later) ++ more) s) blocks events)
    (append_assoc (flatten inner) (ends ∷ flatten later) tail) are)

flat_tree : (page : List ℕ) (setting : EventSetting) (room : Room) (nodes : Nodes) (more : List Span) (tail : List Event) (s : OpenElements)
    → (events : List RangedEvent) → AreParted s.elements → GoesOn (innermost_list s.elements) nodes
    → AreEventsFrom page setting room (with_spans (spans nodes ++ more) s) (flatten nodes ++ tail) events
    → AreBoth page setting room nodes more tail s events
flat_tree page setting room nothing more tail s events parted goes are = nothing_goes_on page setting room more tail s events parted goes are
flat_tree page setting room (leaf_then block later) more tail s events parted goes are =
    leaf_goes_on page setting room block later more tail s are.0 are.1 events are.2 are.4
    (flat_tree page setting (room_after room are.0) later more tail (passed block s) are.1 parted
    (goes_on_leaf (is_blank_kind block.kind) (innermost_list s.elements) block later refl goes) are.3)
flat_tree page setting room (container_then (Item one) offset inner later) more tail s events parted goes are =
    let span = span_of (Item one) inner later in
    let elements = opened (Item one) offset span s.elements in
    let lists = with_list one offset span s.elements in
    let after_it = lists_after span.is_last lists in
    item_joined page setting room one offset inner later more tail s events are.0 parted are.2
    (flat_tree page setting room inner (spans later ++ more) (ends ∷ (flatten later ++ tail)) (inside_of (Item one) elements s) are.0 refl tt
    (split_events page setting room inner later more tail (inside_of (Item one) elements s) are.0 are.1))
    (λ room2 rest2 are2. flat_tree page setting room2 later more tail (past after_it s) rest2
    (ap innermost_list (around_list one offset span s.elements span.is_last parted) ∙ parted)
    (subst (λ current. GoesOn current later) (sym (after_list one offset span s.elements span.is_last parted))
    (goes_on_by (is_alike one (front_list later)) (list_in (innermost_list s.elements) one offset span) later one refl)) are2)
flat_tree page setting room (container_then Quote offset inner later) more tail s events parted goes are =
    let none = none_now_other (innermost_list s.elements) (container_then Quote offset inner later) refl goes in
    let other = other_joined page setting room Quote offset inner later more tail s events are.0 none refl refl refl are.2
    (flat_tree page setting room inner (spans later ++ more) (ends ∷ (flatten later ++ tail))
    (inside_of Quote (other_element Quote offset (container_end Quote inner) ∷ s.elements) s) are.0 refl tt
    (split_events page setting room inner later more tail (inside_of Quote (other_element Quote offset (container_end Quote inner) ∷ s.elements) s) are.0 are.1))
    (λ room2 rest2 are2. flat_tree page setting room2 later more tail (past s.elements s) rest2 parted
    (subst (λ current. GoesOn current later) (sym none) tt) are2) in
    record { here = other.here; rest = other.rest; of_nodes = other.of_nodes; of_tail = other.of_tail; both = other.both }
flat_tree page setting room (container_then Footnote offset inner later) more tail s events parted goes are =
    let none = none_now_other (innermost_list s.elements) (container_then Footnote offset inner later) refl goes in
    let other = other_joined page setting room Footnote offset inner later more tail s events are.0 none refl refl refl are.2
    (flat_tree page setting room inner (spans later ++ more) (ends ∷ (flatten later ++ tail))
    (inside_of Footnote (other_element Footnote offset (container_end Footnote inner) ∷ s.elements) s) are.0 refl tt
    (split_events page setting room inner later more tail (inside_of Footnote (other_element Footnote offset (container_end Footnote inner) ∷ s.elements) s) are.0 are.1))
    (λ room2 rest2 are2. flat_tree page setting room2 later more tail (past s.elements s) rest2 parted
    (subst (λ current. GoesOn current later) (sym none) tt) are2) in
    record { here = other.here; rest = other.rest; of_nodes = other.of_nodes; of_tail = other.of_tail; both = other.both }
flat_tree page setting room (container_then (TermDefinition one) offset inner later) more tail s events parted goes are =
    let none = none_now_other (innermost_list s.elements) (container_then (TermDefinition one) offset inner later) refl goes in
    let other = other_joined page setting room (TermDefinition one) offset inner later more tail s events are.0 none refl refl refl are.2
    (flat_tree page setting room inner (spans later ++ more) (ends ∷ (flatten later ++ tail))
    (inside_of (TermDefinition one) (other_element (TermDefinition one) offset (container_end (TermDefinition one) inner) ∷ s.elements) s) are.0 refl tt
    (split_events page setting room inner later more tail (inside_of (TermDefinition one) (other_element (TermDefinition one) offset
    (container_end (TermDefinition one) inner) ∷ s.elements) s) are.0 are.1))
    (λ room2 rest2 are2. flat_tree page setting room2 later more tail (past s.elements s) rest2 parted
    (subst (λ current. GoesOn current later) (sym none) tt) are2) in
    record { here = other.here; rest = other.rest; of_nodes = other.of_nodes; of_tail = other.of_tail; both = other.both }

-- the events of a page's block events are those of its nodes
pub page_tree : (page : List ℕ) (setting : EventSetting) (room : Room) (nodes : Nodes) (events : List RangedEvent)
    → AreEventsFrom page setting room (none_open (spans nodes)) (flatten nodes) events
    → AreNodeEvents page setting room outermost None None nodes events
page_tree page setting room nodes events are =
    let both = flat_tree page setting room nodes [] [] (none_open []) events refl tt
    (subst (λ all. AreEventsFrom page setting room (none_open all) (flatten nodes ++ []) events) (sym (append-nil (spans nodes)))
    (subst (λ blocks. AreEventsFrom page setting room (none_open (spans nodes)) blocks events) (sym (append-nil (flatten nodes))) are)) in
    subst (λ es. AreNodeEvents page setting room outermost None None nodes es)
    (sym (both.both ∙ (ap (λ es. both.here ++ es) both.of_tail ∙ append-nil both.here))) both.of_nodes
