-- The containers and lists of a page that have begun and not ended, as its block events are followed.
use Rattle.std.specs.Prelude.{ℕ, Bool, true, false, not, ◌-◌, List, [], ◌∷◌, ◌++◌, length, take, drop, Option, Some, None, is_some, if◌then◌else◌}
use Rattle.markdown_values.specs.values.Tags.{item}
use Rattle.markdown_values.specs.declared.values.tags.TagEnd.{TagEnd}
use Rattle.markdown_values.specs.declared.values.tags.TagEnd.TheVariants as End
use Rattle.markdown_blocks.specs.containers.Containers.{past_first_line}
use Rattle.markdown_blocks.specs.declared.containers.Container.{Container}
use Rattle.markdown_blocks.specs.declared.containers.Container.TheVariants.{Item}
use Rattle.markdown_blocks.specs.declared.containers.ListItem.{ListItem}
use Rattle.markdown_blocks.specs.events.Events.{LeafBlock, leaf}
use Rattle.markdown_blocks.specs.first_blocks.Waiting.{waiting_next}
use Rattle.markdown_values.specs.values.Events.{EventView, start, end}
use Rattle.markdown_events.specs.InlineEvents.{RangedEvent, ranged}
use Rattle.markdown_events.specs.declared.page.open_elements.Edge.{Edge}
use Rattle.markdown_events.specs.declared.page.open_elements.EdgeKind.{EdgeKind}
use Rattle.markdown_events.specs.declared.page.open_elements.EdgeKind.TheVariants as Kind
use Rattle.markdown_events.specs.declared.page.open_elements.OpenElement.{OpenElement}
use Rattle.markdown_events.specs.declared.page.spans.Span.{Span}
use Rattle.markdown_events.specs.page.LeafEvents.{Place}
use Rattle.markdown_events.specs.page.PageEvents.{OpenList, container_tag, element_of, ending, list_tag, starting}

-- what an edge of an element is as an event
abbrev pub kind_event : EdgeKind → EventView (List ℕ)
kind_event (Kind.List first) = start (list_tag first)
kind_event (Kind.Container container) = start (container_tag container)
kind_event (Kind.End tag) = end tag

abbrev pub edge_event : Edge → RangedEvent
edge_event edge = ranged (kind_event edge.kind) edge.from edge.to

-- The spans of the containers that are yet to begin, in order; the containers that are open, the outermost first; with how many of
-- them the line of the next block goes on; the innermost of them, where it has no block yet; and the elements that are open, the
-- innermost first: these containers, and lists.
pub record OpenElements : Type 0 where
  pub spans : List Span
  pub containers : List Container
  pub kept : ℕ
  pub waiting : Option Container
  pub elements : List OpenElement

-- before the first block of a page, whose containers have these spans
abbrev pub none_open : List Span → OpenElements
none_open spans = record { spans = spans; containers = []; kept = 0; waiting = None; elements = [] }

-- the span of the next container
abbrev pub next_span : List Span → Span
next_span [] = record { to = 0; is_loose = false; list_to = 0; is_last = false }
next_span (span ∷ later) = span

abbrev pub is_list : TagEnd → Bool
is_list (End.List is_ordered) = true
is_list tag = false

abbrev pub as_list : OpenElement → OpenList
as_list first = record { element = first.element; is_tight = first.is_tight }

-- the list that is the innermost element, if it is one: an item that comes next is one of its own
abbrev pub innermost_list : List OpenElement → Option OpenList
innermost_list [] = None
innermost_list (first ∷ outer) = if is_list first.element.tag then Some (as_list first) else None

-- the elements around that list, or all if it is none
abbrev pub without_list : List OpenElement → List OpenElement
without_list [] = []
without_list (first ∷ outer) = if is_list first.element.tag then outer else first ∷ outer

-- the innermost container is an item of a tight list
abbrev pub is_tight_in : List OpenElement → Bool
is_tight_in [] = false
is_tight_in (first ∷ outer) = first.is_tight

-- where the next leaf block stands
abbrev pub place_in : OpenElements → Place
place_in s = record { containers = s.containers; kept = s.kept; is_tight = is_tight_in (without_list s.elements) }

-- ---- events

-- with the list that an item is in, which is open or begins with it
abbrev pub begun_list : ListItem → ℕ → Span → OpenElement
begun_list one offset span = record {
  element = element_of (list_tag one) offset span.list_to;
  is_tight = not span.is_loose;
  is_last = false;
}

abbrev pub with_list : ListItem → ℕ → Span → List OpenElement → List OpenElement
with_list one offset span [] = begun_list one offset span ∷ []
with_list one offset span (first ∷ outer) =
    if is_list first.element.tag then first ∷ outer else begun_list one offset span ∷ first ∷ outer

-- the elements that are open after a container begins with this span, before whose marker so many bytes of the page stand
abbrev pub opened : Container → ℕ → Span → List OpenElement → List OpenElement
opened (Item one) offset span elements =
    let lists = with_list one offset span elements in
    record { element = element_of item offset span.to; is_tight = is_tight_in lists; is_last = span.is_last } ∷ lists
opened container offset span elements =
    record { element = element_of (container_tag container) offset span.to; is_tight = false; is_last = false } ∷ elements

-- the starts of the list that a container begins, which is in a list or not, and of the container
abbrev pub list_starts : Container → Bool → ℕ → Span → List RangedEvent
list_starts (Item one) true offset span = []
list_starts (Item one) false offset span = starting (list_tag one) offset span.list_to
list_starts container is_in_list offset span = []

abbrev pub start_events : Container → ℕ → Span → List OpenElement → List RangedEvent
start_events container offset span elements =
    list_starts container (is_some (innermost_list elements)) offset span ++ starting (container_tag container) offset span.to

-- after a container has begun
abbrev pub begun : Container → ℕ → OpenElements → OpenElements
begun container offset s = record {
  spans = drop 1 s.spans;
  containers = s.containers ++ past_first_line container ∷ [];
  kept = s.kept;
  waiting = Some container;
  elements = opened container offset (next_span s.spans) s.elements;
}

-- after a leaf block
abbrev pub passed : LeafBlock → OpenElements → OpenElements
passed block s = record s { kept = length s.containers; waiting = waiting_next s.waiting (leaf block) }

-- the innermost element has ended, and if it is the last item of a list, so has that
abbrev pub closed : List OpenElement → List OpenElement
closed [] = []
closed (first ∷ outer) = if first.is_last then drop 1 outer else outer

abbrev pub list_ending : List OpenElement → List RangedEvent
list_ending [] = []
list_ending (first ∷ outer) = ending first.element

abbrev pub end_events : List OpenElement → List RangedEvent
end_events [] = []
end_events (first ∷ outer) = ending first.element ++ (if first.is_last then list_ending outer else [])

-- after the innermost container has ended
abbrev pub ended : OpenElements → OpenElements
ended s =
    let outer = take (length s.containers - 1) s.containers in record {
      spans = s.spans;
      containers = outer;
      kept = length outer;
      waiting = None;
      elements = closed s.elements;
    }
