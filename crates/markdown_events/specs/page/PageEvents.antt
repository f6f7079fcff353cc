-- The events of a page: its blocks in their containers and lists, and their inlines. (CommonMark 0.31.2, chapters 4 to 6)
use Rattle.std.specs.Prelude.{ℕ, Bool, false, not, ◌==◌, ◌||◌, ◌≡◌, List, [], ◌∷◌, ◌++◌, length, Option, Some, None, if◌then◌else◌}
use Rattle.markdown_values.specs.values.Events.{start, end}
use Rattle.markdown_values.specs.values.Tags.{TagView, block_quote, list, item, footnote_definition, definition_list_definition}
use Rattle.markdown_scanners_tree.specs.Ascii.{full_stop, right_parenthesis}
use Rattle.markdown_values.specs.declared.values.extensions.Extensions.{Extensions}
use Rattle.markdown_blocks.specs.containers.Containers.{past_first_line}
use Rattle.markdown_blocks.specs.declared.containers.Container.{Container}
use Rattle.markdown_blocks.specs.declared.containers.Container.TheVariants.{Quote, Item, Footnote, TermDefinition}
use Rattle.markdown_blocks.specs.declared.containers.ListItem.{ListItem}
use Rattle.markdown_blocks.specs.events.Events.{IsEventsOf, leaf}
use Rattle.markdown_blocks.specs.first_blocks.Waiting.{waiting_next}
use Rattle.markdown_blocks.specs.link_definitions.LinkDefinitions.{Known, Named, HasDefinitions, first_of, known_as}
use Rattle.markdown_blocks.specs.lists.Lists.{Nodes, nothing, leaf_then, container_then, flatten}
pub use Rattle.markdown_events.specs.InlineEvents.{EventSetting, RangedEvent, event_setting, ranged}
use Rattle.markdown_events.specs.TagEnds.{tag_end}
use Rattle.markdown_events.specs.Targets.{Targets, or_else}
use Rattle.markdown_events.specs.page.LeafEvents.{Place}
use Rattle.markdown_events.specs.declared.elements.Element.{Element}
use Rattle.markdown_events.specs.declared.page.spans.Span.{Span}
use Rattle.markdown_events.specs.page.Settings.{built}
use Rattle.markdown_events.specs.page.Spans.{span_of, container_end}
use Rattle.markdown_events.specs.page.References.{AreEventsInRoom, page_room, room_after}
use Rattle.markdown_events.specs.declared.page.reading.Room.{Room}

-- ---- elements

-- an element begins with this tag, from one offset of the page up to another; and ends
abbrev pub starting : TagView (List ℕ) → ℕ → ℕ → List RangedEvent
starting tag from to = ranged (start tag) from to ∷ []

abbrev pub ending : Element → List RangedEvent
ending element = ranged (end element.tag) element.from element.to ∷ []

abbrev pub element_of : TagView (List ℕ) → ℕ → ℕ → Element
element_of tag from to = record { tag = tag_end tag; from = from; to = to }

-- a list that has begun and not ended, and whether it is tight
pub record OpenList : Type 0 where
  pub element : Element
  pub is_tight : Bool

-- the tag of the list that begins with an item: one whose items have numbers starts with the first of them (5.3)
abbrev pub list_tag : ListItem → TagView (List ℕ)
list_tag first =
    list (if first.delimiter == full_stop || first.delimiter == right_parenthesis then Some first.start else None)

-- the list that an item is in, before whose marker so many bytes of the page stand: the one that is open, or one that begins with it
abbrev pub list_in : Option OpenList → ListItem → ℕ → Span → OpenList
list_in (Some current) one offset span = current
list_in None one offset span = record {
  element = element_of (list_tag one) offset span.list_to;
  is_tight = not span.is_loose;
}

abbrev pub list_start : Option OpenList → ListItem → ℕ → Span → List RangedEvent
list_start (Some current) one offset span = []
list_start None one offset span = starting (list_tag one) offset span.list_to

-- it ends after its last item
abbrev pub list_after : Bool → OpenList → Option OpenList
list_after is_last current = if is_last then None else Some current

abbrev pub list_end : Bool → OpenList → List RangedEvent
list_end is_last current = if is_last then ending current.element else []

-- the tag of a container
abbrev pub container_tag : Container → TagView (List ℕ)
container_tag Quote = block_quote None
container_tag (Item one) = item
container_tag Footnote = footnote_definition []
container_tag (TermDefinition one) = definition_list_definition

-- ---- where blocks stand

-- what stands in a container, of which more than its first line is read, directly in a tight list or not
abbrev pub inside : Container → Bool → Place → Place
inside container is_tight here = record {
  containers = here.containers ++ past_first_line container ∷ [];
  kept = here.kept;
  is_tight = is_tight;
}

-- what stands after a block: no further container begins in its line
abbrev pub after_block : Place → Place
after_block here = record here { kept = length here.containers }

-- ---- the page

-- These are the events of nodes that stand here, directly in this container where it has no block yet, and before which this list has
-- begun and not ended, where there is this room.
abbrev pub AreNodeEvents : List ℕ → EventSetting → Room → Place → Option Container → Option OpenList → Nodes → List RangedEvent → Type 0
AreNodeEvents page setting room here waiting current nothing events = events ≡ []
AreNodeEvents page setting room here waiting current (leaf_then block later) events =
    (own : List RangedEvent) × (rest : List RangedEvent) × AreEventsInRoom page setting room here waiting block own
    × AreNodeEvents page setting (room_after room own) (after_block here) (waiting_next waiting (leaf block)) current later rest × (events ≡ own ++ rest)
AreNodeEvents page setting room here waiting current (container_then (Item one) offset inner later) events =
    let span = span_of (Item one) inner later in
    let now = list_in current one offset span in
    (held : List RangedEvent) × (rest : List RangedEvent)
    × AreNodeEvents page setting room (inside (Item one) now.is_tight here) (Some (Item one)) None inner held
    × AreNodeEvents page setting (room_after room held) (after_block here) None (list_after span.is_last now) later rest
    × (events ≡ list_start current one offset span ++ starting item offset span.to ++ held
    ++ ending (element_of item offset span.to) ++ list_end span.is_last now ++ rest)
AreNodeEvents page setting room here waiting current (container_then container offset inner later) events =
    let tag = container_tag container in
    let to = container_end container inner in
    (held : List RangedEvent) × (rest : List RangedEvent)
    × AreNodeEvents page setting room (inside container false here) (Some container) None inner held
    × AreNodeEvents page setting (room_after room held) (after_block here) None None later rest
    × (events ≡ starting tag offset to ++ held ++ ending (element_of tag offset to) ++ rest)

-- outside all containers
abbrev pub outermost : Place
outermost = record { containers = []; kept = 0; is_tight = false }

-- These are the events of a page: those of its blocks and inlines, its own link reference definitions being defined.
pub record ArePageEvents (page : List ℕ) (setting : Extensions) (events : List RangedEvent) : Type 0 where
  pub nodes : Nodes
  pub are_blocks : IsEventsOf (built setting) page (flatten nodes)
  pub named : List Named
  pub are_defined : HasDefinitions (built setting) page named
  pub are_events : AreNodeEvents page (event_setting setting (λ label. first_of label named)) (page_room page) outermost None None nodes events

-- These are the events of a page whose labels lead as these say where the page does not define them. (6.3: without them "[foo]" is text)
pub record ArePageEventsWith (page : List ℕ) (setting : Extensions) (more : Targets) (events : List RangedEvent) : Type 0 where
  pub nodes : Nodes
  pub are_blocks : IsEventsOf (built setting) page (flatten nodes)
  pub named : List Named
  pub are_defined : HasDefinitions (built setting) page named
  pub are_events :
      AreNodeEvents page (event_setting setting (or_else (λ label. first_of label named) more)) (page_room page) outermost None None nodes events

-- What is known of where labels lead are the link reference definitions of a page, of each label the first. (4.7)
pub record AreDefinitionsOf (page : List ℕ) (setting : Extensions) (known : Known) : Type 0 where
  pub named : List Named
  pub are_defined : HasDefinitions (built setting) page named
  pub are_first : (label : List ℕ) → known_as known label ≡ first_of label named
