-- The events of a page that are left, while they are given one after another.
use Rattle.std.specs.Prelude.{ℕ, ◌≡◌, ◌+◌, ◌*◌, ◌^◌, drop, length, List, [], ◌∷◌, ◌++◌}
use Rattle.markdown_blocks.specs.events.Events.{Event, LeafBlock, starts, leaf, ends}
use Rattle.markdown_blocks.specs.link_definitions.LinkDefinitions.{Known, known_as}
use Rattle.markdown_values.specs.declared.values.extensions.Extensions.{Extensions}
use Rattle.markdown_events.specs.InlineEvents.{EventSetting, RangedEvent, event_setting}
use Rattle.markdown_events.specs.Targets.{Targets, or_else}
use Rattle.markdown_events.specs.page.LeafEvents.{HasNoEvents}
use Rattle.markdown_events.specs.page.OpenElements.{OpenElements, begun, ended, passed, place_in, start_events, end_events, next_span}
use Rattle.markdown_events.specs.page.PageEvents.{AreDefinitionsOf, ArePageEventsWith}
use Rattle.markdown_events.specs.page.References.{AreEventsInRoom, room_after}
use Rattle.markdown_events.specs.declared.page.reading.Room.{Room}

-- These are the events of the block events that follow, with these elements open. There is this room.
abbrev pub AreEventsFrom : List ℕ → EventSetting → Room → OpenElements → List Event → List RangedEvent → Type 0
AreEventsFrom page setting room s [] events = events ≡ []
AreEventsFrom page setting room s (starts container offset ∷ later) events =
    (rest : List RangedEvent) × AreEventsFrom page setting room (begun container offset s) later rest
    × (events ≡ start_events container offset (next_span s.spans) s.elements ++ rest)
AreEventsFrom page setting room s (leaf block ∷ later) events =
    (here : List RangedEvent) × (rest : List RangedEvent) × AreEventsInRoom page setting room (place_in s) s.waiting block here
    × AreEventsFrom page setting (room_after room here) (passed block s) later rest × (events ≡ here ++ rest)
AreEventsFrom page setting room s (ends ∷ later) events =
    (rest : List RangedEvent) × AreEventsFrom page setting room (ended s) later rest × (events ≡ end_events s.elements ++ rest)

-- How far the events of a page are given: what it is read with, the room that is left, the events that are ready, the
-- elements that are open after them, and the block events that follow.
pub record PageLeft : Type 0 where
  pub page : List ℕ
  pub extensions : Extensions
  pub known : Known
  pub room : Room
  pub ready : List RangedEvent
  pub elements : OpenElements
  pub blocks : List Event

abbrev pub setting_of : PageLeft → EventSetting
setting_of left = event_setting left.extensions (known_as left.known)

-- the same where labels that the page does not define lead as these say
abbrev pub setting_with : Targets → PageLeft → EventSetting
setting_with more left = event_setting left.extensions (or_else (known_as left.known) more)

-- the same with other events ready, other elements open and other block events left
abbrev pub left_with : PageLeft → List RangedEvent → OpenElements → List Event → PageLeft
left_with old ready elements blocks = record old { ready = ready; elements = elements; blocks = blocks }

-- the same, and of the room there is left what the events that are ready leave
abbrev pub leaf_left_with : PageLeft → List RangedEvent → OpenElements → List Event → PageLeft
leaf_left_with old ready elements blocks = record (left_with old ready elements blocks) { room = room_after old.room ready }

-- the next block event is passed, which is a leaf block without events
pub record IsPassed (old new : PageLeft) : Type 0 where
  pub block : LeafBlock
  pub has_none : HasNoEvents block.kind
  pub is_next : old.blocks ≡ leaf block ∷ drop 1 old.blocks
  pub is_new : new ≡ left_with old old.ready (passed block old.elements) (drop 1 old.blocks)

-- from here these events are given
pub record Gives (left : PageLeft) (events : List RangedEvent) : Type 0 where
  pub rest : List RangedEvent
  pub are_later : AreEventsFrom left.page (setting_of left) left.room left.elements left.blocks rest
  pub given : events ≡ left.ready ++ rest

-- the same where labels that the page does not define lead as these say
pub record GivesWith (more : Targets) (left : PageLeft) (events : List RangedEvent) : Type 0 where
  pub rest : List RangedEvent
  pub are_later : AreEventsFrom left.page (setting_with more left) left.room left.elements left.blocks rest
  pub given : events ≡ left.ready ++ rest

-- this holds of whatever events are given from here
abbrev pub GivesOnly : (List RangedEvent → Type 0) → PageLeft → Type 0
GivesOnly Holds left = (events : List RangedEvent) → Gives left events → Holds events

-- also where labels that the page does not define lead as these say
abbrev pub GivesOnlyWith : Targets → (List RangedEvent → Type 0) → PageLeft → Type 0
GivesOnlyWith more Holds left = (events : List RangedEvent) → GivesWith more left events → Holds events

-- and wherever they lead
abbrev pub AlwaysGivesOnly : (List RangedEvent → Type 0) → PageLeft → Type 0
AlwaysGivesOnly Holds left = (more : Targets) → GivesOnlyWith more Holds left

-- only the events of a page are given, wherever labels lead that it does not define
abbrev pub AlwaysGivesPage : List ℕ → Extensions → PageLeft → Type 0
AlwaysGivesPage page setting left = (more : Targets) → GivesOnlyWith more (ArePageEventsWith page setting more) left

-- the definitions that are known are those of the page
abbrev pub KnowsDefinitions : List ℕ → Extensions → PageLeft → Type 0
KnowsDefinitions page setting left = AreDefinitionsOf page setting left.known

-- a number that each event lowers: a block has fewer than 2 ^ 64 events
abbrev pub events_left : PageLeft → ℕ
events_left left = 2 ^ 64 * length left.blocks + length left.ready

-- no event is left
pub record IsDone (left : PageLeft) : Type 0 where
  pub none_ready : left.ready ≡ []
  pub no_blocks : left.blocks ≡ []
