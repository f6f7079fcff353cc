-- What link references add to a page, and the cells that rows are filled in with, and how many they may.
-- (CommonMark 0.31.2, section 6.3; GitHub Flavored Markdown 0.29, section 4.10)
use Rattle.std.specs.Prelude.{ℕ, Bool, true, false, ◌+◌, ◌-◌, ◌<◌, ◌≤◌, ◌==◌, ◌≡◌, ◌⊎◌, List, [], ◌∷◌, length, max, Option, if◌then◌else◌}
use Rattle.markdown_values.specs.values.Events.{EventView, start}
use Rattle.markdown_values.specs.values.Tags.{image, link, table_cell}
use Rattle.markdown_values.specs.declared.values.LinkType.{LinkType}
use Rattle.markdown_values.specs.declared.values.LinkType.TheVariants as Kind
use Rattle.markdown_blocks.specs.declared.containers.Container.{Container}
use Rattle.markdown_blocks.specs.events.Events.{LeafBlock}
use Rattle.markdown_events.specs.InlineEvents.{EventSetting, RangedEvent, with_cells}
use Rattle.markdown_events.specs.Targets.{nowhere}
use Rattle.markdown_events.specs.declared.page.reading.Room.{Room}
use Rattle.markdown_events.specs.page.Places.{Place}
use Rattle.markdown_events.specs.page.TaskEvents.{AreBlockEvents}

-- whether a link leads where a definition says, and not where it says itself
abbrev pub is_reference : LinkType → Bool
is_reference Kind.Inline = false
is_reference Kind.Autolink = false
is_reference Kind.Email = false
is_reference (Kind.WikiLink has_pothole) = false
is_reference kind = true

-- So many bytes stand in the destination and the title of a reference, which its definition gives it.
abbrev pub given_to : LinkType → List ℕ → List ℕ → ℕ
given_to kind destination title = if is_reference kind then length destination + length title else 0

abbrev pub added_by : EventView (List ℕ) → ℕ
added_by (start (link kind destination title label)) = given_to kind destination title
added_by (start (image kind destination title label)) = given_to kind destination title
added_by event = 0

-- so many in all of these events
abbrev pub added : List RangedEvent → ℕ
added [] = 0
added (event ∷ later) = added_by event.0 + added later

-- So many bytes references may add to a page: as many as it has, and to a short one this number.
abbrev pub short_page_room : ℕ
short_page_room = 100000

abbrev pub room_of : List ℕ → ℕ
room_of page = max short_page_room (length page)

-- they add no more to it
abbrev pub ReferencesFit : List ℕ → List RangedEvent → Type 0
ReferencesFit page events = added events ≤ room_of page

-- ---- cells

-- An empty cell ends where it begins, as one that is filled in does.
abbrev pub empty_in : RangedEvent → ℕ
empty_in (start table_cell, range) = if range.start == range.end then 1 else 0
empty_in event = 0

-- so many of these events begin one
abbrev pub empty_cells : List RangedEvent → ℕ
empty_cells [] = 0
empty_cells (event ∷ later) = empty_in event + empty_cells later

-- so many of these events begin a cell, empty or not
abbrev pub begins_cell : EventView (List ℕ) → ℕ
begins_cell (start table_cell) = 1
begins_cell event = 0

abbrev pub begun_cells : List RangedEvent → ℕ
begun_cells [] = 0
begun_cells (event ∷ later) = begins_cell event.0 + begun_cells later

-- a page has no more than it has bytes, and room for those that are filled in
abbrev pub CellsFit : List ℕ → List RangedEvent → Type 0
CellsFit page events = begun_cells events ≤ length page + room_of page

-- ---- both

-- as many cells may be filled in in a page
abbrev pub page_room : List ℕ → Room
page_room page = record { references = room_of page; cells = room_of page }

-- what these events leave of the room before them
abbrev pub room_after : Room → List RangedEvent → Room
room_after room events = record { references = room.references - added events; cells = room.cells - empty_cells events }

-- this is left of the room before these events, which have enough
pub record IsLeft (room : Room) (events : List RangedEvent) (left : Room) : Type 0 where
  pub references : added events + left.references ≡ room.references
  pub cells : left.cells ≡ room.cells - empty_cells events

-- what a text is read with where no label is defined
abbrev pub without_references : EventSetting → EventSetting
without_references setting = record setting { targets = nowhere }

-- These are the events of a leaf block where there is this room: if its references would add more bytes than they may, they are text.
abbrev pub AreEventsInRoom : List ℕ → EventSetting → Room → Place → Option Container → LeafBlock → List RangedEvent → Type 0
AreEventsInRoom page setting room here waiting block events =
    let own = with_cells room.cells setting in
    (AreBlockEvents page own here waiting block events × (added events ≤ room.references))
    ⊎ ((all : List RangedEvent) × AreBlockEvents page own here waiting block all × (room.references < added all)
    × AreBlockEvents page (without_references own) here waiting block events)
