-- Events whose starts and ends balance, and whose rows and cells stand in tables: as those of a page do.
use Rattle.std.specs.Prelude.{ℕ, Bool, true, false, ◌≡◌, List, [], ◌∷◌, ⊤, IsTrue, map, not}
use Rattle.std.specs.List.{list_all}
use Rattle.markdown_values.specs.declared.values.Alignment.{Alignment}
use Rattle.markdown_values.specs.values.Events.{EventView, start, end}
use Rattle.markdown_values.specs.values.Tags.{TagView, table, table_head, table_row, table_cell}
use Rattle.markdown_events.specs.InlineEvents.{RangedEvent}
use Rattle.markdown_events.specs.TagEnds.{tag_end}

-- events without the ranges of their sources
abbrev pub without_ranges : List RangedEvent → List (EventView (List ℕ))
without_ranges events = map (λ event. event.0) events

-- a tag that says this
abbrev pub Tag : Type 0
Tag = TagView (List ℕ)

-- a table or a part of one
abbrev pub is_in_table : Tag → Bool
is_in_table (table columns) = true
is_in_table table_head = true
is_in_table table_row = true
is_in_table table_cell = true
is_in_table tag = false

-- a row of a table, or its head
abbrev pub is_row : Tag → Bool
is_row table_head = true
is_row table_row = true
is_row tag = false

-- A tag may start where these elements have started, the innermost first. A table is in no other; its head and its rows are in it, and a
-- cell is in one of these.
abbrev pub MayStart : Tag → List Tag → Type 0
MayStart (table columns) outer = IsTrue (list_all (λ tag. not (is_in_table tag)) outer)
MayStart table_head outer = (columns : List Alignment) × (rest : List Tag) × (outer ≡ table columns ∷ rest)
MayStart table_row outer = (columns : List Alignment) × (rest : List Tag) × (outer ≡ table columns ∷ rest)
MayStart table_cell outer = (row : Tag) × (rest : List Tag) × (outer ≡ row ∷ rest) × IsTrue (is_row row)
MayStart tag outer = ⊤

-- Starts and ends balance, where these elements have started, and each stands where it may.
abbrev pub AreNestedIn : List Tag → List (EventView (List ℕ)) → Type 0
AreNestedIn tags [] = tags ≡ []
AreNestedIn tags (start tag ∷ later) = MayStart tag tags × AreNestedIn (tag ∷ tags) later
AreNestedIn tags (end closer ∷ later) =
    (tag : Tag) × (outer : List Tag) × (tags ≡ tag ∷ outer) × (closer ≡ tag_end tag) × AreNestedIn outer later
AreNestedIn tags (event ∷ later) = AreNestedIn tags later

abbrev pub AreNested : List (EventView (List ℕ)) → Type 0
AreNested events = AreNestedIn [] events

-- the same of events with the ranges of their sources
abbrev pub AreNestedEvents : List RangedEvent → Type 0
AreNestedEvents events = AreNested (without_ranges events)
