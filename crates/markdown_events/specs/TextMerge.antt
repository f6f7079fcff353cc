-- Events in which texts that follow each other are one text.
use Rattle.std.specs.Prelude.{ℕ, Bool, true, false, ◌≡◌, ◌⊎◌, ◌+◌, List, [], ◌∷◌, ◌++◌, length, map, Option, Some, None, option_to_list}
use Rattle.std.specs.Prelude.{Result, Ok, Err, IsTrue, ⊤}
use Rattle.std.specs.declared.alloc.AllocError.{AllocError}
use Rattle.std.specs.declared.ops.Range.{Range}
use Rattle.markdown_values.specs.values.Events.{text}
use Rattle.markdown_values.specs.declared.values.events.Event.{Event}
use Rattle.markdown_events.specs.InlineEvents.{RangedEvent, seen_event}
use Rattle.markdown_events.specs.Targets.{Targets}
use Rattle.markdown_events.specs.page.Given.{Gives, GivesWith, IsDone, PageLeft, events_left}
use Rattle.markdown_events.specs.page.Iterated.{left_unless}

-- An event, and what follows it: a text and the text that follows it are one, from where the first begins to where the second ends.
abbrev pub joined : RangedEvent → List RangedEvent → List RangedEvent
joined (text words, range) ((text more, next) ∷ later) = (text (words ++ more), record { start = range.start; end = next.end }) ∷ later
joined event later = event ∷ later

-- events with texts that follow each other as one text
abbrev pub merged : List RangedEvent → List RangedEvent
merged [] = []
merged (event ∷ later) = joined event (merged later)

-- ---- what holds of merged events, without the procedure

-- no text follows another
abbrev pub AreParted : List RangedEvent → Type 0
AreParted [] = ⊤
AreParted ((text words, range) ∷ (text more, next) ∷ later) = ⊥
AreParted (event ∷ later) = AreParted later

-- a byte of a text, or an event that is no text
pub data Item : Type 0 where
  byte : ℕ → Item
  other : RangedEvent → Item

-- the bytes of all texts, and the other events, in their order
abbrev pub items : List RangedEvent → List Item
items [] = []
items ((text words, range) ∷ later) = map byte words ++ items later
items (event ∷ later) = other event ∷ items later

-- ---- while they are given one after another

-- the words of a text, and where its source stands
abbrev pub RangedText : Type 0
RangedText = List ℕ × Range ℕ

abbrev pub text_event : RangedText → RangedEvent
text_event joining = (text joining.0, joining.1)

-- How far merged events are given: the events of the page that are not read, the text that is joined so far, and the event after it, if
-- that is read.
pub record MergeLeft : Type 0 where
  pub left : PageLeft
  pub joining : Option RangedText
  pub after : Option RangedEvent

-- the events that are read and not given
abbrev pub read_ahead : MergeLeft → List RangedEvent
read_ahead m = map text_event (option_to_list m.joining) ++ option_to_list m.after

-- from here these events are given
pub record GivesMerged (m : MergeLeft) (events : List RangedEvent) : Type 0 where
  pub rest : List RangedEvent
  pub are_later : Gives m.left rest
  pub given : events ≡ merged (read_ahead m ++ rest)

-- the same where labels that the page does not define lead as these say
pub record GivesMergedWith (more : Targets) (m : MergeLeft) (events : List RangedEvent) : Type 0 where
  pub rest : List RangedEvent
  pub are_later : GivesWith more m.left rest
  pub given : events ≡ merged (read_ahead m ++ rest)

-- this holds of whatever merged events are given from here
abbrev pub GivesOnlyMerged : (List RangedEvent → Type 0) → MergeLeft → Type 0
GivesOnlyMerged Holds m = (events : List RangedEvent) → GivesMerged m events → Holds events

-- also where labels that the page does not define lead as these say
abbrev pub GivesOnlyMergedWith : Targets → (List RangedEvent → Type 0) → MergeLeft → Type 0
GivesOnlyMergedWith more Holds m = (events : List RangedEvent) → GivesMergedWith more m events → Holds events

-- a number that the events lower that are not joined so far
abbrev pub unread : PageLeft → Option RangedEvent → ℕ
unread left after = events_left left + length (option_to_list after)

-- a number that each event lowers
abbrev pub merged_left : MergeLeft → ℕ
merged_left m = unread m.left m.after + length (option_to_list m.joining)

-- no event is left
pub record IsMergeDone (m : MergeLeft) : Type 0 where
  pub is_done : IsDone m.left
  pub none_joining : m.joining ≡ None
  pub none_after : m.after ≡ None

-- an event is a text
abbrev pub is_text : RangedEvent → Bool
is_text (text words, range) = true
is_text event = false

-- the event that is read is a text
abbrev pub reads_text : Option RangedEvent → Bool
reads_text None = false
reads_text (Some event) = is_text event

-- the text that is joined so far and one that follows it
abbrev pub with_text : Option RangedText → RangedText → RangedText
with_text None more = more
with_text (Some joining) more = (joining.0 ++ more.0, record { start = joining.1.start; end = more.1.end })

-- the first of the events that are read is given
pub record Takes (old : MergeLeft) (event : RangedEvent) (new : MergeLeft) : Type 0 where
  pub same_left : new.left ≡ old.left
  pub is_first : read_ahead old ≡ event ∷ read_ahead new

-- ---- as items of an iterator

-- how far merged events are given, and whether no item comes any more: after an error, and after None
pub record MergeIterated : Type 0 where
  pub left : MergeLeft
  pub is_stopped : Bool

-- after an item more may come, and the link reference definitions are the same
pub record MergeGoesOn (old new : MergeIterated) : Type 0 where
  pub is_not_stopped : new.is_stopped ≡ false
  pub same_definitions : new.left.left.known ≡ old.left.left.known

-- no item comes any more, and the link reference definitions are the same
pub record MergeStops (old new : MergeIterated) : Type 0 where
  pub is_stopped : new.is_stopped ≡ true
  pub same_definitions : new.left.left.known ≡ old.left.left.known

-- The next item: an event with its range, which goes before those that are given from there; or an error or None, after which no item
-- comes. None is given where no event is left, or where none came any more.
abbrev pub GivesNextMerged : MergeIterated → Option (Result (Event × Range ℕ) AllocError) → MergeIterated → Type 0
GivesNextMerged old None new = (IsTrue old.is_stopped ⊎ GivesMerged old.left []) × MergeStops old new
GivesNextMerged old (Some (Ok event)) new =
    MergeGoesOn old new × ((events : List RangedEvent) → GivesMerged new.left events → GivesMerged old.left (seen_event event ∷ events))
GivesNextMerged old (Some (Err refused)) new = MergeStops old new

-- the same without the range
abbrev pub GivesNextMergedEvent : MergeIterated → Option (Result Event AllocError) → MergeIterated → Type 0
GivesNextMergedEvent old None new = GivesNextMerged old None new
GivesNextMergedEvent old (Some (Ok event)) new = (range : Range ℕ) × GivesNextMerged old (Some (Ok (event, range))) new
GivesNextMergedEvent old (Some (Err refused)) new = GivesNextMerged old (Some (Err refused)) new

abbrev pub merged_items_left : MergeIterated → ℕ
merged_items_left e = left_unless e.is_stopped (merged_left e.left)
