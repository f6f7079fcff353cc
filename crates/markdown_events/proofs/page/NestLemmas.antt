-- Events that balance, and stand where they may, after which others do.
use Rattle.std.proofs.Common.{ℕ, true, false, not, List, [], ◌∷◌, ◌++◌, ◌≡◌, map, refl, sym, ap, subst, append-nil, append_assoc}
use Rattle.std.specs.Prelude.{IsTrue}
use Rattle.std.specs.List.{list_all}
use Rattle.markdown_values.specs.values.Events.{start, end}
use Rattle.markdown_values.specs.values.Tags.{table, table_head, table_row, table_cell}
use Rattle.markdown_events.specs.EventLaws.{AreBalanced, AreBalancedIn, Started}
use Rattle.markdown_events.specs.InlineEvents.{AreInlineEvents, EventSetting, RangedEvent, ranged}
use Rattle.markdown_events.specs.Nesting.{AreNested, AreNestedIn, MayStart, Tag, is_in_table, without_ranges}
use Rattle.markdown_events.specs.TagEnds.{tag_end}
use Rattle.markdown_events.specs.page.Places.{element, page_range, placed}
use Rattle.markdown_events.proofs.inline_events.Laws.{events_balance}
use Rattle.markdown_events.proofs.inline_events.NoTables.{BeginNoTable, IsOther, inlines_begin_none}

abbrev pub tags_of : List Started → List Tag
tags_of elements = map (λ one. one.0) elements

-- Starts and ends balance, each pair with one range, and each start stands where it may.
abbrev pub StandIn : List Started → List RangedEvent → Type 0
StandIn elements [] = elements ≡ []
StandIn elements ((start tag, range) ∷ later) = MayStart tag (tags_of elements) × StandIn ((tag, range) ∷ elements) later
StandIn elements ((end closer, range) ∷ later) =
    (tag : Tag) × (outer : List Started) × (elements ≡ (tag, range) ∷ outer) × (closer ≡ tag_end tag) × StandIn outer later
StandIn elements ((event, range) ∷ later) = StandIn elements later

pub stand_balance : (elements : List Started) (events : List RangedEvent) → StandIn elements events → AreBalancedIn elements events
stand_balance elements [] none = none
stand_balance elements ((start tag, range) ∷ later) (may, stand) = stand_balance ((tag, range) ∷ elements) later stand
stand_balance elements ((end closer, range) ∷ later) (tag, outer, are, closes, stand) = (tag, outer, are, closes, stand_balance outer later stand)
stand_balance elements ((event, range) ∷ later) stand = stand_balance elements later stand

pub stand_nested : (elements : List Started) (events : List RangedEvent) → StandIn elements events
    → AreNestedIn (tags_of elements) (without_ranges events)
stand_nested elements [] none = ap tags_of none
stand_nested elements ((start tag, range) ∷ later) (may, stand) = (may, stand_nested ((tag, range) ∷ elements) later stand)
stand_nested elements ((end closer, range) ∷ later) (tag, outer, are, closes, stand) =
    (tag, tags_of outer, ap tags_of are, closes, stand_nested outer later stand)
stand_nested elements ((event, range) ∷ later) stand = stand_nested elements later stand

-- ---- outside of tables

abbrev pub AreOutside : List Started → Type 0
AreOutside elements = IsTrue (list_all (λ tag. not (is_in_table tag)) (tags_of elements))

pub more_outside : (one : Started) (outer : List Started) → IsOther one.0 → AreOutside outer → AreOutside (one ∷ outer)
more_outside one outer other outside = rw other outside

-- such a tag may start anywhere
pub may_start : (tag : Tag) (outer : List Tag) → IsOther tag → MayStart tag outer
may_start (table columns) outer other = absurd (let lost : false ≡ true = other in cc)
may_start table_head outer other = absurd (let lost : false ≡ true = other in cc)
may_start table_row outer other = absurd (let lost : false ≡ true = other in cc)
may_start table_cell outer other = absurd (let lost : false ≡ true = other in cc)
may_start tag outer other = tt

-- Where no table is open, what stands after these events does so before them.
abbrev pub Stand : List RangedEvent → Type 0
Stand events = (elements : List Started) (rest : List RangedEvent) → AreOutside elements → StandIn elements rest → StandIn elements (events ++ rest)

pub stand_as : (events same : List RangedEvent) → events ≡ same → Stand same → Stand events
stand_as events same is stand elements rest outside gives =
    subst (λ (es : List RangedEvent). StandIn elements (es ++ rest)) (sym is) (stand elements rest outside gives)

pub alone_balance : (events : List RangedEvent) → Stand events → AreBalanced events
alone_balance events stand = stand_balance [] events (subst (StandIn []) (append-nil events) (stand [] [] refl refl))

pub alone_nested : (events : List RangedEvent) → Stand events → AreNested (without_ranges events)
alone_nested events stand = stand_nested [] events (subst (StandIn []) (append-nil events) (stand [] [] refl refl))

-- ---- elements

-- an element, which holds events that stand in it
pub element_stands_in : (tag : Tag) (from to : ℕ) (inner : List RangedEvent) (elements : List Started) (rest : List RangedEvent)
    → MayStart tag (tags_of elements)
    → ((later : List RangedEvent) → StandIn ((tag, record { start = from; end = to }) ∷ elements) later
    → StandIn ((tag, record { start = from; end = to }) ∷ elements) (inner ++ later))
    → StandIn elements rest → StandIn elements (element tag from to inner ++ rest)
element_stands_in tag from to inner elements rest may held gives =
    let ending : List RangedEvent = ranged (end (tag_end tag)) from to ∷ [] in (
      may,
      subst (StandIn ((tag, record { start = from; end = to }) ∷ elements)) (sym (append_assoc inner ending rest))
          (held (ending ++ rest) (tag, elements, refl, refl, gives)),
    )

pub element_stands : (tag : Tag) (from to : ℕ) (inner : List RangedEvent) → IsOther tag → Stand inner → Stand (element tag from to inner)
element_stands tag from to inner other stand elements rest outside gives =
    let one : Started = (tag, record { start = from; end = to }) in
    element_stands_in tag from to inner elements rest (may_start tag (tags_of elements) other)
    (λ later. stand (one ∷ elements) later (more_outside one elements other outside)) gives

-- ---- inlines

-- events that balance, among which no table begins, stand anywhere
plain_stand : (elements outer : List Started) (events rest : List RangedEvent) → AreBalancedIn elements events → BeginNoTable events → StandIn outer rest
    → StandIn (elements ++ outer) (events ++ rest)
plain_stand elements outer [] rest none plain gives = subst (λ (e : List Started). StandIn (e ++ outer) rest) (sym none) gives
plain_stand elements outer ((start tag, range) ∷ later) rest balanced (other, plain) gives =
    (may_start tag (tags_of (elements ++ outer)) other, plain_stand ((tag, range) ∷ elements) outer later rest balanced plain gives)
plain_stand elements outer ((end closer, range) ∷ later) rest (tag, inner, are, closes, balanced) plain gives =
    (tag, inner ++ outer, ap (λ e. e ++ outer) are, closes, plain_stand inner outer later rest balanced plain gives)
plain_stand elements outer ((event, range) ∷ later) rest balanced plain gives = plain_stand elements outer later rest balanced plain gives

module _ (before : ℕ) (offsets : List ℕ) where
  started : Started → Started
  started element = (element.0, page_range before offsets element.1)

  placed_balanced : (elements : List Started) (events : List RangedEvent) → AreBalancedIn elements events
      → AreBalancedIn (map started elements) (map (placed before offsets) events)
  unfolding started
  placed_balanced elements [] none = ap (map started) none
  placed_balanced elements ((start tag, range) ∷ later) balanced = placed_balanced ((tag, range) ∷ elements) later balanced
  placed_balanced elements ((end closer, range) ∷ later) (tag, outer, are, closes, balanced) =
      (tag, map started outer, ap (map started) are, closes, placed_balanced outer later balanced)
  placed_balanced elements ((event, range) ∷ later) balanced = placed_balanced elements later balanced

  placed_plain : (events : List RangedEvent) → BeginNoTable events → BeginNoTable (map (placed before offsets) events)
  placed_plain [] plain = tt
  placed_plain ((start tag, range) ∷ later) (other, plain) = (other, placed_plain later plain)
  placed_plain ((end closer, range) ∷ later) plain = placed_plain later plain
  placed_plain ((event, range) ∷ later) plain = placed_plain later plain

  -- the inlines of a text stand anywhere on the page
  pub inlines_stand : (source : List ℕ) (setting : EventSetting) (inlines : List RangedEvent) → AreInlineEvents source setting inlines
      → (elements : List Started) (rest : List RangedEvent) → StandIn elements rest → StandIn elements (map (placed before offsets) inlines ++ rest)
  inlines_stand source setting inlines are elements rest gives =
      plain_stand [] elements (map (placed before offsets) inlines) rest (placed_balanced [] inlines (events_balance source setting inlines are))
      (placed_plain inlines (inlines_begin_none source setting inlines are)) gives
