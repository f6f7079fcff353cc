-- The rows of the tables of a page stand in it one after the other.
use Rattle.std.proofs.Common.{ℕ, suc, Bool, true, false, not, List, [], ◌∷◌, ◌++◌, ◌≤◌, ◌≡◌, ◌⊎◌, ◌&&◌}
use Rattle.std.proofs.Common.{◌∙◌, length, drop, inl, inr, refl, sym, ap, subst, arith}
use Rattle.std.specs.Prelude.{⊤, IsTrue}
use Rattle.std.specs.List.{flat_map, list_all}
use Rattle.std.specs.declared.ops.Range.{Range}
use Rattle.markdown_values.specs.declared.values.Alignment.{Alignment}
use Rattle.markdown_values.specs.declared.values.tags.TagEnd.{TagEnd}
use Rattle.markdown_values.specs.declared.values.tags.TagEnd.TheVariants as End
use Rattle.markdown_values.specs.values.Events.{start, end}
use Rattle.markdown_values.specs.values.Tags.{table, table_head, table_row}
use Rattle.markdown_events.specs.EventLaws.{LiesIn, RiseIn}
use Rattle.markdown_events.specs.InlineEvents.{RangedEvent}
use Rattle.markdown_events.specs.Nesting.{AreNestedIn, MayStart, Tag, is_in_table, is_row, without_ranges}
use Rattle.markdown_events.proofs.ForCallers.{page_events_nest, page_events_within}
use Rattle.page_tables.specs.Layout.{next_start}
use Rattle.page_tables.specs.Marks.{AreMarksOf, MarkView, begins, head, row, ends, marks_of, with_tables}

-- Rows stand one after the other, from one offset on up to another.
abbrev pub MarksStand : ℕ → ℕ → List MarkView → Type 0
MarksStand from to [] = from ≤ to
MarksStand from to (head range ∷ later) = (from ≤ range.start) × (range.start ≤ range.end) × MarksStand range.end to later
MarksStand from to (row range ∷ later) = (from ≤ range.start) × (range.start ≤ range.end) × MarksStand range.end to later
MarksStand from to (mark ∷ later) = MarksStand from to later

-- the next of them stands in the page
pub next_within : (page : List ℕ) (from : ℕ) (marks : List MarkView) → MarksStand from (length page) marks
    → (from ≤ next_start page marks) × (next_start page marks ≤ length page)
next_within page from [] stand = (stand, omega arith)
next_within page from (head range ∷ later) stand =
    let there = next_within page range.end later stand.2 in (stand.0, omega (arith, stand.1, there.0, there.1))
next_within page from (row range ∷ later) stand =
    let there = next_within page range.end later stand.2 in (stand.0, omega (arith, stand.1, there.0, there.1))
next_within page from (begins alignments ∷ later) stand = next_within page from later stand
next_within page from (ends ∷ later) stand = next_within page from later stand

-- they stand after whatever ends before the next of them
pub stand_after : (page : List ℕ) (from at : ℕ) (marks : List MarkView) → MarksStand from (length page) marks → at ≤ next_start page marks
    → MarksStand at (length page) marks
stand_after page from at [] stand low = low
stand_after page from at (head range ∷ later) stand low = (low, stand.1, stand.2)
stand_after page from at (row range ∷ later) stand low = (low, stand.1, stand.2)
stand_after page from at (begins alignments ∷ later) stand low = stand_after page from at later stand low
stand_after page from at (ends ∷ later) stand low = stand_after page from at later stand low

stand_earlier : (from at to : ℕ) (marks : List MarkView) → from ≤ at → MarksStand at to marks → MarksStand from to marks
stand_earlier from at to [] low stand = omega (arith, low, stand)
stand_earlier from at to (head range ∷ later) low stand = (omega (arith, low, stand.0), stand.1, stand.2)
stand_earlier from at to (row range ∷ later) low stand = (omega (arith, low, stand.0), stand.1, stand.2)
stand_earlier from at to (begins alignments ∷ later) low stand = stand_earlier from at to later low stand
stand_earlier from at to (ends ∷ later) low stand = stand_earlier from at to later low stand

-- ---- where a row is open

is_table : Tag → Bool
is_table (table columns) = true
is_table tag = false

abbrev NoRow : List Tag → Type 0
NoRow [] = ⊤
NoRow (tag ∷ outer) = (is_row tag ≡ false) × NoRow outer

-- Among the elements that have started and end there, the innermost first, is one row, which ends at this offset, and in it is no table.
abbrev InRow : List Tag → List ℕ → ℕ → Type 0
InRow [] closings floor = ⊥
InRow (tag ∷ outer) [] floor = ⊥
InRow (tag ∷ outer) (to ∷ closings) floor =
    ((is_row tag ≡ true) × (to ≡ floor) × NoRow outer) ⊎ ((is_table tag ≡ false) × InRow outer closings floor)

-- Rows follow from this offset on: from where the events go on, or the end of the row that is open.
abbrev IsAt : List Tag → List ℕ → ℕ → ℕ → Type 0
IsAt tags closings from floor = (NoRow tags × (floor ≡ from)) ⊎ InRow tags closings floor

abbrev AllBy : ℕ → List ℕ → Type 0
AllBy size [] = ⊤
AllBy size (to ∷ closings) = (to ≤ size) × AllBy size closings

row_is_in : (tag : Tag) → is_row tag ≡ true → not (is_in_table tag) ≡ false
row_is_in table_head is = refl
row_is_in table_row is = refl
row_is_in tag is = absurd (let lost : false ≡ true = is in cc)

second_holds : (a b : Bool) → (a && b) ≡ true → b ≡ true
second_holds true b both = both
second_holds false b both = absurd (cc)

first_holds : (a b : Bool) → (a && b) ≡ true → a ≡ true
first_holds true b both = refl
first_holds false b both = absurd (cc)

-- no table begins where a row is open
no_table : (tags : List Tag) (closings : List ℕ) (floor : ℕ) → InRow tags closings floor → IsTrue (list_all (λ tag. not (is_in_table tag)) tags) → ⊥
no_table [] closings floor held none = absurd held
no_table (tag ∷ outer) [] floor held none = absurd held
no_table (tag ∷ outer) (to ∷ closings) floor (inl (is, at, others)) none =
    let first : not (is_in_table tag) ≡ true = first_holds (not (is_in_table tag)) _ none in
    let lost : false ≡ true = sym (row_is_in tag is) ∙ first in cc
no_table (tag ∷ outer) (to ∷ closings) floor (inr (other, held)) none =
    no_table outer closings floor held (second_holds (not (is_in_table tag)) _ none)

-- nor another row
top_is_row : List Tag → Bool
top_is_row [] = false
top_is_row (tag ∷ outer) = is_row tag

top_is_table : List Tag → Bool
top_is_table [] = false
top_is_table (tag ∷ outer) = is_table tag

no_row : (tags : List Tag) (closings : List ℕ) (floor : ℕ) → InRow tags closings floor → (columns : List Alignment) (rest : List Tag)
    → tags ≡ table columns ∷ rest → ⊥
unfolding top_is_row top_is_table is_table
no_row [] closings floor held columns rest same = absurd held
no_row (tag ∷ outer) [] floor held columns rest same = absurd held
no_row (tag ∷ outer) (to ∷ closings) floor (inl (is, at, others)) columns rest same =
    let lost : true ≡ false = sym is ∙ ap top_is_row same in cc
no_row (tag ∷ outer) (to ∷ closings) floor (inr (other, held)) columns rest same =
    let lost : false ≡ true = sym other ∙ ap top_is_table same in cc

-- ---- events

module _ (size : ℕ) where
  -- the rows among these events stand from there on
  abbrev Stands : List RangedEvent → Type 0
  Stands events = (tags : List Tag) (closings : List ℕ) (from floor : ℕ) → IsAt tags closings from floor → floor ≤ size → AllBy size closings
      → length closings ≡ suc (length tags) → RiseIn closings from events → AreNestedIn tags (without_ranges events)
      → MarksStand floor size (flat_map marks_of events)

  -- an element starts where no row is open
  outside : (tag : Tag) (range : Range ℕ) (later : List RangedEvent) → Stands later → (tags : List Tag) (to : ℕ) (closings : List ℕ) (from : ℕ)
      → NoRow tags → AllBy size (to ∷ closings) → length (to ∷ closings) ≡ suc (length tags) → LiesIn from to range
      → RiseIn (range.end ∷ to ∷ closings) range.start later → AreNestedIn (tag ∷ tags) (without_ranges later)
      → MarksStand from size (marks_of (start tag, range) ++ flat_map marks_of later)
  outside table_head range later rest tags to closings from none all long lies rise nest =
      let fits : range.end ≤ size = omega (arith, all.0, lies.ends) in (
        lies.begins,
        lies.in_order,
        rest (table_head ∷ tags) (range.end ∷ to ∷ closings) range.start range.end (inr (inl (refl, refl, none))) fits
            (fits, all) (ap suc long) rise nest,
      )
  outside table_row range later rest tags to closings from none all long lies rise nest =
      let fits : range.end ≤ size = omega (arith, all.0, lies.ends) in (
        lies.begins,
        lies.in_order,
        rest (table_row ∷ tags) (range.end ∷ to ∷ closings) range.start range.end (inr (inl (refl, refl, none))) fits
            (fits, all) (ap suc long) rise nest,
      )
  outside (table columns) range later rest tags to closings from none all long lies rise nest =
      let fits : range.end ≤ size = omega (arith, all.0, lies.ends) in
      stand_earlier from range.start size (flat_map marks_of later) lies.begins
      (rest (table columns ∷ tags) (range.end ∷ to ∷ closings) range.start range.start (inl ((refl, none), refl)) (omega (arith, fits, lies.in_order))
      (fits, all) (ap suc long) rise nest)
  outside tag range later rest tags to closings from none all long lies rise nest =
      let fits : range.end ≤ size = omega (arith, all.0, lies.ends) in
      stand_earlier from range.start size (flat_map marks_of later) lies.begins
      (rest (tag ∷ tags) (range.end ∷ to ∷ closings) range.start range.start (inl ((refl, none), refl)) (omega (arith, fits, lies.in_order))
      (fits, all) (ap suc long) rise nest)

  -- an element starts in a row
  inside : (tag : Tag) (range : Range ℕ) (later : List RangedEvent) → Stands later → (tags : List Tag) (to : ℕ) (closings : List ℕ) (from floor : ℕ)
      → InRow tags (to ∷ closings) floor → floor ≤ size → AllBy size (to ∷ closings) → length (to ∷ closings) ≡ suc (length tags)
      → LiesIn from to range → RiseIn (range.end ∷ to ∷ closings) range.start later → MayStart tag tags
      → AreNestedIn (tag ∷ tags) (without_ranges later)
      → MarksStand floor size (marks_of (start tag, range) ++ flat_map marks_of later)
  unfolding is_table
  inside (table columns) range later rest tags to closings from floor held within all long lies rise may nest =
      absurd (no_table tags (to ∷ closings) floor held may)
  inside table_head range later rest tags to closings from floor held within all long lies rise (columns, others, same) nest =
      absurd (no_row tags (to ∷ closings) floor held columns others same)
  inside table_row range later rest tags to closings from floor held within all long lies rise (columns, others, same) nest =
      absurd (no_row tags (to ∷ closings) floor held columns others same)
  inside tag range later rest tags to closings from floor held within all long lies rise may nest =
      rest (tag ∷ tags) (range.end ∷ to ∷ closings) range.start floor (inr (inr (refl, held))) within (omega (arith, all.0, lies.ends), all)
      (ap suc long) rise nest

  -- the end of an element says nothing of rows
  ended : (closer : TagEnd) (range : Range ℕ) (floor : ℕ) (marks : List MarkView) → MarksStand floor size marks
      → MarksStand floor size (marks_of (end closer, range) ++ marks)
  ended End.Table range floor marks stand = stand
  ended closer range floor marks stand = stand

  start_stands : (tag : Tag) (range : Range ℕ) (later : List RangedEvent) → Stands later → Stands ((start tag, range) ∷ later)
  start_stands tag range later rest tags [] from floor at within all long rise nest = absurd (omega (arith, long))
  start_stands tag range later rest tags (to ∷ closings) from floor (inl (none, is)) within all long (lies, rise) (may, nest) =
      subst (λ n. MarksStand n size (marks_of (start tag, range) ++ flat_map marks_of later)) (sym is)
      (outside tag range later rest tags to closings from none all long lies rise nest)
  start_stands tag range later rest tags (to ∷ closings) from floor (inr held) within all long (lies, rise) (may, nest) =
      inside tag range later rest tags to closings from floor held within all long lies rise may nest

  end_stands : (closer : TagEnd) (range : Range ℕ) (later : List RangedEvent) → Stands later → Stands ((end closer, range) ∷ later)
  end_stands closer range later rest tags [] from floor at within all long rise nest = absurd (omega (arith, long))
  end_stands closer range later rest [] (to ∷ closings) from floor at within all long rise (tag, outer, same, closes, nest) = absurd (cc)
  end_stands closer range later rest (tag ∷ tags) (to ∷ closings) from floor at within all long (low, is_end, rise) (other, outer, same, closes, nest) =
      let nested : AreNestedIn tags (without_ranges later) = subst (λ (ts : List Tag). AreNestedIn ts (without_ranges later)) (sym (ap (drop 1) same)) nest in
      ended closer range floor (flat_map marks_of later) (by at nested)
    where
      by : IsAt (tag ∷ tags) (to ∷ closings) from floor → AreNestedIn tags (without_ranges later) → MarksStand floor size (flat_map marks_of later)
      by (inl (none, is)) nested =
          stand_earlier floor to size (flat_map marks_of later) (omega (arith, is, low))
          (rest tags closings to to (inl (none.1, refl)) all.0 all.1 (omega (arith, long)) rise nested)
      by (inr (inl (is_one, is, none))) nested =
          rest tags closings to floor (inl (none, sym is)) within all.1 (omega (arith, long)) rise nested
      by (inr (inr (not_table, held))) nested = rest tags closings to floor (inr held) within all.1 (omega (arith, long)) rise nested

  -- an event that neither starts an element nor ends one
  between : (range : Range ℕ) (later : List RangedEvent) → Stands later → (tags : List Tag) (to : ℕ) (closings : List ℕ) (from floor : ℕ)
      → IsAt tags (to ∷ closings) from floor → floor ≤ size → AllBy size (to ∷ closings) → length (to ∷ closings) ≡ suc (length tags)
      → LiesIn from to range → RiseIn (to ∷ closings) range.end later → AreNestedIn tags (without_ranges later)
      → MarksStand floor size (flat_map marks_of later)
  between range later rest tags to closings from floor (inl (none, is)) within all long lies rise nest =
      stand_earlier floor range.end size (flat_map marks_of later) (omega (arith, is, lies.begins, lies.in_order))
      (rest tags (to ∷ closings) range.end range.end (inl (none, refl)) (omega (arith, all.0, lies.ends)) all long rise nest)
  between range later rest tags to closings from floor (inr held) within all long lies rise nest =
      rest tags (to ∷ closings) range.end floor (inr held) within all long rise nest

  rows_stand : (events : List RangedEvent) → Stands events
  rows_stand [] tags closings from floor at within all long rise nest = within
  rows_stand ((start tag, range) ∷ later) tags closings from floor at within all long rise nest =
      start_stands tag range later (rows_stand later) tags closings from floor at within all long rise nest
  rows_stand ((end closer, range) ∷ later) tags closings from floor at within all long rise nest =
      end_stands closer range later (rows_stand later) tags closings from floor at within all long rise nest
  rows_stand ((event, range) ∷ later) tags [] from floor at within all long rise nest = absurd (omega (arith, long))
  rows_stand ((event, range) ∷ later) tags (to ∷ closings) from floor at within all long (lies, rise) nest =
      between range later (rows_stand later) tags to closings from floor at within all long lies rise nest

-- the rows of a page stand in it
pub marks_stand : (page : List ℕ) (marks : List MarkView) → AreMarksOf page marks → MarksStand 0 (length page) marks
marks_stand page marks are =
    let all : AllBy (length page) (length page ∷ []) = (omega arith, tt) in
    subst (MarksStand 0 (length page)) (sym are.are_marks)
    (rows_stand (length page) are.events [] (length page ∷ []) 0 0 (inl (tt, refl)) (omega arith) all refl
    (page_events_within page with_tables are.events are.are_events) (page_events_nest page with_tables are.events are.are_events))
