-- The tables of a page and their rows, by its events. (GitHub Flavored Markdown 0.29, section 4.10, tables)
use Rattle.std.specs.Prelude.{ℕ, true, ◌≡◌, List, [], ◌∷◌}
use Rattle.std.specs.List.{flat_map}
use Rattle.std.specs.declared.ops.Range.{Range}
use Rattle.markdown_values.specs.declared.values.Alignment.{Alignment}
use Rattle.markdown_values.specs.declared.values.tags.TagEnd.TheVariants as End
use Rattle.markdown_values.specs.values.Events.{start, end}
use Rattle.markdown_values.specs.values.Tags.{table, table_head, table_row}
use Rattle.markdown_values.specs.declared.values.extensions.Extensions.{Extensions}
use Rattle.markdown_values.specs.values.Extensions.{commonmark}
use Rattle.markdown_events.specs.InlineEvents.{RangedEvent}
use Rattle.markdown_events.specs.page.PageEvents.{ArePageEvents}
use Rattle.page_tables.specs.declared.marks.Mark.{Mark}
use Rattle.page_tables.specs.declared.marks.Mark.TheVariants as Marks

-- a table begins, whose columns are aligned so; its head and each row stand in a range of the page; the table ends
pub data MarkView : Type 0 where
  begins : List Alignment → MarkView
  head : Range ℕ → MarkView
  row : Range ℕ → MarkView
  ends : MarkView

abbrev pub mark_view : Mark → MarkView
mark_view (Marks.Table alignments) = begins alignments.items
mark_view (Marks.Head range) = head range
mark_view (Marks.Row range) = row range
mark_view Marks.End = ends

-- what an event says of tables
abbrev pub marks_of : RangedEvent → List MarkView
marks_of (start (table alignments), range) = begins alignments ∷ []
marks_of (start table_head, range) = head range ∷ []
marks_of (start table_row, range) = row range ∷ []
marks_of (end End.Table, range) = ends ∷ []
marks_of event = []

-- where the head of a table begins, which has what comes next of these
abbrev pub head_start : List MarkView → List ℕ
head_start (head range ∷ later) = range.start ∷ []
head_start marks = []

-- CommonMark with tables
abbrev pub with_tables : Extensions
with_tables = record commonmark { tables = true }

-- these are the tables of the page
pub record AreMarksOf (page : List ℕ) (marks : List MarkView) : Type 0 where
  pub events : List RangedEvent
  pub are_events : ArePageEvents page with_tables events
  pub are_marks : marks ≡ flat_map marks_of events
