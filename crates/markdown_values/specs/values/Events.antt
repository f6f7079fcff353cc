-- Events by what they say. Each text is seen by what a word such as `cow_text` tells of it.
use Rattle.std.specs.Prelude.{Bool}
use Rattle.markdown_values.specs.values.Tags.{TagView, tag_view}
use Rattle.markdown_values.specs.declared.strings.CowStr.{CowStr}
use Rattle.markdown_values.specs.declared.values.tags.TagEnd.{TagEnd}
use Rattle.markdown_values.specs.declared.values.events.Event.{Event}
use Rattle.markdown_values.specs.declared.values.events.Event.TheVariants.{Start, End, Text, Code, InlineMath, DisplayMath, Html, InlineHtml}
use Rattle.markdown_values.specs.declared.values.events.Event.TheVariants.{FootnoteReference, SoftBreak, HardBreak, Rule, TaskListMarker}

-- what an event says, where `A` is what is seen of a text
pub data EventView (A : Type 0) : Type 0 where
  start : TagView A → EventView A
  end : TagEnd → EventView A
  text : A → EventView A
  code : A → EventView A
  inline_math : A → EventView A
  display_math : A → EventView A
  html : A → EventView A
  inline_html : A → EventView A
  footnote_reference : A → EventView A
  soft_break : EventView A
  hard_break : EventView A
  rule : EventView A
  task_list_marker : Bool → EventView A

-- what an event says
abbrev pub event_view : {A : Type 0} → (CowStr → A) → Event → EventView A
event_view see (Start tag) = start (tag_view see tag)
event_view see (End tag) = end tag
event_view see (Text words) = text (see words)
event_view see (Code words) = code (see words)
event_view see (InlineMath words) = inline_math (see words)
event_view see (DisplayMath words) = display_math (see words)
event_view see (Html words) = html (see words)
event_view see (InlineHtml words) = inline_html (see words)
event_view see (FootnoteReference words) = footnote_reference (see words)
event_view see SoftBreak = soft_break
event_view see HardBreak = hard_break
event_view see Rule = rule
event_view see (TaskListMarker checked) = task_list_marker checked
