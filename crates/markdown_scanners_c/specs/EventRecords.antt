-- Events of a page as C has them: numbers, a range, and up to three texts, which stand one after another in the texts of all events.
use Rattle.std.specs.Prelude.{ℕ, Bool, true, false, List, [], ◌∷◌, ◌++◌, ◌+◌, Option, Some, None, length, map}
use Rattle.std.specs.List.{flat_map}
use Rattle.markdown_values.specs.declared.values.BlockQuoteKind.{BlockQuoteKind}
use Rattle.markdown_values.specs.declared.values.LinkType.{LinkType}
use Rattle.markdown_values.specs.declared.values.LinkType.TheVariants as Kind
use Rattle.markdown_values.specs.declared.values.MetadataBlockKind.{MetadataBlockKind}
use Rattle.markdown_values.specs.declared.values.MetadataBlockKind.TheVariants.{YamlStyle, PlusesStyle}
use Rattle.markdown_values.specs.declared.values.tags.TagEnd.{TagEnd}
use Rattle.markdown_values.specs.declared.values.tags.TagEnd.TheVariants as End
use Rattle.markdown_values.specs.values.Alerts.{alert_number}
use Rattle.markdown_values.specs.values.Alignments.{alignment_number}
use Rattle.markdown_values.specs.values.Events.{EventView, start, end, text, code, inline_math, display_math, html, inline_html}
use Rattle.markdown_values.specs.values.Events.{footnote_reference, soft_break, hard_break, rule, task_list_marker}
use Rattle.markdown_values.specs.values.Headings.{heading_number}
use Rattle.markdown_values.specs.values.Tags.{TagView, code_block, list, footnote_definition, table, link, image}
use Rattle.markdown_events.specs.InlineEvents.{RangedEvent}
use Rattle.markdown_events.specs.TagEnds.{tag_end}
use Rattle.markdown_scanners_c.specs.declared.event_records.PageEvent.{PageEvent}

-- ---- numbers

-- the numbers of `enum mds_event_kind`
abbrev pub kind_number : EventView (List ℕ) → ℕ
kind_number (start tag) = 0
kind_number (end tag) = 1
kind_number (text words) = 2
kind_number (code words) = 3
kind_number (inline_math words) = 4
kind_number (display_math words) = 5
kind_number (html words) = 6
kind_number (inline_html words) = 7
kind_number (footnote_reference label) = 8
kind_number soft_break = 9
kind_number hard_break = 10
kind_number rule = 11
kind_number (task_list_marker is_checked) = 12

-- the numbers of `enum mds_element`
abbrev pub element_number : TagEnd → ℕ
element_number End.Paragraph = 1
element_number (End.Heading level) = 2
element_number (End.BlockQuote kind) = 3
element_number End.CodeBlock = 4
element_number End.HtmlBlock = 5
element_number (End.List is_ordered) = 6
element_number End.Item = 7
element_number End.FootnoteDefinition = 8
element_number End.DefinitionList = 9
element_number End.DefinitionListTitle = 10
element_number End.DefinitionListDefinition = 11
element_number End.Table = 12
element_number End.TableHead = 13
element_number End.TableRow = 14
element_number End.TableCell = 15
element_number End.Emphasis = 16
element_number End.Strong = 17
element_number End.Strikethrough = 18
element_number End.Superscript = 19
element_number End.Subscript = 20
element_number End.Link = 21
element_number End.Image = 22
element_number (End.MetadataBlock kind) = 23

-- the numbers of `enum mds_link_kind`
abbrev pub link_number : LinkType → ℕ
link_number Kind.Inline = 1
link_number Kind.Reference = 2
link_number Kind.ReferenceUnknown = 3
link_number Kind.Collapsed = 4
link_number Kind.CollapsedUnknown = 5
link_number Kind.Shortcut = 6
link_number Kind.ShortcutUnknown = 7
link_number Kind.Autolink = 8
link_number Kind.Email = 9
link_number (Kind.WikiLink false) = 10
link_number (Kind.WikiLink true) = 11

abbrev pub alert_detail : Option BlockQuoteKind → ℕ
alert_detail None = 0
alert_detail (Some kind) = alert_number kind

abbrev pub metadata_number : MetadataBlockKind → ℕ
metadata_number YamlStyle = 1
metadata_number PlusesStyle = 2

-- 1 of what is so, else 0
abbrev pub bit : Bool → ℕ
bit true = 1
bit false = 0

-- the element that begins or ends, 0 of another event
abbrev pub event_element : EventView (List ℕ) → ℕ
event_element (start tag) = element_number (tag_end tag)
event_element (end tag) = element_number tag
event_element event = 0

-- what the start and the end of an element say of it: the level of a heading, the kind of an alert or of metadata, whether a list is ordered
abbrev pub end_detail : TagEnd → ℕ
end_detail (End.Heading level) = heading_number level
end_detail (End.BlockQuote kind) = alert_detail kind
end_detail (End.List is_ordered) = bit is_ordered
end_detail (End.MetadataBlock kind) = metadata_number kind
end_detail tag = 0

-- what the start alone says: whether code is fenced, and how a link or an image is written
abbrev pub start_detail : TagView (List ℕ) → ℕ
start_detail (code_block (Some info)) = 1
start_detail (link kind destination title label) = link_number kind
start_detail (image kind destination title label) = link_number kind
start_detail tag = end_detail (tag_end tag)

abbrev pub event_detail : EventView (List ℕ) → ℕ
event_detail (start tag) = start_detail tag
event_detail (end tag) = end_detail tag
event_detail (task_list_marker is_checked) = bit is_checked
event_detail event = 0

-- the number of the first item of an ordered list that begins
abbrev pub event_number : EventView (List ℕ) → ℕ
event_number (start (list (Some number))) = number
event_number event = 0

-- ---- texts

-- the text that a start has: an info string, the label of a footnote, a destination, or the alignment of each column by its number
abbrev pub start_text : TagView (List ℕ) → List ℕ
start_text (code_block (Some info)) = info
start_text (footnote_definition label) = label
start_text (table alignments) = map alignment_number alignments
start_text (link kind destination title label) = destination
start_text (image kind destination title label) = destination
start_text tag = []

-- that, or the text that another event has
abbrev pub event_text : EventView (List ℕ) → List ℕ
event_text (start tag) = start_text tag
event_text (text words) = words
event_text (code words) = words
event_text (inline_math words) = words
event_text (display_math words) = words
event_text (html words) = words
event_text (inline_html words) = words
event_text (footnote_reference label) = label
event_text event = []

-- the title of a link or an image that begins
abbrev pub event_title : EventView (List ℕ) → List ℕ
event_title (start (link kind destination title label)) = title
event_title (start (image kind destination title label)) = title
event_title event = []

-- its label, where it is a reference
abbrev pub event_label : EventView (List ℕ) → List ℕ
event_label (start (link kind destination title label)) = label
event_label (start (image kind destination title label)) = label
event_label event = []

-- the three, joined
abbrev pub event_words : EventView (List ℕ) → List ℕ
event_words event = event_text event ++ event_title event ++ event_label event

-- the texts of events, joined
abbrev pub texts_of : List RangedEvent → List ℕ
texts_of events = flat_map (λ (event : RangedEvent). event_words event.0) events

-- ---- records

-- an event whose texts stand after so many bytes of others
abbrev pub event_record : ℕ → RangedEvent → PageEvent
event_record offset event = record {
  kind = kind_number event.0;
  element = event_element event.0;
  detail = event_detail event.0;
  number = event_number event.0;
  start = event.1.start;
  end = event.1.end;
  text_start = offset;
  text_length = length (event_text event.0);
  title_start = offset + length (event_text event.0);
  title_length = length (event_title event.0);
  label_start = offset + length (event_text event.0) + length (event_title event.0);
  label_length = length (event_label event.0);
}

-- events, of which the first has its texts there, and each later one after those of the one before
abbrev pub records_from : ℕ → List RangedEvent → List PageEvent
records_from offset [] = []
records_from offset (event ∷ later) = event_record offset event ∷ records_from (offset + length (event_words event.0)) later
