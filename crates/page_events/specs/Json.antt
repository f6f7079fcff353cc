-- The events of a page as JSON: an object for each, on a line of its own. (RFC 8259)
use Rattle.std.specs.Prelude.{ℕ, List, [], ◌∷◌, ◌++◌, codes, Option, Some, None}
use Rattle.std.specs.Fmt.{decimal}
use Rattle.std.specs.List.{flat_map}
use Rattle.markdown_values.specs.declared.values.Alignment.{Alignment}
use Rattle.markdown_values.specs.declared.values.LinkType.{LinkType}
use Rattle.markdown_values.specs.declared.values.tags.TagEnd.{TagEnd}
use Rattle.markdown_values.specs.declared.values.tags.TagEnd.TheVariants as End
use Rattle.markdown_values.specs.values.Events.{EventView, start, end, text, code, inline_math, display_math, html, inline_html}
use Rattle.markdown_values.specs.values.Events.{footnote_reference, soft_break, hard_break, rule, task_list_marker}
use Rattle.markdown_values.specs.values.Headings.{heading_number}
use Rattle.markdown_values.specs.values.Tags.{TagView, heading, code_block, list, footnote_definition, table, link, image}
use Rattle.markdown_events.specs.InlineEvents.{RangedEvent}
use Rattle.markdown_events.specs.TagEnds.{tag_end}
use Rattle.page_blocks.specs.Info.{json_text}
use Rattle.page_blocks.specs.Json.{truth}
use Rattle.page_events.specs.Lines.{alert_name, alignment_name, element_name, link_word, metadata_name}

-- ---- values

-- a word as a string: one of those below, which have no quotation mark, backslash or control character
abbrev pub word_json : List ℕ → List ℕ
word_json word = codes "\"" ++ word ++ codes "\""

-- a text as a string, in which these are written by their numbers (section 7)
abbrev pub text_json : List ℕ → List ℕ
text_json words = word_json (json_text words)

-- a member of an object, after another one (section 4)
abbrev pub member : List ℕ → List ℕ → List ℕ
member name value = codes ",\"" ++ name ++ codes "\":" ++ value

-- the same of a text, and of one that may be missing
abbrev pub text_member : List ℕ → List ℕ → List ℕ
text_member name words = member name (text_json words)

abbrev pub text_member_if : List ℕ → Option (List ℕ) → List ℕ
text_member_if name None = []
text_member_if name (Some words) = text_member name words

-- the same of an array of items (section 5), unless there is none
abbrev pub array_member : {A : Type 0} → List ℕ → (A → List ℕ) → List A → List ℕ
array_member name item_json [] = []
array_member name item_json (first ∷ later) =
    member name (codes "[" ++ item_json first ++ flat_map (λ item. codes "," ++ item_json item) later ++ codes "]")

-- ---- elements

-- what the start and the end of an element say of it
abbrev pub kind_members : TagEnd → List ℕ
kind_members (End.Heading level) = member (codes "level") (decimal (heading_number level))
kind_members (End.BlockQuote (Some kind)) = member (codes "alert") (word_json (alert_name kind))
kind_members (End.MetadataBlock kind) = member (codes "style") (word_json (metadata_name kind))
kind_members tag = []

abbrev pub element_members : TagEnd → List ℕ
element_members tag = member (codes "element") (word_json (element_name tag)) ++ kind_members tag

-- an attribute of a heading, with its value if it has one
abbrev pub value_json : Option (List ℕ) → List ℕ
value_json None = codes "null"
value_json (Some value) = text_json value

abbrev pub attribute_json : List ℕ × Option (List ℕ) → List ℕ
attribute_json attribute = codes "[" ++ text_json attribute.0 ++ codes "," ++ value_json attribute.1 ++ codes "]"

-- the number of the first item of a list, if its items have numbers
abbrev pub number_member : Option ℕ → List ℕ
number_member None = []
number_member (Some number) = member (codes "first") (decimal number)

-- how a column is aligned
abbrev pub alignment_json : Alignment → List ℕ
alignment_json alignment = word_json (alignment_name alignment)

-- the label of a reference, unless it is empty
abbrev pub label_member : List ℕ → List ℕ
label_member [] = []
label_member (b ∷ label) = text_member (codes "label") (b ∷ label)

-- how a link or an image is written, where it leads, its title, and its label
abbrev pub link_members : LinkType → List ℕ → List ℕ → List ℕ → List ℕ
link_members kind destination title label =
    member (codes "type") (word_json (link_word kind)) ++ text_member (codes "destination") destination ++ text_member (codes "title") title
    ++ label_member label

-- what its start says besides
abbrev pub start_members : TagView (List ℕ) → List ℕ
start_members (heading level id classes attributes) =
    text_member_if (codes "id") id ++ array_member (codes "classes") text_json classes
    ++ array_member (codes "attributes") attribute_json attributes
start_members (code_block info) = text_member_if (codes "info") info
start_members (list number) = number_member number
start_members (footnote_definition label) = text_member (codes "label") label
start_members (table alignments) = array_member (codes "columns") alignment_json alignments
start_members (link kind destination title label) = link_members kind destination title label
start_members (image kind destination title label) = link_members kind destination title label
start_members tag = []

-- ---- events

abbrev pub event_kind : EventView (List ℕ) → List ℕ
event_kind (start tag) = codes "start"
event_kind (end tag) = codes "end"
event_kind (text words) = codes "text"
event_kind (code words) = codes "code"
event_kind (inline_math words) = codes "inline math"
event_kind (display_math words) = codes "display math"
event_kind (html words) = codes "html"
event_kind (inline_html words) = codes "inline html"
event_kind (footnote_reference label) = codes "footnote reference"
event_kind soft_break = codes "soft break"
event_kind hard_break = codes "hard break"
event_kind rule = codes "rule"
event_kind (task_list_marker is_checked) = codes "task"

abbrev pub event_members : EventView (List ℕ) → List ℕ
event_members (start tag) = element_members (tag_end tag) ++ start_members tag
event_members (end tag) = element_members tag
event_members (text words) = text_member (codes "text") words
event_members (code words) = text_member (codes "text") words
event_members (inline_math words) = text_member (codes "text") words
event_members (display_math words) = text_member (codes "text") words
event_members (html words) = text_member (codes "text") words
event_members (inline_html words) = text_member (codes "text") words
event_members (footnote_reference label) = text_member (codes "label") label
event_members (task_list_marker is_checked) = member (codes "checked") (truth is_checked)
event_members event = []

-- The object of an event, on a line of its own: what it is, how many bytes of the page stand before its source, how many before what follows that, and what it
-- says besides.
abbrev pub event_json : RangedEvent → List ℕ
event_json event =
    codes "{\"kind\":" ++ word_json (event_kind event.0) ++ member (codes "start") (decimal event.1.start)
    ++ member (codes "end") (decimal event.1.end) ++ event_members event.0 ++ codes "}\n"
