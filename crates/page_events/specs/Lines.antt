-- The lines that are printed of events.
use Rattle.std.specs.Prelude.{ℕ, Bool, true, false, List, [], ◌∷◌, ◌++◌, codes, Option, Some, None}
use Rattle.std.specs.Fmt.{decimal}
use Rattle.std.specs.List.{flat_map}
use Rattle.markdown_values.specs.declared.values.Alignment.{Alignment}
use Rattle.markdown_values.specs.declared.values.Alignment.TheVariants as Aligned
use Rattle.markdown_values.specs.declared.values.BlockQuoteKind.{BlockQuoteKind}
use Rattle.markdown_values.specs.declared.values.BlockQuoteKind.TheVariants.{Note, Tip, Important, Warning, Caution}
use Rattle.markdown_values.specs.declared.values.LinkType.{LinkType}
use Rattle.markdown_values.specs.declared.values.LinkType.TheVariants as Kind
use Rattle.markdown_values.specs.declared.values.MetadataBlockKind.{MetadataBlockKind}
use Rattle.markdown_values.specs.declared.values.MetadataBlockKind.TheVariants.{YamlStyle, PlusesStyle}
use Rattle.markdown_values.specs.declared.values.tags.TagEnd.{TagEnd}
use Rattle.markdown_values.specs.declared.values.tags.TagEnd.TheVariants as End
use Rattle.markdown_values.specs.values.Events.{EventView, start, end, text, code, inline_math, display_math, html, inline_html}
use Rattle.markdown_values.specs.values.Events.{footnote_reference, soft_break, hard_break, rule, task_list_marker}
use Rattle.markdown_values.specs.values.Headings.{heading_number}
use Rattle.markdown_values.specs.values.Tags.{TagView, heading, code_block, list, footnote_definition, table, link, image}
use Rattle.markdown_scanners_tree.specs.Ascii.{line_feed}
use Rattle.markdown_events.specs.InlineEvents.{RangedEvent}
use Rattle.markdown_events.specs.TagEnds.{tag_end}
use Rattle.page_blocks.specs.Info.{bytes_text}

-- a text in quotation marks
abbrev pub quoted : List ℕ → List ℕ
quoted words = codes " \"" ++ bytes_text words ++ codes "\""

-- the same of a text that may be missing
abbrev pub quoted_if : Option (List ℕ) → List ℕ
quoted_if None = []
quoted_if (Some words) = quoted words

-- ---- elements

-- the name of an element
abbrev pub element_name : TagEnd → List ℕ
element_name End.Paragraph = codes "paragraph"
element_name (End.Heading level) = codes "heading"
element_name (End.BlockQuote kind) = codes "block quote"
element_name End.CodeBlock = codes "code block"
element_name End.HtmlBlock = codes "html block"
element_name (End.List is_ordered) = codes "list"
element_name End.Item = codes "item"
element_name End.FootnoteDefinition = codes "footnote definition"
element_name End.DefinitionList = codes "definition list"
element_name End.DefinitionListTitle = codes "term"
element_name End.DefinitionListDefinition = codes "definition"
element_name End.Table = codes "table"
element_name End.TableHead = codes "table head"
element_name End.TableRow = codes "table row"
element_name End.TableCell = codes "table cell"
element_name End.Emphasis = codes "emphasis"
element_name End.Strong = codes "strong"
element_name End.Strikethrough = codes "strikethrough"
element_name End.Superscript = codes "superscript"
element_name End.Subscript = codes "subscript"
element_name End.Link = codes "link"
element_name End.Image = codes "image"
element_name (End.MetadataBlock kind) = codes "metadata block"

abbrev pub alert_name : BlockQuoteKind → List ℕ
alert_name Note = codes "note"
alert_name Tip = codes "tip"
alert_name Important = codes "important"
alert_name Warning = codes "warning"
alert_name Caution = codes "caution"

abbrev pub alert_text : Option BlockQuoteKind → List ℕ
alert_text None = []
alert_text (Some kind) = codes " " ++ alert_name kind

abbrev pub metadata_name : MetadataBlockKind → List ℕ
metadata_name YamlStyle = codes "yaml"
metadata_name PlusesStyle = codes "pluses"

-- what its start and its end say of it: the level of a heading, the kind of an alert or of metadata
abbrev pub element_kind : TagEnd → List ℕ
element_kind (End.Heading level) = codes " " ++ decimal (heading_number level)
element_kind (End.BlockQuote kind) = alert_text kind
element_kind (End.MetadataBlock kind) = codes " " ++ metadata_name kind
element_kind tag = []

abbrev pub element_text : TagEnd → List ℕ
element_text tag = element_name tag ++ element_kind tag

-- the identifier, a class and an attribute of a heading
abbrev pub id_text : Option (List ℕ) → List ℕ
id_text None = []
id_text (Some id) = codes " id" ++ quoted id

abbrev pub class_text : List ℕ → List ℕ
class_text class = codes " class" ++ quoted class

abbrev pub attribute_text : List ℕ × Option (List ℕ) → List ℕ
attribute_text attribute = codes " attribute" ++ quoted attribute.0 ++ quoted_if attribute.1

-- the number of the first item of a list
abbrev pub number_text : Option ℕ → List ℕ
number_text None = []
number_text (Some number) = codes " " ++ decimal number

abbrev pub alignment_name : Alignment → List ℕ
alignment_name Aligned.None = codes "none"
alignment_name Aligned.Left = codes "left"
alignment_name Aligned.Center = codes "center"
alignment_name Aligned.Right = codes "right"

abbrev pub alignment_text : Alignment → List ℕ
alignment_text alignment = codes " " ++ alignment_name alignment

-- how a link or an image is written
abbrev pub link_word : LinkType → List ℕ
link_word Kind.Inline = codes "inline"
link_word Kind.Reference = codes "reference"
link_word Kind.ReferenceUnknown = codes "unknown reference"
link_word Kind.Collapsed = codes "collapsed"
link_word Kind.CollapsedUnknown = codes "unknown collapsed"
link_word Kind.Shortcut = codes "shortcut"
link_word Kind.ShortcutUnknown = codes "unknown shortcut"
link_word Kind.Autolink = codes "autolink"
link_word Kind.Email = codes "email"
link_word (Kind.WikiLink true) = codes "piped wikilink"
link_word (Kind.WikiLink false) = codes "wikilink"

-- the label of a reference, unless it is empty
abbrev pub label_text : List ℕ → List ℕ
label_text [] = []
label_text (b ∷ label) = quoted (b ∷ label)

-- that, where it leads, its title, and its label
abbrev pub link_text : LinkType → List ℕ → List ℕ → List ℕ → List ℕ
link_text kind destination title label = codes " " ++ link_word kind ++ quoted destination ++ quoted title ++ label_text label

-- what its start says besides
abbrev pub held_text : TagView (List ℕ) → List ℕ
held_text (heading level id classes attributes) = id_text id ++ flat_map class_text classes ++ flat_map attribute_text attributes
held_text (code_block info) = quoted_if info
held_text (list number) = number_text number
held_text (footnote_definition label) = quoted label
held_text (table alignments) = flat_map alignment_text alignments
held_text (link kind destination title label) = link_text kind destination title label
held_text (image kind destination title label) = link_text kind destination title label
held_text tag = []

-- ---- events

abbrev pub task_word : Bool → List ℕ
task_word true = codes "checked task"
task_word false = codes "unchecked task"

abbrev pub event_text : EventView (List ℕ) → List ℕ
event_text (start tag) = codes "start " ++ element_text (tag_end tag) ++ held_text tag
event_text (end tag) = codes "end " ++ element_text tag
event_text (text words) = codes "text" ++ quoted words
event_text (code words) = codes "code" ++ quoted words
event_text (inline_math words) = codes "inline math" ++ quoted words
event_text (display_math words) = codes "display math" ++ quoted words
event_text (html words) = codes "html" ++ quoted words
event_text (inline_html words) = codes "inline html" ++ quoted words
event_text (footnote_reference label) = codes "footnote reference" ++ quoted label
event_text soft_break = codes "soft break"
event_text hard_break = codes "hard break"
event_text rule = codes "rule"
event_text (task_list_marker is_checked) = task_word is_checked

-- The line of an event: how many bytes of the page stand before its source, how many before what follows that, and what it is.
abbrev pub event_line : RangedEvent → List ℕ
event_line event =
    decimal event.1.start ++ codes " " ++ decimal event.1.end ++ codes " " ++ event_text event.0 ++ line_feed ∷ []
