-- What is to be read of events: their texts, their raw HTML, and their elements.
use Rattle.std.specs.Prelude.{ℕ, zero, suc, Bool, true, false, not, ◌==◌, List, [], ◌∷◌, ◌++◌, codes, map, Option, Some, None, if◌then◌else◌}
use Rattle.markdown_values.specs.declared.values.tags.TagEnd.{TagEnd}
use Rattle.markdown_values.specs.declared.values.tags.TagEnd.TheVariants as End
use Rattle.markdown_values.specs.values.Events.{EventView, start, end, text, code, inline_math, display_math, html, inline_html}
use Rattle.markdown_values.specs.values.Events.{footnote_reference, soft_break, hard_break, rule, task_list_marker}
use Rattle.markdown_values.specs.values.Headings.{heading_name}
use Rattle.markdown_values.specs.values.Tags.{TagView, paragraph, heading, block_quote, code_block, html_block, list, item}
use Rattle.markdown_values.specs.values.Tags.{table, table_head, table_row, table_cell, emphasis, strong, strikethrough}
use Rattle.markdown_values.specs.values.Tags.{superscript, subscript, link, image}
use Rattle.markdown_scanners_tree.specs.Ascii.{line_feed, space}
use Rattle.markdown_html.specs.declared.setting.RawHtml.{RawHtml}
use Rattle.markdown_html.specs.declared.setting.RawHtml.TheVariants.{Kept, Escaped, LeftOut}
use Rattle.markdown_html.specs.Blocks.{cell_name}
use Rattle.markdown_html.specs.ReadHtml.{Item, byte, raw, opens, closes, edge}
use Rattle.markdown_html.specs.Settings.{Setting}
use Rattle.markdown_html.specs.States.{is_text_begun, last_byte}

-- What is around an event: how many images it is in, and how many links around them; whether the row is the head of its table, and whether
-- the table has other rows; and whether a line of text has begun.
pub record Around : Type 0 where
  pub images : ℕ
  pub links : ℕ
  pub is_head : Bool
  pub has_body : Bool
  pub is_begun : Bool

-- before the first event
abbrev pub at_start : Around
at_start = record { images = 0; links = 0; is_head = false; has_body = false; is_begun = false }

-- ---- texts

-- raw HTML that is kept, escaped or left out; and the same in an image, where it is text if it is anything
abbrev pub raw_items : RawHtml → List ℕ → List Item
raw_items Kept [] = []
raw_items Kept (b ∷ words) = raw (b ∷ words) ∷ []
raw_items Escaped words = map byte words
raw_items LeftOut words = []

abbrev pub raw_text_items : RawHtml → List ℕ → List Item
raw_text_items LeftOut words = []
raw_text_items choice words = map byte words

-- ---- elements

-- an element that begins at the edge of a block, or ends there
abbrev pub opens_block : List ℕ → List Item
opens_block name = edge ∷ opens name ∷ []

abbrev pub closes_block : List ℕ → List Item
closes_block name = closes name ∷ edge ∷ []

abbrev pub list_name : Bool → List ℕ
list_name is_numbered = if is_numbered then codes "ol" else codes "ul"

abbrev pub is_numbered : Option ℕ → Bool
is_numbered None = false
is_numbered (Some first) = true

-- The first row that is no head begins the body of its table, which the table ends.
abbrev pub body_start : Bool → List Item
body_start has_body = if has_body then [] else opens (codes "tbody") ∷ edge ∷ []

abbrev pub body_end : Bool → List Item
body_end has_body = if has_body then closes (codes "tbody") ∷ edge ∷ [] else []

-- an image, or the link that is written for it, of which there is none in another link
abbrev pub image_names : Bool → ℕ → List (List ℕ)
image_names true zero = codes "a" ∷ []
image_names true (suc links) = []
image_names false links = codes "img" ∷ []

-- Code ends with its last line, which ends.
abbrev pub line_end : Bool → List Item
line_end is_begun = if is_begun then byte line_feed ∷ [] else []

-- ---- events

-- what is to be read where a tag starts outside of images
abbrev pub start_items : Bool → Around → TagView (List ℕ) → List Item
start_items as_links around paragraph = opens_block (codes "p")
start_items as_links around (heading level id classes attributes) = opens_block (heading_name level)
start_items as_links around (block_quote kind) = opens_block (codes "blockquote") ++ edge ∷ []
start_items as_links around (code_block info) = opens_block (codes "pre") ++ opens (codes "code") ∷ []
start_items as_links around html_block = edge ∷ []
start_items as_links around (list first) = opens_block (list_name (is_numbered first)) ++ edge ∷ []
start_items as_links around item = opens_block (codes "li")
start_items as_links around (table columns) = opens_block (codes "table") ++ edge ∷ []
start_items as_links around table_head = opens_block (codes "thead") ++ edge ∷ opens (codes "tr") ∷ edge ∷ []
start_items as_links around table_row = edge ∷ (body_start around.has_body ++ opens (codes "tr") ∷ edge ∷ [])
start_items as_links around table_cell = opens (cell_name around.is_head) ∷ []
start_items as_links around emphasis = opens (codes "em") ∷ []
start_items as_links around strong = opens (codes "strong") ∷ []
start_items as_links around strikethrough = opens (codes "del") ∷ []
start_items as_links around superscript = opens (codes "sup") ∷ []
start_items as_links around subscript = opens (codes "sub") ∷ []
start_items as_links around (link kind to title label) = opens (codes "a") ∷ []
start_items as_links around (image kind to title label) = map opens (image_names as_links around.links)
start_items as_links around tag = []

-- and where one ends
abbrev pub end_items : Around → TagEnd → List Item
end_items around End.Paragraph = closes_block (codes "p")
end_items around (End.Heading level) = closes_block (heading_name level)
end_items around (End.BlockQuote kind) = edge ∷ closes_block (codes "blockquote")
end_items around End.CodeBlock = line_end around.is_begun ++ closes (codes "code") ∷ closes_block (codes "pre")
end_items around End.HtmlBlock = edge ∷ []
end_items around (End.List numbered) = closes_block (list_name numbered)
end_items around End.Item = closes_block (codes "li")
end_items around End.Table = body_end around.has_body ++ closes_block (codes "table")
end_items around End.TableHead = closes_block (codes "tr") ++ closes_block (codes "thead")
end_items around End.TableRow = closes_block (codes "tr")
end_items around End.TableCell = closes_block (cell_name around.is_head)
end_items around End.Emphasis = closes (codes "em") ∷ []
end_items around End.Strong = closes (codes "strong") ∷ []
end_items around End.Strikethrough = closes (codes "del") ∷ []
end_items around End.Superscript = closes (codes "sup") ∷ []
end_items around End.Subscript = closes (codes "sub") ∷ []
end_items around End.Link = closes (codes "a") ∷ []
end_items around tag = []

-- what is to be read of an event outside of images
abbrev pub items_of : Setting → Around → EventView (List ℕ) → List Item
items_of setting around (start tag) = start_items setting.images_as_links around tag
items_of setting around (end tag) = end_items around tag
items_of setting around (text words) = map byte words
items_of setting around (code words) = opens (codes "code") ∷ (map byte words ++ closes (codes "code") ∷ [])
items_of setting around (inline_math words) = map byte words
items_of setting around (display_math words) = map byte words
items_of setting around (html words) = raw_items setting.raw words
items_of setting around (inline_html words) = raw_items setting.raw words
items_of setting around (footnote_reference words) = map byte words
items_of setting around soft_break = byte line_feed ∷ []
items_of setting around hard_break = opens (codes "br") ∷ closes (codes "br") ∷ byte line_feed ∷ []
items_of setting around rule = opens_block (codes "hr") ++ closes_block (codes "hr")
items_of setting around (task_list_marker is_checked) = opens (codes "input") ∷ closes (codes "input") ∷ byte space ∷ []

-- The outermost image ends.
abbrev pub image_end_items : Setting → ℕ → Around → List Item
image_end_items setting zero around = map closes (image_names setting.images_as_links around.links)
image_end_items setting (suc outer) around = []

-- and in an image, around which there are so many more: its text, in which a line ending is a space
abbrev pub text_items_of : Setting → ℕ → Around → EventView (List ℕ) → List Item
text_items_of setting outer around (end End.Image) = image_end_items setting outer around
text_items_of setting outer around (text words) = map byte words
text_items_of setting outer around (code words) = map byte words
text_items_of setting outer around (inline_math words) = map byte words
text_items_of setting outer around (display_math words) = map byte words
text_items_of setting outer around (html words) = raw_text_items setting.raw words
text_items_of setting outer around (inline_html words) = raw_text_items setting.raw words
text_items_of setting outer around (footnote_reference words) = map byte words
text_items_of setting outer around soft_break = byte space ∷ []
text_items_of setting outer around hard_break = byte space ∷ []
text_items_of setting outer around event = []

abbrev pub event_items_in : ℕ → Setting → Around → EventView (List ℕ) → List Item
event_items_in zero setting around event = items_of setting around event
event_items_in (suc outer) setting around event = text_items_of setting outer around event

abbrev pub event_items : Setting → Around → EventView (List ℕ) → List Item
event_items setting around event = event_items_in around.images setting around event

-- ---- what is around what follows an event

abbrev pub outer_of : ℕ → ℕ
outer_of zero = zero
outer_of (suc images) = images

abbrev pub images_after : ℕ → EventView (List ℕ) → ℕ
images_after images (start (image kind to title label)) = suc images
images_after images (end End.Image) = outer_of images
images_after images event = images

-- Whether a line of text has begun after an item: a byte of a text begins one, if it ends none, and so does raw HTML that ends neither a line
-- nor a tag.
abbrev pub begins_line : Item → Bool
begins_line (byte b) = not (b == line_feed)
begins_line (raw piece) = is_text_begun (last_byte piece)
begins_line other = false

abbrev pub begun_after : Bool → List Item → Bool
begun_after is_begun [] = is_begun
begun_after is_begun (first ∷ later) = begun_after (begins_line first) later

-- outside of images
abbrev pub moved : EventView (List ℕ) → Around → Around
moved (start (table columns)) around = record around { has_body = false }
moved (start table_head) around = record around { is_head = true }
moved (start table_row) around = record around { is_head = false; has_body = true }
moved (start (link kind to title label)) around = record around { links = suc around.links }
moved (end End.Link) around = record around { links = outer_of around.links }
moved event around = around

abbrev pub moved_in : ℕ → EventView (List ℕ) → Around → Around
moved_in zero event around = moved event around
moved_in (suc outer) event around = around

-- after an event in so many images
abbrev pub around_in : ℕ → Setting → Around → EventView (List ℕ) → Around
around_in images setting around event = record (moved_in images event around) {
  images = images_after images event;
  is_begun = begun_after around.is_begun (event_items_in images setting around event);
}

abbrev pub around_after : Setting → Around → EventView (List ℕ) → Around
around_after setting around event = around_in around.images setting around event

-- what is to be read of events
abbrev pub content_in : Setting → Around → List (EventView (List ℕ)) → List Item
content_in setting around [] = []
content_in setting around (event ∷ later) = event_items setting around event ++ content_in setting (around_after setting around event) later

abbrev pub content : Setting → List (EventView (List ℕ)) → List Item
content setting events = content_in setting at_start events
