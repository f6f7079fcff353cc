-- The HTML of the events of a page. (CommonMark 0.31.2, whose examples show it)
use Rattle.std.specs.Prelude.{ℕ, List, [], ◌∷◌, codes, Some, if◌then◌else◌}
use Rattle.markdown_values.specs.values.Events.{EventView, start, end, text, code, inline_math, display_math, html, inline_html}
use Rattle.markdown_values.specs.values.Events.{footnote_reference, soft_break, hard_break, rule, task_list_marker}
use Rattle.markdown_values.specs.values.Tags.{TagView, paragraph, heading, block_quote, code_block, html_block, list, item}
use Rattle.markdown_values.specs.values.Tags.{table, table_head, table_row, table_cell, emphasis, strong, strikethrough}
use Rattle.markdown_values.specs.values.Tags.{superscript, subscript, link, image}
use Rattle.markdown_values.specs.declared.values.tags.TagEnd.{TagEnd}
use Rattle.markdown_values.specs.declared.values.tags.TagEnd.TheVariants as End
use Rattle.markdown_html.specs.Blocks.{cell_end, cell_started, code_ended, code_start, head_end, head_started, heading_end, heading_start}
use Rattle.markdown_html.specs.Blocks.{list_end, list_start, row_started, table_end, table_started, task_box}
use Rattle.markdown_html.specs.Escapes.{escaped}
use Rattle.markdown_html.specs.Inlines.{code_element, image_ended, image_started, link_ended, link_started, raw_html, raw_text, target}
use Rattle.markdown_html.specs.Settings.{Setting}
use Rattle.markdown_html.specs.States.{HtmlState, is_in_image, nothing_written, on_line, written}

-- An element begins. The parts that no list of events of a page has yet (footnotes, definitions of terms, metadata) have no element
-- here, but what they hold is written.
abbrev pub started : Setting → TagView (List ℕ) → HtmlState → HtmlState
started setting paragraph s = on_line (codes "<p>") s
started setting (heading level id classes attributes) s = on_line (heading_start level) s
started setting (block_quote kind) s = on_line (codes "<blockquote>\n") s
started setting (code_block info) s = on_line (code_start info) s
started setting html_block s = on_line [] s
started setting (list first) s = on_line (list_start first) s
started setting item s = on_line (codes "<li>") s
started setting (table columns) s = table_started columns s
started setting table_head s = head_started s
started setting table_row s = row_started s
started setting table_cell s = cell_started s
started setting emphasis s = written (codes "<em>") s
started setting strong s = written (codes "<strong>") s
started setting strikethrough s = written (codes "<del>") s
started setting superscript s = written (codes "<sup>") s
started setting subscript s = written (codes "<sub>") s
started setting (link kind address title label) s = link_started setting (target kind address) title s
started setting (image kind address title label) s = image_started setting (target kind address) title s
started setting tag s = s

-- an element ends
abbrev pub ended : TagEnd → HtmlState → HtmlState
ended End.Paragraph s = written (codes "</p>\n") s
ended (End.Heading level) s = written (heading_end level) s
ended (End.BlockQuote kind) s = on_line (codes "</blockquote>\n") s
ended End.CodeBlock s = code_ended s
ended End.HtmlBlock s = on_line [] s
ended (End.List is_numbered) s = written (list_end is_numbered) s
ended End.Item s = written (codes "</li>\n") s
ended End.Table s = written (table_end s.has_body) s
ended End.TableHead s = written head_end s
ended End.TableRow s = written (codes "</tr>\n") s
ended End.TableCell s = written (cell_end s.is_head) s
ended End.Emphasis s = written (codes "</em>") s
ended End.Strong s = written (codes "</strong>") s
ended End.Strikethrough s = written (codes "</del>") s
ended End.Superscript s = written (codes "</sup>") s
ended End.Subscript s = written (codes "</sub>") s
ended End.Link s = link_ended s
ended tag s = s

-- an event outside of images
abbrev pub with_event : Setting → EventView (List ℕ) → HtmlState → HtmlState
with_event setting (start tag) s = started setting tag s
with_event setting (end tag) s = ended tag s
with_event setting (text words) s = written (escaped words) s
with_event setting (code words) s = written (code_element words) s
with_event setting (inline_math words) s = written (escaped words) s
with_event setting (display_math words) s = written (escaped words) s
with_event setting (html words) s = written (raw_html setting.raw words) s
with_event setting (inline_html words) s = written (raw_html setting.raw words) s
with_event setting (footnote_reference words) s = written (escaped words) s
with_event setting soft_break s = written (codes "\n") s
with_event setting hard_break s = written (codes "<br />\n") s
with_event setting rule s = on_line (codes "<hr />\n") s
with_event setting (task_list_marker is_checked) s = written (task_box is_checked) s

-- An event in an image, of which only the text is written: "only the plain string content is rendered, without formatting". A line
-- ending is a space. (6.4)
abbrev pub with_text_of : Setting → EventView (List ℕ) → HtmlState → HtmlState
with_text_of setting (start (image kind address title label)) s = record s { links = Some title ∷ s.links }
with_text_of setting (start tag) s = s
with_text_of setting (end End.Image) s = image_ended setting s.links s
with_text_of setting (end tag) s = s
with_text_of setting (text words) s = written (escaped words) s
with_text_of setting (code words) s = written (escaped words) s
with_text_of setting (inline_math words) s = written (escaped words) s
with_text_of setting (display_math words) s = written (escaped words) s
with_text_of setting (html words) s = written (raw_text setting.raw words) s
with_text_of setting (inline_html words) s = written (raw_text setting.raw words) s
with_text_of setting (footnote_reference words) s = written (escaped words) s
with_text_of setting soft_break s = written (codes " ") s
with_text_of setting hard_break s = written (codes " ") s
with_text_of setting rule s = s
with_text_of setting (task_list_marker is_checked) s = s

-- after one more event
abbrev pub after_event : Setting → EventView (List ℕ) → HtmlState → HtmlState
after_event setting event s = if is_in_image s.links then with_text_of setting event s else with_event setting event s

abbrev pub after_events : Setting → List (EventView (List ℕ)) → HtmlState → HtmlState
after_events setting [] s = s
after_events setting (event ∷ later) s = after_events setting later (after_event setting event s)

-- the HTML of a list of events
abbrev pub html_of : Setting → List (EventView (List ℕ)) → List ℕ
html_of setting events = (after_events setting events nothing_written).output
