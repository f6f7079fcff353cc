-- Worked rows: what is to be read of events, and what is read of HTML.
use Rattle.std.proofs.Common.{ℕ, ◌≡◌, true, false, List, [], ◌∷◌, ◌++◌, Some, None, refl}
use Rattle.std.specs.Prelude.{codes}
use Rattle.markdown_values.specs.values.Events.{EventView, start, end, text, code, inline_html, soft_break, hard_break, task_list_marker}
use Rattle.markdown_values.specs.values.Tags.{paragraph, code_block, emphasis, image, item, link, list, table, table_cell, table_head, table_row}
use Rattle.markdown_values.specs.declared.values.LinkType.TheVariants.{Inline}
use Rattle.markdown_values.specs.declared.values.tags.TagEnd.TheVariants as End
use Rattle.markdown_html.specs.declared.setting.RawHtml.TheVariants.{Escaped, LeftOut}
use Rattle.markdown_html.specs.Content.{content}
use Rattle.markdown_html.specs.ReadHtml.{Reads, alternative, byte, raw, opens, closes, edge}
use Rattle.markdown_html.specs.ReadHtml.{at_end, past_text, past_edge, past_line, past_raw, past_start, past_end, past_void}
use Rattle.markdown_html.specs.Settings.{Setting, plain_setting}

abbrev escaping : Setting
escaping = record plain_setting { raw = Escaped }

abbrev leaving : Setting
leaving = record plain_setting { raw = LeftOut }

abbrev linking : Setting
linking = record plain_setting { images_as_links = true }

-- ---- events

kept_row : content plain_setting (start paragraph ∷ text (codes "a<") ∷ inline_html (codes "<b>") ∷ soft_break ∷ end End.Paragraph ∷ [])
    ≡ edge ∷ opens (codes "p") ∷ byte 97 ∷ byte 60 ∷ raw (codes "<b>") ∷ byte 10 ∷ closes (codes "p") ∷ edge ∷ []
kept_row = refl

escaped_row : content escaping (inline_html (codes "<b>") ∷ []) ≡ byte 60 ∷ byte 98 ∷ byte 62 ∷ []
escaped_row = refl

left_row : content leaving (inline_html (codes "<b>") ∷ hard_break ∷ []) ≡ opens (codes "br") ∷ closes (codes "br") ∷ byte 10 ∷ []
left_row = refl

-- In an image raw HTML is text, and a line ending is a space.
abbrev image_events : List (EventView (List ℕ))
image_events =
    start (image Inline [] [] []) ∷ start emphasis ∷ inline_html (codes "<b>") ∷ end End.Emphasis ∷ soft_break ∷ end End.Image
    ∷ inline_html (codes "<i>") ∷ soft_break ∷ []

image_row : content plain_setting image_events
    ≡ opens (codes "img") ∷ byte 60 ∷ byte 98 ∷ byte 62 ∷ byte 32 ∷ closes (codes "img") ∷ raw (codes "<i>") ∷ byte 10 ∷ []
image_row = refl

-- An image that is written as a link is one, and in a link nothing but its text.
linked_row : content linking (start (image Inline [] [] []) ∷ text (codes "a") ∷ end End.Image ∷ [])
    ≡ opens (codes "a") ∷ byte 97 ∷ closes (codes "a") ∷ []
linked_row = refl

within_row : content linking
    (start (link Inline [] [] []) ∷ start (image Inline [] [] []) ∷ text (codes "a") ∷ end End.Image ∷ end End.Link ∷ [])
    ≡ opens (codes "a") ∷ byte 97 ∷ closes (codes "a") ∷ []
within_row = refl

-- Code ends its last line where the page does not, and has no other line feed than those of its text.
open_code_row : content plain_setting (start (code_block None) ∷ text (codes "a") ∷ end End.CodeBlock ∷ [])
    ≡ edge ∷ opens (codes "pre") ∷ opens (codes "code") ∷ byte 97 ∷ byte 10 ∷ closes (codes "code") ∷ closes (codes "pre") ∷ edge ∷ []
open_code_row = refl

code_row : content plain_setting (start (code_block None) ∷ text (codes "a\n") ∷ end End.CodeBlock ∷ [])
    ≡ edge ∷ opens (codes "pre") ∷ opens (codes "code") ∷ byte 97 ∷ byte 10 ∷ closes (codes "code") ∷ closes (codes "pre") ∷ edge ∷ []
code_row = refl

task_row : content plain_setting (start (list (Some 2)) ∷ start item ∷ task_list_marker true ∷ code (codes "a") ∷ end End.Item ∷ end (End.List true) ∷ [])
    ≡ edge ∷ opens (codes "ol") ∷ edge ∷ edge ∷ opens (codes "li") ∷ opens (codes "input") ∷ closes (codes "input") ∷ byte 32
    ∷ opens (codes "code") ∷ byte 97 ∷ closes (codes "code") ∷ closes (codes "li") ∷ edge ∷ closes (codes "ol") ∷ edge ∷ []
task_row = refl

-- the second row of a body begins no other one
abbrev row_events : List (EventView (List ℕ))
row_events = start table_row ∷ start table_cell ∷ end End.TableCell ∷ end End.TableRow ∷ []

table_row_row : content plain_setting
    (start (table []) ∷ start table_head ∷ start table_cell ∷ end End.TableCell ∷ end End.TableHead ∷ (row_events ++ row_events ++ end End.Table ∷ []))
    ≡ (edge ∷ opens (codes "table") ∷ edge ∷ edge ∷ opens (codes "thead") ∷ edge ∷ opens (codes "tr") ∷ edge ∷ opens (codes "th")
    ∷ closes (codes "th") ∷ edge ∷ closes (codes "tr") ∷ edge ∷ closes (codes "thead") ∷ edge ∷ [])
    ++ (edge ∷ opens (codes "tbody") ∷ edge ∷ opens (codes "tr") ∷ edge ∷ opens (codes "td") ∷ closes (codes "td") ∷ edge ∷ closes (codes "tr")
    ∷ edge ∷ [])
    ++ (edge ∷ opens (codes "tr") ∷ edge ∷ opens (codes "td") ∷ closes (codes "td") ∷ edge ∷ closes (codes "tr") ∷ edge ∷ [])
    ++ (closes (codes "tbody") ∷ edge ∷ closes (codes "table") ∷ edge ∷ [])
table_row_row = refl

-- ---- HTML

alternative_row : alternative ((codes "src", []) ∷ (codes "alt", codes "a&amp;b") ∷ []) ≡ codes "a&b"
alternative_row = refl

read_row : Reads (codes "<p>a&lt;<b><img alt=\"c\"></p>\n")
    (edge ∷ opens (codes "p") ∷ byte 97 ∷ byte 60 ∷ raw (codes "<b>") ∷ opens (codes "img") ∷ byte 99 ∷ closes (codes "img") ∷ closes (codes "p")
    ∷ edge ∷ [])
read_row =
    past_edge _ [] (codes "<p>a&lt;<b><img alt=\"c\"></p>\n")
    (past_start _ [] (codes "p") [] (codes "a&lt;<b><img alt=\"c\"></p>\n") refl refl
    (past_text _ (codes "p" ∷ []) (codes "a&lt;") (codes "<b><img alt=\"c\"></p>\n") refl
    (past_raw _ (codes "p" ∷ []) (codes "<b>") (codes "<img alt=\"c\"></p>\n")
    (past_void (closes (codes "p") ∷ edge ∷ []) (codes "p" ∷ []) (codes "img") ((codes "alt", codes "c") ∷ []) false (codes "</p>\n") refl refl
    (past_end (edge ∷ []) [] (codes "p") (codes "\n") (past_line [] [] [] at_end))))))
