-- Worked rows: the HTML of some events, as examples of CommonMark and GFM have it.
use Rattle.std.proofs.Common.{ℕ, ◌≡◌, refl, List, [], ◌∷◌, ◌++◌, Some, None, codes, true, false}
use Rattle.markdown_values.specs.values.Events.{EventView, start, end, text, html, task_list_marker}
use Rattle.markdown_values.specs.values.Tags.{paragraph, list, item, code_block, html_block, link, image, emphasis, block_quote}
use Rattle.markdown_values.specs.values.Tags.{table, table_head, table_row, table_cell}
use Rattle.markdown_values.specs.declared.values.tags.TagEnd.TheVariants as End
use Rattle.markdown_values.specs.declared.values.Alignment.TheVariants as Aligned
use Rattle.markdown_values.specs.declared.values.LinkType.TheVariants as Kind
use Rattle.markdown_html.specs.declared.setting.RawHtml.TheVariants.{Escaped}
use Rattle.markdown_html.specs.Html.{html_of}
use Rattle.markdown_html.specs.Settings.{Setting, plain_setting}

-- a paragraph, whose text has what would be HTML
paragraph_row :
    html_of plain_setting (start paragraph ∷ text (codes "a < \"b\" & c") ∷ end End.Paragraph ∷ [])
    ≡ codes "<p>a &lt; &quot;b&quot; &amp; c</p>\n"
paragraph_row = refl

-- a tight list, which stands in a quote, and holds a quote
list_row :
    html_of plain_setting
    (start (block_quote None) ∷ start (list None) ∷ start item ∷ text (codes "a") ∷ start (block_quote None) ∷ end (End.BlockQuote None)
    ∷ end End.Item ∷ start item ∷ end End.Item ∷ end (End.List false) ∷ end (End.BlockQuote None) ∷ [])
    ≡ codes "<blockquote>\n<ul>\n<li>a\n<blockquote>\n</blockquote>\n</li>\n<li></li>\n</ul>\n</blockquote>\n"
list_row = refl

-- code, with the first word of its info string
code_row :
    html_of plain_setting (start (code_block (Some (codes "ruby startline=3"))) ∷ text (codes "a\n") ∷ text (codes ">") ∷ end End.CodeBlock ∷ [])
    ≡ codes "<pre><code class=\"language-ruby\">a\n&gt;\n</code></pre>\n"
code_row = refl

empty_code_row : html_of plain_setting (start (code_block None) ∷ end End.CodeBlock ∷ []) ≡ codes "<pre><code></code></pre>\n"
empty_code_row = refl

-- an image in a link, whose address has a `ü`, with a title and emphasis
abbrev image_events : List (EventView (List ℕ))
image_events =
    start (link Kind.Inline (codes "/" ++ 195 ∷ 188 ∷ codes "?a&b") [] [])
    ∷ start (image Kind.Inline (codes "train.jpg") (codes "title") []) ∷ text (codes "a ")
    ∷ start emphasis ∷ text (codes "b") ∷ end End.Emphasis ∷ end End.Image ∷ end End.Link ∷ []

image_row :
    html_of plain_setting image_events ≡ codes "<a href=\"/%C3%BC?a&amp;b\"><img src=\"train.jpg\" alt=\"a b\" title=\"title\" /></a>"
image_row = refl

-- the same with images as links
abbrev as_links : Setting
as_links = record plain_setting { images_as_links = true; rel = true }

linked_row : html_of as_links image_events ≡ codes "<a href=\"/%C3%BC?a&amp;b\" rel=\"nofollow noopener\">a b</a>"
linked_row = refl

-- a table with a row, and one without
rows_row :
    html_of plain_setting
    (start (table (Aligned.None ∷ Aligned.Right ∷ [])) ∷ start table_head ∷ start table_cell ∷ text (codes "foo") ∷ end End.TableCell ∷ start table_cell
    ∷ end End.TableCell ∷ end End.TableHead ∷ start table_row ∷ start table_cell ∷ end End.TableCell ∷ start table_cell ∷ text (codes "bim")
    ∷ end End.TableCell ∷ end End.TableRow ∷ end End.Table ∷ [])
    ≡ codes "<table>\n<thead>\n<tr>\n<th>foo</th>\n<th align=\"right\"></th>\n</tr>\n</thead>\n"
    ++ codes "<tbody>\n<tr>\n<td></td>\n<td align=\"right\">bim</td>\n</tr>\n</tbody>\n</table>\n"
rows_row = refl

headed_row :
    html_of plain_setting (start (table []) ∷ start table_head ∷ end End.TableHead ∷ end End.Table ∷ [])
    ≡ codes "<table>\n<thead>\n<tr>\n</tr>\n</thead>\n</table>\n"
headed_row = refl

-- raw HTML that is escaped, after the box of a task
abbrev escaping : Setting
escaping = record plain_setting { raw = Escaped }

raw_row :
    html_of escaping (start item ∷ task_list_marker false ∷ text (codes "a") ∷ start html_block ∷ html (codes "<b>") ∷ end End.HtmlBlock ∷ end End.Item ∷ [])
    ≡ codes "<li><input disabled=\"\" type=\"checkbox\"> a\n&lt;b&gt;\n</li>\n"
raw_row = refl
