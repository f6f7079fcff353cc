-- What is read where an element ends outside of images.
use Rattle.std.proofs.Common.{ℕ, ◌≡◌, Bool, true, false, List, [], ◌∷◌, ◌++◌, Option, Some, None, drop, refl, sym, ap, ◌∙◌, append_assoc, append-nil}
use Rattle.std.proofs.Common.{subst}
use Rattle.std.specs.Prelude.{codes}
use Rattle.markdown_values.specs.declared.values.Alignment.{Alignment}
use Rattle.markdown_values.specs.values.Events.{end}
use Rattle.markdown_values.specs.values.Tags.{paragraph, heading, block_quote, code_block, html_block, list, item, footnote_definition}
use Rattle.markdown_values.specs.values.Tags.{definition_list, definition_list_title, definition_list_definition, table, table_head, table_row}
use Rattle.markdown_values.specs.values.Tags.{table_cell, emphasis, strong, strikethrough, superscript, subscript, link, image, metadata_block}
use Rattle.markdown_values.specs.values.Headings.{heading_name}
use Rattle.markdown_html.specs.Blocks.{cell_name, cell_end, heading_end, list_end, table_end, head_end}
use Rattle.markdown_html.specs.Content.{Around, items_of, around_in, begun_after, closes_block, body_end, line_end, outer_of}
use Rattle.markdown_html.specs.Html.{ended}
use Rattle.markdown_events.specs.Nesting.{Tag}
use Rattle.markdown_html.specs.ReadHtml.{Item, closes, edge}
use Rattle.markdown_html.specs.Settings.{Setting}
use Rattle.markdown_html.specs.States.{HtmlState, ended_line, ended_text, on_line, written}
use Rattle.markdown_events.specs.TagEnds.{tag_end}
use Rattle.markdown_html.proofs.BegunLemmas.{is_text_begun_after, after_tag, after_line, after_ended_line, later_begun}
use Rattle.markdown_html.proofs.ReadSteps.{Reading, both_read, text_ended, close_step, close_line, heading_end_step, code_end_step, table_elements}
use Rattle.markdown_html.proofs.ReadSteps.{list_ends, on_line_leads, head_end_step, table_end_step, cell_end_step}
use Rattle.markdown_html.proofs.ReadTags.{is_link}
use Rattle.markdown_html.proofs.ReadStanding.{Outside as OutsideIn, open_in, around_with}

module _ (addresses : List ℕ → Bool) (setting : Setting) where
  abbrev Outside : List Tag → Around → List Item → HtmlState → Type 0
  Outside = OutsideIn addresses setting

  -- ---- ends

  abbrev pub Ends : Tag → List Tag → Around → List Item → HtmlState → Type 0
  Ends tag outer around seen s =
      Outside outer (around_in 0 setting around (end (tag_end tag))) (seen ++ items_of setting around (end (tag_end tag))) (ended (tag_end tag) s)

  finished_with : (tag : Tag) (outer : List Tag) (around : Around) (seen here : List Item) (s : HtmlState) (more : List ℕ) → is_link tag ≡ false
      → Outside (tag ∷ outer) around seen s → begun_after around.is_begun here ≡ is_text_begun_after (s.output ++ more)
      → Reading addresses (open_in s (tag ∷ outer)) more here (open_in s outer)
      → Outside outer (around_with around 0 (begun_after around.is_begun here)) (seen ++ here) (written more s)
  finished_with tag outer around seen here s more other o ends step = record {
    links = rw other at o.links;
    count = rw other at o.count;
    head = o.head;
    body = o.body;
    begun = ends;
    lead = both_read addresses [] (open_in s (tag ∷ outer)) (open_in s outer) s.output more seen here o.lead step;
  }

  finished_on_line : (tag : Tag) (outer : List Tag) (around : Around) (seen here : List Item) (s : HtmlState) (more : List ℕ) → is_link tag ≡ false
      → Outside (tag ∷ outer) around seen s → begun_after false here ≡ is_text_begun_after (ended_line s.output ++ more)
      → Reading addresses (open_in s (tag ∷ outer)) more here (open_in s outer)
      → Outside outer (around_with around 0 (begun_after false here)) (seen ++ edge ∷ here) (on_line more s)
  finished_on_line tag outer around seen here s more other o ends step = record {
    links = rw other at o.links;
    count = rw other at o.count;
    head = o.head;
    body = o.body;
    begun = ends;
    lead = on_line_leads addresses (open_in s (tag ∷ outer)) (open_in s outer) s.output more seen here o.lead step;
  }

  left_open : (tag : Tag) (outer : List Tag) (around : Around) (seen : List Item) (s : HtmlState) → is_link tag ≡ false
      → Outside (tag ∷ outer) around seen s → open_in s (tag ∷ outer) ≡ open_in s outer → Outside outer (around_with around 0 around.is_begun) (seen ++ []) s
  left_open tag outer around seen s other o same = record {
    links = rw other at o.links;
    count = rw other at o.count;
    head = o.head;
    body = o.body;
    begun = o.begun;
    lead = subst (λ it. Reading addresses [] s.output it (open_in s outer)) (sym (append-nil seen))
        (subst (λ to. Reading addresses [] s.output seen to) same o.lead);
  }

  code_ends : (info : Option (List ℕ)) (outer : List Tag) (around : Around) (seen : List Item) (s : HtmlState) → Outside (code_block info ∷ outer) around seen s
      → Ends (code_block info) outer around seen s
  code_ends info outer around seen s o = record {
    links = o.links;
    count = o.count;
    head = o.head;
    body = o.body;
    begun = later_begun around.is_begun (line_end around.is_begun) (closes (codes "code")) (closes_block (codes "pre"))
        ∙ after_line (ended_text s.output) (codes "</code></pre");
    lead = subst (λ is_begun. Reading addresses [] (ended_text s.output ++ codes "</code></pre>\n")
        (seen ++ (line_end is_begun ++ closes (codes "code") ∷ closes_block (codes "pre"))) (open_in s outer)) (sym o.begun)
        (subst (λ it. Reading addresses [] (ended_text s.output ++ codes "</code></pre>\n") it (open_in s outer))
        (append_assoc seen (line_end (is_text_begun_after s.output)) (closes (codes "code") ∷ closes_block (codes "pre")))
        (both_read addresses [] (codes "code" ∷ codes "pre" ∷ open_in s outer) (open_in s outer) (ended_text s.output) (codes "</code></pre>\n")
        (seen ++ line_end (is_text_begun_after s.output)) (closes (codes "code") ∷ closes_block (codes "pre"))
        (text_ended addresses (codes "code" ∷ codes "pre" ∷ open_in s outer) s.output seen o.lead) (code_end_step addresses (open_in s outer))));
  }

  table_ends : (columns : List Alignment) (outer : List Tag) (around : Around) (seen : List Item) (s : HtmlState)
      → Outside (table columns ∷ outer) around seen s → Ends (table columns) outer around seen s
  table_ends columns outer around seen s o = record {
    links = o.links;
    count = o.count;
    head = o.head;
    body = o.body;
    begun = later_begun around.is_begun (body_end around.has_body) (closes (codes "table")) (edge ∷ []) ∙ table_begun s.has_body;
    lead = subst (λ has_body. Reading addresses [] (s.output ++ table_end s.has_body) (seen ++ (body_end has_body ++ closes_block (codes "table")))
        (open_in s outer)) (sym o.body)
        (both_read addresses [] (table_elements s.has_body ++ open_in s outer) (open_in s outer) s.output (table_end s.has_body) seen
        (body_end s.has_body ++ closes_block (codes "table")) o.lead (table_end_step addresses (open_in s outer) s.has_body));
  }
    where
      table_begun : (has_body : Bool) → false ≡ is_text_begun_after (s.output ++ table_end has_body)
      table_begun true = after_line s.output (codes "</tbody>\n</table")
      table_begun false = after_line s.output (codes "</table")

  -- an element that ends outside of images
  pub ends : (tag : Tag) (outer : List Tag) (around : Around) (seen : List Item) (s : HtmlState) → Outside (tag ∷ outer) around seen s
      → Ends tag outer around seen s
  ends paragraph outer around seen s o =
      finished_with paragraph outer around seen (closes_block (codes "p")) s (codes "</p>\n") refl o (after_line s.output (codes "</p"))
      (close_line addresses (open_in s outer) (codes "p"))
  ends (heading level id classes attributes) outer around seen s o =
      finished_with (heading level id classes attributes) outer around seen (closes_block (heading_name level)) s (heading_end level) refl o
      (after_line s.output (codes "</" ++ heading_name level)) (heading_end_step addresses (open_in s outer) level)
  ends (block_quote kind) outer around seen s o =
      finished_on_line (block_quote kind) outer around seen (closes_block (codes "blockquote")) s (codes "</blockquote>\n") refl o
      (after_line (ended_line s.output) (codes "</blockquote")) (close_line addresses (open_in s outer) (codes "blockquote"))
  ends (code_block info) outer around seen s o = code_ends info outer around seen s o
  ends html_block outer around seen s o =
      finished_on_line html_block outer around seen [] s [] refl o
      (sym (ap is_text_begun_after (append-nil (ended_line s.output)) ∙ after_ended_line s.output)) (λ items rest safe. safe)
  ends (list None) outer around seen s o =
      finished_with (list None) outer around seen (closes_block (codes "ul")) s (list_end false) refl o (after_line s.output (codes "</ul"))
      (list_ends addresses (open_in s outer) false)
  ends (list (Some first)) outer around seen s o =
      finished_with (list (Some first)) outer around seen (closes_block (codes "ol")) s (list_end true) refl o (after_line s.output (codes "</ol"))
      (list_ends addresses (open_in s outer) true)
  ends item outer around seen s o =
      finished_with item outer around seen (closes_block (codes "li")) s (codes "</li>\n") refl o (after_line s.output (codes "</li"))
      (close_line addresses (open_in s outer) (codes "li"))
  ends (table columns) outer around seen s o = table_ends columns outer around seen s o
  ends table_head outer around seen s o =
      finished_with table_head outer around seen (closes_block (codes "tr") ++ closes_block (codes "thead")) s head_end refl o
      (after_line s.output (codes "</tr>\n</thead")) (head_end_step addresses (open_in s outer))
  ends table_row outer around seen s o =
      finished_with table_row outer around seen (closes_block (codes "tr")) s (codes "</tr>\n") refl o (after_line s.output (codes "</tr"))
      (close_line addresses (open_in s outer) (codes "tr"))
  ends table_cell outer around seen s o =
      subst (λ is_head. Outside outer (around_with around 0 false) (seen ++ closes_block (cell_name is_head)) (written (cell_end s.is_head) s)) (sym o.head)
      (finished_with table_cell outer around seen (closes_block (cell_name s.is_head)) s (cell_end s.is_head) refl o
      (after_line s.output (codes "</" ++ cell_name s.is_head)) (cell_end_step addresses (open_in s outer) s.is_head))
  ends emphasis outer around seen s o =
      finished_with emphasis outer around seen (closes (codes "em") ∷ []) s (codes "</em>") refl o (after_tag s.output (codes "</em"))
      (close_step addresses (open_in s outer) (codes "em"))
  ends strong outer around seen s o =
      finished_with strong outer around seen (closes (codes "strong") ∷ []) s (codes "</strong>") refl o (after_tag s.output (codes "</strong"))
      (close_step addresses (open_in s outer) (codes "strong"))
  ends strikethrough outer around seen s o =
      finished_with strikethrough outer around seen (closes (codes "del") ∷ []) s (codes "</del>") refl o (after_tag s.output (codes "</del"))
      (close_step addresses (open_in s outer) (codes "del"))
  ends superscript outer around seen s o =
      finished_with superscript outer around seen (closes (codes "sup") ∷ []) s (codes "</sup>") refl o (after_tag s.output (codes "</sup"))
      (close_step addresses (open_in s outer) (codes "sup"))
  ends subscript outer around seen s o =
      finished_with subscript outer around seen (closes (codes "sub") ∷ []) s (codes "</sub>") refl o (after_tag s.output (codes "</sub"))
      (close_step addresses (open_in s outer) (codes "sub"))
  ends (link kind to title label) outer around seen s o = record {
    links = ap (drop 1) o.links;
    count = ap outer_of o.count;
    head = o.head;
    body = o.body;
    begun = after_tag s.output (codes "</a");
    lead = both_read addresses [] (codes "a" ∷ open_in s outer) (open_in s outer) s.output (codes "</a>") seen (closes (codes "a") ∷ []) o.lead
        (close_step addresses (open_in s outer) (codes "a"));
  }
  ends (image kind to title label) outer around seen s o = left_open (image kind to title label) outer around seen s refl o refl
  ends (footnote_definition label) outer around seen s o = left_open (footnote_definition label) outer around seen s refl o refl
  ends definition_list outer around seen s o = left_open definition_list outer around seen s refl o refl
  ends definition_list_title outer around seen s o = left_open definition_list_title outer around seen s refl o refl
  ends definition_list_definition outer around seen s o = left_open definition_list_definition outer around seen s refl o refl
  ends (metadata_block kind) outer around seen s o = left_open (metadata_block kind) outer around seen s refl o refl
