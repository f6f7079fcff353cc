-- What is read where an element starts outside of images.
use Rattle.std.proofs.Common.{ℕ, suc, ◌≡◌, Bool, true, false, List, [], ◌∷◌, ◌++◌, Some, None, length, map, refl, sym, ap, ◌∙◌, append_assoc}
use Rattle.std.proofs.Common.{append-nil, subst}
use Rattle.std.specs.Prelude.{codes}
use Rattle.markdown_values.specs.declared.values.Alignment.{Alignment}
use Rattle.markdown_values.specs.declared.values.LinkType.{LinkType}
use Rattle.markdown_values.specs.values.Events.{start}
use Rattle.markdown_values.specs.values.Tags.{paragraph, heading, block_quote, code_block, html_block, list, item, footnote_definition}
use Rattle.markdown_values.specs.values.Tags.{definition_list, definition_list_title, definition_list_definition, table, table_head, table_row}
use Rattle.markdown_values.specs.values.Tags.{table_cell, emphasis, strong, strikethrough, superscript, subscript, link, image, metadata_block}
use Rattle.markdown_values.specs.values.Headings.{heading_name}
use Rattle.markdown_html.specs.Blocks.{cell_name, cell_align, heading_start, code_start, list_start, row_start}
use Rattle.markdown_html.specs.Content.{Around, items_of, around_in, begun_after, body_start, is_numbered, list_name}
use Rattle.markdown_html.specs.Html.{started}
use Rattle.markdown_html.specs.Inlines.{target, address, link_tag, rel_attribute, title_attribute, before_image, after_image}
use Rattle.markdown_events.specs.Nesting.{Tag, MayStart}
use Rattle.markdown_html.specs.ReadHtml.{Item, byte, opens, closes, edge}
use Rattle.markdown_html.specs.SafeHtml.{read_after}
use Rattle.markdown_html.specs.Settings.{Setting}
use Rattle.markdown_html.specs.States.{HtmlState, ended_line, on_line, written}
use Rattle.markdown_html.proofs.BegunLemmas.{is_text_begun_after, after_tag, after_line, after_ended_line, later_begun, image_starts_begun}
use Rattle.markdown_html.proofs.BegunLemmas.{code_begun, list_begun}
use Rattle.markdown_html.proofs.ReadSteps.{Reading, both_read, open_step, open_line, heading_step, code_step, list_step, table_elements, head_step}
use Rattle.markdown_html.proofs.ReadSteps.{image_whole, on_line_leads, row_step, cell_step, link_step}
use Rattle.markdown_html.proofs.ReadTags.{elements_of, same_outside, StandWell, is_link, plain_links}
use Rattle.markdown_html.proofs.ReadStanding.{Outside as OutsideIn, Standing as StandingIn, names_in as names_of, outside, inside, open_in, around_with}

module _ (addresses : List ℕ → Bool) (setting : Setting) (are_addresses : (to : List ℕ) → addresses (address setting to) ≡ true) where
  abbrev names_in : ℕ → List (List ℕ)
  names_in = names_of addresses setting

  abbrev Outside : List Tag → Around → List Item → HtmlState → Type 0
  Outside = OutsideIn addresses setting

  abbrev Standing : List Tag → Around → List Item → HtmlState → Type 0
  Standing = StandingIn addresses setting

  -- ---- starts

  begun_on_line : (tag : Tag) (tags : List Tag) (around : Around) (seen here : List Item) (s : HtmlState) (more : List ℕ) → is_link tag ≡ false
      → Outside tags around seen s → begun_after false here ≡ is_text_begun_after (ended_line s.output ++ more)
      → Reading addresses (open_in s tags) more here (open_in s (tag ∷ tags))
      → Outside (tag ∷ tags) (around_with around 0 (begun_after false here)) (seen ++ edge ∷ here) (on_line more s)
  begun_on_line tag tags around seen here s more other o ends step = record {
    links = rw other o.links;
    count = rw other o.count;
    head = o.head;
    body = o.body;
    begun = ends;
    lead = on_line_leads addresses (open_in s tags) (open_in s (tag ∷ tags)) s.output more seen here o.lead step;
  }

  begun_in_line : (tag : Tag) (tags : List Tag) (around : Around) (seen here : List Item) (s : HtmlState) (more : List ℕ) → is_link tag ≡ false
      → Outside tags around seen s → begun_after around.is_begun here ≡ is_text_begun_after (s.output ++ more)
      → Reading addresses (open_in s tags) more here (open_in s (tag ∷ tags))
      → Outside (tag ∷ tags) (around_with around 0 (begun_after around.is_begun here)) (seen ++ here) (written more s)
  begun_in_line tag tags around seen here s more other o ends step = record {
    links = rw other o.links;
    count = rw other o.count;
    head = o.head;
    body = o.body;
    begun = ends;
    lead = both_read addresses [] (open_in s tags) (open_in s (tag ∷ tags)) s.output more seen here o.lead step;
  }

  unwritten : (tag : Tag) (tags : List Tag) (around : Around) (seen : List Item) (s : HtmlState) → is_link tag ≡ false → Outside tags around seen s
      → open_in s tags ≡ open_in s (tag ∷ tags) → Outside (tag ∷ tags) (around_with around 0 around.is_begun) (seen ++ []) s
  unwritten tag tags around seen s other o same = record {
    links = rw other o.links;
    count = rw other o.count;
    head = o.head;
    body = o.body;
    begun = o.begun;
    lead = subst (λ it. Reading addresses [] s.output it (open_in s (tag ∷ tags))) (sym (append-nil seen))
        (subst (λ to. Reading addresses [] s.output seen to) same o.lead);
  }

  abbrev pub Starts : Tag → List Tag → Around → List Item → HtmlState → Type 0
  Starts tag tags around seen s =
      Standing (tag ∷ tags) (around_in 0 setting around (start tag)) (seen ++ items_of setting around (start tag)) (started setting tag s)

  table_starts : (columns : List Alignment) (tags : List Tag) (around : Around) (seen : List Item) (s : HtmlState) → MayStart (table columns) tags
      → Outside tags around seen s → Starts (table columns) tags around seen s
  table_starts columns tags around seen s may o = outside refl (record {
    links = o.links;
    count = o.count;
    head = o.head;
    body = refl;
    begun = after_line (ended_line s.output) (codes "<table");
    lead = on_line_leads addresses (elements_of false s.is_head tags) (codes "table" ∷ elements_of false s.is_head tags) s.output (codes "<table>\n") seen
        (opens (codes "table") ∷ edge ∷ [])
        (subst (λ to. Reading addresses [] s.output seen to) (same_outside tags s.has_body s.is_head false s.is_head may) o.lead)
        (open_line addresses (elements_of false s.is_head tags) (codes "table") refl refl);
  })

  -- the same in the table, whatever is a head
  head_starts : (columns : List Alignment) (rest : List Tag) (around : Around) (seen : List Item) (s : HtmlState) → MayStart (table columns) rest
      → Outside (table columns ∷ rest) around seen s → Starts table_head (table columns ∷ rest) around seen s
  head_starts columns rest around seen s may o = outside refl (record {
    links = o.links;
    count = o.count;
    head = refl;
    body = o.body;
    begun = after_line (ended_line s.output) (codes "<thead>\n<tr");
    lead = on_line_leads addresses (table_elements s.has_body ++ elements_of s.has_body true rest)
        (codes "tr" ∷ codes "thead" ∷ (table_elements s.has_body ++ elements_of s.has_body true rest)) s.output (codes "<thead>\n<tr>\n") seen
        (opens (codes "thead") ∷ edge ∷ opens (codes "tr") ∷ edge ∷ [])
        (subst (λ to. Reading addresses [] s.output seen (table_elements s.has_body ++ to))
        (same_outside rest s.has_body s.is_head s.has_body true may) o.lead)
        (head_step addresses (table_elements s.has_body ++ elements_of s.has_body true rest));
  })

  row_starts : (columns : List Alignment) (rest : List Tag) (around : Around) (seen : List Item) (s : HtmlState) → MayStart (table columns) rest
      → Outside (table columns ∷ rest) around seen s → Starts table_row (table columns ∷ rest) around seen s
  row_starts columns rest around seen s may o = outside refl (record {
    links = o.links;
    count = o.count;
    head = refl;
    body = refl;
    begun = row_begun around.has_body s.has_body o.body (ended_line s.output);
    lead = subst (λ has_body. Reading addresses [] (ended_line s.output ++ row_start s.has_body)
        (seen ++ edge ∷ (body_start has_body ++ opens (codes "tr") ∷ edge ∷ []))
        (codes "tr" ∷ codes "tbody" ∷ codes "table" ∷ elements_of true false rest)) (sym o.body)
        (on_line_leads addresses (table_elements s.has_body ++ elements_of true false rest)
        (codes "tr" ∷ codes "tbody" ∷ codes "table" ∷ elements_of true false rest) s.output (row_start s.has_body) seen
        (body_start s.has_body ++ opens (codes "tr") ∷ edge ∷ [])
        (subst (λ to. Reading addresses [] s.output seen (table_elements s.has_body ++ to))
        (same_outside rest s.has_body s.is_head true false may) o.lead)
        (row_step addresses (elements_of true false rest) s.has_body));
  })
    where
      row_begun : (has_body has_body' : Bool) → has_body ≡ has_body' → (xs : List ℕ)
          → begun_after false (body_start has_body ++ opens (codes "tr") ∷ edge ∷ []) ≡ is_text_begun_after (xs ++ row_start has_body')
      row_begun has_body true same xs = later_begun false (body_start has_body) (opens (codes "tr")) (edge ∷ []) ∙ after_line xs (codes "<tr")
      row_begun has_body false same xs =
          later_begun false (body_start has_body) (opens (codes "tr")) (edge ∷ []) ∙ after_line xs (codes "<tbody>\n<tr")

  image_starts : (kind : LinkType) (to title label : List ℕ) (tags : List Tag) (around : Around) (seen : List Item) (s : HtmlState)
      → Outside tags around seen s → Starts (image kind to title label) tags around seen s
  image_starts kind to title label tags around seen s o =
      inside [] (image kind to title label) title tags refl (kind, to, label, refl) refl (record {
        links = ap (λ links. Some title ∷ links) o.links;
        count = o.count;
        head = o.head;
        body = o.body;
        begun = λ none. rw (o.links, o.count)
            (image_starts_begun setting setting.images_as_links (target kind to) title (plain_links tags) around.is_begun s.output refl o.begun
            (subst (λ links. names_in links ≡ []) o.count none));
        lead = λ items more rest textual safe.
            rw (
              append_assoc s.output (before_image setting (target kind to) title s.links)
                  (more ++ (after_image setting title (plain_links tags) ++ rest)),
              append_assoc seen (map opens (names_in around.links))
                  (map byte (read_after 0 more) ++ (map closes (names_in around.links) ++ items)),
              o.links,
              o.count,
            )
            (o.lead (map opens (names_in (length (plain_links tags)))
            ++ (map byte (read_after 0 more) ++ (map closes (names_in (length (plain_links tags))) ++ items)))
            (before_image setting (target kind to) title (plain_links tags) ++ (more ++ (after_image setting title (plain_links tags) ++ rest)))
            (image_whole addresses setting are_addresses setting.images_as_links items (open_in s tags) (target kind to) title (plain_links tags)
            more rest refl textual safe));
      })

  -- an element that starts outside of images
  pub starts : (tag : Tag) (tags : List Tag) (around : Around) (seen : List Item) (s : HtmlState) → MayStart tag tags → StandWell tags
      → Outside tags around seen s → Starts tag tags around seen s
  starts paragraph tags around seen s may well o =
      outside refl (begun_on_line paragraph tags around seen (opens (codes "p") ∷ []) s (codes "<p>") refl o
      (after_tag (ended_line s.output) (codes "<p")) (open_step addresses (open_in s tags) (codes "p") refl refl))
  starts (heading level id classes attributes) tags around seen s may well o =
      outside refl (begun_on_line (heading level id classes attributes) tags around seen (opens (heading_name level) ∷ []) s (heading_start level) refl o
      (after_tag (ended_line s.output) (codes "<" ++ heading_name level)) (heading_step addresses (open_in s tags) level))
  starts (block_quote kind) tags around seen s may well o =
      outside refl (begun_on_line (block_quote kind) tags around seen (opens (codes "blockquote") ∷ edge ∷ []) s (codes "<blockquote>\n") refl o
      (after_line (ended_line s.output) (codes "<blockquote")) (open_line addresses (open_in s tags) (codes "blockquote") refl refl))
  starts (code_block info) tags around seen s may well o =
      outside refl (begun_on_line (code_block info) tags around seen (opens (codes "pre") ∷ opens (codes "code") ∷ []) s (code_start info) refl o
      (code_begun (ended_line s.output) info) (code_step addresses (open_in s tags) info))
  starts html_block tags around seen s may well o =
      outside refl (begun_on_line html_block tags around seen [] s [] refl o
      (sym (ap is_text_begun_after (append-nil (ended_line s.output)) ∙ after_ended_line s.output)) (λ items rest safe. safe))
  starts (list first) tags around seen s may well o =
      outside refl (begun_on_line (list first) tags around seen (opens (list_name (is_numbered first)) ∷ edge ∷ []) s (list_start first) refl o
      (list_begun (ended_line s.output) first) (list_step addresses (open_in s tags) first))
  starts item tags around seen s may well o =
      outside refl (begun_on_line item tags around seen (opens (codes "li") ∷ []) s (codes "<li>") refl o
      (after_tag (ended_line s.output) (codes "<li")) (open_step addresses (open_in s tags) (codes "li") refl refl))
  starts (table columns) tags around seen s may well o = table_starts columns tags around seen s may o
  starts table_head tags around seen s (columns, rest, is) well o =
      subst (λ it. StandWell it → Outside it around seen s → Starts table_head it around seen s) (sym is)
      (λ well o. head_starts columns rest around seen s well.0 o) well o
  starts table_row tags around seen s (columns, rest, is) well o =
      subst (λ it. StandWell it → Outside it around seen s → Starts table_row it around seen s) (sym is)
      (λ well o. row_starts columns rest around seen s well.0 o) well o
  starts table_cell tags around seen s may well o = outside refl (record {
    links = o.links;
    count = o.count;
    head = o.head;
    body = o.body;
    begun = after_tag s.output (codes "<" ++ cell_name s.is_head ++ cell_align s.cells);
    lead = subst (λ is_head. Reading addresses [] (s.output ++ (codes "<" ++ cell_name s.is_head ++ cell_align s.cells ++ codes ">"))
        (seen ++ opens (cell_name is_head) ∷ []) (cell_name s.is_head ∷ open_in s tags)) (sym o.head)
        (both_read addresses [] (open_in s tags) (cell_name s.is_head ∷ open_in s tags) s.output
        (codes "<" ++ cell_name s.is_head ++ cell_align s.cells ++ codes ">") seen (opens (cell_name s.is_head) ∷ []) o.lead
        (cell_step addresses (open_in s tags) s.is_head s.cells));
  })
  starts emphasis tags around seen s may well o =
      outside refl (begun_in_line emphasis tags around seen (opens (codes "em") ∷ []) s (codes "<em>") refl o
      (after_tag s.output (codes "<em")) (open_step addresses (open_in s tags) (codes "em") refl refl))
  starts strong tags around seen s may well o =
      outside refl (begun_in_line strong tags around seen (opens (codes "strong") ∷ []) s (codes "<strong>") refl o
      (after_tag s.output (codes "<strong")) (open_step addresses (open_in s tags) (codes "strong") refl refl))
  starts strikethrough tags around seen s may well o =
      outside refl (begun_in_line strikethrough tags around seen (opens (codes "del") ∷ []) s (codes "<del>") refl o
      (after_tag s.output (codes "<del")) (open_step addresses (open_in s tags) (codes "del") refl refl))
  starts superscript tags around seen s may well o =
      outside refl (begun_in_line superscript tags around seen (opens (codes "sup") ∷ []) s (codes "<sup>") refl o
      (after_tag s.output (codes "<sup")) (open_step addresses (open_in s tags) (codes "sup") refl refl))
  starts subscript tags around seen s may well o =
      outside refl (begun_in_line subscript tags around seen (opens (codes "sub") ∷ []) s (codes "<sub>") refl o
      (after_tag s.output (codes "<sub")) (open_step addresses (open_in s tags) (codes "sub") refl refl))
  starts (link kind to title label) tags around seen s may well o = outside refl (record {
    links = ap (λ links. None ∷ links) o.links;
    count = ap suc o.count;
    head = o.head;
    body = o.body;
    begun = after_tag s.output (link_front (target kind to) title);
    lead = both_read addresses [] (open_in s tags) (codes "a" ∷ open_in s tags) s.output (link_tag setting (target kind to) title) seen
        (opens (codes "a") ∷ []) o.lead
        (link_step addresses (open_in s tags) (address setting (target kind to)) title setting.rel (are_addresses (target kind to)));
  })
    where
      link_front : List ℕ → List ℕ → List ℕ
      link_front to title = codes "<a href=\"" ++ address setting to ++ codes "\"" ++ title_attribute title ++ rel_attribute setting.rel
  starts (image kind to title label) tags around seen s may well o = image_starts kind to title label tags around seen s o
  starts (footnote_definition label) tags around seen s may well o = outside refl (unwritten (footnote_definition label) tags around seen s refl o refl)
  starts definition_list tags around seen s may well o = outside refl (unwritten definition_list tags around seen s refl o refl)
  starts definition_list_title tags around seen s may well o = outside refl (unwritten definition_list_title tags around seen s refl o refl)
  starts definition_list_definition tags around seen s may well o = outside refl (unwritten definition_list_definition tags around seen s refl o refl)
  starts (metadata_block kind) tags around seen s may well o = outside refl (unwritten (metadata_block kind) tags around seen s refl o refl)
