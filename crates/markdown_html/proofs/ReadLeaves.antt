-- What is read of an event that neither starts nor ends an element, and of what an image holds.
use Rattle.std.proofs.Common.{ℕ, ◌≡◌, Bool, true, false, List, [], ◌∷◌, ◌++◌, Some, None, length, map, refl, sym, ap, ◌∙◌, append_assoc, append-nil}
use Rattle.std.proofs.Common.{subst}
use Rattle.std.specs.Prelude.{codes}
use Rattle.markdown_values.specs.values.Events.{start, end, hard_break, rule, task_list_marker}
use Rattle.markdown_values.specs.values.Tags.{list, image}
use Rattle.markdown_scanners_tree.specs.Ascii.{line_feed, space}
use Rattle.markdown_html.specs.declared.setting.RawHtml.{RawHtml}
use Rattle.markdown_html.specs.declared.setting.RawHtml.TheVariants.{Kept, Escaped, LeftOut}
use Rattle.markdown_html.specs.Blocks.{task_box}
use Rattle.markdown_html.specs.Content.{Around, items_of, raw_items, raw_text_items, begun_after, closes_block}
use Rattle.markdown_html.specs.Escapes.{escaped}
use Rattle.markdown_html.specs.Html.{with_text_of}
use Rattle.markdown_html.specs.Inlines.{raw_html, raw_text, after_image, code_element, image_ended}
use Rattle.markdown_events.specs.Nesting.{Tag}
use Rattle.markdown_html.specs.ReadHtml.{Item, byte, opens, closes, ReadsIn}
use Rattle.markdown_html.specs.SafeHtml.{is_text, read_after}
use Rattle.markdown_html.specs.Settings.{Setting}
use Rattle.markdown_html.specs.States.{HtmlState, ended_line, on_line, written}
use Rattle.markdown_events.specs.TagEnds.{tag_end}
use Rattle.markdown_html.proofs.BegunLemmas.{is_text_begun_after, after_tag, after_line, later_begun, escaped_begun, raw_begun, ends_with}
use Rattle.markdown_html.proofs.BegunLemmas.{image_ends_begun}
use Rattle.markdown_html.proofs.EscapeLaws.{read_before}
use Rattle.markdown_html.proofs.SafeLemmas.{escaped_is_text}
use Rattle.markdown_html.proofs.ReadSteps.{Reading, both_read, escaped_step, task_step, items_joined, code_step_of, raw_step, soft_step, hard_step}
use Rattle.markdown_html.proofs.ReadSteps.{rule_step, on_line_leads}
use Rattle.markdown_html.proofs.ReadTags.{plain_links, image_links, outside_links, inside_links}
use Rattle.markdown_html.proofs.ReadStanding.{Outside as OutsideIn, Inside as InsideIn, names_in as names_of, open_in, around_with}

module _ (addresses : List ℕ → Bool) (setting : Setting) where
  abbrev names_in : ℕ → List (List ℕ)
  names_in = names_of addresses setting

  abbrev Outside : List Tag → Around → List Item → HtmlState → Type 0
  Outside = OutsideIn addresses setting

  abbrev Inside : List Tag → List ℕ → List Tag → Around → List Item → HtmlState → Type 0
  Inside = InsideIn addresses setting

  -- ---- what holds no others, outside of images

  added : (tags : List Tag) (around : Around) (seen here : List Item) (s : HtmlState) (more : List ℕ) → Outside tags around seen s
      → begun_after around.is_begun here ≡ is_text_begun_after (s.output ++ more) → Reading addresses (open_in s tags) more here (open_in s tags)
      → Outside tags (around_with around 0 (begun_after around.is_begun here)) (seen ++ here) (written more s)
  added tags around seen here s more o ends step = record {
    links = o.links;
    count = o.count;
    head = o.head;
    body = o.body;
    begun = ends;
    lead = both_read addresses [] (open_in s tags) (open_in s tags) s.output more seen here o.lead step;
  }

  pub words_added : (tags : List Tag) (around : Around) (seen : List Item) (s : HtmlState) (words : List ℕ) → Outside tags around seen s
      → Outside tags (around_with around 0 (begun_after around.is_begun (map byte words))) (seen ++ map byte words) (written (escaped words) s)
  words_added tags around seen s words o =
      added tags around seen (map byte words) s (escaped words) o
      (ap (λ it. begun_after it (map byte words)) o.begun ∙ escaped_begun s.output words) (escaped_step addresses (open_in s tags) words)

  pub raw_added : (tags : List Tag) (around : Around) (seen : List Item) (s : HtmlState) (words : List ℕ) → Outside tags around seen s
      → Outside tags (around_with around 0 (begun_after around.is_begun (raw_items setting.raw words))) (seen ++ raw_items setting.raw words)
      (written (raw_html setting.raw words) s)
  raw_added tags around seen s words o =
      added tags around seen (raw_items setting.raw words) s (raw_html setting.raw words) o
      (ap (λ it. begun_after it (raw_items setting.raw words)) o.begun ∙ raw_begun setting.raw s.output words)
      (raw_step addresses setting.raw (open_in s tags) words)

  abbrev code_items : List ℕ → List Item
  code_items words = opens (codes "code") ∷ (map byte words ++ closes (codes "code") ∷ [])

  pub code_added : (tags : List Tag) (around : Around) (seen : List Item) (s : HtmlState) (words : List ℕ) → Outside tags around seen s
      → Outside tags (around_with around 0 (begun_after around.is_begun (code_items words))) (seen ++ code_items words) (written (code_element words) s)
  code_added tags around seen s words o =
      added tags around seen (code_items words) s (code_element words) o
      (later_begun false (map byte words) (closes (codes "code")) [] ∙ after_tag s.output ((codes "<code>" ++ escaped words) ++ codes "</code")
      ∙ ap (λ it. is_text_begun_after (s.output ++ it)) (append_assoc (codes "<code>" ++ escaped words) (codes "</code") (codes ">")))
      (code_step_of addresses (open_in s tags) words)

  pub rule_added : (tags : List Tag) (around : Around) (seen : List Item) (s : HtmlState) → Outside tags around seen s
      → Outside tags (around_with around 0 false) (seen ++ items_of setting around rule) (on_line (codes "<hr />\n") s)
  rule_added tags around seen s o = record {
    links = o.links;
    count = o.count;
    head = o.head;
    body = o.body;
    begun = after_line (ended_line s.output) (codes "<hr /");
    lead = on_line_leads addresses (open_in s tags) (open_in s tags) s.output (codes "<hr />\n") seen (opens (codes "hr") ∷ closes_block (codes "hr"))
        o.lead (rule_step addresses (open_in s tags));
  }

  pub soft_added : (tags : List Tag) (around : Around) (seen : List Item) (s : HtmlState) → Outside tags around seen s
      → Outside tags (around_with around 0 false) (seen ++ byte line_feed ∷ []) (written (codes "\n") s)
  soft_added tags around seen s o =
      added tags around seen (byte line_feed ∷ []) s (codes "\n") o (escaped_begun s.output (codes "\n")) (soft_step addresses (open_in s tags))

  pub hard_added : (tags : List Tag) (around : Around) (seen : List Item) (s : HtmlState) → Outside tags around seen s
      → Outside tags (around_with around 0 false) (seen ++ items_of setting around hard_break) (written (codes "<br />\n") s)
  hard_added tags around seen s o =
      added tags around seen (items_of setting around hard_break) s (codes "<br />\n") o (after_line s.output (codes "<br /"))
      (hard_step addresses (open_in s tags))

  pub task_added : (tags : List Tag) (around : Around) (seen : List Item) (s : HtmlState) (is_checked : Bool) → Outside tags around seen s
      → Outside tags (around_with around 0 true) (seen ++ items_of setting around (task_list_marker is_checked)) (written (task_box is_checked) s)
  task_added tags around seen s is_checked o =
      added tags around seen (items_of setting around (task_list_marker is_checked)) s (task_box is_checked) o (box_begun is_checked)
      (task_step addresses (open_in s tags) is_checked)
    where
      box_begun : (is_checked : Bool) → true ≡ is_text_begun_after (s.output ++ task_box is_checked)
      box_begun true = sym (ends_with s.output (codes "<input checked=\"\" disabled=\"\" type=\"checkbox\">") 32)
      box_begun false = sym (ends_with s.output (codes "<input disabled=\"\" type=\"checkbox\">") 32)

  -- ---- in images

  -- with a text that is read as this one
  grown : (inner : List Tag) (title : List ℕ) (outer : List Tag) (around : Around) (images : ℕ) (seen : List Item) (s : HtmlState)
      (words here : List ℕ) → ((more : List ℕ) → is_text more ≡ true → is_text (words ++ more) ≡ true)
      → ((more : List ℕ) → read_after 0 (words ++ more) ≡ here ++ read_after 0 more)
      → begun_after (is_text_begun_after s.output) (map byte here) ≡ is_text_begun_after (s.output ++ words)
      → Inside inner title outer around seen s
      → Inside inner title outer (around_with around images (begun_after around.is_begun (map byte here))) (seen ++ map byte here) (written words s)
  grown inner title outer around images seen s words here textual reads ends i = record {
    links = i.links;
    count = i.count;
    head = i.head;
    body = i.body;
    begun = λ none. ap (λ it. begun_after it (map byte here)) (i.begun none) ∙ ends;
    lead = λ items more rest more_text safe.
        rw (
          append_assoc s.output words (more ++ (after_image setting title (plain_links outer) ++ rest)),
          ← append_assoc words more (after_image setting title (plain_links outer) ++ rest),
        )
        (subst (λ read. ReadsIn addresses [] read (s.output ++ ((words ++ more) ++ (after_image setting title (plain_links outer) ++ rest))))
        (ap (λ text. seen ++ (map byte text ++ (map closes (names_in around.links) ++ items))) (reads more)
        ∙ items_joined seen here (read_after 0 more) (map closes (names_in around.links) ++ items))
        (i.lead items (words ++ more) rest (textual more more_text) safe));
  }

  pub grown_text : (inner : List Tag) (title : List ℕ) (outer : List Tag) (around : Around) (images : ℕ) (seen : List Item) (s : HtmlState) (words : List ℕ)
      → Inside inner title outer around seen s
      → Inside inner title outer (around_with around images (begun_after around.is_begun (map byte words))) (seen ++ map byte words) (written (escaped words) s)
  grown_text inner title outer around images seen s words i =
      grown inner title outer around images seen s (escaped words) words (escaped_is_text words) (read_before words) (escaped_begun s.output words) i

  pub grown_raw : (choice : RawHtml) (inner : List Tag) (title : List ℕ) (outer : List Tag) (around : Around) (images : ℕ) (seen : List Item) (s : HtmlState)
      (words : List ℕ) → Inside inner title outer around seen s
      → Inside inner title outer (around_with around images (begun_after around.is_begun (raw_text_items choice words))) (seen ++ raw_text_items choice words)
      (written (raw_text choice words) s)
  grown_raw Kept inner title outer around images seen s words i = grown_text inner title outer around images seen s words i
  grown_raw Escaped inner title outer around images seen s words i = grown_text inner title outer around images seen s words i
  grown_raw LeftOut inner title outer around images seen s words i = grown_text inner title outer around images seen s [] i

  pub grown_space : (inner : List Tag) (title : List ℕ) (outer : List Tag) (around : Around) (images : ℕ) (seen : List Item) (s : HtmlState)
      → Inside inner title outer around seen s → Inside inner title outer (around_with around images true) (seen ++ byte space ∷ []) (written (codes " ") s)
  grown_space inner title outer around images seen s i = grown_text inner title outer around images seen s (codes " ") i

  -- the same state, of which nothing is read
  pub unread_inside : (inner inner' : List Tag) (title : List ℕ) (outer : List Tag) (around : Around) (images : ℕ) (seen : List Item) (s s' : HtmlState)
      → Inside inner title outer around seen s → s'.links ≡ image_links inner' (Some title ∷ plain_links outer)
      → s ≡ record s' { links = s.links } → Inside inner' title outer (around_with around images around.is_begun) (seen ++ []) s'
  unread_inside inner inner' title outer around images seen s s' i linked same =
      subst (λ it. Inside inner' title outer (around_with around images around.is_begun) it s') (sym (append-nil seen)) (record {
        links = linked;
        count = i.count;
        head = i.head ∙ ap (λ (t : HtmlState). t.is_head) same;
        body = i.body ∙ ap (λ (t : HtmlState). t.has_body) same;
        begun = λ none. i.begun none ∙ ap (λ (t : HtmlState). is_text_begun_after t.output) same;
        lead = subst (λ (t : HtmlState). (items : List Item) (more rest : List ℕ) → is_text more ≡ true → ReadsIn addresses (open_in t outer) items rest
            → ReadsIn addresses [] (seen ++ (map byte (read_after 0 more) ++ (map closes (names_in around.links) ++ items)))
            (t.output ++ (more ++ (after_image setting title (plain_links outer) ++ rest)))) same i.lead;
      })

  pub inside_starts : (tag : Tag) (inner : List Tag) (title : List ℕ) (outer : List Tag) (around : Around) (images : ℕ) (seen : List Item) (s : HtmlState)
      → Inside inner title outer around seen s
      → Inside (tag ∷ inner) title outer (around_with around images around.is_begun) (seen ++ []) (with_text_of setting (start tag) s)
  inside_starts (image kind to words label) inner title outer around images seen s i =
      unread_inside inner (image kind to words label ∷ inner) title outer around images seen s _ i (ap (λ links. Some words ∷ links) i.links) refl
  inside_starts tag inner title outer around images seen s i = unread_inside inner (tag ∷ inner) title outer around images seen s s i i.links refl

  -- the outermost image ends
  pub image_ends : (title : List ℕ) (outer : List Tag) (around : Around) (seen : List Item) (s : HtmlState) → Inside [] title outer around seen s
      → Outside outer (around_with around 0 (begun_after around.is_begun (map closes (names_in around.links)))) (seen ++ map closes (names_in around.links))
      (image_ended setting s.links s)
  image_ends title outer around seen s i =
      subst (λ links. Outside outer (around_with around 0 (begun_after around.is_begun (map closes (names_in around.links))))
      (seen ++ map closes (names_in around.links)) (image_ended setting links s)) (sym i.links) (record {
        links = refl;
        count = i.count;
        head = i.head;
        body = i.body;
        begun = rw (outside_links outer) (image_begun around.links i.count i.begun);
        lead = λ items rest safe.
            rw (
              outside_links outer,
              append_assoc s.output (after_image setting title (plain_links outer)) rest,
              append_assoc seen (map closes (names_in around.links)) items,
            )
            (i.lead items [] rest refl safe);
      })
    where
      image_begun : (links : ℕ) → links ≡ length (plain_links outer)
          → (names_in links ≡ [] → around.is_begun ≡ is_text_begun_after s.output)
          → begun_after around.is_begun (map closes (names_in links))
          ≡ is_text_begun_after (s.output ++ after_image setting title (plain_links outer))
      image_begun links count same =
          subst (λ n. (names_in n ≡ [] → around.is_begun ≡ is_text_begun_after s.output) → begun_after around.is_begun (map closes (names_in n))
          ≡ is_text_begun_after (s.output ++ after_image setting title (plain_links outer))) (sym count)
          (λ same. image_ends_begun setting setting.images_as_links title (plain_links outer) around.is_begun s.output refl same) same

  pub inside_ends : (tag : Tag) (inner : List Tag) (title : List ℕ) (outer : List Tag) (around : Around) (images : ℕ) (seen : List Item) (s : HtmlState)
      → Inside (tag ∷ inner) title outer around seen s
      → Inside inner title outer (around_with around images around.is_begun) (seen ++ []) (with_text_of setting (end (tag_end tag)) s)
  inside_ends (image kind to words label) inner title outer around images seen s i =
      subst (λ links. Inside inner title outer (around_with around images around.is_begun) (seen ++ []) (image_ended setting links s)) (sym i.links)
      (rw (inside_links inner title (plain_links outer), append-nil s.output)
      (unread_inside (image kind to words label ∷ inner) inner title outer around images seen s _ i refl refl))
  inside_ends (list None) inner title outer around images seen s i = unread_inside (list None ∷ inner) inner title outer around images seen s s i i.links refl
  inside_ends (list (Some first)) inner title outer around images seen s i =
      unread_inside (list (Some first) ∷ inner) inner title outer around images seen s s i i.links refl
  inside_ends tag inner title outer around images seen s i = unread_inside (tag ∷ inner) inner title outer around images seen s s i i.links refl
