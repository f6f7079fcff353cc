-- What is read of the HTML of nested events: what each event writes goes from the elements that are open before it to those that are open
-- after it, and what is read of it is what the event holds.
use Rattle.std.proofs.Common.{ℕ, suc, ◌≡◌, Bool, true, List, [], ◌∷◌, ◌++◌, Some, None, drop, refl, sym, ap, ◌∙◌, append_assoc, append-nil, subst}
use Rattle.markdown_values.specs.values.Events.{EventView, start, end, text, code, inline_math, display_math, html, inline_html, footnote_reference}
use Rattle.markdown_values.specs.values.Events.{soft_break, hard_break, rule, task_list_marker}
use Rattle.markdown_values.specs.values.Tags.{list, image}
use Rattle.markdown_values.specs.declared.values.tags.TagEnd.TheVariants as End
use Rattle.markdown_html.specs.Content.{Around, at_start, content, content_in, event_items, event_items_in, items_of, text_items_of, around_in}
use Rattle.markdown_html.specs.Content.{around_after, begun_after, images_after}
use Rattle.markdown_html.specs.Html.{ended, with_event, with_text_of, after_event, after_events, html_of}
use Rattle.markdown_html.specs.Inlines.{address}
use Rattle.markdown_events.specs.Nesting.{Tag, MayStart, AreNestedIn, AreNested}
use Rattle.markdown_html.specs.ReadHtml.{Item, ReadsIn, at_end}
use Rattle.markdown_html.specs.Settings.{Setting}
use Rattle.markdown_html.specs.States.{HtmlState, nothing_written}
use Rattle.markdown_events.specs.TagEnds.{tag_end}
use Rattle.markdown_html.proofs.ReadTags.{StandWell, first_or, not_empty, images_of, images_start, images_end, no_images_end}
use Rattle.markdown_html.proofs.ReadStanding.{Outside as OutsideIn, Inside as InsideIn, Standing as StandingIn, Next as NextIn, outside, inside}
use Rattle.markdown_html.proofs.ReadStanding.{around_with, is_outside, is_inside}
use Rattle.markdown_html.proofs.ReadStarts.{starts}
use Rattle.markdown_html.proofs.ReadEnds.{ends}
use Rattle.markdown_html.proofs.ReadLeaves.{words_added, raw_added, code_added, rule_added, soft_added, hard_added, task_added, grown_text, grown_raw}
use Rattle.markdown_html.proofs.ReadLeaves.{grown_space, unread_inside, inside_starts, image_ends, inside_ends}

module _ (addresses : List ℕ → Bool) (setting : Setting) (are_addresses : (to : List ℕ) → addresses (address setting to) ≡ true) where
  abbrev Outside : List Tag → Around → List Item → HtmlState → Type 0
  Outside = OutsideIn addresses setting

  abbrev Inside : List Tag → List ℕ → List Tag → Around → List Item → HtmlState → Type 0
  Inside = InsideIn addresses setting

  abbrev Standing : List Tag → Around → List Item → HtmlState → Type 0
  Standing = StandingIn addresses setting

  abbrev Next : ℕ → List Tag → Around → List Item → EventView (List ℕ) → HtmlState → Type 0
  Next = NextIn addresses setting

  after_start : (tag : Tag) (tags : List Tag) (around : Around) (seen : List Item) (s : HtmlState) → MayStart tag tags → StandWell tags
      → Standing tags around seen s → Next around.images (tag ∷ tags) around seen (start tag) s
  after_start tag tags around seen s may well (outside none o) =
      subst (λ n. Next n (tag ∷ tags) around seen (start tag) s) (sym none)
      (rw (is_outside addresses setting tags around seen s o) (starts addresses setting are_addresses tag tags around seen s may well o))
  after_start tag tags around seen s may well (inside inner shown title outer many is_image is i) =
      subst (λ n. Next n (tag ∷ tags) around seen (start tag) s) (sym many)
      (rw (is_inside addresses setting inner title outer around seen s i)
      (inside (tag ∷ inner) shown title outer (images_start tag (suc (images_of inner)) inner refl) is_image (ap (λ it. tag ∷ it) is)
      (inside_starts addresses setting tag inner title outer around (images_after (suc (images_of inner)) (start tag)) seen s i)))

  -- Of an end in an inner image, and of one of what is in an image, nothing is read.
  inside_items_none : (tag : Tag) (inner : List Tag) (around : Around)
      → event_items_in (suc (images_of (tag ∷ inner))) setting around (end (tag_end tag)) ≡ []
  inside_items_none (image kind to title label) inner around = refl
  inside_items_none (list None) inner around = refl
  inside_items_none (list (Some first)) inner around = refl
  inside_items_none tag inner around = refl

  -- the same with these items
  abbrev NextInside : ℕ → List Tag → Around → List Item → List Item → EventView (List ℕ) → HtmlState → Type 0
  NextInside images tags around seen here event s =
      Standing tags (around_with around (images_after images event) (begun_after around.is_begun here)) (seen ++ here) (with_text_of setting event s)

  after_end : (tag : Tag) (outer : List Tag) (around : Around) (seen : List Item) (s : HtmlState) → Standing (tag ∷ outer) around seen s
      → Next around.images outer around seen (end (tag_end tag)) s
  after_end tag outer around seen s (outside none o) =
      subst (λ n. Next n outer around seen (end (tag_end tag)) s) (sym none)
      (rw (is_outside addresses setting (tag ∷ outer) around seen s o) (outside (no_images_end tag 0 refl) (ends addresses setting tag outer around seen s o)))
  after_end tag outer around seen s (inside [] shown title rest many (kind, to, label, is_image) is i) =
      subst (λ n. Next n outer around seen (end (tag_end tag)) s) (sym many)
      (rw (is_inside addresses setting [] title rest around seen s i)
      (subst (λ closer. NextInside 1 outer around seen (text_items_of setting 0 around (end closer)) (end closer) s)
      (sym (ap tag_end (ap (first_or tag) is ∙ is_image)))
      (subst (λ it. NextInside 1 it around seen (text_items_of setting 0 around (end End.Image)) (end End.Image) s) (sym (ap (drop 1) is))
      (outside refl (image_ends addresses setting title rest around seen s i)))))
  after_end tag outer around seen s (inside (innermost ∷ inner) shown title rest many is_image is i) =
      subst (λ n. Next n outer around seen (end (tag_end tag)) s) (sym many)
      (rw (is_inside addresses setting (innermost ∷ inner) title rest around seen s i)
      (subst (λ it. NextInside (suc (images_of (innermost ∷ inner))) outer around seen
      (event_items_in (suc (images_of (innermost ∷ inner))) setting around (end (tag_end it))) (end (tag_end it)) s) (sym (ap (first_or tag) is))
      (subst (λ here. NextInside (suc (images_of (innermost ∷ inner))) outer around seen here (end (tag_end innermost)) s)
      (sym (inside_items_none innermost inner around))
      (inside inner shown title rest (images_end innermost (suc (images_of (innermost ∷ inner))) inner refl) is_image (ap (drop 1) is)
      (inside_ends addresses setting innermost inner title rest around
      (images_after (suc (images_of (innermost ∷ inner))) (end (tag_end innermost))) seen s i)))))

  -- an event that neither starts nor ends an element
  after_leaf : (event : EventView (List ℕ)) (tags : List Tag) (around : Around) (seen : List Item) (s : HtmlState)
      → ((n : ℕ) → images_after n event ≡ n)
      → (Outside tags around seen s → Outside tags (around_in 0 setting around event) (seen ++ items_of setting around event) (with_event setting event s))
      → ((inner : List Tag) (title : List ℕ) (outer : List Tag) (n : ℕ) → Inside inner title outer around seen s
      → Inside inner title outer (around_in (suc n) setting around event) (seen ++ text_items_of setting n around event) (with_text_of setting event s))
      → Standing tags around seen s → Next around.images tags around seen event s
  after_leaf event tags around seen s keeps out within (outside none o) =
      subst (λ n. Next n tags around seen event s) (sym none)
      (rw (is_outside addresses setting tags around seen s o) (outside (keeps 0) (out o)))
  after_leaf event tags around seen s keeps out within (inside inner shown title outer many is_image is i) =
      subst (λ n. Next n tags around seen event s) (sym many)
      (rw (is_inside addresses setting inner title outer around seen s i)
      (inside inner shown title outer (keeps (suc (images_of inner))) is_image is (within inner title outer (images_of inner) i)))

  all_ended : (around : Around) (seen : List Item) (s : HtmlState) → Standing [] around seen s → ReadsIn addresses [] (seen ++ []) s.output
  all_ended around seen s (outside none o) = subst (ReadsIn addresses [] (seen ++ [])) (append-nil s.output) (o.lead [] [] at_end)
  all_ended around seen s (inside inner shown title outer many is_image is i) = absurd (not_empty inner shown outer is)

  abbrev Read : Around → List Item → HtmlState → List (EventView (List ℕ)) → Type 0
  Read around seen s events = ReadsIn addresses [] (seen ++ content_in setting around events) (after_events setting events s).output

  -- what is read of an event, and of those that follow it
  joined : (around : Around) (seen : List Item) (s : HtmlState) (event : EventView (List ℕ)) (later : List (EventView (List ℕ)))
      → Read (around_after setting around event) (seen ++ event_items setting around event) (after_event setting event s) later
      → Read around seen s (event ∷ later)
  joined around seen s event later read =
      subst (λ items. ReadsIn addresses [] items (after_events setting later (after_event setting event s)).output)
      (append_assoc seen (event_items setting around event) (content_in setting (around_after setting around event) later)) read

  nested_read : (events : List (EventView (List ℕ))) (tags : List Tag) (around : Around) (seen : List Item) (s : HtmlState) → AreNestedIn tags events
      → StandWell tags → Standing tags around seen s → Read around seen s events
  nested_read [] tags around seen s ended well standing = all_ended around seen s (subst (λ it. Standing it around seen s) ended standing)
  nested_read (start tag ∷ later) tags around seen s (may, nested) well standing =
      joined around seen s (start tag) later
      (nested_read later (tag ∷ tags) (around_after setting around (start tag)) (seen ++ event_items setting around (start tag))
      (after_event setting (start tag) s) nested (may, well) (after_start tag tags around seen s may well standing))
  nested_read (end closer ∷ later) tags around seen s (tag, outer, is, ends_so, nested) well standing =
      joined around seen s (end closer) later
      (nested_read later outer (around_after setting around (end closer)) (seen ++ event_items setting around (end closer))
      (after_event setting (end closer) s) nested (subst StandWell is well).1
      (subst (λ it. Next around.images outer around seen (end it) s) (sym ends_so)
      (after_end tag outer around seen s (subst (λ it. Standing it around seen s) is standing))))
  nested_read (text words ∷ later) tags around seen s nested well standing =
      joined around seen s (text words) later
      (nested_read later tags (around_after setting around (text words)) (seen ++ event_items setting around (text words))
      (after_event setting (text words) s)
      nested well (after_leaf (text words) tags around seen s (λ n. refl) (words_added addresses setting tags around seen s words)
      (λ inner title outer n i. grown_text addresses setting inner title outer around (suc n) seen s words i) standing))
  nested_read (inline_math words ∷ later) tags around seen s nested well standing =
      joined around seen s (inline_math words) later
      (nested_read later tags (around_after setting around (inline_math words)) (seen ++ event_items setting around (inline_math words))
      (after_event setting (inline_math words) s)
      nested well (after_leaf (inline_math words) tags around seen s (λ n. refl) (words_added addresses setting tags around seen s words)
      (λ inner title outer n i. grown_text addresses setting inner title outer around (suc n) seen s words i) standing))
  nested_read (display_math words ∷ later) tags around seen s nested well standing =
      joined around seen s (display_math words) later
      (nested_read later tags (around_after setting around (display_math words)) (seen ++ event_items setting around (display_math words))
      (after_event setting (display_math words) s)
      nested well (after_leaf (display_math words) tags around seen s (λ n. refl) (words_added addresses setting tags around seen s words)
      (λ inner title outer n i. grown_text addresses setting inner title outer around (suc n) seen s words i) standing))
  nested_read (footnote_reference words ∷ later) tags around seen s nested well standing =
      joined around seen s (footnote_reference words) later
      (nested_read later tags (around_after setting around (footnote_reference words)) (seen ++ event_items setting around (footnote_reference words))
      (after_event setting (footnote_reference words) s)
      nested well (after_leaf (footnote_reference words) tags around seen s (λ n. refl) (words_added addresses setting tags around seen s words)
      (λ inner title outer n i. grown_text addresses setting inner title outer around (suc n) seen s words i) standing))
  nested_read (code words ∷ later) tags around seen s nested well standing =
      joined around seen s (code words) later
      (nested_read later tags (around_after setting around (code words)) (seen ++ event_items setting around (code words))
      (after_event setting (code words) s)
      nested well (after_leaf (code words) tags around seen s (λ n. refl) (code_added addresses setting tags around seen s words)
      (λ inner title outer n i. grown_text addresses setting inner title outer around (suc n) seen s words i) standing))
  nested_read (html words ∷ later) tags around seen s nested well standing =
      joined around seen s (html words) later
      (nested_read later tags (around_after setting around (html words)) (seen ++ event_items setting around (html words))
      (after_event setting (html words) s)
      nested well (after_leaf (html words) tags around seen s (λ n. refl) (raw_added addresses setting tags around seen s words)
      (λ inner title outer n i. grown_raw addresses setting setting.raw inner title outer around (suc n) seen s words i) standing))
  nested_read (inline_html words ∷ later) tags around seen s nested well standing =
      joined around seen s (inline_html words) later
      (nested_read later tags (around_after setting around (inline_html words)) (seen ++ event_items setting around (inline_html words))
      (after_event setting (inline_html words) s)
      nested well (after_leaf (inline_html words) tags around seen s (λ n. refl) (raw_added addresses setting tags around seen s words)
      (λ inner title outer n i. grown_raw addresses setting setting.raw inner title outer around (suc n) seen s words i) standing))
  nested_read (soft_break ∷ later) tags around seen s nested well standing =
      joined around seen s soft_break later
      (nested_read later tags (around_after setting around soft_break) (seen ++ event_items setting around soft_break) (after_event setting soft_break s)
      nested well (after_leaf soft_break tags around seen s (λ n. refl) (soft_added addresses setting tags around seen s)
      (λ inner title outer n i. grown_space addresses setting inner title outer around (suc n) seen s i) standing))
  nested_read (hard_break ∷ later) tags around seen s nested well standing =
      joined around seen s hard_break later
      (nested_read later tags (around_after setting around hard_break) (seen ++ event_items setting around hard_break) (after_event setting hard_break s)
      nested well (after_leaf hard_break tags around seen s (λ n. refl) (hard_added addresses setting tags around seen s)
      (λ inner title outer n i. grown_space addresses setting inner title outer around (suc n) seen s i) standing))
  nested_read (rule ∷ later) tags around seen s nested well standing =
      joined around seen s rule later
      (nested_read later tags (around_after setting around rule) (seen ++ event_items setting around rule) (after_event setting rule s)
      nested well (after_leaf rule tags around seen s (λ n. refl) (rule_added addresses setting tags around seen s)
      (λ inner title outer n i. unread_inside addresses setting inner inner title outer around (suc n) seen s s i i.links refl) standing))
  nested_read (task_list_marker is_checked ∷ later) tags around seen s nested well standing =
      joined around seen s (task_list_marker is_checked) later
      (nested_read later tags (around_after setting around (task_list_marker is_checked)) (seen ++ event_items setting around (task_list_marker is_checked))
      (after_event setting (task_list_marker is_checked) s)
      nested well (after_leaf (task_list_marker is_checked) tags around seen s (λ n. refl) (task_added addresses setting tags around seen s is_checked)
      (λ inner title outer n i. unread_inside addresses setting inner inner title outer around (suc n) seen s s i i.links refl) standing))

  -- What is read of the HTML of nested events is what they hold.
  pub html_read : (events : List (EventView (List ℕ))) → AreNested events
      → ReadsIn addresses [] (content setting events) (html_of setting events)
  html_read events nested =
      nested_read events [] at_start [] nothing_written nested tt
      (outside refl (record { links = refl; count = refl; head = refl; body = refl; begun = refl; lead = λ items rest safe. safe }))
