-- The HTML of nested events is safe: what is read of it is text, elements and attributes alone.
use Rattle.std.proofs.Common.{ℕ, zero, suc, ◌≡◌, Bool, true, false, List, [], ◌∷◌, ◌++◌, map, refl, inl, inr}
use Rattle.std.specs.Prelude.{◌==◌, codes, nat_eq, find}
use Rattle.std.specs.List.{list_all, starts_with}
use Rattle.std.specs.Option.{option_map_or}
use Rattle.std.proofs.lemmas.Bool.{cases_Bool}
use Rattle.markdown_values.specs.declared.values.tags.TagEnd.{TagEnd}
use Rattle.markdown_values.specs.declared.values.tags.TagEnd.TheVariants as End
use Rattle.markdown_values.specs.values.Events.{EventView, start, end, text, code, inline_math, display_math, html, inline_html, footnote_reference}
use Rattle.markdown_values.specs.values.Tags.{image, table_row}
use Rattle.markdown_scanners_tree.specs.Ascii.{ampersand}
use Rattle.markdown_scanners_tree.proofs.PrefixLemmas.{both_true}
use Rattle.markdown_html.specs.declared.setting.RawHtml.{RawHtml}
use Rattle.markdown_html.specs.declared.setting.RawHtml.TheVariants.{Kept, Escaped, LeftOut}
use Rattle.markdown_html.specs.Content.{Around, at_start, content, content_in, event_items, event_items_in, items_of, text_items_of, start_items}
use Rattle.markdown_html.specs.Content.{end_items, image_end_items, image_names, body_start, body_end, closes_block, line_end, raw_items, raw_text_items}
use Rattle.markdown_html.specs.Content.{around_after}
use Rattle.markdown_html.specs.Html.{html_of}
use Rattle.markdown_html.specs.Inlines.{address}
use Rattle.markdown_events.specs.Nesting.{AreNested, Tag}
use Rattle.markdown_html.specs.ReadHtml.{Item, byte, raw, opens, closes, edge, alternative, ReadsIn, at_end, past_text, past_edge, past_line}
use Rattle.markdown_html.specs.ReadHtml.{past_raw, past_start, past_end, past_void}
use Rattle.markdown_html.specs.SafeHtml.{references, is_text_byte, is_text, is_address, read_after, IsSafeIn, IsSafeHtml}
use Rattle.markdown_html.specs.SafeHtml.{finished, with_byte, with_start, with_end, with_void}
use Rattle.markdown_html.specs.SafeSetting.{is_kept, IsSafeSetting}
use Rattle.markdown_html.specs.Settings.{Setting}
use Rattle.markdown_html.proofs.ReadEvents.{html_read}
use Rattle.markdown_html.proofs.SafeAddresses.{address_is_safe}
use Rattle.markdown_html.proofs.SafeLemmas.{equal}

-- ---- a text that is safe alone is safe before anything

starts_before : (needle words rest : List ℕ) → starts_with nat_eq words needle ≡ true → starts_with nat_eq (words ++ rest) needle ≡ true
starts_before [] words rest here = refl
starts_before (b ∷ needle) [] rest here = cc
starts_before (b ∷ needle) (c ∷ words) rest here =
    let both = both_true (nat_eq b c) (starts_with nat_eq words needle) here in
    let first : nat_eq b c ≡ true = both.0 in
    rw first (starts_before needle words rest both.1)

abbrev found_in : List (List ℕ × ℕ) → List ℕ → Bool
found_in rows words = option_map_or (λ _. true) (find (λ row. starts_with nat_eq words row.0) rows) false

found_before : (rows : List (List ℕ × ℕ)) (words rest : List ℕ) → found_in rows words ≡ true → found_in rows (words ++ rest) ≡ true
found_before [] words rest here = here
found_before (row ∷ rows) words rest here = elim (cases_Bool (starts_with nat_eq (words ++ rest) row.0)) [
  | inl begins ↦ rw begins refl
  | inr other ↦ elim (cases_Bool (starts_with nat_eq words row.0)) [
    | inl starts ↦ absurd (let grown : starts_with nat_eq (words ++ rest) row.0 ≡ true = starts_before row.0 words rest starts in cc)
    | inr not_here ↦ rw other (found_before rows words rest (rw not_here at here))
  ]
]

byte_before : (b : ℕ) (words rest : List ℕ) → is_text_byte b words ≡ true → is_text_byte b (words ++ rest) ≡ true
byte_before b words rest safe = elim (cases_Bool (b == ampersand)) [
  | inl amp ↦ reference_before b words rest (equal b ampersand amp) safe
  | inr other ↦ rw other (rw other at safe)
]
  where
    reference_before : (b : ℕ) (words rest : List ℕ) → b ≡ ampersand → is_text_byte b words ≡ true → is_text_byte b (words ++ rest) ≡ true
    reference_before b words rest amp safe = rw amp (found_before references words rest (rw amp at safe))

-- ---- where no raw HTML is read

abbrev is_no_raw : Item → Bool
is_no_raw (raw piece) = false
is_no_raw other = true

later_bytes : (words : List ℕ) (items : List Item) → list_all is_no_raw (map byte words ++ items) ≡ true → list_all is_no_raw items ≡ true
later_bytes [] items all = all
later_bytes (b ∷ words) items all = later_bytes words items all

all_joined : (items more : List Item) → list_all is_no_raw items ≡ true → list_all is_no_raw more ≡ true → list_all is_no_raw (items ++ more) ≡ true
all_joined [] more all others = others
all_joined (item ∷ items) more all others =
    let both = both_true (is_no_raw item) (list_all is_no_raw items) all in
    rw both.0 (all_joined items more both.1 others)

bytes_alone : (words : List ℕ) → list_all is_no_raw (map byte words) ≡ true
bytes_alone [] = refl
bytes_alone (b ∷ words) = bytes_alone words

module _ (schemes : List (List ℕ)) where
  safe_text : (outer : List (List ℕ)) (words rest : List ℕ) → is_text words ≡ true → IsSafeIn schemes outer rest
      → IsSafeIn schemes outer (words ++ rest)
  safe_text outer [] rest textual safe = safe
  safe_text outer (b ∷ words) rest textual safe =
      let both = both_true (is_text_byte b words) (is_text words) textual in
      with_byte outer b (words ++ rest) (byte_before b words rest both.0) (safe_text outer words rest both.1 safe)

  -- HTML of which no raw HTML is read, and whose addresses have these schemes, is safe.
  pub read_is_safe : (outer : List (List ℕ)) (items : List Item) (written : List ℕ) → ReadsIn (is_address schemes) outer items written
      → list_all is_no_raw items ≡ true → IsSafeIn schemes outer written
  read_is_safe _ _ _ at_end all = finished
  read_is_safe _ _ _ (past_text later outer words rest textual reading) all =
      safe_text outer words rest textual (read_is_safe outer later rest reading (later_bytes (read_after 0 words) later all))
  read_is_safe _ _ _ (past_edge later outer rest reading) all = read_is_safe outer later rest reading all
  read_is_safe _ _ _ (past_line later outer rest reading) all =
      with_byte outer 10 rest refl (read_is_safe outer later rest reading all)
  read_is_safe _ _ _ (past_raw later outer piece rest reading) all = cc
  read_is_safe _ _ _ (past_start later outer name attributes rest is_element are_attributes reading) all =
      with_start outer name attributes rest is_element are_attributes (read_is_safe (name ∷ outer) later rest reading all)
  read_is_safe _ _ _ (past_end later inner name rest reading) all =
      with_end inner name rest (read_is_safe inner later rest reading all)
  read_is_safe _ _ _ (past_void later outer name attributes solidus rest is_element are_attributes reading) all =
      with_void outer name attributes solidus rest is_element are_attributes
      (read_is_safe outer later rest reading (later_bytes (alternative attributes) (closes name ∷ later) all))

-- ---- events whose raw HTML is not kept

raw_alone : (choice : RawHtml) (words : List ℕ) → is_kept choice ≡ false → list_all is_no_raw (raw_items choice words) ≡ true
raw_alone Kept words other = cc
raw_alone Escaped words other = bytes_alone words
raw_alone LeftOut words other = refl

text_alone : (choice : RawHtml) (words : List ℕ) → list_all is_no_raw (raw_text_items choice words) ≡ true
text_alone Kept words = bytes_alone words
text_alone Escaped words = bytes_alone words
text_alone LeftOut words = refl

names_alone : (as_links : Bool) (links : ℕ)
    → (list_all is_no_raw (map opens (image_names as_links links)) ≡ true) × (list_all is_no_raw (map closes (image_names as_links links)) ≡ true)
names_alone false links = (refl, refl)
names_alone true zero = (refl, refl)
names_alone true (suc links) = (refl, refl)

start_alone : (as_links : Bool) (around : Around) (tag : Tag) → list_all is_no_raw (start_items as_links around tag) ≡ true
start_alone as_links around table_row = body_alone around.has_body
  where
    body_alone : (has_body : Bool) → list_all is_no_raw (edge ∷ (body_start has_body ++ opens (codes "tr") ∷ edge ∷ [])) ≡ true
    body_alone true = refl
    body_alone false = refl
start_alone as_links around (image kind to title label) = (names_alone as_links around.links).0
start_alone as_links around tag = refl

end_alone : (around : Around) (closer : TagEnd) → list_all is_no_raw (end_items around closer) ≡ true
end_alone around End.CodeBlock = line_alone around.is_begun
  where
    line_alone : (is_begun : Bool) → list_all is_no_raw (line_end is_begun ++ closes (codes "code") ∷ closes_block (codes "pre")) ≡ true
    line_alone true = refl
    line_alone false = refl
end_alone around End.Table = body_alone around.has_body
  where
    body_alone : (has_body : Bool) → list_all is_no_raw (body_end has_body ++ closes_block (codes "table")) ≡ true
    body_alone true = refl
    body_alone false = refl
end_alone around closer = refl

module _ (setting : Setting) (other : is_kept setting.raw ≡ false) where
  out_alone : (around : Around) (event : EventView (List ℕ)) → list_all is_no_raw (items_of setting around event) ≡ true
  out_alone around (start tag) = start_alone setting.images_as_links around tag
  out_alone around (end closer) = end_alone around closer
  out_alone around (text words) = bytes_alone words
  out_alone around (code words) = all_joined (map byte words) (closes (codes "code") ∷ []) (bytes_alone words) refl
  out_alone around (inline_math words) = bytes_alone words
  out_alone around (display_math words) = bytes_alone words
  out_alone around (footnote_reference words) = bytes_alone words
  out_alone around (html words) = raw_alone setting.raw words other
  out_alone around (inline_html words) = raw_alone setting.raw words other
  out_alone around event = refl

  in_alone : (outer : ℕ) (around : Around) (event : EventView (List ℕ)) → list_all is_no_raw (text_items_of setting outer around event) ≡ true
  in_alone outer around (end End.Image) = image_alone outer
    where
      image_alone : (outer : ℕ) → list_all is_no_raw (image_end_items setting outer around) ≡ true
      image_alone zero = (names_alone setting.images_as_links around.links).1
      image_alone (suc outer) = refl
  in_alone outer around (text words) = bytes_alone words
  in_alone outer around (code words) = bytes_alone words
  in_alone outer around (inline_math words) = bytes_alone words
  in_alone outer around (display_math words) = bytes_alone words
  in_alone outer around (footnote_reference words) = bytes_alone words
  in_alone outer around (html words) = text_alone setting.raw words
  in_alone outer around (inline_html words) = text_alone setting.raw words
  in_alone outer around event = refl

  event_alone : (images : ℕ) (around : Around) (event : EventView (List ℕ)) → list_all is_no_raw (event_items_in images setting around event) ≡ true
  event_alone zero around event = out_alone around event
  event_alone (suc outer) around event = in_alone outer around event

  content_alone : (around : Around) (events : List (EventView (List ℕ))) → list_all is_no_raw (content_in setting around events) ≡ true
  content_alone around [] = refl
  content_alone around (event ∷ later) =
      all_joined (event_items setting around event) (content_in setting (around_after setting around event) later)
      (event_alone around.images around event) (content_alone (around_after setting around event) later)

address_safe : (schemes : List (List ℕ)) (setting : Setting) → IsSafeSetting schemes setting → (to : List ℕ)
    → is_address schemes (address setting to) ≡ true
address_safe schemes setting safe_setting to = elim (cases_Bool (setting.allows to)) [
  | inl allowed ↦ rw allowed (address_is_safe schemes to (safe_setting.addresses to allowed))
  | inr other ↦ rw other refl
]

-- The HTML of nested events is safe.
pub html_is_safe : (schemes : List (List ℕ)) (setting : Setting) → IsSafeSetting schemes setting → (events : List (EventView (List ℕ)))
    → AreNested events → IsSafeHtml schemes (html_of setting events)
html_is_safe schemes setting safe_setting events nested =
    read_is_safe schemes [] (content setting events) (html_of setting events)
    (html_read (is_address schemes) setting (address_safe schemes setting safe_setting) events nested)
    (content_alone setting safe_setting.raw at_start events)
