-- Whether a line of text has begun, by what is written and by what is read of it.
use Rattle.std.proofs.Common.{ℕ, ◌-◌, ◌≡◌, Bool, true, false, List, [], ◌∷◌, ◌++◌, Option, Some, None, length, map, refl, sym, ap, ◌∙◌, arith}
use Rattle.std.proofs.Common.{append_assoc, append-nil, length-append, inl, inr}
use Rattle.std.specs.Prelude.{◌==◌, not, codes, slice_get}
use Rattle.std.specs.Fmt.{decimal}
use Rattle.std.proofs.lemmas.Bool.{cases_Bool, eqb-true}
use Rattle.markdown_scanners_tree.specs.Ascii.{ampersand, greater_than_sign, less_than_sign, line_feed, quotation_mark}
use Rattle.markdown_html.specs.declared.setting.RawHtml.{RawHtml}
use Rattle.markdown_html.specs.declared.setting.RawHtml.TheVariants.{Kept, Escaped, LeftOut}
use Rattle.markdown_html.specs.Blocks.{code_start, language, language_start, list_start}
use Rattle.markdown_html.specs.Content.{begins_line, begun_after, image_names, raw_items}
use Rattle.markdown_html.specs.Escapes.{escaped, escaped_byte}
use Rattle.markdown_html.specs.Inlines.{after_image, before_image, raw_html, title_attribute}
use Rattle.markdown_html.specs.ReadHtml.{Item, byte, closes, opens}
use Rattle.markdown_html.specs.Settings.{Setting}
use Rattle.markdown_html.specs.States.{ended_line, is_begun, is_text_begun, last_byte}

-- ---- the last byte

at_length : (xs : List ℕ) (b : ℕ) → slice_get (xs ++ b ∷ []) (length xs) ≡ Some b
at_length [] b = refl
at_length (x ∷ xs) b = at_length xs b

last_end : (xs : List ℕ) (b : ℕ) → last_byte (xs ++ b ∷ []) ≡ Some b
last_end xs b =
    let one_less : length (xs ++ b ∷ []) - 1 ≡ length xs = omega (arith, length-append xs (b ∷ [])) in
    ap (slice_get (xs ++ b ∷ [])) one_less ∙ at_length xs b

-- whether a line of text has begun after these bytes
abbrev pub is_text_begun_after : List ℕ → Bool
is_text_begun_after output = is_text_begun (last_byte output)

pub ends_with : (xs ys : List ℕ) (b : ℕ) → is_text_begun_after (xs ++ (ys ++ b ∷ [])) ≡ is_text_begun (Some b)
ends_with xs ys b = ap is_text_begun (ap last_byte (sym (append_assoc xs ys (b ∷ []))) ∙ last_end (xs ++ ys) b)

-- None has begun after a tag, nor after a line ending.
pub after_tag : (xs ys : List ℕ) → false ≡ is_text_begun_after (xs ++ (ys ++ codes ">"))
after_tag xs ys = sym (ends_with xs ys 62)

pub after_line : (xs ys : List ℕ) → false ≡ is_text_begun_after (xs ++ (ys ++ codes ">\n"))
after_line xs ys = sym (ap (λ it. is_text_begun_after (xs ++ it)) (sym (append_assoc ys (codes ">") (codes "\n"))) ∙ ends_with xs (ys ++ codes ">") 10)

-- What is appended has the last byte.
last_of_more : (xs : List ℕ) (b : ℕ) (words : List ℕ) → last_byte (xs ++ b ∷ words) ≡ last_byte (b ∷ words)
last_of_more xs b [] = last_end xs b
last_of_more xs b (c ∷ words) =
    ap last_byte (sym (append_assoc xs (b ∷ []) (c ∷ words))) ∙ last_of_more (xs ++ b ∷ []) c words ∙ sym (last_of_more (b ∷ []) c words)

-- ---- lines

quiet : (last : Option ℕ) → is_begun last ≡ false → is_text_begun last ≡ false
quiet None none = refl
quiet (Some b) none = rw none refl

pub after_ended_line : (xs : List ℕ) → is_text_begun_after (ended_line xs) ≡ false
after_ended_line xs = elim (cases_Bool (is_begun (last_byte xs))) [
  | inl begun ↦ rw begun (ends_with xs [] 10)
  | inr other ↦ rw other (quiet (last_byte xs) other)
]

-- ---- items

pub later_begun : (before : Bool) (items : List Item) (item : Item) (later : List Item)
    → begun_after before (items ++ item ∷ later) ≡ begun_after (begins_line item) later
later_begun before [] item later = refl
later_begun before (first ∷ items) item later = later_begun (begins_line first) items item later

-- ---- texts

not_greater : (b : ℕ) → (b == greater_than_sign) ≡ false → is_text_begun (Some b) ≡ not (b == line_feed)
not_greater b other = elim (cases_Bool (b == line_feed)) [
  | inl line ↦ rw line refl
  | inr no_line ↦ rw (no_line, other) refl
]

escaped_byte_begun : (xs : List ℕ) (b : ℕ) → is_text_begun_after (xs ++ escaped_byte b) ≡ not (b == line_feed)
escaped_byte_begun xs b = elim (cases_Bool (b == less_than_sign)) [
  | inl less ↦ rw (eqb-true b 60 less) (ends_with xs (codes "&lt") 59)
  | inr not_less ↦ elim (cases_Bool (b == greater_than_sign)) [
    | inl greater ↦ rw (eqb-true b 62 greater) (ends_with xs (codes "&gt") 59)
    | inr other ↦ elim (cases_Bool (b == ampersand)) [
      | inl amp ↦ rw (eqb-true b 38 amp) (ends_with xs (codes "&amp") 59)
      | inr not_amp ↦ elim (cases_Bool (b == quotation_mark)) [
        | inl quote ↦ rw (eqb-true b 34 quote) (ends_with xs (codes "&quot") 59)
        | inr not_quote ↦ rw (not_less, other, not_amp, not_quote) (ends_with xs [] b ∙ not_greater b other)
      ]
    ]
  ]
]

pub escaped_begun : (xs words : List ℕ) → begun_after (is_text_begun_after xs) (map byte words) ≡ is_text_begun_after (xs ++ escaped words)
escaped_begun xs [] = ap is_text_begun_after (sym (append-nil xs))
escaped_begun xs (b ∷ words) =
    ap (λ it. begun_after it (map byte words)) (sym (escaped_byte_begun xs b)) ∙ escaped_begun (xs ++ escaped_byte b) words
    ∙ ap is_text_begun_after (append_assoc xs (escaped_byte b) (escaped words))

pub raw_begun : (choice : RawHtml) (xs words : List ℕ)
    → begun_after (is_text_begun_after xs) (raw_items choice words) ≡ is_text_begun_after (xs ++ raw_html choice words)
raw_begun Kept xs [] = ap is_text_begun_after (sym (append-nil xs))
raw_begun Kept xs (b ∷ words) = ap is_text_begun (sym (last_of_more xs b words))
raw_begun Escaped xs words = escaped_begun xs words
raw_begun LeftOut xs words = ap is_text_begun_after (sym (append-nil xs))

-- ---- images

-- One that is not written leaves the line as it is; else none has begun after it.
pub image_starts_begun : (setting : Setting) (as_link : Bool) (to title : List ℕ) (links : List (Option (List ℕ))) (before : Bool) (xs : List ℕ)
    → setting.images_as_links ≡ as_link → before ≡ is_text_begun_after xs → image_names as_link (length links) ≡ []
    → begun_after before (map opens (image_names as_link (length links))) ≡ is_text_begun_after (xs ++ before_image setting to title links)
image_starts_begun setting false to title links before xs is same none = cc
image_starts_begun setting true to title [] before xs is same none = cc
image_starts_begun setting true to title (other ∷ links) before xs is same none = rw (is, append-nil xs) same

pub image_ends_begun : (setting : Setting) (as_link : Bool) (title : List ℕ) (links : List (Option (List ℕ))) (before : Bool) (xs : List ℕ)
    → setting.images_as_links ≡ as_link → (image_names as_link (length links) ≡ [] → before ≡ is_text_begun_after xs)
    → begun_after before (map closes (image_names as_link (length links))) ≡ is_text_begun_after (xs ++ after_image setting title links)
image_ends_begun setting false title links before xs is same =
    rw is (sym (ap (λ it. is_text_begun_after (xs ++ it)) (sym (append_assoc (codes "\"" ++ title_attribute title) (codes " /") (codes ">")))
    ∙ ends_with xs (codes "\"" ++ title_attribute title ++ codes " /") 62))
image_ends_begun setting true title [] before xs is same = rw is (after_tag xs (codes "</a"))
image_ends_begun setting true title (other ∷ links) before xs is same = rw (is, append-nil xs) (same refl)

-- ---- code and lists

-- the same with a quotation mark before the end of the tag
pub after_quoted : (xs ys : List ℕ) → false ≡ is_text_begun_after (xs ++ (ys ++ codes "\">"))
after_quoted xs ys = after_tag xs (ys ++ codes "\"") ∙ ap (λ it. is_text_begun_after (xs ++ it)) (append_assoc ys (codes "\"") (codes ">"))

pub code_begun : (xs : List ℕ) (info : Option (List ℕ)) → false ≡ is_text_begun_after (xs ++ code_start info)
code_begun xs None = after_tag xs (codes "<pre><code")
code_begun xs (Some info) = named xs (language info)
  where
    named : (xs name : List ℕ) → false ≡ is_text_begun_after (xs ++ language_start name)
    named xs [] = after_tag xs (codes "<pre><code")
    named xs (b ∷ name) = after_quoted xs (codes "<pre><code class=\"language-" ++ escaped (b ∷ name))

pub list_begun : (xs : List ℕ) (first : Option ℕ) → false ≡ is_text_begun_after (xs ++ list_start first)
list_begun xs None = after_line xs (codes "<ul")
list_begun xs (Some first) = elim (cases_Bool (first == 1)) [
  | inl one ↦ rw one (after_line xs (codes "<ol"))
  | inr other ↦ rw other (after_line xs ((codes "<ol start=\"" ++ decimal first) ++ codes "\"")
      ∙ ap (λ it. is_text_begun_after (xs ++ it)) (append_assoc (codes "<ol start=\"" ++ decimal first) (codes "\"") (codes ">\n")))
]
