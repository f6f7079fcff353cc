-- What is written goes from elements that are open to others, and is read.
use Rattle.std.proofs.Common.{ℕ, zero, suc, ◌≡◌, ◌/◌, ◌%◌, Bool, true, false, List, [], ◌∷◌, ◌++◌, Option, Some, None, refl, sym, ◌∙◌}
use Rattle.std.proofs.Common.{arith, inl, inr, append_assoc, append-nil, length, map, subst}
use Rattle.std.specs.Prelude.{◌==◌, nat_lt, codes, if◌then◌else◌}
use Rattle.std.specs.List.{list_all}
use Rattle.std.specs.Fmt.{decimal, digits, digits_onto, digit_glyph}
use Rattle.std.proofs.lemmas.Bool.{cases_Bool}
use Rattle.std.proofs.lemmas.List.{map-append}
use Rattle.std.proofs.lemmas.Bool.Decides.{nat_tests}
use Rattle.markdown_values.specs.values.Headings.{heading_name}
use Rattle.markdown_values.specs.declared.values.HeadingLevel.{HeadingLevel}
use Rattle.markdown_values.specs.declared.values.HeadingLevel.TheVariants.{H1, H2, H3, H4, H5, H6}
use Rattle.markdown_values.specs.declared.values.Alignment.{Alignment}
use Rattle.markdown_values.specs.declared.values.Alignment.TheVariants as Aligned
use Rattle.markdown_scanners_tree.specs.Ascii.{line_feed, space}
use Rattle.markdown_scanners_tree.specs.Bytes.{is_digit}
use Rattle.markdown_html.specs.Blocks.{heading_start, heading_end, language_start, code_start, language, list_start, task_box, row_start, table_end}
use Rattle.markdown_html.specs.Blocks.{cell_name, cell_align, cell_end, list_end}
use Rattle.markdown_html.specs.Escapes.{escaped}
use Rattle.markdown_html.specs.declared.setting.RawHtml.{RawHtml}
use Rattle.markdown_html.specs.declared.setting.RawHtml.TheVariants.{Kept, Escaped, LeftOut}
use Rattle.markdown_html.specs.Content.{closes_block, list_name, is_numbered, body_start, body_end, image_names, line_end, raw_items}
use Rattle.markdown_html.specs.Inlines.{address, before_image, after_image, code_element, raw_html, title_attribute, rel_attribute}
use Rattle.markdown_html.specs.Settings.{Setting}
use Rattle.markdown_html.specs.States.{is_begun, is_text_begun, last_byte, ended_line, ended_text}
use Rattle.markdown_html.specs.ReadHtml.{Item, byte, opens, closes, edge, ReadsIn, past_text, past_edge, past_line, past_raw, past_start, past_end, past_void}
use Rattle.markdown_html.specs.SafeHtml.{is_text, read_after, is_one_of, are_attributes, elements}
use Rattle.markdown_html.proofs.SafeLemmas.{escaped_alone}
use Rattle.markdown_html.proofs.EscapeLaws.{read_escaped}

-- brackets of the parts of tags

link_parts : (p v q a t b r c rest : List ℕ) → (p ++ v ++ q ++ (a ++ t ++ b) ++ r ++ c) ++ rest ≡ p ++ (v ++ (q ++ (a ++ (t ++ (b ++ (r ++ (c ++ rest)))))))
link_parts p v q a t b r c rest = simp append_assoc

image_parts : (p v q w a s t u c rest : List ℕ)
    → (p ++ v ++ q) ++ (w ++ ((a ++ (s ++ t ++ u) ++ c) ++ rest)) ≡ p ++ (v ++ (q ++ (w ++ (a ++ (s ++ (t ++ (u ++ (c ++ rest))))))))
image_parts p v q w a s t u c rest = simp append_assoc

-- the element of a table, and that of its other rows
abbrev pub table_elements : Bool → List (List ℕ)
table_elements has_body = if has_body then codes "tbody" ∷ codes "table" ∷ [] else codes "table" ∷ []

pub items_joined : (seen : List Item) (here more : List ℕ) (items : List Item)
    → seen ++ (map byte (here ++ more) ++ items) ≡ (seen ++ map byte here) ++ (map byte more ++ items)
items_joined seen here more items =
    rw (map-append byte here more, append_assoc (map byte here) (map byte more) items, append_assoc seen (map byte here) (map byte more ++ items)) refl

module _ (addresses : List ℕ → Bool) where
  -- These bytes go from open elements to others, and these items are read of them.
  abbrev pub Reading : List (List ℕ) → List ℕ → List Item → List (List ℕ) → Type 0
  Reading from bytes read to =
      (items : List Item) (rest : List ℕ) → ReadsIn addresses to items rest → ReadsIn addresses from (read ++ items) (bytes ++ rest)

  pub both_read : (from mid to : List (List ℕ)) (first second : List ℕ) (read more : List Item) → Reading from first read mid
      → Reading mid second more to → Reading from (first ++ second) (read ++ more) to
  both_read from mid to first second read more one two items rest safe =
      rw (append_assoc first second rest, append_assoc read more items) (one (more ++ items) (second ++ rest) (two items rest safe))

  pub text_step : (outer : List (List ℕ)) (words : List ℕ) → is_text words ≡ true → Reading outer words (map byte (read_after 0 words)) outer
  text_step outer words text items rest safe = past_text items outer words rest text safe

  pub escaped_step : (outer : List (List ℕ)) (words : List ℕ) → Reading outer (escaped words) (map byte words) outer
  escaped_step outer words =
      subst (λ read. Reading outer (escaped words) (map byte read) outer) (read_escaped words) (text_step outer (escaped words) (escaped_alone words))

  -- ---- lines

  pub line_step : (outer : List (List ℕ)) → Reading outer (codes "\n") (edge ∷ []) outer
  line_step outer items rest safe = past_line items outer rest safe

  -- the line that has begun ends, and is the edge of a block
  pub line_ended : (to : List (List ℕ)) (output : List ℕ) (read : List Item) → Reading [] output read to
      → Reading [] (ended_line output) (read ++ edge ∷ []) to
  line_ended to output read lead = elim (cases_Bool (is_begun (last_byte output))) [
    | inl begun ↦ rw begun (both_read [] to to output (codes "\n") read (edge ∷ []) lead (line_step to))
    | inr other ↦ rw other (subst (λ bytes. Reading [] bytes (read ++ edge ∷ []) to) (append-nil output)
        (both_read [] to to output [] read (edge ∷ []) lead (λ items rest safe. past_edge items to rest safe)))
  ]

  pub on_line_leads : (from to : List (List ℕ)) (output more : List ℕ) (seen here : List Item) → Reading [] output seen from
      → Reading from more here to → Reading [] (ended_line output ++ more) (seen ++ edge ∷ here) to
  on_line_leads from to output more seen here lead step =
      subst (λ read. Reading [] (ended_line output ++ more) read to) (append_assoc seen (edge ∷ []) here)
      (both_read [] from to (ended_line output) more (seen ++ edge ∷ []) here (line_ended from output seen lead) step)

  -- the last line of code ends
  pub text_ended : (to : List (List ℕ)) (output : List ℕ) (read : List Item) → Reading [] output read to
      → Reading [] (ended_text output) (read ++ line_end (is_text_begun (last_byte output))) to
  text_ended to output read lead = elim (cases_Bool (is_text_begun (last_byte output))) [
    | inl begun ↦ rw begun (both_read [] to to output (codes "\n") read (byte line_feed ∷ []) lead (text_step to (codes "\n") refl))
    | inr other ↦ rw other (subst (λ it. Reading [] output it to) (sym (append-nil read)) lead)
  ]

  -- ---- blocks

  -- the start tag of an element without attributes, and its end tag
  pub open_step : (outer : List (List ℕ)) (name : List ℕ) → is_one_of elements name ≡ true → are_attributes addresses name [] ≡ true
      → Reading outer (codes "<" ++ (name ++ codes ">")) (opens name ∷ []) (name ∷ outer)
  open_step outer name is_element plain items rest safe =
      simp append_assoc (past_start items outer name [] rest is_element plain safe)

  pub close_step : (outer : List (List ℕ)) (name : List ℕ) → Reading (name ∷ outer) (codes "</" ++ (name ++ codes ">")) (closes name ∷ []) outer
  close_step outer name items rest safe = simp append_assoc (past_end items outer name rest safe)

  -- the same with the edge of a block
  pub open_line : (outer : List (List ℕ)) (name : List ℕ) → is_one_of elements name ≡ true → are_attributes addresses name [] ≡ true
      → Reading outer (codes "<" ++ (name ++ codes ">\n")) (opens name ∷ edge ∷ []) (name ∷ outer)
  open_line outer name is_element plain items rest safe =
      simp append_assoc (past_start (edge ∷ items) outer name [] (line_feed ∷ rest) is_element plain (past_line items (name ∷ outer) rest safe))

  pub close_line : (outer : List (List ℕ)) (name : List ℕ) → Reading (name ∷ outer) (codes "</" ++ (name ++ codes ">\n")) (closes_block name) outer
  close_line outer name items rest safe =
      simp append_assoc (past_end (edge ∷ items) outer name (line_feed ∷ rest) (past_line items outer rest safe))

  pub heading_step : (outer : List (List ℕ)) (level : HeadingLevel)
      → Reading outer (heading_start level) (opens (heading_name level) ∷ []) (heading_name level ∷ outer)
  heading_step outer H1 = open_step outer (codes "h1") refl refl
  heading_step outer H2 = open_step outer (codes "h2") refl refl
  heading_step outer H3 = open_step outer (codes "h3") refl refl
  heading_step outer H4 = open_step outer (codes "h4") refl refl
  heading_step outer H5 = open_step outer (codes "h5") refl refl
  heading_step outer H6 = open_step outer (codes "h6") refl refl

  pub heading_end_step : (outer : List (List ℕ)) (level : HeadingLevel)
      → Reading (heading_name level ∷ outer) (heading_end level) (closes_block (heading_name level)) outer
  heading_end_step outer H1 = close_line outer (codes "h1")
  heading_end_step outer H2 = close_line outer (codes "h2")
  heading_end_step outer H3 = close_line outer (codes "h3")
  heading_end_step outer H4 = close_line outer (codes "h4")
  heading_end_step outer H5 = close_line outer (codes "h5")
  heading_end_step outer H6 = close_line outer (codes "h6")

  language_step : (outer : List (List ℕ)) (name : List ℕ) → is_text name ≡ true
      → Reading outer (codes "<pre><code class=\"language-" ++ name ++ codes "\">") (opens (codes "pre") ∷ opens (codes "code") ∷ [])
      (codes "code" ∷ codes "pre" ∷ outer)
  language_step outer name text items rest safe =
      simp append_assoc
      (past_start (opens (codes "code") ∷ items) outer (codes "pre") [] (codes "<code class=\"language-" ++ (name ++ (codes "\">" ++ rest))) refl refl
      (past_start items (codes "pre" ∷ outer) (codes "code") ((codes "class", codes "language-" ++ name) ∷ []) rest refl (rw text refl) safe))

  plain_code : (outer : List (List ℕ))
      → Reading outer (codes "<pre><code>") (opens (codes "pre") ∷ opens (codes "code") ∷ []) (codes "code" ∷ codes "pre" ∷ outer)
  plain_code outer items rest safe =
      past_start (opens (codes "code") ∷ items) outer (codes "pre") [] (codes "<code>" ++ rest) refl refl
      (past_start items (codes "pre" ∷ outer) (codes "code") [] rest refl refl safe)

  pub code_step : (outer : List (List ℕ)) (info : Option (List ℕ))
      → Reading outer (code_start info) (opens (codes "pre") ∷ opens (codes "code") ∷ []) (codes "code" ∷ codes "pre" ∷ outer)
  code_step outer None = plain_code outer
  code_step outer (Some info) = named outer (language info)
    where
      named : (outer : List (List ℕ)) (name : List ℕ)
          → Reading outer (language_start name) (opens (codes "pre") ∷ opens (codes "code") ∷ []) (codes "code" ∷ codes "pre" ∷ outer)
      named outer [] = plain_code outer
      named outer (b ∷ name) = language_step outer (escaped (b ∷ name)) (escaped_alone (b ∷ name))

  pub code_end_step : (outer : List (List ℕ))
      → Reading (codes "code" ∷ codes "pre" ∷ outer) (codes "</code></pre>\n") (closes (codes "code") ∷ closes_block (codes "pre")) outer
  code_end_step outer =
      both_read (codes "code" ∷ codes "pre" ∷ outer) (codes "pre" ∷ outer) outer (codes "</code>") (codes "</pre>\n") (closes (codes "code") ∷ [])
      (closes_block (codes "pre")) (close_step (codes "pre" ∷ outer) (codes "code")) (close_line outer (codes "pre"))

  digit_stands : (n : ℕ) → is_digit (digit_glyph false (n % 10)) ≡ true
  digit_stands n = elim (cases_Bool (nat_lt (n % 10) 10)) [
    | inl small ↦ rw small (grind (arith, nat_tests))
    | inr large ↦ absurd (grind (arith, nat_tests))
  ]

  digits_stand : (k n : ℕ) (later : List ℕ) → list_all is_digit later ≡ true → list_all is_digit (digits_onto k 10 false n later) ≡ true
  digits_stand zero n later all = all
  digits_stand (suc k) n later all = elim (cases_Bool (n / 10 == 0)) [
    | inl last ↦ rw (last, digit_stands n) all
    | inr more ↦ rw more (digits_stand k (n / 10) (digit_glyph false (n % 10) ∷ later) (rw (digit_stands n) all))
  ]

  decimal_stands : (n : ℕ) → list_all is_digit (decimal n) ≡ true
  unfolding digits
  decimal_stands n = digits_stand 64 n [] refl

  -- a list that is numbered from so many on
  numbered_step : (outer : List (List ℕ)) (number : List ℕ) → list_all is_digit number ≡ true
      → Reading outer (codes "<ol start=\"" ++ number ++ codes "\">\n") (opens (codes "ol") ∷ edge ∷ []) (codes "ol" ∷ outer)
  numbered_step outer number all items rest safe =
      simp append_assoc
      (past_start (edge ∷ items) outer (codes "ol") ((codes "start", number) ∷ []) (line_feed ∷ rest) refl (rw all refl)
      (past_line items (codes "ol" ∷ outer) rest safe))

  pub list_step : (outer : List (List ℕ)) (first : Option ℕ)
      → Reading outer (list_start first) (opens (list_name (is_numbered first)) ∷ edge ∷ []) (list_name (is_numbered first) ∷ outer)
  list_step outer None = open_line outer (codes "ul") refl refl
  list_step outer (Some first) = elim (cases_Bool (first == 1)) [
    | inl one ↦ rw one (open_line outer (codes "ol") refl refl)
    | inr other ↦ rw other (numbered_step outer (decimal first) (decimal_stands first))
  ]

  pub list_ends : (outer : List (List ℕ)) (numbered : Bool)
      → Reading (list_name numbered ∷ outer) (list_end numbered) (closes_block (list_name numbered)) outer
  list_ends outer true = close_line outer (codes "ol")
  list_ends outer false = close_line outer (codes "ul")

  pub task_step : (outer : List (List ℕ)) (is_checked : Bool)
      → Reading outer (task_box is_checked) (opens (codes "input") ∷ closes (codes "input") ∷ byte space ∷ []) outer
  task_step outer true items rest safe =
      past_void (byte space ∷ items) outer (codes "input")
      ((codes "checked", []) ∷ (codes "disabled", []) ∷ (codes "type", codes "checkbox") ∷ []) false (codes " " ++ rest) refl refl
      (past_text items outer (codes " ") rest refl safe)
  task_step outer false items rest safe =
      past_void (byte space ∷ items) outer (codes "input") ((codes "disabled", []) ∷ (codes "type", codes "checkbox") ∷ []) false
      (codes " " ++ rest) refl refl (past_text items outer (codes " ") rest refl safe)

  -- ---- tables

  pub head_step : (outer : List (List ℕ))
      → Reading outer (codes "<thead>\n<tr>\n") (opens (codes "thead") ∷ edge ∷ opens (codes "tr") ∷ edge ∷ []) (codes "tr" ∷ codes "thead" ∷ outer)
  head_step outer =
      both_read outer (codes "thead" ∷ outer) (codes "tr" ∷ codes "thead" ∷ outer) (codes "<thead>\n") (codes "<tr>\n")
      (opens (codes "thead") ∷ edge ∷ []) (opens (codes "tr") ∷ edge ∷ []) (open_line outer (codes "thead") refl refl)
      (open_line (codes "thead" ∷ outer) (codes "tr") refl refl)

  pub head_end_step : (outer : List (List ℕ))
      → Reading (codes "tr" ∷ codes "thead" ∷ outer) (codes "</tr>\n</thead>\n") (closes_block (codes "tr") ++ closes_block (codes "thead")) outer
  head_end_step outer =
      both_read (codes "tr" ∷ codes "thead" ∷ outer) (codes "thead" ∷ outer) outer (codes "</tr>\n") (codes "</thead>\n")
      (closes_block (codes "tr")) (closes_block (codes "thead")) (close_line (codes "thead" ∷ outer) (codes "tr")) (close_line outer (codes "thead"))

  pub row_step : (outer : List (List ℕ)) (has_body : Bool)
      → Reading (table_elements has_body ++ outer) (row_start has_body) (body_start has_body ++ opens (codes "tr") ∷ edge ∷ [])
      (codes "tr" ∷ codes "tbody" ∷ codes "table" ∷ outer)
  row_step outer true = open_line (codes "tbody" ∷ codes "table" ∷ outer) (codes "tr") refl refl
  row_step outer false =
      both_read (codes "table" ∷ outer) (codes "tbody" ∷ codes "table" ∷ outer) (codes "tr" ∷ codes "tbody" ∷ codes "table" ∷ outer)
      (codes "<tbody>\n") (codes "<tr>\n") (opens (codes "tbody") ∷ edge ∷ []) (opens (codes "tr") ∷ edge ∷ [])
      (open_line (codes "table" ∷ outer) (codes "tbody") refl refl) (open_line (codes "tbody" ∷ codes "table" ∷ outer) (codes "tr") refl refl)

  pub table_end_step : (outer : List (List ℕ)) (has_body : Bool)
      → Reading (table_elements has_body ++ outer) (table_end has_body) (body_end has_body ++ closes_block (codes "table")) outer
  table_end_step outer true =
      both_read (codes "tbody" ∷ codes "table" ∷ outer) (codes "table" ∷ outer) outer (codes "</tbody>\n") (codes "</table>\n")
      (closes_block (codes "tbody")) (closes_block (codes "table")) (close_line (codes "table" ∷ outer) (codes "tbody")) (close_line outer (codes "table"))
  table_end_step outer false = close_line outer (codes "table")

  cell_of : (outer : List (List ℕ)) (is_head : Bool) (alignment : Alignment)
      → Reading outer (codes "<" ++ cell_name is_head ++ cell_align (alignment ∷ []) ++ codes ">") (opens (cell_name is_head) ∷ [])
      (cell_name is_head ∷ outer)
  cell_of outer true Aligned.None items rest safe = past_start items outer (codes "th") [] rest refl refl safe
  cell_of outer true Aligned.Left items rest safe = past_start items outer (codes "th") ((codes "align", codes "left") ∷ []) rest refl refl safe
  cell_of outer true Aligned.Center items rest safe = past_start items outer (codes "th") ((codes "align", codes "center") ∷ []) rest refl refl safe
  cell_of outer true Aligned.Right items rest safe = past_start items outer (codes "th") ((codes "align", codes "right") ∷ []) rest refl refl safe
  cell_of outer false Aligned.None items rest safe = past_start items outer (codes "td") [] rest refl refl safe
  cell_of outer false Aligned.Left items rest safe = past_start items outer (codes "td") ((codes "align", codes "left") ∷ []) rest refl refl safe
  cell_of outer false Aligned.Center items rest safe = past_start items outer (codes "td") ((codes "align", codes "center") ∷ []) rest refl refl safe
  cell_of outer false Aligned.Right items rest safe = past_start items outer (codes "td") ((codes "align", codes "right") ∷ []) rest refl refl safe

  pub cell_step : (outer : List (List ℕ)) (is_head : Bool) (cells : List Alignment)
      → Reading outer (codes "<" ++ cell_name is_head ++ cell_align cells ++ codes ">") (opens (cell_name is_head) ∷ []) (cell_name is_head ∷ outer)
  cell_step outer is_head [] = cell_of outer is_head Aligned.None
  cell_step outer is_head (alignment ∷ later) = cell_of outer is_head alignment

  pub cell_end_step : (outer : List (List ℕ)) (is_head : Bool)
      → Reading (cell_name is_head ∷ outer) (cell_end is_head) (closes_block (cell_name is_head)) outer
  cell_end_step outer true = close_line outer (codes "th")
  cell_end_step outer false = close_line outer (codes "td")

  -- ---- links and images

  -- a title that is a text
  abbrev titled : List ℕ → List ℕ
  titled value = codes " title=\"" ++ value ++ codes "\""

  plain_link : (outer : List (List ℕ)) (address : List ℕ) (rel : Bool) → addresses address ≡ true
      → Reading outer (codes "<a href=\"" ++ address ++ codes "\"" ++ [] ++ rel_attribute rel ++ codes ">") (opens (codes "a") ∷ []) (codes "a" ∷ outer)
  plain_link outer address true is_safe items rest safe =
      simp append_assoc
      (past_start items outer (codes "a") ((codes "href", address) ∷ (codes "rel", codes "nofollow noopener") ∷ []) rest refl (rw is_safe refl) safe)
  plain_link outer address false is_safe items rest safe =
      simp append_assoc (past_start items outer (codes "a") ((codes "href", address) ∷ []) rest refl (rw is_safe refl) safe)

  titled_link : (outer : List (List ℕ)) (address title : List ℕ) (rel : Bool) → addresses address ≡ true → is_text title ≡ true
      → Reading outer (codes "<a href=\"" ++ address ++ codes "\"" ++ titled title ++ rel_attribute rel ++ codes ">") (opens (codes "a") ∷ [])
      (codes "a" ∷ outer)
  titled_link outer address title true is_safe text items rest safe =
      subst (ReadsIn addresses outer (opens (codes "a") ∷ items))
      (sym (link_parts (codes "<a href=\"") address (codes "\"") (codes " title=\"") title (codes "\"") (rel_attribute true) (codes ">") rest))
      (past_start items outer (codes "a") ((codes "href", address) ∷ (codes "title", title) ∷ (codes "rel", codes "nofollow noopener") ∷ []) rest refl
      (rw (is_safe, text) refl) safe)
  titled_link outer address title false is_safe text items rest safe =
      subst (ReadsIn addresses outer (opens (codes "a") ∷ items))
      (sym (link_parts (codes "<a href=\"") address (codes "\"") (codes " title=\"") title (codes "\"") (rel_attribute false) (codes ">") rest))
      (past_start items outer (codes "a") ((codes "href", address) ∷ (codes "title", title) ∷ []) rest refl (rw (is_safe, text) refl) safe)

  pub link_step : (outer : List (List ℕ)) (address title : List ℕ) (rel : Bool) → addresses address ≡ true
      → Reading outer (codes "<a href=\"" ++ address ++ codes "\"" ++ title_attribute title ++ rel_attribute rel ++ codes ">") (opens (codes "a") ∷ [])
      (codes "a" ∷ outer)
  link_step outer address [] rel is_safe = plain_link outer address rel is_safe
  link_step outer address (b ∷ title) rel is_safe = titled_link outer address (escaped (b ∷ title)) rel is_safe (escaped_alone (b ∷ title))

  -- what is read of an image with this text
  abbrev image_items : List ℕ → List Item → List Item
  image_items words items = opens (codes "img") ∷ (map byte (read_after 0 words) ++ (closes (codes "img") ∷ items))

  -- an image with its text
  pub image_step : (items : List Item) (outer : List (List ℕ)) (address words title rest : List ℕ) → addresses address ≡ true
      → is_text words ≡ true → ReadsIn addresses outer items rest
      → ReadsIn addresses outer (image_items words items)
      ((codes "<img src=\"" ++ address ++ codes "\" alt=\"") ++ (words ++ ((codes "\"" ++ title_attribute title ++ codes " />") ++ rest)))
  image_step items outer address words [] rest is_safe text safe =
      subst (ReadsIn addresses outer (image_items words items))
      (sym (append_assoc (codes "<img src=\"" ++ address) (codes "\" alt=\"") (words ++ (codes "\" />" ++ rest))
      ∙ append_assoc (codes "<img src=\"") address (codes "\" alt=\"" ++ (words ++ (codes "\" />" ++ rest)))))
      (past_void items outer (codes "img") ((codes "src", address) ∷ (codes "alt", words) ∷ []) true rest refl (rw (is_safe, text) refl) safe)
  image_step items outer address words (b ∷ title) rest is_safe text safe =
      titled_image items outer address words (escaped (b ∷ title)) rest is_safe text (escaped_alone (b ∷ title)) safe
    where
      titled_image : (items : List Item) (outer : List (List ℕ)) (address words title rest : List ℕ) → addresses address ≡ true
          → is_text words ≡ true → is_text title ≡ true → ReadsIn addresses outer items rest
          → ReadsIn addresses outer (image_items words items)
          ((codes "<img src=\"" ++ address ++ codes "\" alt=\"") ++ (words ++ ((codes "\"" ++ titled title ++ codes " />") ++ rest)))
      titled_image items outer address words title rest is_safe text title_text safe =
          subst (ReadsIn addresses outer (image_items words items))
          (sym (image_parts (codes "<img src=\"") address (codes "\" alt=\"") words (codes "\"") (codes " title=\"") title (codes "\"") (codes " />") rest))
          (past_void items outer (codes "img") ((codes "src", address) ∷ (codes "alt", words) ∷ (codes "title", title) ∷ []) true rest refl
          (rw (is_safe, text, title_text) refl) safe)

  -- an image with its text, or the link that stands for it
  pub image_whole : (setting : Setting) → ((to : List ℕ) → addresses (address setting to) ≡ true) → (as_link : Bool) (items : List Item)
      (outer : List (List ℕ)) (to title : List ℕ) (links : List (Option (List ℕ)))
      (more rest : List ℕ) → setting.images_as_links ≡ as_link → is_text more ≡ true → ReadsIn addresses outer items rest
      → ReadsIn addresses outer
      (map opens (image_names as_link (length links)) ++ (map byte (read_after 0 more) ++ (map closes (image_names as_link (length links)) ++ items)))
      (before_image setting to title links ++ (more ++ (after_image setting title links ++ rest)))
  image_whole setting are_addresses false items outer to title links more rest is textual safe =
      rw is (image_step items outer (address setting to) more title rest (are_addresses to) textual safe)
  image_whole setting are_addresses true items outer to title [] more rest is textual safe =
      rw is (link_step outer (address setting to) title setting.rel (are_addresses to)
      (map byte (read_after 0 more) ++ (closes (codes "a") ∷ items)) (more ++ (codes "</a>" ++ rest))
      (text_step (codes "a" ∷ outer) more textual (closes (codes "a") ∷ items) (codes "</a>" ++ rest) (past_end items outer (codes "a") rest safe)))
  image_whole setting are_addresses true items outer to title (other ∷ links) more rest is textual safe =
      rw is (text_step outer more textual items rest safe)

  -- ---- code, raw HTML, breaks and rules

  pub code_step_of : (outer : List (List ℕ)) (words : List ℕ)
      → Reading outer (code_element words) (opens (codes "code") ∷ (map byte words ++ closes (codes "code") ∷ [])) outer
  code_step_of outer words =
      both_read outer (codes "code" ∷ outer) outer (codes "<code>" ++ escaped words) (codes "</code>") (opens (codes "code") ∷ map byte words)
      (closes (codes "code") ∷ [])
      (both_read outer (codes "code" ∷ outer) (codes "code" ∷ outer) (codes "<code>") (escaped words) (opens (codes "code") ∷ []) (map byte words)
      (open_step outer (codes "code") refl refl) (escaped_step (codes "code" ∷ outer) words))
      (close_step outer (codes "code"))

  pub raw_step : (choice : RawHtml) (outer : List (List ℕ)) (words : List ℕ) → Reading outer (raw_html choice words) (raw_items choice words) outer
  raw_step Kept outer [] = λ items rest safe. safe
  raw_step Kept outer (b ∷ words) = λ items rest safe. past_raw items outer (b ∷ words) rest safe
  raw_step Escaped outer words = escaped_step outer words
  raw_step LeftOut outer words = λ items rest safe. safe

  pub soft_step : (outer : List (List ℕ)) → Reading outer (codes "\n") (byte line_feed ∷ []) outer
  soft_step outer items rest safe = past_text items outer (codes "\n") rest refl safe

  pub hard_step : (outer : List (List ℕ))
      → Reading outer (codes "<br />\n") (opens (codes "br") ∷ closes (codes "br") ∷ byte line_feed ∷ []) outer
  hard_step outer items rest safe =
      past_void (byte line_feed ∷ items) outer (codes "br") [] true (codes "\n" ++ rest) refl refl (soft_step outer items rest safe)

  pub rule_step : (outer : List (List ℕ)) → Reading outer (codes "<hr />\n") (opens (codes "hr") ∷ closes_block (codes "hr")) outer
  rule_step outer items rest safe =
      past_void (edge ∷ items) outer (codes "hr") [] true (codes "\n" ++ rest) refl refl (past_line items outer rest safe)
