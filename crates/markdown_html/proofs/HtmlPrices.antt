-- What each event adds to HTML at most.
use Rattle.std.proofs.Common.{ℕ, Bool, true, false, not, ◌+◌, ◌-◌, ◌*◌, ◌≤◌, ◌≡◌, List, [], ◌∷◌, ◌++◌, length, drop, take, codes, Option, Some, None}
use Rattle.std.proofs.Common.{ap, refl, sym, subst, arith, inl, inr, length-append, Result, Ok, Err, IfOk}
use Rattle.std.specs.Prelude.{◌==◌, if◌then◌else◌}
use Rattle.std.specs.Fmt.{decimal}
use Rattle.std.specs.List.{flat_map, prefix_len}
use Rattle.std.proofs.lemmas.Bool.{cases_Bool}
use Rattle.std.proofs.lemmas.List.{length-take}
use Rattle.markdown_values.specs.declared.values.Alignment.{Alignment}
use Rattle.markdown_values.specs.declared.values.Alignment.TheVariants as Aligned
use Rattle.markdown_values.specs.declared.values.HeadingLevel.{HeadingLevel}
use Rattle.markdown_values.specs.declared.values.HeadingLevel.TheVariants.{H1, H2, H3, H4, H5, H6}
use Rattle.markdown_values.specs.declared.values.LinkType.{LinkType}
use Rattle.markdown_values.specs.declared.values.LinkType.TheVariants as Kind
use Rattle.markdown_values.specs.declared.values.tags.TagEnd.{TagEnd}
use Rattle.markdown_values.specs.declared.values.tags.TagEnd.TheVariants as End
use Rattle.markdown_values.specs.values.Events as E
use Rattle.markdown_values.specs.values.Events.{EventView}
use Rattle.markdown_values.specs.values.Tags as T
use Rattle.markdown_values.specs.values.Tags.{TagView}
use Rattle.markdown_scanners_tree.specs.Bytes.{is_white_space}
use Rattle.markdown_html.specs.declared.setting.RawHtml.{RawHtml}
use Rattle.markdown_html.specs.declared.setting.RawHtml.TheVariants.{Kept, Escaped, LeftOut}
use Rattle.markdown_html.specs.Blocks.{cell_align, cell_end, cell_name, align_attribute, code_start, heading_end, heading_start, language, language_start}
use Rattle.markdown_html.specs.Blocks.{list_end, list_start, numbered_start, row_start, table_end, task_box}
use Rattle.markdown_html.specs.Escapes.{address_byte, escaped, escaped_byte, stands_in_address, written_address}
use Rattle.markdown_html.specs.Html.{after_event, after_events, ended, html_of, started, with_event, with_text_of}
use Rattle.markdown_html.specs.HtmlSizes.{FitsEvents, bytes_of, event_bytes, tag_bytes}
use Rattle.markdown_html.specs.Inlines.{address, after_image, before_image, code_element, image_ended, image_started, link_ended, link_started, link_tag}
use Rattle.markdown_html.specs.Inlines.{raw_html, raw_text, rel_attribute, target, title_attribute, unless_in_link}
use Rattle.markdown_html.specs.Settings.{Setting}
use Rattle.markdown_html.specs.States.{HtmlState, ended_line, ended_text, is_begun, is_in_image, is_text_begun, last_byte, nothing_written, on_line, written}

-- ---- prices

-- how many bytes of an address and a title count, for a link of a kind
abbrev pub Counted : Type 0
Counted = LinkType → List ℕ → List ℕ → ℕ

-- all
abbrev pub all_bytes : Counted
all_bytes kind to title = length to + length title

-- an e-mail address is written after its scheme
abbrev pub mail : LinkType → ℕ
mail Kind.Email = 7
mail kind = 0

-- what the start of an element adds, with a line ending before it
abbrev pub tag_price : Counted → TagView (List ℕ) → ℕ
tag_price counted T.paragraph = 4
tag_price counted (T.heading level id classes attributes) = 5
tag_price counted (T.block_quote kind) = 14
tag_price counted (T.code_block None) = 12
tag_price counted (T.code_block (Some info)) = 30 + 6 * length info
tag_price counted T.html_block = 1
tag_price counted (T.list None) = 6
tag_price counted (T.list (Some first)) = 15 + length (decimal first)
tag_price counted T.item = 5
tag_price counted (T.table columns) = 9
tag_price counted T.table_head = 14
tag_price counted T.table_row = 14
tag_price counted T.table_cell = 19
tag_price counted T.emphasis = 4
tag_price counted T.strong = 8
tag_price counted T.strikethrough = 5
tag_price counted T.superscript = 5
tag_price counted T.subscript = 5
tag_price counted (T.link kind to title label) = 44 + mail kind + 6 * counted kind to title
tag_price counted (T.image kind to title label) = 48 + mail kind + 6 * counted kind to title
tag_price counted tag = 0

-- and its end; that of an image is paid with its start
abbrev pub end_price : TagEnd → ℕ
end_price End.Paragraph = 5
end_price (End.Heading level) = 6
end_price (End.BlockQuote kind) = 15
end_price End.CodeBlock = 15
end_price End.HtmlBlock = 1
end_price (End.List numbered) = 6
end_price End.Item = 6
end_price End.Table = 18
end_price End.TableHead = 15
end_price End.TableRow = 6
end_price End.TableCell = 6
end_price End.Emphasis = 5
end_price End.Strong = 9
end_price End.Strikethrough = 6
end_price End.Superscript = 6
end_price End.Subscript = 6
end_price End.Link = 4
end_price tag = 0

abbrev pub price : Counted → EventView (List ℕ) → ℕ
price counted (E.start tag) = tag_price counted tag
price counted (E.end tag) = end_price tag
price counted (E.text words) = 6 * length words
price counted (E.code words) = 13 + 6 * length words
price counted (E.inline_math words) = 6 * length words
price counted (E.display_math words) = 6 * length words
price counted (E.html words) = 6 * length words
price counted (E.inline_html words) = 6 * length words
price counted (E.footnote_reference words) = 6 * length words
price counted E.soft_break = 1
price counted E.hard_break = 7
price counted E.rule = 8
price counted (E.task_list_marker is_checked) = 47

-- ---- texts

byte_few : (b : ℕ) → length (escaped_byte b) ≤ 6
byte_few b = elim (cases_Bool (b == 60)) [
  | inl less ↦ rw less (omega arith)
  | inr no_less ↦ elim (cases_Bool (b == 62)) [
    | inl greater ↦ rw (no_less, greater) (omega arith)
    | inr no_greater ↦ elim (cases_Bool (b == 38)) [
      | inl amp ↦ rw (no_less, no_greater, amp) (omega arith)
      | inr no_amp ↦ elim (cases_Bool (b == 34)) [
        | inl quote ↦ rw (no_less, no_greater, no_amp, quote) (omega arith)
        | inr no_quote ↦ rw (no_less, no_greater, no_amp, no_quote) (omega arith)
      ]
    ]
  ]
]

pub escaped_few : (words : List ℕ) → length (escaped words) ≤ 6 * length words
escaped_few [] = omega arith
escaped_few (b ∷ words) = omega (arith, length-append (escaped_byte b) (escaped words), byte_few b, escaped_few words)

address_byte_few : (b : ℕ) → length (address_byte b) ≤ 6
address_byte_few b = elim (cases_Bool (stands_in_address b)) [
  | inl stands ↦ rw stands (omega arith)
  | inr other ↦ elim (cases_Bool (b == 38)) [
    | inl amp ↦ rw (other, amp) (omega arith)
    | inr no_amp ↦ elim (cases_Bool (b == 39)) [
      | inl quote ↦ rw (other, no_amp, quote) (omega arith)
      | inr no_quote ↦ rw (other, no_amp, no_quote) (omega arith)
    ]
  ]
]

address_few : (to : List ℕ) → length (written_address to) ≤ 6 * length to
address_few [] = omega arith
address_few (b ∷ to) = omega (arith, length-append (address_byte b) (written_address to), address_byte_few b, address_few to)

title_few : (title : List ℕ) → length (title_attribute title) ≤ 9 + 6 * length title
title_few [] = omega arith
title_few (b ∷ title) =
    omega (arith, length-append (escaped (b ∷ title)) (codes "\""), escaped_few (b ∷ title))

raw_few : (raw : RawHtml) (words : List ℕ) → length (raw_html raw words) ≤ 6 * length words
raw_few Kept words = omega arith
raw_few Escaped words = escaped_few words
raw_few LeftOut words = omega arith

raw_text_few : (raw : RawHtml) (words : List ℕ) → length (raw_text raw words) ≤ 6 * length words
raw_text_few Kept words = escaped_few words
raw_text_few Escaped words = escaped_few words
raw_text_few LeftOut words = omega arith

-- an address, with the scheme of an e-mail address
target_few : (kind : LinkType) (to : List ℕ) → length (written_address (target kind to)) ≤ mail kind + 6 * length to
target_few Kind.Inline to = omega (arith, address_few to)
target_few Kind.Reference to = omega (arith, address_few to)
target_few Kind.ReferenceUnknown to = omega (arith, address_few to)
target_few Kind.Collapsed to = omega (arith, address_few to)
target_few Kind.CollapsedUnknown to = omega (arith, address_few to)
target_few Kind.Shortcut to = omega (arith, address_few to)
target_few Kind.ShortcutUnknown to = omega (arith, address_few to)
target_few Kind.Autolink to = omega (arith, address_few to)
target_few Kind.Email to = omega (arith, address_few to)
target_few (Kind.WikiLink has_pothole) to = omega (arith, address_few to)

module _ (setting : Setting) where
  allowed_few : (kind : LinkType) (to : List ℕ) → length (address setting (target kind to)) ≤ mail kind + 6 * length to
  allowed_few kind to = by (setting.allows (target kind to))
    where
      by : (allowed : Bool) → length (if allowed then written_address (target kind to) else []) ≤ mail kind + 6 * length to
      by true = target_few kind to
      by false = omega arith

  rel_few : (rel : Bool) → length (rel_attribute rel) ≤ 24
  rel_few true = omega arith
  rel_few false = omega arith

  link_tag_few : (kind : LinkType) (to title : List ℕ)
      → length (link_tag setting (target kind to) title) ≤ 44 + mail kind + 6 * (length to + length title)
  link_tag_few kind to title =
      let at = address setting (target kind to) in
      let name = title_attribute title in
      let rel = rel_attribute setting.rel in
      omega (
        arith,
        allowed_few kind to,
        title_few title,
        rel_few setting.rel,
        length-append (codes "<a href=\"") at,
        length-append (codes "<a href=\"" ++ at) (codes "\""),
        length-append (codes "<a href=\"" ++ at ++ codes "\"") name,
        length-append (codes "<a href=\"" ++ at ++ codes "\"" ++ name) rel,
        length-append (codes "<a href=\"" ++ at ++ codes "\"" ++ name ++ rel) (codes ">"),
      )

  -- ---- states

  -- what the end of an image adds
  abbrev closing : List ℕ → ℕ
  closing title = if setting.images_as_links then 4 else 13 + 6 * length title

  -- what is written, and what the ends of open images add
  abbrev owed : List (Option (List ℕ)) → ℕ
  owed [] = 0
  owed (None ∷ outer) = owed outer
  owed (Some title ∷ outer) = closing title + owed outer

  abbrev size : HtmlState → ℕ
  size s = length s.output + owed s.links

  -- no more is added
  abbrev Adds : ℕ → HtmlState → HtmlState → Type 0
  Adds few s new = size new ≤ size s + few

  in_line : (few : ℕ) (more : List ℕ) (s : HtmlState) → length more ≤ few → Adds few s (written more s)
  in_line few more s low = omega (arith, low, length-append s.output more)

  line_few : (output : List ℕ) → length (ended_line output) ≤ length output + 1
  line_few output = by (is_begun (last_byte output))
    where
      by : (begun : Bool) → length (if begun then output ++ 10 ∷ [] else output) ≤ length output + 1
      by true = omega (arith, length-append output (10 ∷ []))
      by false = omega arith

  text_few : (output : List ℕ) → length (ended_text output) ≤ length output + 1
  text_few output = by (is_text_begun (last_byte output))
    where
      by : (begun : Bool) → length (if begun then output ++ 10 ∷ [] else output) ≤ length output + 1
      by true = omega (arith, length-append output (10 ∷ []))
      by false = omega arith

  own_line : (few : ℕ) (more : List ℕ) (s : HtmlState) → length more + 1 ≤ few → Adds few s (on_line more s)
  own_line few more s low = omega (arith, low, line_few s.output, length-append (ended_line s.output) more)

  -- ---- starts

  heading_few : (level : HeadingLevel) → length (heading_start level) ≤ 4
  heading_few H1 = omega arith
  heading_few H2 = omega arith
  heading_few H3 = omega arith
  heading_few H4 = omega arith
  heading_few H5 = omega arith
  heading_few H6 = omega arith

  heading_end_few : (level : HeadingLevel) → length (heading_end level) ≤ 6
  heading_end_few H1 = omega arith
  heading_end_few H2 = omega arith
  heading_end_few H3 = omega arith
  heading_end_few H4 = omega arith
  heading_end_few H5 = omega arith
  heading_end_few H6 = omega arith

  language_few : (name : List ℕ) → length (language_start name) ≤ 29 + 6 * length name
  language_few [] = omega arith
  language_few (b ∷ name) =
      let begins = codes "<pre><code class=\"language-" in
      omega (
        arith,
        escaped_few (b ∷ name),
        length-append begins (escaped (b ∷ name)),
        length-append (begins ++ escaped (b ∷ name)) (codes "\">"),
      )

  code_few : (info : List ℕ) → length (code_start (Some info)) ≤ 29 + 6 * length info
  code_few info =
      omega (arith, language_few (language info), length-take (prefix_len (λ b. not (is_white_space b)) info) info)

  number_few : (first : ℕ) → length (list_start (Some first)) ≤ 14 + length (decimal first)
  number_few first = by (first == 1)
    where
      by : (is_one : Bool) → length (if is_one then codes "<ol>\n" else numbered_start first) ≤ 14 + length (decimal first)
      by true = omega arith
      by false =
          omega (
            arith,
            length-append (codes "<ol start=\"") (decimal first),
            length-append (codes "<ol start=\"" ++ decimal first) (codes "\">\n"),
          )

  row_few : (has_body : Bool) → length (row_start has_body) ≤ 13
  row_few true = omega arith
  row_few false = omega arith

  align_few : (alignment : Alignment) → length (align_attribute alignment) ≤ 15
  align_few Aligned.None = omega arith
  align_few Aligned.Left = omega arith
  align_few Aligned.Center = omega arith
  align_few Aligned.Right = omega arith

  cell_few : (is_head : Bool) (cells : List Alignment) → length (codes "<" ++ cell_name is_head ++ cell_align cells ++ codes ">") ≤ 19
  cell_few is_head cells =
      omega (
        arith,
        name is_head,
        align cells,
        length-append (codes "<") (cell_name is_head),
        length-append (codes "<" ++ cell_name is_head) (cell_align cells),
        length-append (codes "<" ++ cell_name is_head ++ cell_align cells) (codes ">"),
      )
    where
      name : (is_head : Bool) → length (cell_name is_head) ≤ 2
      name true = omega arith
      name false = omega arith

      align : (cells : List Alignment) → length (cell_align cells) ≤ 15
      align [] = omega arith
      align (alignment ∷ later) = align_few alignment

  link_adds : (kind : LinkType) (to title label : List ℕ) (s : HtmlState)
      → Adds (tag_price all_bytes (T.link kind to title label)) s (link_started setting (target kind to) title s)
  link_adds kind to title label s =
      let tag = link_tag setting (target kind to) title in
      omega (arith, link_tag_few kind to title, length-append s.output tag)

  unless_few : (links : List (Option (List ℕ))) (tag : List ℕ) → length (unless_in_link links tag) ≤ length tag
  unless_few [] tag = omega arith
  unless_few (outer ∷ links) tag = omega arith

  image_adds : (kind : LinkType) (to title label : List ℕ) (s : HtmlState)
      → Adds (tag_price all_bytes (T.image kind to title label)) s (image_started setting (target kind to) title s)
  image_adds kind to title label s =
      omega (arith, by setting.images_as_links, length-append s.output (before_image setting (target kind to) title s.links))
    where
      at : List ℕ
      at = address setting (target kind to)

      by : (as_links : Bool)
          → length (if as_links then unless_in_link s.links (link_tag setting (target kind to) title) else codes "<img src=\"" ++ address setting
          (target kind to) ++ codes "\" alt=\"")
          + (if as_links then 4 else 13 + 6 * length title) ≤ 48 + mail kind + 6 * (length to + length title)
      by true = omega (arith, link_tag_few kind to title, unless_few s.links (link_tag setting (target kind to) title))
      by false =
          let address_is = address setting (target kind to) in
          omega (
            arith,
            allowed_few kind to,
            length-append (codes "<img src=\"") address_is,
            length-append (codes "<img src=\"" ++ address_is) (codes "\" alt=\""),
          )

  start_adds : (tag : TagView (List ℕ)) (s : HtmlState) → Adds (tag_price all_bytes tag) s (started setting tag s)
  start_adds T.paragraph s = own_line 4 (codes "<p>") s (omega arith)
  start_adds (T.heading level id classes attributes) s = own_line 5 (heading_start level) s (omega (arith, heading_few level))
  start_adds (T.block_quote kind) s = own_line 14 (codes "<blockquote>\n") s (omega arith)
  start_adds (T.code_block None) s = own_line 12 (code_start None) s (omega arith)
  start_adds (T.code_block (Some info)) s = own_line (30 + 6 * length info) (code_start (Some info)) s (omega (arith, code_few info))
  start_adds T.html_block s = own_line 1 [] s (omega arith)
  start_adds (T.list None) s = own_line 6 (list_start None) s (omega arith)
  start_adds (T.list (Some first)) s = own_line (15 + length (decimal first)) (list_start (Some first)) s (omega (arith, number_few first))
  start_adds T.item s = own_line 5 (codes "<li>") s (omega arith)
  start_adds (T.table columns) s = own_line 9 (codes "<table>\n") s (omega arith)
  start_adds T.table_head s = own_line 14 (codes "<thead>\n<tr>\n") s (omega arith)
  start_adds T.table_row s = own_line 14 (row_start s.has_body) s (omega (arith, row_few s.has_body))
  start_adds T.table_cell s = in_line 19 (codes "<" ++ cell_name s.is_head ++ cell_align s.cells ++ codes ">") s (cell_few s.is_head s.cells)
  start_adds T.emphasis s = in_line 4 (codes "<em>") s (omega arith)
  start_adds T.strong s = in_line 8 (codes "<strong>") s (omega arith)
  start_adds T.strikethrough s = in_line 5 (codes "<del>") s (omega arith)
  start_adds T.superscript s = in_line 5 (codes "<sup>") s (omega arith)
  start_adds T.subscript s = in_line 5 (codes "<sub>") s (omega arith)
  start_adds (T.link kind to title label) s = link_adds kind to title label s
  start_adds (T.image kind to title label) s = image_adds kind to title label s
  start_adds (T.footnote_definition label) s = omega arith
  start_adds T.definition_list s = omega arith
  start_adds T.definition_list_title s = omega arith
  start_adds T.definition_list_definition s = omega arith
  start_adds (T.metadata_block kind) s = omega arith

  -- ---- ends

  numbered_few : (is_numbered : Bool) → length (list_end is_numbered) ≤ 6
  numbered_few true = omega arith
  numbered_few false = omega arith

  table_few : (has_body : Bool) → length (table_end has_body) ≤ 18
  table_few true = omega arith
  table_few false = omega arith

  cell_end_few : (is_head : Bool) → length (cell_end is_head) ≤ 6
  cell_end_few true = omega arith
  cell_end_few false = omega arith

  outer_owed : (links : List (Option (List ℕ))) → owed (drop 1 links) ≤ owed links
  outer_owed [] = omega arith
  outer_owed (None ∷ outer) = omega arith
  outer_owed (Some title ∷ outer) = omega arith

  end_adds : (tag : TagEnd) (s : HtmlState) → Adds (end_price tag) s (ended tag s)
  end_adds End.Paragraph s = in_line 5 (codes "</p>\n") s (omega arith)
  end_adds (End.Heading level) s = in_line 6 (heading_end level) s (heading_end_few level)
  end_adds (End.BlockQuote kind) s = own_line 15 (codes "</blockquote>\n") s (omega arith)
  end_adds End.CodeBlock s =
      omega (arith, text_few s.output, length-append (ended_text s.output) (codes "</code></pre>\n"))
  end_adds End.HtmlBlock s = own_line 1 [] s (omega arith)
  end_adds (End.List is_numbered) s = in_line 6 (list_end is_numbered) s (numbered_few is_numbered)
  end_adds End.Item s = in_line 6 (codes "</li>\n") s (omega arith)
  end_adds End.Table s = in_line 18 (table_end s.has_body) s (table_few s.has_body)
  end_adds End.TableHead s = in_line 15 (codes "</tr>\n</thead>\n") s (omega arith)
  end_adds End.TableRow s = in_line 6 (codes "</tr>\n") s (omega arith)
  end_adds End.TableCell s = in_line 6 (cell_end s.is_head) s (cell_end_few s.is_head)
  end_adds End.Emphasis s = in_line 5 (codes "</em>") s (omega arith)
  end_adds End.Strong s = in_line 9 (codes "</strong>") s (omega arith)
  end_adds End.Strikethrough s = in_line 6 (codes "</del>") s (omega arith)
  end_adds End.Superscript s = in_line 6 (codes "</sup>") s (omega arith)
  end_adds End.Subscript s = in_line 6 (codes "</sub>") s (omega arith)
  end_adds End.Link s = omega (arith, length-append s.output (codes "</a>"), outer_owed s.links)
  end_adds End.FootnoteDefinition s = omega arith
  end_adds End.DefinitionList s = omega arith
  end_adds End.DefinitionListTitle s = omega arith
  end_adds End.DefinitionListDefinition s = omega arith
  end_adds End.Image s = omega arith
  end_adds (End.MetadataBlock kind) s = omega arith

  -- ---- events

  boxes_few : (is_checked : Bool) → length (task_box is_checked) ≤ 47
  boxes_few true = omega arith
  boxes_few false = omega arith

  element_few : (words : List ℕ) → length (code_element words) ≤ 13 + 6 * length words
  element_few words =
      omega (
        arith,
        escaped_few words,
        length-append (codes "<code>") (escaped words),
        length-append (codes "<code>" ++ escaped words) (codes "</code>"),
      )

  outside_adds : (event : EventView (List ℕ)) (s : HtmlState) → Adds (price all_bytes event) s (with_event setting event s)
  outside_adds (E.start tag) s = start_adds tag s
  outside_adds (E.end tag) s = end_adds tag s
  outside_adds (E.text words) s = in_line (6 * length words) (escaped words) s (escaped_few words)
  outside_adds (E.code words) s = in_line (13 + 6 * length words) (code_element words) s (element_few words)
  outside_adds (E.inline_math words) s = in_line (6 * length words) (escaped words) s (escaped_few words)
  outside_adds (E.display_math words) s = in_line (6 * length words) (escaped words) s (escaped_few words)
  outside_adds (E.html words) s = in_line (6 * length words) (raw_html setting.raw words) s (raw_few setting.raw words)
  outside_adds (E.inline_html words) s = in_line (6 * length words) (raw_html setting.raw words) s (raw_few setting.raw words)
  outside_adds (E.footnote_reference words) s = in_line (6 * length words) (escaped words) s (escaped_few words)
  outside_adds E.soft_break s = in_line 1 (codes "\n") s (omega arith)
  outside_adds E.hard_break s = in_line 7 (codes "<br />\n") s (omega arith)
  outside_adds E.rule s = own_line 8 (codes "<hr />\n") s (omega arith)
  outside_adds (E.task_list_marker is_checked) s = in_line 47 (task_box is_checked) s (boxes_few is_checked)

  after_few : (title : List ℕ) (links : List (Option (List ℕ))) → length (after_image setting title links) ≤ closing title
  after_few title links = by setting.images_as_links
    where
      by : (as_links : Bool)
          → length (if as_links then unless_in_link links (codes "</a>") else codes "\"" ++ title_attribute title ++ codes " />")
          ≤ (if as_links then 4 else 13 + 6 * length title)
      by true = omega (arith, unless_few links (codes "</a>"))
      by false =
          omega (
            arith,
            title_few title,
            length-append (codes "\"") (title_attribute title),
            length-append (codes "\"" ++ title_attribute title) (codes " />"),
          )

  image_ends : (links : List (Option (List ℕ))) (s : HtmlState) → s.links ≡ links → Adds 0 s (image_ended setting links s)
  image_ends [] s is = omega (arith, ap owed is)
  image_ends (None ∷ outer) s is = omega (arith, ap owed is)
  image_ends (Some title ∷ outer) s is =
      let more = if is_in_image outer then [] else after_image setting title outer in
      omega (arith, ap owed is, length-append s.output more, by (is_in_image outer))
    where
      by : (inside : Bool) → length (if inside then [] else after_image setting title outer) ≤ closing title
      by true = omega arith
      by false = after_few title outer

  closing_few : (title : List ℕ) → closing title ≤ 48 + 6 * length title
  closing_few title = by setting.images_as_links
    where
      by : (as_links : Bool) → (if as_links then 4 else 13 + 6 * length title) ≤ 48 + 6 * length title
      by true = omega arith
      by false = omega arith

  inside_adds : (event : EventView (List ℕ)) (s : HtmlState) → Adds (price all_bytes event) s (with_text_of setting event s)
  inside_adds (E.start T.paragraph) s = omega arith
  inside_adds (E.start (T.heading level id classes attributes)) s = omega arith
  inside_adds (E.start (T.block_quote kind)) s = omega arith
  inside_adds (E.start (T.code_block info)) s = omega arith
  inside_adds (E.start T.html_block) s = omega arith
  inside_adds (E.start (T.list first)) s = omega arith
  inside_adds (E.start T.item) s = omega arith
  inside_adds (E.start (T.footnote_definition label)) s = omega arith
  inside_adds (E.start T.definition_list) s = omega arith
  inside_adds (E.start T.definition_list_title) s = omega arith
  inside_adds (E.start T.definition_list_definition) s = omega arith
  inside_adds (E.start (T.table columns)) s = omega arith
  inside_adds (E.start T.table_head) s = omega arith
  inside_adds (E.start T.table_row) s = omega arith
  inside_adds (E.start T.table_cell) s = omega arith
  inside_adds (E.start T.emphasis) s = omega arith
  inside_adds (E.start T.strong) s = omega arith
  inside_adds (E.start T.strikethrough) s = omega arith
  inside_adds (E.start T.superscript) s = omega arith
  inside_adds (E.start T.subscript) s = omega arith
  inside_adds (E.start (T.link kind to title label)) s = omega arith
  inside_adds (E.start (T.image kind to title label)) s = omega (arith, closing_few title)
  inside_adds (E.start (T.metadata_block kind)) s = omega arith
  inside_adds (E.end End.Image) s = image_ends s.links s refl
  inside_adds (E.end End.Paragraph) s = omega arith
  inside_adds (E.end (End.Heading level)) s = omega arith
  inside_adds (E.end (End.BlockQuote kind)) s = omega arith
  inside_adds (E.end End.CodeBlock) s = omega arith
  inside_adds (E.end End.HtmlBlock) s = omega arith
  inside_adds (E.end (End.List is_numbered)) s = omega arith
  inside_adds (E.end End.Item) s = omega arith
  inside_adds (E.end End.FootnoteDefinition) s = omega arith
  inside_adds (E.end End.DefinitionList) s = omega arith
  inside_adds (E.end End.DefinitionListTitle) s = omega arith
  inside_adds (E.end End.DefinitionListDefinition) s = omega arith
  inside_adds (E.end End.Table) s = omega arith
  inside_adds (E.end End.TableHead) s = omega arith
  inside_adds (E.end End.TableRow) s = omega arith
  inside_adds (E.end End.TableCell) s = omega arith
  inside_adds (E.end End.Emphasis) s = omega arith
  inside_adds (E.end End.Strong) s = omega arith
  inside_adds (E.end End.Strikethrough) s = omega arith
  inside_adds (E.end End.Superscript) s = omega arith
  inside_adds (E.end End.Subscript) s = omega arith
  inside_adds (E.end End.Link) s = omega arith
  inside_adds (E.end (End.MetadataBlock kind)) s = omega arith
  inside_adds (E.text words) s = in_line (6 * length words) (escaped words) s (escaped_few words)
  inside_adds (E.code words) s = in_line (13 + 6 * length words) (escaped words) s (omega (arith, escaped_few words))
  inside_adds (E.inline_math words) s = in_line (6 * length words) (escaped words) s (escaped_few words)
  inside_adds (E.display_math words) s = in_line (6 * length words) (escaped words) s (escaped_few words)
  inside_adds (E.html words) s = in_line (6 * length words) (raw_text setting.raw words) s (raw_text_few setting.raw words)
  inside_adds (E.inline_html words) s = in_line (6 * length words) (raw_text setting.raw words) s (raw_text_few setting.raw words)
  inside_adds (E.footnote_reference words) s = in_line (6 * length words) (escaped words) s (escaped_few words)
  inside_adds E.soft_break s = in_line 1 (codes " ") s (omega arith)
  inside_adds E.hard_break s = in_line 7 (codes " ") s (omega arith)
  inside_adds E.rule s = omega arith
  inside_adds (E.task_list_marker is_checked) s = omega arith

  event_adds : (event : EventView (List ℕ)) (s : HtmlState) → Adds (price all_bytes event) s (after_event setting event s)
  event_adds event s = by (is_in_image s.links)
    where
      by : (inside : Bool) → Adds (price all_bytes event) s (if inside then with_text_of setting event s else with_event setting event s)
      by true = inside_adds event s
      by false = outside_adds event s

  -- ---- lists of events

  abbrev pub prices : List (EventView (List ℕ)) → ℕ
  prices [] = 0
  prices (event ∷ later) = price all_bytes event + prices later

  events_add : (events : List (EventView (List ℕ))) (s : HtmlState) → size (after_events setting events s) ≤ size s + prices events
  events_add [] s = omega arith
  events_add (event ∷ later) s = omega (arith, event_adds event s, events_add later (after_event setting event s))

  -- The HTML of events has no more bytes than they add.
  pub html_few : (events : List (EventView (List ℕ))) → length (html_of setting events) ≤ prices events
  html_few events = omega (arith, events_add events nothing_written)

-- ---- by the number of events, and the bytes of their texts

mail_few : (kind : LinkType) → mail kind ≤ 7
mail_few Kind.Inline = omega arith
mail_few Kind.Reference = omega arith
mail_few Kind.ReferenceUnknown = omega arith
mail_few Kind.Collapsed = omega arith
mail_few Kind.CollapsedUnknown = omega arith
mail_few Kind.Shortcut = omega arith
mail_few Kind.ShortcutUnknown = omega arith
mail_few Kind.Autolink = omega arith
mail_few Kind.Email = omega arith
mail_few (Kind.WikiLink has_pothole) = omega arith

tag_few : (tag : TagView (List ℕ)) → tag_price all_bytes tag ≤ 55 + 6 * tag_bytes tag
tag_few T.paragraph = omega arith
tag_few (T.heading level id classes attributes) = omega arith
tag_few (T.block_quote kind) = omega arith
tag_few (T.code_block None) = omega arith
tag_few (T.code_block (Some info)) = omega arith
tag_few T.html_block = omega arith
tag_few (T.list None) = omega arith
tag_few (T.list (Some first)) = omega arith
tag_few T.item = omega arith
tag_few (T.footnote_definition label) = omega arith
tag_few T.definition_list = omega arith
tag_few T.definition_list_title = omega arith
tag_few T.definition_list_definition = omega arith
tag_few (T.table columns) = omega arith
tag_few T.table_head = omega arith
tag_few T.table_row = omega arith
tag_few T.table_cell = omega arith
tag_few T.emphasis = omega arith
tag_few T.strong = omega arith
tag_few T.strikethrough = omega arith
tag_few T.superscript = omega arith
tag_few T.subscript = omega arith
tag_few (T.link kind to title label) = omega (arith, mail_few kind)
tag_few (T.image kind to title label) = omega (arith, mail_few kind)
tag_few (T.metadata_block kind) = omega arith

pub end_few : (tag : TagEnd) → end_price tag ≤ 18
end_few End.Paragraph = omega arith
end_few (End.Heading level) = omega arith
end_few (End.BlockQuote kind) = omega arith
end_few End.CodeBlock = omega arith
end_few End.HtmlBlock = omega arith
end_few (End.List is_numbered) = omega arith
end_few End.Item = omega arith
end_few End.FootnoteDefinition = omega arith
end_few End.DefinitionList = omega arith
end_few End.DefinitionListTitle = omega arith
end_few End.DefinitionListDefinition = omega arith
end_few End.Table = omega arith
end_few End.TableHead = omega arith
end_few End.TableRow = omega arith
end_few End.TableCell = omega arith
end_few End.Emphasis = omega arith
end_few End.Strong = omega arith
end_few End.Strikethrough = omega arith
end_few End.Superscript = omega arith
end_few End.Subscript = omega arith
end_few End.Link = omega arith
end_few End.Image = omega arith
end_few (End.MetadataBlock kind) = omega arith

event_few : (event : EventView (List ℕ)) → price all_bytes event ≤ 55 + 6 * event_bytes event
event_few (E.start tag) = tag_few tag
event_few (E.end tag) = omega (arith, end_few tag)
event_few (E.text words) = omega arith
event_few (E.code words) = omega arith
event_few (E.inline_math words) = omega arith
event_few (E.display_math words) = omega arith
event_few (E.html words) = omega arith
event_few (E.inline_html words) = omega arith
event_few (E.footnote_reference words) = omega arith
event_few E.soft_break = omega arith
event_few E.hard_break = omega arith
event_few E.rule = omega arith
event_few (E.task_list_marker is_checked) = omega arith

prices_few : (setting : Setting) (events : List (EventView (List ℕ))) → prices setting events ≤ 55 * length events + 6 * bytes_of events
prices_few setting [] = omega arith
prices_few setting (event ∷ later) = omega (arith, event_few event, prices_few setting later)

-- The HTML of events has no more than so many bytes for each of them and for each byte of their texts.
pub html_fits_events : (setting : Setting) (events : List (EventView (List ℕ))) → FitsEvents events (html_of setting events)
html_fits_events setting events = omega (arith, html_few setting events, prices_few setting events)

-- the same of what a call answers
pub if_few : {A E : Type 0} (bytes : A → List ℕ) (setting : Setting) (events : List (EventView (List ℕ))) (r : Result A E)
    → IfOk r (λ html. bytes html ≡ html_of setting events) → IfOk r (λ html. FitsEvents events (bytes html))
if_few bytes setting events (Ok html) is = subst (FitsEvents events) (sym is) (html_fits_events setting events)
if_few bytes setting events (Err refused) is = is
