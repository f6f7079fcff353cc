-- What the tags that have started leave open: elements, and links and images.
use Rattle.std.proofs.Common.{ℕ, suc, ◌≡◌, Bool, true, false, List, [], ◌∷◌, ◌++◌, Option, Some, None, refl, ap, ◌∙◌, inl, inr}
use Rattle.std.specs.Prelude.{codes, not, if◌then◌else◌}
use Rattle.std.specs.List.{list_all}
use Rattle.std.proofs.lemmas.Bool.{cases_Bool}
use Rattle.markdown_events.specs.TagEnds.{tag_end}
use Rattle.markdown_values.specs.declared.values.LinkType.{LinkType}
use Rattle.markdown_values.specs.values.Events.{start, end}
use Rattle.markdown_values.specs.values.Headings.{heading_name}
use Rattle.markdown_values.specs.values.Tags.{paragraph, heading, block_quote, code_block, list, item}
use Rattle.markdown_values.specs.values.Tags.{table, table_head, table_row}
use Rattle.markdown_values.specs.values.Tags.{table_cell, emphasis, strong, strikethrough, superscript, subscript, link, image}
use Rattle.markdown_scanners_tree.proofs.PrefixLemmas.{both_true}
use Rattle.markdown_html.specs.Blocks.{cell_name}
use Rattle.markdown_html.specs.Content.{images_after, is_numbered, list_name, outer_of}
use Rattle.markdown_events.specs.Nesting.{Tag, is_in_table, MayStart}
use Rattle.markdown_html.specs.States.{is_in_image}
use Rattle.markdown_html.proofs.ReadSteps.{table_elements}

-- ---- what is open

-- the elements of a tag, the innermost first, where the table has other rows, and the row is its head
abbrev pub tag_elements : Bool → Bool → Tag → List (List ℕ)
tag_elements has_body is_head paragraph = codes "p" ∷ []
tag_elements has_body is_head (heading level id classes attributes) = heading_name level ∷ []
tag_elements has_body is_head (block_quote kind) = codes "blockquote" ∷ []
tag_elements has_body is_head (code_block info) = codes "code" ∷ codes "pre" ∷ []
tag_elements has_body is_head (list first) = list_name (is_numbered first) ∷ []
tag_elements has_body is_head item = codes "li" ∷ []
tag_elements has_body is_head (table columns) = table_elements has_body
tag_elements has_body is_head table_head = codes "tr" ∷ codes "thead" ∷ []
tag_elements has_body is_head table_row = codes "tr" ∷ []
tag_elements has_body is_head table_cell = cell_name is_head ∷ []
tag_elements has_body is_head emphasis = codes "em" ∷ []
tag_elements has_body is_head strong = codes "strong" ∷ []
tag_elements has_body is_head strikethrough = codes "del" ∷ []
tag_elements has_body is_head superscript = codes "sup" ∷ []
tag_elements has_body is_head subscript = codes "sub" ∷ []
tag_elements has_body is_head (link kind to title label) = codes "a" ∷ []
tag_elements has_body is_head tag = []

abbrev pub elements_of : Bool → Bool → List Tag → List (List ℕ)
elements_of has_body is_head [] = []
elements_of has_body is_head (tag ∷ outer) = tag_elements has_body is_head tag ++ elements_of has_body is_head outer

-- Outside of a table nothing depends on it.
pub same_elements : (tag : Tag) (has_body is_head has_body' is_head' : Bool) → not (is_in_table tag) ≡ true
    → tag_elements has_body is_head tag ≡ tag_elements has_body' is_head' tag
same_elements (table columns) has_body is_head has_body' is_head' other = cc
same_elements table_cell has_body is_head has_body' is_head' other = cc
same_elements tag has_body is_head has_body' is_head' other = refl

pub same_outside : (tags : List Tag) (has_body is_head has_body' is_head' : Bool) → list_all (λ tag. not (is_in_table tag)) tags ≡ true
    → elements_of has_body is_head tags ≡ elements_of has_body' is_head' tags
same_outside [] has_body is_head has_body' is_head' others = refl
same_outside (tag ∷ tags) has_body is_head has_body' is_head' others =
    let both = both_true (not (is_in_table tag)) (list_all (λ tag. not (is_in_table tag)) tags) others in
    ap (λ it. it ++ elements_of has_body is_head tags) (same_elements tag has_body is_head has_body' is_head' both.0)
    ∙ ap (λ it. tag_elements has_body' is_head' tag ++ it) (same_outside tags has_body is_head has_body' is_head' both.1)

-- each tag stands where it may
abbrev pub StandWell : List Tag → Type 0
StandWell [] = Unit {0}
StandWell (tag ∷ outer) = MayStart tag outer × StandWell outer

-- ---- links and images that are open

abbrev pub is_link : Tag → Bool
is_link (link kind to title label) = true
is_link tag = false

abbrev pub plain_links : List Tag → List (Option (List ℕ))
plain_links [] = []
plain_links (tag ∷ outer) = if is_link tag then None ∷ plain_links outer else plain_links outer

abbrev pub title_of : Tag → Option (List ℕ)
title_of (image kind to title label) = Some title
title_of tag = None

abbrev pub with_title : Option (List ℕ) → List (Option (List ℕ)) → List (Option (List ℕ))
with_title None links = links
with_title (Some title) links = Some title ∷ links

abbrev pub image_links : List Tag → List (Option (List ℕ)) → List (Option (List ℕ))
image_links [] outer = outer
image_links (tag ∷ inner) outer = with_title (title_of tag) (image_links inner outer)

pub outside_links : (tags : List Tag) → is_in_image (plain_links tags) ≡ false
outside_links [] = refl
outside_links (tag ∷ outer) = elim (cases_Bool (is_link tag)) [
  | inl linked ↦ rw linked refl
  | inr other ↦ rw other (outside_links outer)
]

pub titled_links : (title : Option (List ℕ)) (links : List (Option (List ℕ))) → is_in_image links ≡ true → is_in_image (with_title title links) ≡ true
titled_links None links held = held
titled_links (Some title) links held = refl

pub inside_links : (inner : List Tag) (title : List ℕ) (outer : List (Option (List ℕ))) → is_in_image (image_links inner (Some title ∷ outer)) ≡ true
inside_links [] title outer = refl
inside_links (tag ∷ inner) title outer =
    titled_links (title_of tag) (image_links inner (Some title ∷ outer)) (inside_links inner title outer)

-- ---- how many images are open

abbrev pub images_of : List Tag → ℕ
images_of [] = 0
images_of (image kind to title label ∷ outer) = suc (images_of outer)
images_of (tag ∷ outer) = images_of outer

pub images_start : (tag : Tag) (images : ℕ) (inner : List Tag) → images ≡ suc (images_of inner)
    → images_after images (start tag) ≡ suc (images_of (tag ∷ inner))
images_start (image kind to title label) images inner many = ap suc many
images_start tag images inner many = many

pub images_end : (tag : Tag) (images : ℕ) (inner : List Tag) → images ≡ suc (images_of (tag ∷ inner))
    → images_after images (end (tag_end tag)) ≡ suc (images_of inner)
images_end (image kind to title label) images inner many = ap outer_of many
images_end (list None) images inner many = many
images_end (list (Some first)) images inner many = many
images_end tag images inner many = many

pub no_images_end : (tag : Tag) (images : ℕ) → images ≡ 0 → images_after images (end (tag_end tag)) ≡ 0
no_images_end (image kind to title label) images none = ap outer_of none
no_images_end (list None) images none = none
no_images_end (list (Some first)) images none = none
no_images_end tag images none = none

-- ---- an image, and the tags in it and around it

abbrev pub IsImage : Tag → List ℕ → Type 0
IsImage tag title = (kind : LinkType) × (to : List ℕ) × (label : List ℕ) × (tag ≡ image kind to title label)

abbrev pub first_or : Tag → List Tag → Tag
first_or other [] = other
first_or other (tag ∷ tags) = tag

pub not_empty : (inner : List Tag) (shown : Tag) (outer : List Tag) → [] ≡ inner ++ shown ∷ outer → ⊥
not_empty [] shown outer is = cc
not_empty (tag ∷ inner) shown outer is = cc
