-- The anchors of a page: what its headings make, of which those that were made before have a number after them, and what its raw HTML makes.
use Rattle.std.specs.Prelude.{ℕ, zero, suc, Bool, ◌≡◌, List, [], ◌∷◌, ◌++◌, Option, Some, None, codes, count_by, if◌then◌else◌}
use Rattle.std.specs.Fmt.{decimal}
use Rattle.std.specs.List.{list_any}
use Rattle.std.specs.Str.{bytes_eq, str_eq_ignore_ascii_case}
use Rattle.html_attributes.specs.Attributes.{value_of}
use Rattle.html_attributes.specs.StartTags.{WrittenTag}
use Rattle.html_attributes.specs.Values.{IsMeaning}
use Rattle.html_entities.specs.Entities.{html_entity}
use Rattle.markdown_values.specs.declared.values.extensions.Extensions.{Extensions}
use Rattle.page_links.specs.headings.Headings.{AreSlugsOf}
use Rattle.page_links.specs.html.Html.{AreTagsOf}

-- how many of these are the same
abbrev pub counted : List (List ℕ) → List ℕ → ℕ
counted before slug = count_by (bytes_eq slug) before

abbrev pub anchor_of : List ℕ → ℕ → List ℕ
anchor_of slug zero = slug
anchor_of slug (suc n) = slug ++ (codes "-" ++ decimal (suc n))

-- the anchors of headings that make these, after others that make those
abbrev pub anchors_of : List (List ℕ) → List (List ℕ) → List (List ℕ)
anchors_of before [] = []
anchors_of before (slug ∷ later) = anchor_of slug (counted before slug) ∷ anchors_of (before ++ slug ∷ []) later

-- ---- of raw HTML: the id of an element, and the name of an `a` (HTML, "Scrolling to a fragment")

-- the value of the attribute `name` of an `a`
abbrev pub name_of : WrittenTag → Option (List ℕ)
name_of tag = if str_eq_ignore_ascii_case tag.name (codes "a") then value_of (codes "name") tag.attributes else None

-- what a value makes, if there is one: the text that it means
abbrev pub AreOfValue : Option (List ℕ) → List (List ℕ) → Type 0
AreOfValue None made = made ≡ []
AreOfValue (Some value) made = (text : List ℕ) × IsMeaning html_entity value text × (made ≡ text ∷ [])

-- what a start tag makes
abbrev pub AreOfTag : WrittenTag → List (List ℕ) → Type 0
AreOfTag tag made =
    (ids : List (List ℕ)) × (names : List (List ℕ)) × AreOfValue (value_of (codes "id") tag.attributes) ids × AreOfValue (name_of tag) names
    × (made ≡ ids ++ names)

-- what start tags make, in order
abbrev pub AreOfTags : List WrittenTag → List (List ℕ) → Type 0
AreOfTags [] made = made ≡ []
AreOfTags (tag ∷ later) made =
    (here : List (List ℕ)) × (rest : List (List ℕ)) × AreOfTag tag here × AreOfTags later rest × (made ≡ here ++ rest)

-- ---- of a page

-- These are the anchors of a page.
pub record AreAnchorsOf (page : List ℕ) (setting : Extensions) (anchors : List (List ℕ)) : Type 0 where
  pub slugs : List (List ℕ)
  pub are_slugs : AreSlugsOf page setting slugs
  pub tags : List WrittenTag
  pub are_tags : AreTagsOf page setting tags
  pub of_html : List (List ℕ)
  pub are_of_html : AreOfTags tags of_html
  pub are_anchors : anchors ≡ anchors_of [] slugs ++ of_html

-- a text is one of these
abbrev pub is_among : List (List ℕ) → List ℕ → Bool
is_among anchors text = list_any (bytes_eq text) anchors

-- the same texts are among these
abbrev pub HasAnchors : List (List ℕ) → List (List ℕ) → Type 0
HasAnchors kept anchors = (text : List ℕ) → is_among kept text ≡ is_among anchors text
