-- The links and the images that are raw HTML of a page.
use Rattle.std.specs.Prelude.{ℕ, ◌≡◌, List, [], ◌∷◌, ◌++◌, Option, Some, None, codes, if◌then◌else◌}
use Rattle.std.specs.Str.{str_eq_ignore_ascii_case}
use Rattle.html_attributes.specs.Attributes.{value_of}
use Rattle.html_attributes.specs.StartTags.{WrittenTag}
use Rattle.html_attributes.specs.Values.{IsMeaning}
use Rattle.html_entities.specs.Entities.{html_entity}
use Rattle.markdown_values.specs.declared.values.LinkType.TheVariants as Kind
use Rattle.page_links.specs.links.Links.{Seen}

-- where a start tag leads: the `href` of an `a`, and the `src` of an `img`
abbrev pub target_of : WrittenTag → Option (List ℕ)
target_of tag =
    if str_eq_ignore_ascii_case tag.name (codes "a") then value_of (codes "href") tag.attributes
    else if str_eq_ignore_ascii_case tag.name (codes "img") then value_of (codes "src") tag.attributes
    else None

-- the link or the image of a tag that leads there: it begins where the tag does
abbrev pub link_at : WrittenTag → List ℕ → Seen
link_at tag destination = record {
  range = record { start = tag.offset; end = tag.offset };
  is_image = str_eq_ignore_ascii_case tag.name (codes "img");
  link_type = Kind.Inline;
  destination = destination;
  title = [];
  label = [];
}

-- what a tag makes that leads where this value means, if there is one
abbrev pub AreOfTarget : WrittenTag → Option (List ℕ) → List Seen → Type 0
AreOfTarget tag None links = links ≡ []
AreOfTarget tag (Some value) links = (text : List ℕ) × IsMeaning html_entity value text × (links ≡ link_at tag text ∷ [])

-- These are the links and the images of start tags, in order.
abbrev pub AreHtmlLinks : List WrittenTag → List Seen → Type 0
AreHtmlLinks [] links = links ≡ []
AreHtmlLinks (tag ∷ later) links =
    (here : List Seen) × (rest : List Seen) × AreOfTarget tag (target_of tag) here × AreHtmlLinks later rest × (links ≡ here ++ rest)
