-- How inlines are written. (CommonMark 0.31.2, chapter 6)
use Rattle.std.specs.Prelude.{ℕ, Bool, true, false, List, [], ◌∷◌, ◌++◌, codes, drop, Option, Some, None, if◌then◌else◌}
use Rattle.markdown_values.specs.declared.values.LinkType.{LinkType}
use Rattle.markdown_values.specs.declared.values.LinkType.TheVariants.{Email}
use Rattle.markdown_html.specs.declared.setting.RawHtml.{RawHtml}
use Rattle.markdown_html.specs.declared.setting.RawHtml.TheVariants.{Kept, Escaped, LeftOut}
use Rattle.markdown_html.specs.Escapes.{escaped, written_address}
use Rattle.markdown_html.specs.Settings.{Setting}
use Rattle.markdown_html.specs.States.{HtmlState, written, is_in_image}

-- a tag without attributes
abbrev pub start_tag : List ℕ → List ℕ
start_tag name = codes "<" ++ name ++ codes ">"

abbrev pub end_tag : List ℕ → List ℕ
end_tag name = codes "</" ++ name ++ codes ">"

-- a code span (6.1)
abbrev pub code_element : List ℕ → List ℕ
code_element content = codes "<code>" ++ escaped content ++ codes "</code>"

-- raw HTML (4.6, 6.6)
abbrev pub raw_html : RawHtml → List ℕ → List ℕ
raw_html Kept html = html
raw_html Escaped html = escaped html
raw_html LeftOut html = []

-- the same in an image, where it is text if it is anything
abbrev pub raw_text : RawHtml → List ℕ → List ℕ
raw_text Kept html = escaped html
raw_text Escaped html = escaped html
raw_text LeftOut html = []

-- ---- attributes of links and images (6.3, 6.4, 6.5)

-- where a link leads, or an image stands: an e-mail address by its scheme (6.5)
abbrev pub target : LinkType → List ℕ → List ℕ
target Email address = codes "mailto:" ++ address
target kind address = address

-- an address, empty where it is not allowed
abbrev pub address : Setting → List ℕ → List ℕ
address setting to = if setting.allows to then written_address to else []

abbrev pub title_attribute : List ℕ → List ℕ
title_attribute [] = []
title_attribute (b ∷ title) = codes " title=\"" ++ escaped (b ∷ title) ++ codes "\""

abbrev pub rel_attribute : Bool → List ℕ
rel_attribute true = codes " rel=\"nofollow noopener\""
rel_attribute false = []

-- ---- links (6.3)

abbrev pub link_tag : Setting → List ℕ → List ℕ → List ℕ
link_tag setting to title =
    codes "<a href=\"" ++ address setting to ++ codes "\"" ++ title_attribute title ++ rel_attribute setting.rel ++ codes ">"

abbrev pub link_started : Setting → List ℕ → List ℕ → HtmlState → HtmlState
link_started setting to title s = record (written (link_tag setting to title) s) { links = None ∷ s.links }

abbrev pub link_ended : HtmlState → HtmlState
link_ended s = record (written (codes "</a>") s) { links = drop 1 s.links }

-- ---- images (6.4)

-- An image that is written as a link has the tags of one, but for one in a link, which has none.
abbrev pub unless_in_link : List (Option (List ℕ)) → List ℕ → List ℕ
unless_in_link [] tag = tag
unless_in_link (outer ∷ links) tag = []

-- what stands before the text of an image, and after it, where these links are open
abbrev pub before_image : Setting → List ℕ → List ℕ → List (Option (List ℕ)) → List ℕ
before_image setting to title links =
    if setting.images_as_links then unless_in_link links (link_tag setting to title)
    else codes "<img src=\"" ++ address setting to ++ codes "\" alt=\""

abbrev pub after_image : Setting → List ℕ → List (Option (List ℕ)) → List ℕ
after_image setting title links =
    if setting.images_as_links then unless_in_link links (codes "</a>") else codes "\"" ++ title_attribute title ++ codes " />"

abbrev pub image_started : Setting → List ℕ → List ℕ → HtmlState → HtmlState
image_started setting to title s = record (written (before_image setting to title s.links) s) { links = Some title ∷ s.links }

-- The innermost image ends. It is written where it is in no other image.
abbrev pub image_ended : Setting → List (Option (List ℕ)) → HtmlState → HtmlState
image_ended setting (Some title ∷ outer) s =
    record (written (if is_in_image outer then [] else after_image setting title outer) s) { links = outer }
image_ended setting links s = record s { links = drop 1 links }
