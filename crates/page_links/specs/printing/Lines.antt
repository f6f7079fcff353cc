-- The lines that are printed of links, in words and as JSON.
use Rattle.std.specs.Prelude.{ℕ, Bool, true, false, List, [], ◌∷◌, ◌++◌, codes}
use Rattle.std.specs.Fmt.{decimal}
use Rattle.markdown_scanners_tree.specs.Ascii.{line_feed}
use Rattle.page_events.specs.Json.{link_members, member, text_json, word_json}
use Rattle.page_events.specs.Lines.{link_text}
use Rattle.page_positions.specs.declared.Position.{Position}
use Rattle.page_links.specs.declared.printing.LinkForm.{LinkForm}
use Rattle.page_links.specs.declared.printing.LinkForm.TheVariants.{Words, Json}
use Rattle.page_links.specs.links.Links.{Seen}

abbrev pub shown_as : Bool → List ℕ
shown_as true = codes "image"
shown_as false = codes "link"

-- ---- in words

-- how a link is written, where it leads, its title, and the label of a reference
abbrev pub link_words : Seen → List ℕ
link_words it = shown_as it.is_image ++ link_text it.link_type it.destination it.title it.label

-- a position in the page of this name, as editors take it
abbrev pub position_words : List ℕ → Position → List ℕ
position_words name position = name ++ codes ":" ++ decimal position.line ++ codes ":" ++ decimal position.column ++ codes ": "

-- the line of a link that begins there
abbrev pub link_line : List ℕ → Position → Seen → List ℕ
link_line name position it = position_words name position ++ (link_words it ++ line_feed ∷ [])

-- ---- as JSON, an object a line (RFC 8259)

-- the name of a page, with which an object begins
abbrev pub file_member : List ℕ → List ℕ
file_member name = codes "{\"file\":" ++ text_json name

abbrev pub position_members : Position → List ℕ
position_members position = member (codes "line") (decimal position.line) ++ member (codes "column") (decimal position.column)

-- how many bytes of the page stand before a link, and how many before what follows it
abbrev pub range_members : Seen → List ℕ
range_members it = member (codes "start") (decimal it.range.start) ++ member (codes "end") (decimal it.range.end)

-- whether it is a link or an image
abbrev pub element_member : Bool → List ℕ
element_member is_image = member (codes "element") (word_json (shown_as is_image))

-- the object of a link that begins there in the page of this name
abbrev pub link_json : List ℕ → Position → Seen → List ℕ
link_json name position it =
    file_member name ++ position_members position ++ range_members it ++ element_member it.is_image
    ++ link_members it.link_type it.destination it.title it.label ++ codes "}\n"

-- what is printed of it in this form
abbrev pub line_in : LinkForm → List ℕ → Position → Seen → List ℕ
line_in Words = link_line
line_in Json = link_json
