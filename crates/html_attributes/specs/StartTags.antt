-- The start tags of raw HTML. (HTML Living Standard, sections 13.1.2 and 13.2.5; CommonMark 0.31.2, sections 4.6 and 6.6)
use Rattle.std.specs.Prelude.{ℕ, Bool, ◌&&◌, ◌-◌, ◌==◌, ◌≡◌, MatchBool, MatchOption, nat_eq, if◌then◌else◌}
use Rattle.std.specs.Prelude.{List, [], ◌∷◌, length, Option, Some, None, codes, map, take, drop}
use Rattle.std.specs.List.{filter_map, starts_with}
use Rattle.std.specs.Str.{str_eq_ignore_ascii_case}
use Rattle.markdown_scanners_tree.specs.Ascii.{less_than_sign}
use Rattle.markdown_scanners_tree.specs.Bytes.{begins_with, is_letter}
use Rattle.html_attributes.specs.declared.tags.StartTag.{StartTag}
use Rattle.html_attributes.specs.Attributes.{Written, AreAttributes, after, between, part_before, seen_attribute, tag_name_ends}

-- ---- what holds no tags

-- the text stands at the front, in ASCII letters of any case
abbrev pub stands : List ℕ → List ℕ → Bool
stands text bytes = str_eq_ignore_ascii_case (take (length text) bytes) text

-- what stands from the first such text on
abbrev pub from : List ℕ → List ℕ → List ℕ
from text [] = []
from text (b ∷ bytes) = if stands text (b ∷ bytes) then b ∷ bytes else from text bytes

-- what ends a comment, a CDATA section, a processing instruction, a declaration or an end tag, where one begins (CommonMark, 6.6)
abbrev pub closer_of : List ℕ → Option (List ℕ)
closer_of bytes =
    if starts_with nat_eq bytes (codes "<!--") then Some (codes "-->")
    else if starts_with nat_eq bytes (codes "<![CDATA[") then Some (codes "]]>")
    else if starts_with nat_eq bytes (codes "<?") then Some (codes "?>")
    else if starts_with nat_eq bytes (codes "<!") then Some (codes ">")
    else if starts_with nat_eq bytes (codes "</") then Some (codes ">")
    else None

-- What ends the text of an element of this name, where it holds text alone (HTML, 13.1.2). The empty text ends that of all others at once.
abbrev pub text_end : List ℕ → List ℕ
text_end name =
    if str_eq_ignore_ascii_case name (codes "script") then codes "</script"
    else if str_eq_ignore_ascii_case name (codes "style") then codes "</style"
    else if str_eq_ignore_ascii_case name (codes "textarea") then codes "</textarea"
    else if str_eq_ignore_ascii_case name (codes "title") then codes "</title"
    else []

-- ---- start tags

-- A start tag: how many bytes stand before it, its name, and its attributes.
pub record WrittenTag : Type 0 where
  pub offset : ℕ
  pub name : List ℕ
  pub attributes : List Written

abbrev pub seen_tag : StartTag → WrittenTag
seen_tag it = record { offset = it.offset; name = it.name.now; attributes = map seen_attribute it.attributes.items }

-- What stands at the front of HTML: a start tag or something else, and what follows it.
pub record Piece : Type 0 where
  pub tag : Option WrittenTag
  pub rest : List ℕ

-- a tag that ends with the first of these bytes, a `>`, and what follows the text that its element holds; no tag, where there are no bytes
abbrev pub piece_of : WrittenTag → List ℕ → Piece
piece_of tag [] = record { tag = None; rest = [] }
piece_of tag (b ∷ bytes) = record { tag = Some tag; rest = from (text_end tag.name) bytes }

-- `<` and a letter begin a start tag
abbrev pub begins_tag : List ℕ → Bool
begins_tag bytes = begins_with (λ b. b == less_than_sign) bytes && begins_with is_letter (drop 1 bytes)

-- This is the start tag after `<`: its name up to white space, a slash or `>`, its attributes, and `>`. Where the text ends first there is no tag.
abbrev pub IsTag : ℕ → List ℕ → Piece → Type 0
IsTag offset bytes it =
    (attributes : List Written) × (rest : List ℕ)
    × AreAttributes (after between (part_before tag_name_ends bytes).rest) attributes rest
    × (it ≡ piece_of (record { offset = offset; name = (part_before tag_name_ends bytes).text; attributes = attributes }) rest)

-- a start tag where one begins, and else one byte
abbrev pub IsTagOrByte : ℕ → List ℕ → Piece → Type 0
IsTagOrByte offset bytes it =
    MatchBool (begins_tag bytes) (IsTag offset (drop 1 bytes) it) (it ≡ record { tag = None; rest = drop 1 bytes })

-- What stands at the front, so many bytes after the beginning. What holds no tags goes up to what ends it, or to the end of the text.
abbrev pub IsPiece : ℕ → List ℕ → Piece → Type 0
IsPiece offset bytes it =
    MatchOption (closer_of bytes) (IsTagOrByte offset bytes it) (λ closer. it ≡ record { tag = None; rest = from closer (drop 2 bytes) })

-- These stand one after the other up to the end of HTML that has so many bytes.
abbrev pub ArePieces : ℕ → List ℕ → List Piece → Type 0
ArePieces size bytes [] = bytes ≡ []
ArePieces size bytes (it ∷ later) = IsPiece (size - length bytes) bytes it × ArePieces size it.rest later

-- These are the start tags of HTML, in order.
pub record AreStartTags (html : List ℕ) (tags : List WrittenTag) : Type 0 where
  pub pieces : List Piece
  pub are_pieces : ArePieces (length html) html pieces
  pub are_tags : tags ≡ filter_map (λ piece. piece.tag) pieces
