-- HTML that holds no script: a grammar over its bytes, from left to right. (HTML standard, 13.1.2, elements, and 13.1.4, character references)
use Rattle.std.specs.Prelude.{ℕ, Bool, true, zero, suc, ◌||◌, ◌&&◌, ◌==◌, not, nat_eq, List, [], ◌∷◌, ◌++◌, Option, None, length, codes, IsTrue, find}
use Rattle.std.specs.Prelude.{if◌then◌else◌}
use Rattle.std.specs.List.{list_any, list_all, starts_with}
use Rattle.std.specs.Option.{option_map_or}
use Rattle.std.specs.Str.{bytes_eq}
use Rattle.markdown_scanners_tree.specs.Ascii.{ampersand, apostrophe, greater_than_sign, less_than_sign, quotation_mark}
use Rattle.markdown_scanners_tree.specs.Bytes.{is_digit}
use Rattle.markdown_html.specs.Addresses.{is_allowed_address}

-- ---- texts, and values in double quotes

-- what stands in a reference after its ampersand, and the character that it is read as
abbrev pub references : List (List ℕ × ℕ)
references =
    (codes "amp;", ampersand) ∷ (codes "lt;", less_than_sign) ∷ (codes "gt;", greater_than_sign) ∷ (codes "quot;", quotation_mark)
    ∷ (codes "#x27;", apostrophe) ∷ []

-- the reference that begins with this byte
abbrev pub reference_at : ℕ → List ℕ → Option (List ℕ × ℕ)
reference_at b rest = if b == ampersand then find (λ reference. starts_with nat_eq rest reference.0) references else None

-- A byte of a text stands for itself, or begins a reference.
abbrev pub is_text_byte : ℕ → List ℕ → Bool
is_text_byte b rest =
    option_map_or (λ _. true) (reference_at b rest)
    (not (b == less_than_sign || b == greater_than_sign || b == quotation_mark || b == ampersand))

abbrev pub is_text : List ℕ → Bool
is_text [] = true
is_text (b ∷ rest) = is_text_byte b rest && is_text rest

-- A text as it is read, after so many bytes of a reference that is read already.
abbrev pub read_after : ℕ → List ℕ → List ℕ
read_after taken [] = []
read_after (suc taken) (b ∷ rest) = read_after taken rest
read_after zero (b ∷ rest) =
    option_map_or (λ reference. reference.1 ∷ read_after (length reference.0) rest) (reference_at b rest) (b ∷ read_after 0 rest)

-- ---- attributes

abbrev pub is_one_of : List (List ℕ) → List ℕ → Bool
is_one_of words word = list_any (bytes_eq word) words

-- an address, whose scheme is one of these, or which is relative
abbrev pub is_address : List (List ℕ) → List ℕ → Bool
is_address schemes value = is_text value && is_allowed_address schemes (read_after 0 value)

-- the class of code in some language
abbrev pub is_language : List ℕ → Bool
is_language value = starts_with nat_eq value (codes "language-") && is_text value

-- an element, an attribute that it may have, and what that one's value may be
abbrev pub AttributeRow : Type 0
AttributeRow = List ℕ × List ℕ × (List ℕ → Bool)

-- where the addresses are of this kind
abbrev pub attribute_rows : (List ℕ → Bool) → List AttributeRow
attribute_rows addresses =
    (codes "a", codes "href", addresses) ∷ (codes "a", codes "title", is_text)
    ∷ (codes "a", codes "rel", is_one_of (codes "nofollow noopener" ∷ []))
    ∷ (codes "img", codes "src", addresses) ∷ (codes "img", codes "alt", is_text) ∷ (codes "img", codes "title", is_text)
    ∷ (codes "code", codes "class", is_language)
    ∷ (codes "ol", codes "start", list_all is_digit)
    ∷ (codes "th", codes "align", is_one_of (codes "left" ∷ codes "center" ∷ codes "right" ∷ []))
    ∷ (codes "td", codes "align", is_one_of (codes "left" ∷ codes "center" ∷ codes "right" ∷ []))
    ∷ (codes "input", codes "type", is_one_of (codes "checkbox" ∷ []))
    ∷ (codes "input", codes "checked", is_one_of ([] ∷ [])) ∷ (codes "input", codes "disabled", is_one_of ([] ∷ [])) ∷ []

-- A name and a value are an attribute of an element.
abbrev pub is_attribute : (List ℕ → Bool) → List ℕ → List ℕ × List ℕ → Bool
is_attribute addresses element attribute =
    list_any (λ row. bytes_eq row.0 element && bytes_eq row.1 attribute.0 && row.2 attribute.1) (attribute_rows addresses)

-- An attribute that an element must have: an `input` is a box that no one can tick. Without the first it is a field for a text, and
-- without the second a box that can be ticked. (HTML standard, 4.10.5, the input element)
abbrev pub required_rows : List (List ℕ × List ℕ)
required_rows = (codes "input", codes "type") ∷ (codes "input", codes "disabled") ∷ []

abbrev pub has_attribute : List (List ℕ × List ℕ) → List ℕ → Bool
has_attribute attributes name = list_any (λ attribute. bytes_eq name attribute.0) attributes

abbrev pub has_required : List ℕ → List (List ℕ × List ℕ) → Bool
has_required element attributes = list_all (λ row. not (bytes_eq row.0 element) || has_attribute attributes row.1) required_rows

-- The attributes are those that an element may have, and those that it must have are among them.
abbrev pub are_attributes : (List ℕ → Bool) → List ℕ → List (List ℕ × List ℕ) → Bool
are_attributes addresses element attributes = list_all (is_attribute addresses element) attributes && has_required element attributes

-- attributes, each after a space and with its value in double quotes, before the rest
abbrev pub attributes_before : List (List ℕ × List ℕ) → List ℕ → List ℕ
attributes_before [] rest = rest
attributes_before ((name, value) ∷ later) rest =
    codes " " ++ (name ++ (codes "=\"" ++ (value ++ (codes "\"" ++ attributes_before later rest))))

-- ---- elements

abbrev pub elements : List (List ℕ)
elements =
    codes "p" ∷ codes "h1" ∷ codes "h2" ∷ codes "h3" ∷ codes "h4" ∷ codes "h5" ∷ codes "h6" ∷ codes "blockquote" ∷ codes "ul" ∷ codes "ol" ∷ codes "li"
    ∷ codes "pre" ∷ codes "code" ∷ codes "table" ∷ codes "thead" ∷ codes "tbody" ∷ codes "tr" ∷ codes "th" ∷ codes "td" ∷ codes "em" ∷ codes "strong"
    ∷ codes "del" ∷ codes "sup" ∷ codes "sub" ∷ codes "a" ∷ []

-- those that hold nothing, and have no end tag
abbrev pub void_elements : List (List ℕ)
void_elements = codes "hr" ∷ codes "br" ∷ codes "img" ∷ codes "input" ∷ []

-- With these elements open, the innermost first, the HTML goes on so: it ends, where none is open; or a byte of a text comes, or the start
-- tag of an element, the end tag of the innermost, or the tag of a void element, which may have a solidus.
pub data IsSafeIn (schemes : List (List ℕ)) : List (List ℕ) → List ℕ → Type 0 where
  finished : IsSafeIn schemes [] []
  with_byte : (outer : List (List ℕ)) (b : ℕ) (rest : List ℕ) → IsTrue (is_text_byte b rest)
      → IsSafeIn schemes outer rest → IsSafeIn schemes outer (b ∷ rest)
  with_start : (outer : List (List ℕ)) (name : List ℕ) (attributes : List (List ℕ × List ℕ)) (rest : List ℕ)
      → IsTrue (is_one_of elements name) → IsTrue (are_attributes (is_address schemes) name attributes)
      → IsSafeIn schemes (name ∷ outer) rest → IsSafeIn schemes outer (codes "<" ++ (name ++ attributes_before attributes (codes ">" ++ rest)))
  with_end : (outer : List (List ℕ)) (name rest : List ℕ)
      → IsSafeIn schemes outer rest → IsSafeIn schemes (name ∷ outer) (codes "</" ++ (name ++ (codes ">" ++ rest)))
  with_void : (outer : List (List ℕ)) (name : List ℕ) (attributes : List (List ℕ × List ℕ)) (solidus : Bool) (rest : List ℕ)
      → IsTrue (is_one_of void_elements name) → IsTrue (are_attributes (is_address schemes) name attributes)
      → IsSafeIn schemes outer rest
      → IsSafeIn schemes outer (codes "<" ++ (name ++ attributes_before attributes ((if solidus then codes " />" else codes ">") ++ rest)))

abbrev pub IsSafeHtml : List (List ℕ) → List ℕ → Type 0
IsSafeHtml schemes html = IsSafeIn schemes [] html
