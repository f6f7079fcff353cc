-- Worked rows: what the grammar of safe HTML takes, and what it does not; and the schemes of addresses.
use Rattle.std.proofs.Common.{ℕ, ◌≡◌, refl, Bool, List, [], ◌∷◌, ◌++◌, Some, None, codes, true, false}
use Rattle.markdown_html.specs.Addresses.{scheme_of}
use Rattle.markdown_html.specs.Escapes.{written_address}
use Rattle.markdown_html.specs.SafeHtml.{is_text, is_one_of, is_attribute, are_attributes, is_address, elements, void_elements, read_after}
use Rattle.markdown_html.specs.SafeSetting.{default_schemes}

-- ---- schemes

plain_scheme : scheme_of (codes "JaVaScRiPt:alert(1)") ≡ Some (codes "javascript")
plain_scheme = refl

broken_scheme : scheme_of (1 ∷ codes " java\n\tscript\r:alert(1)") ≡ Some (codes "javascript")
broken_scheme = refl

no_letter : scheme_of (codes "1http:") ≡ None
no_letter = refl

network_path : scheme_of (codes "//host/a:b") ≡ None
network_path = refl

later_colon : scheme_of (codes "a/b:c") ≡ None
later_colon = refl

percent_sign : scheme_of (codes "%6Aavascript:") ≡ None
percent_sign = refl

control_within : scheme_of (codes "java" ++ 1 ∷ codes "script:") ≡ None
control_within = refl

dotted_scheme : scheme_of (codes "a.b:c") ≡ Some (codes "a.b")
dotted_scheme = refl

-- ---- texts

references_row : is_text (codes "a &lt; b &amp;amp; &quot;&#x27;&gt;") ≡ true
references_row = refl

tag_row : is_text (codes "<b") ≡ false
tag_row = refl

quote_row : is_text (codes "\" onclick=") ≡ false
quote_row = refl

open_reference : is_text (codes "&amp") ≡ false
open_reference = refl

other_reference : is_text (codes "&colon;") ≡ false
other_reference = refl

-- ---- addresses in attributes

read_row : read_after 0 (codes "/?a&amp;b&#x27;") ≡ codes "/?a&b'"
read_row = refl

written_row : is_address default_schemes (written_address (codes "https://host/?a&b=\"<")) ≡ true
written_row = refl

script_row : is_address default_schemes (codes "javascript:alert(1)") ≡ false
script_row = refl

-- ---- elements and attributes

script_element : is_one_of (elements ++ void_elements) (codes "script") ≡ false
script_element = refl

handler_row : is_attribute (is_address default_schemes) (codes "a") (codes "onclick", []) ≡ false
handler_row = refl

source_of_link : is_attribute (is_address default_schemes) (codes "a") (codes "src", []) ≡ false
source_of_link = refl

style_row : is_attribute (is_address default_schemes) (codes "p") (codes "style", []) ≡ false
style_row = refl

language_row : is_attribute (is_address default_schemes) (codes "code") (codes "class", codes "language-c") ≡ true
language_row = refl

class_row : is_attribute (is_address default_schemes) (codes "code") (codes "class", codes "button") ≡ false
class_row = refl

-- A box that no one can tick, a field for a text, and a box that can be ticked.
abbrev may_stand : List (List ℕ × List ℕ) → Bool
may_stand = are_attributes (is_address default_schemes) (codes "input")

box_row : may_stand ((codes "disabled", []) ∷ (codes "type", codes "checkbox") ∷ []) ≡ true
box_row = refl

field_row : may_stand [] ≡ false
field_row = refl

disabled_field : may_stand ((codes "disabled", []) ∷ []) ≡ false
disabled_field = refl

open_box : may_stand ((codes "checked", []) ∷ (codes "type", codes "checkbox") ∷ []) ≡ false
open_box = refl
