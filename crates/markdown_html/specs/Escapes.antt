-- How texts and addresses are written in HTML.
use Rattle.std.specs.Prelude.{ℕ, Bool, ◌==◌, ◌||◌, ◌/◌, ◌%◌, true, List, [], ◌∷◌, ◌++◌, codes, if◌then◌else◌}
use Rattle.std.specs.Fmt.{digit_glyph}
use Rattle.std.specs.List.{flat_map, list_any}
use Rattle.markdown_scanners_tree.specs.Ascii.{ampersand, apostrophe, greater_than_sign, less_than_sign, quotation_mark}
use Rattle.markdown_scanners_tree.specs.Bytes.{is_alphanumeric}

-- ---- texts

-- A byte of a text. The four that could begin a tag or a reference, or end a tag or a quoted value, are written as references. (HTML
-- standard, 13.1.2 and 13.1.4)
abbrev pub escaped_byte : ℕ → List ℕ
escaped_byte b =
    if b == less_than_sign then codes "&lt;"
    else if b == greater_than_sign then codes "&gt;"
    else if b == ampersand then codes "&amp;"
    else if b == quotation_mark then codes "&quot;"
    else b ∷ []

-- whether a byte becomes a reference
abbrev pub is_special : ℕ → Bool
is_special b = b == less_than_sign || b == greater_than_sign || b == ampersand || b == quotation_mark

abbrev pub escaped : List ℕ → List ℕ
escaped text = flat_map escaped_byte text

-- ---- addresses

-- a byte of an address that is written as it is: a letter, a digit or one of these
abbrev pub stands_in_address : ℕ → Bool
stands_in_address b = is_alphanumeric b || list_any (λ other. b == other) (codes "-_.+!*(),%#@?=;:/$~")

-- a percent sign and the two hexadecimal digits of a byte (RFC 3986, section 2.1)
abbrev pub percent_encoded : ℕ → List ℕ
percent_encoded b = codes "%" ++ digit_glyph true (b / 16) ∷ digit_glyph true (b % 16) ∷ []

-- a byte of an address (CommonMark 0.31.2, section 6.3, whose examples write what is no letter of ASCII by its number)
abbrev pub address_byte : ℕ → List ℕ
address_byte b =
    if stands_in_address b then b ∷ []
    else if b == ampersand then codes "&amp;"
    else if b == apostrophe then codes "&#x27;"
    else percent_encoded b

abbrev pub written_address : List ℕ → List ℕ
written_address address = flat_map address_byte address
