-- How info strings are printed.
use Rattle.std.specs.Prelude.{ℕ, Bool, not, nat_lt, ◌&&◌, ◌||◌, ◌==◌, ◌/◌, ◌%◌, false, List, [], ◌∷◌, ◌++◌, codes, if◌then◌else◌}
use Rattle.std.specs.List.{flat_map}
use Rattle.std.specs.Fmt.{digit_glyph}
use Rattle.std.specs.Str.{is_utf8}
use Rattle.std.specs.Str.Lossy.{utf8_lossy}
use Rattle.markdown_scanners_tree.specs.Ascii.{space, tilde, quotation_mark, backslash}
use Rattle.markdown_scanners_tree.specs.Bytes.{is_between}

-- ASCII from the space to `~`, but not `"` and `\`
abbrev pub is_plain : ℕ → Bool
is_plain b = is_between space tilde b && (not (b == quotation_mark) && not (b == backslash))

-- A byte as the text of a JSON string has the character of its number: itself where it is plain, else `\u00` and two
-- hexadecimal digits. So bytes of any kind stand in one line, and no others have that text.
abbrev pub byte_text : ℕ → List ℕ
byte_text b = if is_plain b then b ∷ [] else codes "\\u00" ++ digit_glyph false (b / 16) ∷ digit_glyph false (b % 16) ∷ []

abbrev pub bytes_text : List ℕ → List ℕ
bytes_text bytes = flat_map byte_text bytes

-- In the text of a JSON string a quotation mark, a backslash and the control characters of ASCII are written by their numbers, and each
-- other character stands for itself. (RFC 8259, section 7)
abbrev pub escaped_byte : ℕ → List ℕ
escaped_byte b = if is_plain b || not (nat_lt b 128) then b ∷ [] else byte_text b

-- the text of bytes, with U+FFFD for what is not UTF-8
abbrev pub json_text : List ℕ → List ℕ
json_text bytes = utf8_lossy (flat_map escaped_byte bytes)

-- a byte as two hexadecimal digits
abbrev pub hex_byte : ℕ → List ℕ
hex_byte b = digit_glyph false (b / 16) ∷ digit_glyph false (b % 16) ∷ []

-- the digits of the bytes of a text, as a member of an object
abbrev pub digits_json : List ℕ → List ℕ → List ℕ
digits_json name text = codes ",\"" ++ name ++ codes "_bytes\":\"" ++ flat_map hex_byte text ++ codes "\""

-- where it is not UTF-8
abbrev pub bytes_json : List ℕ → List ℕ → List ℕ
bytes_json name text = if is_utf8 text then [] else digits_json name text

-- a text as a member of this name, and then these digits
unfoldable pub text_json : List ℕ → List ℕ → List ℕ
text_json name text = codes ",\"" ++ name ++ codes "\":\"" ++ json_text text ++ codes "\"" ++ bytes_json name text
