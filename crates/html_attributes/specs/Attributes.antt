-- Attributes of a tag of HTML, as they are written. (HTML Living Standard, sections 13.1.2.3 and 13.2.5.32 to 39)
use Rattle.std.specs.Prelude.{ℕ, Bool, true, false, not, ◌||◌, ◌==◌, ◌≡◌, ◌+◌, List, [], ◌∷◌, Option, Some, None, take, drop, if◌then◌else◌}
use Rattle.std.specs.List.{list_any, prefix_len}
use Rattle.std.specs.Str.{str_eq_ignore_ascii_case}
use Rattle.markdown_scanners_tree.specs.Ascii.{tab, line_feed, form_feed, carriage_return, space}
use Rattle.markdown_scanners_tree.specs.Ascii.{quotation_mark, apostrophe, slash, equals_sign, greater_than_sign}
use Rattle.markdown_scanners_tree.specs.Bytes.{begins_with, ends_or_begins_with}
use Rattle.html_attributes.specs.declared.attributes.Attribute.{Attribute}

-- ---- bytes that end names and values

-- white space: tab, LF, form feed, CR, space
abbrev pub white_space : List ℕ
white_space = tab ∷ line_feed ∷ form_feed ∷ carriage_return ∷ space ∷ []

-- what stands between attributes: white space, and a slash
abbrev pub between : List ℕ
between = slash ∷ white_space

-- what ends a value without quotes
abbrev pub value_ends : List ℕ
value_ends = greater_than_sign ∷ white_space

-- what ends the name of a tag
abbrev pub tag_name_ends : List ℕ
tag_name_ends = slash ∷ value_ends

-- what ends the name of an attribute
abbrev pub name_ends : List ℕ
name_ends = equals_sign ∷ tag_name_ends

abbrev pub is_one_of : List ℕ → ℕ → Bool
is_one_of bytes b = list_any (λ c. c == b) bytes

-- how many bytes stand before the first of these
abbrev pub length_before : List ℕ → List ℕ → ℕ
length_before ends bytes = prefix_len (λ b. not (is_one_of ends b)) bytes

-- what follows bytes of these
abbrev pub after : List ℕ → List ℕ → List ℕ
after these bytes = drop (prefix_len (is_one_of these) bytes) bytes

-- ---- parts of an attribute

-- A part of a tag, and what follows it.
pub record Part : Type 0 where
  pub text : List ℕ
  pub rest : List ℕ

-- so many bytes
abbrev pub part : ℕ → List ℕ → Part
part n bytes = record { text = take n bytes; rest = drop n bytes }

-- what stands before the first of these
abbrev pub part_before : List ℕ → List ℕ → Part
part_before ends bytes = part (length_before ends bytes) bytes

-- after a quotation mark: what stands before the next one of its kind, which is passed too
abbrev pub quoted : ℕ → List ℕ → Part
quoted quote bytes = record { text = take (length_before (quote ∷ []) bytes) bytes; rest = drop (length_before (quote ∷ []) bytes + 1) bytes }

-- a value, in quotation marks of either kind or without
abbrev pub value_at : List ℕ → Part
value_at [] = part 0 []
value_at (b ∷ bytes) = if b == quotation_mark || b == apostrophe then quoted b bytes else part_before value_ends (b ∷ bytes)

-- after white space and an equals sign
abbrev pub is_valued : List ℕ → Bool
is_valued bytes = begins_with (λ b. b == equals_sign) (after white_space bytes)

-- the value after a name, empty where none is written
abbrev pub value_after : List ℕ → Part
value_after bytes = if is_valued bytes then value_at (after white_space (drop 1 (after white_space bytes))) else part 0 bytes

-- a name: one byte, which may be an equals sign, and what stands before the first that ends it
abbrev pub name_at : List ℕ → Part
name_at bytes = part (1 + length_before name_ends (drop 1 bytes)) bytes

-- ---- attributes

-- An attribute: its name, and its value as it is written, without quotation marks; empty where it has none.
pub record Written : Type 0 where
  pub name : List ℕ
  pub value : List ℕ

abbrev pub seen_attribute : Attribute → Written
seen_attribute it = record { name = it.name.now; value = it.value.now }

-- the attribute at the front
abbrev pub attribute_at : List ℕ → Written
attribute_at bytes = record { name = (name_at bytes).text; value = (value_after (name_at bytes).rest).text }

-- what follows it
abbrev pub after_attribute : List ℕ → List ℕ
after_attribute bytes = (value_after (name_at bytes).rest).rest

-- the attributes end: at `>`, or at the end of the text
abbrev pub is_end : List ℕ → Bool
is_end = ends_or_begins_with (λ b. b == greater_than_sign)

-- These are the attributes at the front, and this is what follows them.
abbrev pub AreAttributes : List ℕ → List Written → List ℕ → Type 0
AreAttributes bytes [] rest = (is_end bytes ≡ true) × (rest ≡ bytes)
AreAttributes bytes (it ∷ later) rest =
    (is_end bytes ≡ false) × (it ≡ attribute_at bytes) × AreAttributes (after between (after_attribute bytes)) later rest

-- the value of the first attribute of this name, in ASCII letters of any case: later ones of the same name count for nothing
abbrev pub value_of : List ℕ → List Written → Option (List ℕ)
value_of name [] = None
value_of name (it ∷ later) = if str_eq_ignore_ascii_case it.name name then Some it.value else value_of name later
