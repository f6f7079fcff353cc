-- The markers of list items. (CommonMark 0.31.2, section 5.2, list items)
use Rattle.std.specs.Prelude.{ℕ, Bool, ◌||◌, ◌&&◌, ◌==◌, not, nat_le, List, [], ◌∷◌, ◌+◌, length, take_while, drop, Option, Some, None, if◌then◌else◌}
use Rattle.markdown_scanners_tree.specs.Ascii.{space, right_parenthesis, asterisk, plus_sign, hyphen, full_stop}
use Rattle.markdown_scanners_tree.specs.Bytes.{is_digit, is_line_ending, ends_or_begins_with}
use Rattle.std.specs.Str.Parse.{digits_value}
use Rattle.markdown_scanners_tree.specs.scanners.Breaks.{is_thematic_break}

-- `-`, `+` or `*`
abbrev pub is_bullet : ℕ → Bool
is_bullet b = b == hyphen || b == plus_sign || b == asterisk

-- `.` or `)`
abbrev pub is_delimiter : ℕ → Bool
is_delimiter b = b == full_stop || b == right_parenthesis

-- a list marker: how many bytes, the bullet or the delimiter, and the start number
pub record Marker : Type 0 where
  pub width : ℕ
  pub delimiter : ℕ
  pub start : ℕ

-- a bullet list marker, unless a thematic break stands there (5.2)
abbrev pub bullet_marker : List ℕ → Option Marker
bullet_marker [] = None
bullet_marker (b ∷ bs) =
    if is_bullet b && not (is_thematic_break (b ∷ bs))
    then Some (record { width = 1; delimiter = b; start = 0 })
    else None

-- the marker that these digits and what follows them make
abbrev pub ordered_marker_of : List ℕ → List ℕ → Option Marker
ordered_marker_of digits [] = None
ordered_marker_of digits (d ∷ _) =
    if nat_le 1 (length digits) && nat_le (length digits) 9 && is_delimiter d
    then Some (record { width = length digits + 1; delimiter = d; start = digits_value 10 digits })
    else None

-- an ordered list marker: 1 to 9 digits, then `.` or `)` (5.2)
abbrev pub ordered_marker : List ℕ → Option Marker
ordered_marker r =
    let digits = take_while is_digit r in
    ordered_marker_of digits (drop (length digits) r)

-- the marker at the front, where there is one
abbrev pub list_marker : List ℕ → Option Marker
list_marker r = elim (bullet_marker r) [ Some m ↦ Some m | None ↦ ordered_marker r ]

-- a space or a line ending at the front
abbrev pub is_space_or_line_end : List ℕ → Bool
is_space_or_line_end = ends_or_begins_with (λ b. b == space || is_line_ending b)
