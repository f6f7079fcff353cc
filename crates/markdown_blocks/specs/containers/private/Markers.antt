-- Bytes with which a container begins.
use Rattle.std.specs.Prelude.{ℕ, Bool, true, ◌==◌, ◌||◌, ◌&&◌, ◌≡◌, ◌<◌, List, ◌∷◌, if◌then◌else◌}
use Rattle.markdown_scanners_tree.specs.Ascii.{colon, greater_than_sign, left_bracket, space}
use Rattle.markdown_scanners_tree.specs.Bytes.{is_digit, is_blank as is_white}
use Rattle.markdown_scanners_tree.specs.line.State.{LineState, unscanned}
use Rattle.markdown_scanners_tree.specs.scanners.list_items.ListMarker.{is_bullet}
use Rattle.markdown_blocks.specs.containers.ItemMarkers.{further_spaces}
use Rattle.markdown_values.specs.declared.values.extensions.Extensions.{Extensions}

-- the first byte of the marker of an item
abbrev pub is_item_byte : ℕ → Bool
is_item_byte b = is_bullet b || is_digit b

-- that of a block quote, or with these extensions on of a footnote definition or the definition of a term
abbrev pub is_other_byte : Extensions → ℕ → Bool
is_other_byte asked b =
    b == greater_than_sign || ((asked.footnotes && b == left_bracket) || (asked.definition_lists && b == colon))

-- a bullet, one space, and a byte with which neither white space nor a marker of an item or a block quote begins
abbrev pub IsPlainBullet : ℕ → List ℕ → Type 0
IsPlainBullet bullet text = (byte : ℕ) × (rest : List ℕ) × (is_bullet bullet ≡ true) × (greater_than_sign < byte)
    × (text ≡ bullet ∷ space ∷ byte ∷ rest)

-- the columns of space that belong to the marker before them and are left, where a call has passed that and took white space for a
-- blank rest
abbrev pub columns_left : LineState → ℕ
columns_left s = if is_white (unscanned s) then further_spaces s else 0
