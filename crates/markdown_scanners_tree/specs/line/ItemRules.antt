-- Where the two calls that look for a list item agree: `scan_listitem`, and the one on `LineStart`.
-- (CommonMark 0.31.2, section 5.2)
use Rattle.std.specs.Prelude.{ℕ, Bool, false, ◌||◌, ◌&&◌, ◌==◌, ◌↔◌, ◌≡◌, List, drop, Option, Some, None}
use Rattle.markdown_scanners_tree.specs.Ascii.{tab}
use Rattle.markdown_scanners_tree.specs.Bytes.{begins_with, is_between, is_blank, is_space_or_tab}
use Rattle.markdown_scanners_tree.specs.line.Outcome.{item_outcome}
use Rattle.markdown_scanners_tree.specs.line.State.{LineState, leading_spaces}
use Rattle.markdown_scanners_tree.specs.scanners.Breaks.{is_thematic_break}
use Rattle.markdown_scanners_tree.specs.scanners.list_items.ListItem.{IsListItem}
use Rattle.markdown_scanners_tree.specs.scanners.list_items.ListMarker.{Marker, is_bullet, list_marker}

-- the start of a line
abbrev pub start_of : List ℕ → LineState
start_of line = record { bytes = line; offset = 0; pending = 0; phase = 0 }

-- `scan_listitem` finds an item, with this bullet or delimiter and this start number
abbrev pub HasItem : List ℕ → ℕ → ℕ → Type 0
HasItem line delimiter start =
    (n : ℕ) × (indent : ℕ) × IsListItem line n delimiter start indent

-- what a fresh `LineStart` of the line finds at indent 0: the bullet or delimiter of an item's
-- marker, the start number, and the indent of its content
unfoldable pub item_at_start : List ℕ → Option (ℕ × ℕ × ℕ)
item_at_start line = (item_outcome 0 (start_of line)).answer

-- it finds a marker, with this bullet or delimiter and this start number
abbrev pub HasMarker : List ℕ → ℕ → ℕ → Type 0
HasMarker line delimiter start =
    (content : ℕ) × (item_at_start line ≡ Some (delimiter, start, content))

-- each finds what the other does
abbrev pub AgreeOnItems : List ℕ → Type 0
AgreeOnItems line =
    (delimiter start : ℕ) → HasItem line delimiter start ↔ HasMarker line delimiter start

-- the rest of a line is blank, and a vertical tab or a form feed stands first in it
abbrev pub is_blank_from_vertical : List ℕ → Bool
is_blank_from_vertical rest = begins_with (is_between 11 12) rest && is_blank rest

-- such a rest stands after the marker at the front
abbrev pub is_before_vertical : List ℕ → Option Marker → Bool
is_before_vertical line None = false
is_before_vertical line (Some m) = is_blank_from_vertical (drop m.width line)

-- a thematic break, and a space or a tab stands after the bullet at its front
abbrev pub is_break_like_item : List ℕ → Bool
is_break_like_item line =
    is_thematic_break line && begins_with is_bullet line
    && begins_with is_space_or_tab (drop 1 line)

-- an item to `scan_listitem` alone: such a break, or a marker before such a rest
unfoldable pub is_item_alone : List ℕ → Bool
is_item_alone line = is_break_like_item line || is_before_vertical line (list_marker line)

-- the spaces at the front stand before a tab
abbrev pub is_tab_after_spaces : List ℕ → Bool
is_tab_after_spaces rest = begins_with (λ b. b == tab) (drop (leading_spaces rest) rest)

-- such spaces, or that tab alone, stand after the marker at the front
abbrev pub is_before_tab : List ℕ → Option Marker → Bool
is_before_tab line None = false
is_before_tab line (Some m) = is_tab_after_spaces (drop m.width line)
