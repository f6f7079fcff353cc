-- Markers of footnote definitions. (GitHub Docs, footnotes: no part of CommonMark)
use Rattle.std.specs.Prelude.{ℕ, Bool, false, not, ◌||◌, ◌&&◌, ◌==◌, ◌+◌, nat_lt, List, ◌∷◌, Option, Some, None, length, take, drop, if◌then◌else◌}
use Rattle.std.specs.List.{prefix_len}
use Rattle.markdown_scanners_tree.specs.Ascii.{colon, left_bracket, right_bracket}
use Rattle.markdown_scanners_tree.specs.Bytes.{is_line_ending, is_space_or_tab}
use Rattle.markdown_scanners_tree.specs.line.State.{LineState, rest_of, leading_spaces, bytes_further, after_space}

-- b'^'
abbrev pub circumflex : ℕ
circumflex = 94

-- a byte of a label: no space, tab, line ending, NUL or `]`
abbrev pub is_label_byte : ℕ → Bool
is_label_byte b = not (is_space_or_tab b || is_line_ending b || b == 0 || b == right_bracket)

-- `]:` stands at the front
abbrev pub closes_label : List ℕ → Bool
closes_label (a ∷ b ∷ rest) = a == right_bracket && b == colon
closes_label bytes = false

-- the label of the definition whose marker stands at the front: after `[^` a byte or more, and then `]:`
abbrev pub footnote_label : List ℕ → Option (List ℕ)
footnote_label (a ∷ b ∷ rest) =
    let n = prefix_len is_label_byte rest in
    if a == left_bracket && b == circumflex && nat_lt 0 n && closes_label (drop n rest) then Some (take n rest) else None
footnote_label bytes = None

-- the offset after all columns of space that stand here
abbrev pub after_columns : LineState → LineState
after_columns s = after_space (leading_spaces (rest_of s)) s

-- the offset after the marker with this label, to which the spaces and tabs after the colon belong
abbrev pub past_footnote : List ℕ → LineState → LineState
past_footnote label s = after_columns (bytes_further (length label + 4) s)
