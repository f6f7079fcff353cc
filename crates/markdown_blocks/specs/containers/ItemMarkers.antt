-- List markers, with the space after them that belongs to them. (CommonMark 0.31.2, section 5.2, list items)
use Rattle.std.specs.Prelude.{ℕ, ◌+◌, Option, Some, None, if◌then◌else◌}
use Rattle.markdown_scanners_tree.specs.line.Outcome.{Outcome, not_found, space_or_end_follows}
use Rattle.markdown_scanners_tree.specs.line.PlainStep.{marker_spaces}
use Rattle.markdown_scanners_tree.specs.line.State.{LineState, unscanned, rest_of, leading_spaces, bytes_further, after_space}
use Rattle.markdown_scanners_tree.specs.scanners.list_items.ListMarker.{Marker, list_marker}
use Rattle.markdown_blocks.specs.blank_lines.BlankLines.{is_blank}

-- the further columns of space that belong to a list marker whose one column is taken: where text follows, those that are fewer
-- than four (rules 1 to 3)
abbrev pub further_spaces : LineState → ℕ
further_spaces after = if is_blank (unscanned after) then 0 else marker_spaces (leading_spaces (rest_of after))

-- a list item's marker whose one column of space is taken, with the further columns
abbrev pub item_outcome_after : ℕ → Marker → LineState → Outcome (ℕ × ℕ × ℕ)
item_outcome_after indent m after =
    let further = further_spaces after in
    let content = indent + m.width + 1 + further in
    record { answer = Some (m.delimiter, m.start, content); state = after_space further after }

-- a list item's marker, where one stands there: the marker, then one column of space or the line's end, then the further columns
abbrev pub item_outcome_by : ℕ → LineState → Option Marker → Outcome (ℕ × ℕ × ℕ)
item_outcome_by indent s None = not_found s
item_outcome_by indent s (Some m) =
    let marked = bytes_further m.width s in
    if space_or_end_follows marked then item_outcome_after indent m (after_space 1 marked) else not_found s

-- its bullet or delimiter, the number of the item, and the indent of its content, after so much space before the marker
abbrev pub item_outcome : ℕ → LineState → Outcome (ℕ × ℕ × ℕ)
item_outcome indent s = item_outcome_by indent s (list_marker (unscanned s))
