-- Lines and columns of a page, as editors say them.
use Rattle.std.specs.Prelude.{ℕ, ◌+◌, ◌-◌, nat_lt, List, [], ◌∷◌, length, take, if◌then◌else◌}
use Rattle.std.specs.List.{concat}
use Rattle.markdown_scanners_tree.specs.scanners.TextLines.{lines_of}
use Rattle.markdown_blocks.specs.byte_order_mark.ByteOrderMark.{text_of, text_start}
use Rattle.page_positions.specs.declared.Position.{Position}

-- Where an offset is that is counted from the first of these lines, which has this number: so many bytes of its line stand before it.
-- After the last line it is at the front of one more.
abbrev pub position_in : ℕ → List (List ℕ) → ℕ → Position
position_in number [] offset = record { line = number; column = 1 }
position_in number (line ∷ later) offset =
    if nat_lt offset (length line) then record { line = number; column = offset + 1 }
    else position_in (number + 1) later (offset - length line)

-- The line and the column of an offset of a page, both counted from 1. (lines: CommonMark 0.31.2, section 2.1)
abbrev pub position_of : List ℕ → ℕ → Position
position_of page offset = position_in 1 (lines_of page) offset

-- the offset of a position: the bytes of the lines before its line, and those before it there
abbrev pub offset_of : List ℕ → Position → ℕ
offset_of page position = length (concat (take (position.line - 1) (lines_of page))) + (position.column - 1)

-- The line and the column of an offset of a page in its text: a byte order mark that the page begins with has no column.
abbrev pub text_position : List ℕ → ℕ → Position
text_position page offset = position_of (text_of page) (offset - text_start page)

-- the offset of the page at which such a position is
abbrev pub text_offset : List ℕ → Position → ℕ
text_offset page position = text_start page + offset_of (text_of page) position
