-- A line of a page, while positions are looked for.
use Rattle.std.specs.Prelude.{ℕ, ◌≡◌, ◌≤◌, ◌+◌, ◌-◌, List, drop, length}
use Rattle.markdown_scanners_tree.specs.Bytes.{line_length}
use Rattle.markdown_scanners_tree.specs.scanners.TextLines.{lines_of}
use Rattle.page_positions.specs.declared.Line.{Line}
use Rattle.page_positions.specs.Positions.{position_in, position_of}

-- This is a line of the page, or its end: each line before has a byte, it is as long as the first of those that are left, and what is
-- said of an offset from here on is what is said of it in the page.
pub record IsLineOf (page : List ℕ) (line : Line) : Type 0 where
  pub few : line.number ≤ line.start + 1
  pub within : line.end ≤ length page
  pub ends : line.end ≡ line.start + line_length (drop line.start page)
  pub positions : (offset : ℕ) → line.start ≤ offset
      → position_of page offset ≡ position_in line.number (lines_of (drop line.start page)) (offset - line.start)
