-- How many columns of a line a cell takes.
use Rattle.std.specs.Prelude.{ℕ, false, List, chars, if◌then◌else◌}
use Rattle.std.specs.Str.{is_utf8}
use Rattle.unicode_width.specs.Width.{str_width}

-- the columns that a text takes in a terminal, and 0 where the bytes are no text
abbrev pub display_width : List ℕ → ℕ
display_width cell = if is_utf8 cell then str_width false (chars cell) else 0
