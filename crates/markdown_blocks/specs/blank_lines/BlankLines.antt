-- Blank lines. (CommonMark 0.31.2, section 2.1, characters and lines)
use Rattle.std.specs.Prelude.{ℕ, Bool, List}
use Rattle.std.specs.List.{list_all}
use Rattle.markdown_scanners_tree.specs.Bytes.{is_space_or_tab, line_head}

-- the line is blank: nothing but spaces and tabs stands before its line ending
abbrev pub is_blank : List ℕ → Bool
is_blank line = list_all is_space_or_tab (line_head line)
