-- How far a gap between two parts of a definition goes.
use Rattle.std.specs.Prelude.{ℕ, ◌+◌, List, drop, unwrap_or}
use Rattle.std.specs.List.{prefix_len}
use Rattle.markdown_scanners_tree.specs.Bytes.{is_space_or_tab, line_ending}

-- the spaces and tabs at the front, and the line ending after them, if one is there
abbrev pub first_part : List ℕ → ℕ
first_part text =
    prefix_len is_space_or_tab text + unwrap_or (line_ending (drop (prefix_len is_space_or_tab text) text)) 0

-- and the spaces and tabs after that
abbrev pub gap_length : List ℕ → ℕ
gap_length text = first_part text + prefix_len is_space_or_tab (drop (first_part text) text)
