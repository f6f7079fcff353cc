-- Spaces, tabs and line endings alone stand after the end.
use Rattle.std.proofs.Common.{◌≡◌, ◌||◌, ◌+◌, ◌≤◌, length, take}
use Rattle.std.specs.List.{suffix_len}
use Rattle.markdown_scanners_tree.specs.Bytes.{is_line_ending, is_space_or_tab}
use Rattle.markdown_blocks.proofs.content.words_len.Given as goal

abbrev pub invariant-loop-end : goal.invariant-loop-end
invariant-loop-end l =
    (l.end ≤ length l.text)
    × (l.end + suffix_len (λ b. is_space_or_tab b || is_line_ending b) l.text
    ≡ length l.text + suffix_len (λ b. is_space_or_tab b || is_line_ending b) (take l.end l.text))

abbrev pub decreases-loop-end : goal.decreases-loop-end
decreases-loop-end l = l.end
