use Rattle.std.proofs.Common.{◌≡◌, ◌<◌, ◌≤◌}
use Rattle.markdown_scanners_tree.specs.line.State.{rest_of, leading_spaces}
use Rattle.markdown_blocks.specs.containers.Footnotes.{after_columns}
use Rattle.markdown_blocks.proofs.footnotes.pass_columns.Given as goal

-- after the columns that are left is the offset after all
abbrev pub invariant-loop : goal.invariant-loop
invariant-loop l =
    (after_columns l.start ≡ after_columns l.fn.start) × (l.start.bytes ≡ l.fn.start.bytes)
    × (l.fn.start.offset ≤ l.start.offset) × (l.start.phase < 4)

abbrev pub decreases-loop : goal.decreases-loop
decreases-loop l = leading_spaces (rest_of l.start)
