use Rattle.std.proofs.Common.{length, ◌≡◌}
use Rattle.markdown_scanners_tree.specs.scanners.TextLines.{lines_of}
use Rattle.markdown_blocks.specs.link_definitions.Lent.{from_byte}
use Rattle.markdown_blocks.proofs.link_definitions.offset_in.Given as goal

abbrev pub invariant-loop-left : goal.invariant-loop-left
invariant-loop-left l =
    from_byte l.further (lines_of l.left) (lines_of l.rest) ≡ from_byte l.fn.offset (lines_of l.text) (lines_of l.lines)

abbrev pub decreases-loop-left : goal.decreases-loop-left
decreases-loop-left l = length l.left
