-- The first piece is what is passed, and the first of what is left.
use Rattle.std.proofs.Common.{◌≡◌, ◌+◌, drop}
use Rattle.markdown_scanners_tree.specs.Ascii.{space}
use Rattle.markdown_blocks.specs.cells.Cells.{first_len, pieces}
use Rattle.markdown_blocks.proofs.cells.piece_len.Given as goal

abbrev pub invariant-loop-byte : goal.invariant-loop-byte
invariant-loop-byte l =
    (l.len ≡ l.byte-index) × (l.len + first_len (pieces l.before (drop l.byte-index l.row)) ≡ first_len (pieces space l.row))
