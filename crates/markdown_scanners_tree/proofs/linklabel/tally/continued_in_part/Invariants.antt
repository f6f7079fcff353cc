use Rattle.std.proofs.Common.{take, ◌≡◌}
use Rattle.std.specs.List.{sum_by}
use Rattle.markdown_scanners_tree.specs.linklabel.private.Pass.{continued}
use Rattle.markdown_scanners_tree.proofs.linklabel.tally.continued_in_part.Given as goal

abbrev pub invariant-loop-byte : goal.invariant-loop-byte
invariant-loop-byte l = l.count ≡ sum_by continued (take l.byte-index l.bytes)
