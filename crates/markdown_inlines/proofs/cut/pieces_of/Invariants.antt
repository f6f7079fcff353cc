use Rattle.std.proofs.Common.{◌≡◌, ◌++◌, drop}
use Rattle.markdown_inlines.specs.Written.{pieces_of}
use Rattle.markdown_inlines.proofs.cut.pieces_of.Given as goal

abbrev pub invariant-loop-inline : goal.invariant-loop-inline
invariant-loop-inline l = l.pieces.items ++ pieces_of (drop l.inline-index l.inlines) ≡ pieces_of l.inlines
