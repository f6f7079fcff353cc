use Rattle.std.proofs.Common.{ℕ, ◌≡◌, drop, length}
use Rattle.markdown_scanners_tree.proofs.line.run.PlainRunLemmas.{SoFar}
use Rattle.markdown_scanners_tree.proofs.line.run.run_line.Given as goal

abbrev pub invariant-loop-index : goal.invariant-loop-index
invariant-loop-index l =
    (k c : ℕ) × SoFar l.bytes l.calls (drop l.index l.calls) l.answers.items l.start k c
    × (length l.answers.items ≡ l.index)
