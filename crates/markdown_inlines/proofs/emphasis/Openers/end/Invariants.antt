use Rattle.std.proofs.Common.{◌≡◌, ◌++◌, ◌≤◌, List, ℕ}
use Rattle.markdown_inlines.specs.declared.emphasis.Emphasis.{Emphasis}
use Rattle.markdown_inlines.specs.Emphasis.{left, ended_by, ended}
use Rattle.markdown_inlines.specs.EmphasisBounds.{IsOfDelimiters}
use Rattle.markdown_inlines.proofs.emphasis.EmphasisLemmas.{after}
use Rattle.markdown_inlines.proofs.emphasis.Openers.end.Given as goal

-- with what is done and what the rest of the closer ends, all is ended that the run ends
abbrev pub invariant-loop-made : goal.invariant-loop-made
invariant-loop-made l =
    IsOfDelimiters l.closer.run × (n : ℕ) × (done : List Emphasis) × (left l.closer ≤ n)
    × (l.emphasis.items ≡ l.fn.emphasis.items ++ done) × (ended l.fn.run l.fn.self ≡ after done (ended_by n l.closer l.self))

abbrev pub decreases-loop-made : goal.decreases-loop-made
decreases-loop-made l = left l.closer
