use Rattle.std.proofs.Common.{List, length, ℕ}
use Rattle.markdown_values.specs.declared.tree.Node.{Node}
use Rattle.markdown_values.specs.tree.Tree.{child_of}
use Rattle.markdown_values.proofs.tree.truncate.ChainLemmas.{Passed, steps}
use Rattle.markdown_values.proofs.tree.Tree.first_other.Given as goal

-- some children are passed, and the search goes on with the next
abbrev pub invariant-loop-next : goal.invariant-loop-next
invariant-loop-next g l =
    (kept rest : List (ℕ × Node g.row.T.Denot)) × Passed g.T.SpanItem.span l.end l.self.nodes (child_of l.self.nodes l.fn.parent) l.next l.previous kept rest

abbrev pub decreases-loop-next : goal.decreases-loop-next
decreases-loop-next g l = steps l.self.nodes (length l.self.nodes) l.next
