use Rattle.std.proofs.Common.{◌≡◌, length}
use Rattle.markdown_values.proofs.tree.OrderLemmas.{IsWalked}
use Rattle.markdown_values.proofs.tree.Tree.in_order.Given as goal

-- as many nodes are listed as the walk has made steps
abbrev pub invariant-loop : goal.invariant-loop
invariant-loop g l = (l.end ≡ length l.self.nodes) × IsWalked l.self l.counter l.order.items l.pending.items
