use Rattle.std.proofs.Common.{arith}
use Rattle.markdown_values.proofs.tree.TreeLemmas.{update_at-read}
use Rattle.markdown_values.proofs.tree.Tree.set_child.Goals as goal

pub returns-clause-state : goal.returns-clause-state
returns-clause-state g c =
    let within = rw (← c.self.view_is) at c.requires.index in
    let edit = update_at-read (λ node. record node { child = c.args.link }) c.self.inside.nodes.items c.get.result c.index_mut.result.now (omega arith) c.index_mut.ensures.value in
    rw (← c.self.view_is, ← c.get.ensures.value, edit)
