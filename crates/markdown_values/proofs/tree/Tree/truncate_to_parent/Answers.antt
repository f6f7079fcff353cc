use Rattle.std.proofs.Common.{length, arith, ap}
use Rattle.markdown_values.specs.tree.Linked.{Linked}
use Rattle.markdown_values.proofs.tree.TreeLemmas.{next-within}
use Rattle.markdown_values.proofs.tree.Tree.truncate_to_parent.Goals as goal

pub link_from_focus-requires : goal.link_from_focus-requires
link_from_focus-requires g c =
    let within = rw (← c.self.view_is) at c.requires in
    let same = ap (λ (t : Linked g.row.T.Denot). length t.nodes) c.self.view_is in
    rw (c.set_next.ensures.count, ← same) (next-within c.self.inside.nodes.items c.get.result c.index.result.now c.self.invariant.links_lead (omega arith) c.index.ensures)
