use Rattle.std.proofs.Common.{arith}
use Rattle.markdown_values.proofs.tree.TreeLemmas.{next_of-read}
use Rattle.markdown_values.proofs.tree.SiblingLemmas.{StandsFor-moved}
use Rattle.markdown_values.proofs.tree.Tree.next_sibling.Goals as goal

pub returns-clause-state : goal.returns-clause-state
returns-clause-state g c =
    let within = rw (← c.self.view_is) at c.requires in
    let next = next_of-read c.self.inside.nodes.items c.get.result c.index.result.now (omega (arith, within, c.get.ensures.value)) c.index.ensures in
    rw (← c.self.view_is, next, c.get.ensures.value)

pub returns-clause-forest : goal.returns-clause-forest
returns-clause-forest g c = λ f h root keeps. rw (returns-clause-state g c) (StandsFor-moved c.args.self.now c.args.ix f h root keeps)
