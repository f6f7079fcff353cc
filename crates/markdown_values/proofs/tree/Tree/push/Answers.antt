use Rattle.std.proofs.Common.{rules, ◌∙◌, arith, ap, ◌≡◌, Some}
use Rattle.std.proofs.lemmas.Grind.{common_steps}
use Rattle.markdown_values.specs.tree.Linked.{Linked}
use Rattle.markdown_values.proofs.tree.TreeLemmas.{child_of-read}
use Rattle.markdown_values.proofs.tree.ForestLemmas.{StandsFor-pushed}
use Rattle.markdown_values.proofs.tree.Tree.push.Goals as goal

pub returns-clause-index : goal.returns-clause-index
returns-clause-index g c = search rules

pub returns-clause-ok : goal.returns-clause-ok
returns-clause-ok g c =
    let focused : c.self.inside.focus ≡ Some c.unwrap-ix.result = ap (λ (t : Linked g.row.T.Denot). t.focus) c.self.view_is ∙ returns-clause-index g c in
    let within = rw focused at c.self.invariant.focus_leads in
    let child = child_of-read c.self.inside.nodes.items c.get.result c.index.result.now (omega arith) c.index.ensures in
    rw (← c.self.view_is, c.in_ok-push.ensures.items, child, c.get.ensures.value)

pub returns-clause-forest : goal.returns-clause-forest
returns-clause-forest g c = λ f h. rw (returns-clause-ok g c) (StandsFor-pushed c.args.self.now c.unwrap-ix.result f (returns-clause-index g c) h)

pub invariant_of-self-2 : goal.invariant_of-self-2
invariant_of-self-2 g c = grind (arith, common_steps)

pub returns-clause-within : goal.returns-clause-within
returns-clause-within g c = grind (arith, common_steps)
