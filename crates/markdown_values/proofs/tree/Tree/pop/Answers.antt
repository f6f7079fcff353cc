use Rattle.std.proofs.Common.{arith}
use Rattle.std.proofs.lemmas.Grind.{common_steps}
use Rattle.markdown_values.proofs.tree.TreeLemmas.{last-push, but_last-push}
use Rattle.markdown_values.proofs.tree.ForestLemmas.{StandsFor-popped}
use Rattle.markdown_values.proofs.tree.Tree.pop.Goals as goal

pub returns-clause-parent : goal.returns-clause-parent
returns-clause-parent g c = rw (← c.self.view_is, c.in_ok-popped.ensures.items, last-push)

pub returns-clause-state : goal.returns-clause-state
returns-clause-state g c = rw (← c.self.view_is, c.in_ok-popped.ensures.items, last-push, but_last-push)

pub returns-clause-forest : goal.returns-clause-forest
returns-clause-forest g c = λ f h. rw (returns-clause-state g c) (StandsFor-popped c.args.self.now f h)

pub invariant_of-self-2 : goal.invariant_of-self-2
invariant_of-self-2 g c = grind (arith, common_steps)

pub returns-clause-within : goal.returns-clause-within
returns-clause-within g c = grind (arith, common_steps)
