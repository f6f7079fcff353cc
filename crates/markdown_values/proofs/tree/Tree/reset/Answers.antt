use Rattle.std.proofs.Common.{rules, ◌<◌, length}
use Rattle.markdown_values.proofs.tree.ForestLemmas.{StandsFor-reset}
use Rattle.markdown_values.proofs.tree.Tree.reset.Goals as goal

pub returns-clause-state : goal.returns-clause-state
returns-clause-state g c = search rules

pub returns-clause-forest : goal.returns-clause-forest
returns-clause-forest g c = λ f h.
    let dummy : 0 < length c.args.self.now.nodes = rw (← c.self.view_is) c.self.invariant.has_dummy in
    rw (returns-clause-state g c) (StandsFor-reset c.args.self.now f dummy h)
