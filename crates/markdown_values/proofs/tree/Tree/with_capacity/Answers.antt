use Rattle.markdown_values.proofs.tree.ForestLemmas.{StandsFor-empty}
use Rattle.markdown_values.proofs.tree.Tree.with_capacity.Goals as goal

pub returns-clause-forest : goal.returns-clause-forest
returns-clause-forest g c = rw (c.in_ok-push.ensures.items, c.in_ok-nodes.ensures.items, c.new.ensures.items) (StandsFor-empty c.default.result)
