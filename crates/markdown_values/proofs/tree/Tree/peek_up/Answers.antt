use Rattle.std.proofs.Common.{length, sym, ◌∙◌}
use Rattle.markdown_values.proofs.tree.TreeLemmas.{last-is-get, last-within}
use Rattle.markdown_values.proofs.tree.Tree.peek_up.Goals as goal

pub returns-clause-parent : goal.returns-clause-parent
returns-clause-parent g c = rw (← c.self.view_is, ← c.deref.ensures.value) (c.copied.ensures ∙ c.last.ensures.value ∙ sym (last-is-get c.deref.result.now))

pub returns-clause-within : goal.returns-clause-within
returns-clause-within g c = rw (returns-clause-parent g c, ← c.self.view_is) (last-within (length c.self.inside.nodes.items) c.self.inside.spine.items c.self.invariant.spine_leads)
