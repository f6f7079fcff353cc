use Rattle.std.proofs.Common.{◌∙◌, arith, ap, Some, length}
use Rattle.std.proofs.lemmas.List.{length_push}
use Rattle.markdown_values.specs.tree.Linked.{Linked}
use Rattle.markdown_values.specs.tree.Tree.{isolated}
use Rattle.markdown_values.proofs.tree.TreeLemmas.{length-linked}
use Rattle.markdown_values.proofs.tree.ForestLemmas.{StandsFor-appended}
use Rattle.markdown_values.proofs.tree.Tree.append.Goals as goal

pub invariant_of-self : goal.invariant_of-self
invariant_of-self g c =
    let linked = ap (λ (t : Linked g.row.T.Denot). length t.nodes) (c.self.view_is ∙ c.link_from_focus.ensures.state) in
    let made = ap (λ (t : Linked g.row.T.Denot). length t.nodes) c.in_ok-ix.ensures.ok in
    let same = length-linked c.create_node.new.self.nodes c.create_node.new.self.focus c.create_node.new.self.spine (Some c.in_ok-ix.ix) in
    let index = c.in_ok-ix.ensures.index in
    let more = length_push c.args.self.now.nodes (isolated c.args.item) in
    record {
      has_dummy = c.self.invariant.has_dummy;
      links_lead = c.self.invariant.links_lead;
      spine_leads = c.self.invariant.spine_leads;
      focus_leads = omega arith;
    }

pub returns-clause-ok : goal.returns-clause-ok
returns-clause-ok g c =
    let linked = ap (λ (t : Linked g.row.T.Denot). record t { focus = Some c.in_ok-ix.ix }) (c.self.view_is ∙ c.link_from_focus.ensures.state) in
    linked ∙ rw (c.in_ok-ix.ensures.ok, c.in_ok-ix.ensures.index)

pub returns-clause-forest : goal.returns-clause-forest
returns-clause-forest g c = λ f h. rw (returns-clause-ok g c, c.in_ok-ix.ensures.index) (StandsFor-appended c.args.self.now c.args.item f h)
