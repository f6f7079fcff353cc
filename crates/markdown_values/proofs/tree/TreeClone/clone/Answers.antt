use Rattle.std.proofs.Common.{◌≡◌, ◌<◌, ◌≤◌, get_or, take, length, refl, subst}
use Rattle.std.specs.List.{AllZip, each_same}
use Rattle.std.proofs.lemmas.List.{take_more, take_all}
use Rattle.std.proofs.lemmas.List.Elements.{AllZip-push}
use Rattle.markdown_values.specs.tree.Linked.{Linked}
use Rattle.markdown_values.specs.tree.Tree.{IsNodeClone, IsTreeClone}
use Rattle.markdown_values.proofs.tree.CloneLemmas.{IsWithin-clones, IsTreeClone-made}
use Rattle.markdown_values.proofs.tree.TreeClone.clone.Goals as goal
use Rattle.markdown_values.proofs.tree.TreeClone.clone.Goals.{After-clone-2}

pub loop-node-preserved : goal.loop-node-preserved
loop-node-preserved g c =
    let nodes = c.self.inside.nodes.items in
    let read : c.node-item.result ≡ get_or nodes c.loop-node.node-index c.node-item.result = rw c.deref-node-items.ensures.value at c.node-item.is in
    let within : c.loop-node.node-index < length nodes = rw c.deref-node-items.ensures.value at c.loop-node-test.true in
    rw (c.in_ok-push.ensures.items, take_more nodes c.loop-node.node-index c.node-item.result within, ← read)
    (AllZip-push (IsNodeClone g.T.Clone.is_clone)
    (take c.loop-node.node-index nodes) c.loop-node.nodes.items c.node-item.result _ c.loop-node.invariant
    (record { child = refl; next = refl; item = c.in_ok-clone.ensures.cases }))

-- all nodes are cloned
clones : (g : _) (c : After-clone-2 g) → AllZip (IsNodeClone g.T.Clone.is_clone) c.self.inside.nodes.items c.loop-node.nodes.items
clones g c =
    let past : length c.self.inside.nodes.items ≤ c.loop-node.node-index = rw c.deref-node-items.ensures.value at c.loop-node-test.false in
    rw (take_all c.loop-node.node-index c.self.inside.nodes.items past) at c.loop-node.invariant

pub invariant_of-result : goal.invariant_of-result
invariant_of-result g c =
    let spine : c.in_ok-clone-2.field-0.items ≡ c.self.inside.spine.items = each_same _ _ c.in_ok-clone-2.ensures.cases.0 in
    rw spine (IsWithin-clones g.T.Clone.is_clone c.self.inside.nodes.items c.loop-node.nodes.items c.self.inside.spine.items c.self.inside.focus
    (clones g (goal.at.invariant_of-result g c).After-clone-2) c.self.invariant)

pub returns : goal.returns
returns g c =
    let spine : c.in_ok-clone-2.field-0.items ≡ c.self.inside.spine.items = each_same _ _ c.in_ok-clone-2.ensures.cases.0 in
    let inside : Linked g.row.T.Denot = record { nodes = c.self.inside.nodes.items; spine = c.self.inside.spine.items; focus = c.self.inside.focus } in
    let copy : Linked g.row.T.Denot = record { nodes = c.loop-node.nodes.items; spine = c.in_ok-clone-2.field-0.items; focus = c.self.inside.focus } in
    record {
      cases = subst (λ (t : Linked g.row.T.Denot). IsTreeClone g.T.Clone.is_clone t copy) c.self.view_is
          (IsTreeClone-made g.T.Clone.is_clone inside c.loop-node.nodes.items c.in_ok-clone-2.field-0.items (clones g (goal.at.returns g c).After-clone-2) spine);
    }
