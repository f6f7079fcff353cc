use Rattle.std.proofs.Common.{◌≡◌, ◌<◌, length, [], ◌∷◌, ◌++◌, List, ℕ, arith, sym, ap, ◌∙◌, subst, None, Some, IfSome}
use Rattle.std.specs.Prelude.{slice_set}
use Rattle.markdown_values.specs.declared.tree.Node.{Node}
use Rattle.markdown_values.specs.tree.Linked.{Linked}
use Rattle.markdown_values.specs.tree.Tree.{last, with_child, removed, IsWithin, IsLastLinkedFromAlone}
use Rattle.markdown_values.proofs.tree.TreeLemmas.{last-push, take-last, update_at-read, length-update_at}
use Rattle.markdown_values.proofs.tree.RemovalLemmas.{ending_in, removed-is, IsWithin-removed}
use Rattle.markdown_values.proofs.tree.Tree.remove_node.Goals as goal
use Rattle.markdown_values.proofs.tree.Tree.remove_node.Goals.{After-pop-2, After-index_mut}

-- the node that is dropped
dropped : (g : _) (c : After-pop-2 g) → (node : Node g.row.T.Denot) × (c.self.inside.nodes.items ≡ c.pop-2.new.self.items ++ node ∷ [])
dropped g c =
    let last_node = take-last c.self.inside.nodes.items c.self.invariant.has_dummy in
    let front = rw c.self.inside.nodes.ok.0 at c.pop-2.ensures.rest in
    (last_node.0, rw (← front) at last_node.1)

abbrev tree_is : (g : _) → After-pop-2 g → Linked g.row.T.Denot
tree_is g c = ending_in c.pop-2.new.self.items (dropped g c).0 c.pop.new.self.items c.in_ok-parent.parent c.self.inside.focus

inside_is : (g : _) (c : After-pop-2 g) → record { nodes = c.self.inside.nodes.items; spine = c.self.inside.spine.items; focus = c.self.inside.focus } ≡ tree_is g c
inside_is g c =
    ap (λ (nodes : List (Node g.row.T.Denot)). record { nodes = nodes; spine = c.self.inside.spine.items; focus = c.self.inside.focus }) (dropped g c).1
    ∙ ap (λ (spine : List ℕ). record { nodes = c.pop-2.new.self.items ++ (dropped g c).0 ∷ []; spine = spine; focus = c.self.inside.focus }) c.in_ok-parent.ensures.items

self_is : (g : _) (c : After-pop-2 g) → c.args.self.now ≡ tree_is g c
self_is g c = sym c.self.view_is ∙ inside_is g c

within : (g : _) (c : After-pop-2 g) → IsWithin (with_child c.pop-2.new.self.items c.in_ok-parent.parent None) c.pop.new.self.items (Some c.in_ok-parent.parent)
within g c =
    let old = subst (λ (t : Linked g.row.T.Denot). IsWithin t.nodes t.spine t.focus) (inside_is g c) c.self.invariant in
    let under = subst (λ (t : Linked g.row.T.Denot). IfSome (last t.spine) (IsLastLinkedFromAlone t)) (self_is g c) c.requires in
    let alone = rw (last-push c.pop.new.self.items c.in_ok-parent.parent) at under in
    IsWithin-removed c.pop-2.new.self.items (dropped g c).0 c.pop.new.self.items c.in_ok-parent.parent c.self.inside.focus old alone

pub index_mut-requires : goal.index_mut-requires
index_mut-requires g c =
    let before = (within g (goal.at.index_mut-requires g c).After-pop-2).focus_leads in
    omega (arith, length-update_at {A = Node g.row.T.Denot})

-- the nodes that are left
edited : (g : _) (c : After-index_mut g) → c.in_ok-parent.parent < length (with_child c.pop-2.new.self.items c.in_ok-parent.parent None)
    → slice_set c.pop-2.new.self.items c.get.result
    (record { child = None; next = c.index_mut.result.now.next; item = c.index_mut.result.now.item })
    ≡ with_child c.pop-2.new.self.items c.in_ok-parent.parent None
edited g c before =
    sym (update_at-read (λ node.
    record node { child = None }) c.pop-2.new.self.items c.get.result c.index_mut.result.now
    (omega (arith, length-update_at {A = Node g.row.T.Denot})) c.index_mut.ensures.value)
    ∙ ap (λ (ix : ℕ). with_child c.pop-2.new.self.items ix None) c.get.ensures.value

pub invariant_of-self-2 : goal.invariant_of-self-2
invariant_of-self-2 g c =
    subst (λ (nodes : List (Node g.row.T.Denot)). IsWithin nodes c.pop.new.self.items (Some c.in_ok-parent.parent))
    (sym (edited g (goal.at.invariant_of-self-2 g c).After-index_mut
    (within g (goal.at.invariant_of-self-2 g c).After-pop-2).focus_leads))
    (within g (goal.at.invariant_of-self-2 g c).After-pop-2)

pub returns-clause-parent : goal.returns-clause-parent
returns-clause-parent g c =
    sym (ap (λ (t : Linked g.row.T.Denot). last t.spine) (self_is g (goal.at.returns-clause-parent g c).After-pop-2) ∙ last-push c.pop.new.self.items c.in_ok-parent.parent)

pub returns-clause-within : goal.returns-clause-within
returns-clause-within g c =
    subst (λ (nodes : List (Node g.row.T.Denot)). c.in_ok-parent.parent < length nodes)
    (sym (edited g (goal.at.returns-clause-within g c).After-index_mut
    (within g (goal.at.returns-clause-within g c).After-pop-2).focus_leads))
    (within g (goal.at.returns-clause-within g c).After-pop-2).focus_leads

pub returns-clause-state : goal.returns-clause-state
returns-clause-state g c =
    let effect =
    ap removed (self_is g (goal.at.returns-clause-state g c).After-pop-2) ∙ removed-is c.pop-2.new.self.items
    (dropped g (goal.at.returns-clause-state g c).After-pop-2).0 c.pop.new.self.items c.in_ok-parent.parent c.self.inside.focus in
    ap (λ (nodes : List (Node g.row.T.Denot)). record {
      nodes = nodes;
      spine = c.pop.new.self.items;
      focus = Some c.in_ok-parent.parent;
    })
    (edited g (goal.at.returns-clause-state g c).After-index_mut
    (within g (goal.at.returns-clause-state g c).After-pop-2).focus_leads) ∙ sym effect
