use Rattle.std.proofs.Common.{◌≡◌, List, Some, sym, ap, ◌∙◌, Option, ℕ, subst}
use Rattle.std.proofs.lemmas.Option.{slice_get_within}
use Rattle.markdown_values.specs.declared.tree.Node.{Node}
use Rattle.markdown_values.specs.tree.Linked.{Linked}
use Rattle.markdown_values.specs.tree.Tree.{last, child_of}
use Rattle.markdown_values.specs.tree.Truncate.{FindsOther, Span, IsFirstOther, HasChildren, HasSiblings, last_index, cut_tree, truncated}
use Rattle.markdown_values.proofs.tree.truncate.ChainLemmas.{same_first_other, not_both, first_other-within}
use Rattle.markdown_values.proofs.tree.truncate.TruncateLemmas.{CanCut-first, HasChildren-of, HasSiblings-of, HasChildren-cut, spine-cut, focus-truncated, truncated-same, truncated_focus-same}
use Rattle.markdown_values.proofs.tree.Tree.truncate_siblings.Goals as goal
use Rattle.markdown_values.proofs.tree.Tree.truncate_siblings.Goals.{In-Some, After-unwrap-parent, After-cut_child}

parent_is : (g : _) (c : After-unwrap-parent g) → last c.args.self.now.spine ≡ Some c.unwrap-parent.result
parent_is g c = sym c.peek_up.ensures.parent ∙ c.unwrap-parent.ensures

pub first_other-previous-requires-clause-parent : goal.first_other-previous-requires-clause-parent
first_other-previous-requires-clause-parent g c = rw c.unwrap-parent.ensures at c.peek_up.ensures.within

found : (g : _) (c : In-Some g)
    → FindsOther g.T.SpanItem.span c.args.end c.args.self.now.nodes
    (child_of c.args.self.now.nodes c.unwrap-parent.result) c.first_other-previous.result.0 (Some c.in-Some.ix)
found g c = rw c.in-Some.is at c.first_other-previous.ensures

pub first_other-previous-requires-clause-children : goal.first_other-previous-requires-clause-children
first_other-previous-requires-clause-children g c =
    let can = c.requires.range in
    (can.0, HasChildren-of _ c.args.self.now c.unwrap-parent.result can.0 (parent_is g (goal.at.first_other-previous-requires-clause-children g c).After-unwrap-parent) can.1)

pub cut_child-requires-clause-previous : goal.cut_child-requires-clause-previous
cut_child-requires-clause-previous g c =
    let f = found g (goal.at.cut_child-requires-clause-previous g c).In-Some in
    rw f.4 (first_other-within _ _ _ _ f.0 f.2 _ f.3).1

pub cut_child-requires-clause-index : goal.cut_child-requires-clause-index
cut_child-requires-clause-index g c =
    let f = found g (goal.at.cut_child-requires-clause-index g c).In-Some in
    slice_get_within _ _ _ (first_other-within _ _ _ _ f.0 f.2 _ f.3).0

pub cut_child-requires-clause-range : goal.cut_child-requires-clause-range
cut_child-requires-clause-range g c =
    let f = found g (goal.at.cut_child-requires-clause-range g c).In-Some in
    let p = parent_is g (goal.at.cut_child-requires-clause-range g c).After-unwrap-parent in
    rw ((first_other-within _ _ _ _ f.0 f.2 _ f.3).0) (CanCut-first _ c.args.end c.args.self.now c.unwrap-parent.result f.0 f.2 (c.in-Some.ix, f.1) p f.3 c.requires.range)

pub returns-in-Some-clause-kept : goal.returns-in-Some-clause-kept
returns-in-Some-clause-kept g c =
    let f = found g (goal.at.returns-in-Some-clause-kept g c).In-Some in
    rw (parent_is g (goal.at.returns-in-Some-clause-kept g c).After-unwrap-parent) (λ children all. absurd (not_both _ _ _ _ children f.0 f.2 _ all f.3))

-- the tree after the cut, by the children before the one that is cut
effect : (g : _) (c : After-cut_child g) (kept later : List (ℕ × Node g.row.T.Denot)) (node : Node g.row.T.Denot)
    → IsFirstOther g.T.SpanItem.span c.args.end c.args.self.now.nodes (child_of c.args.self.now.nodes c.unwrap-parent.result) kept (c.in-Some.ix, node) later
    → c.first_other-previous.result.0 ≡ last_index kept
    → c.cut_child.new.self ≡ cut_tree g.T.SpanItem.span g.T.SpanItem.with_range c.args.end (Some c.unwrap-parent.result) (last_index kept) (c.in-Some.ix, node) c.args.self.now
effect g c kept later node first previous =
    let tree_at : Option ℕ → Linked g.row.T.Denot =
    λ previous. cut_tree g.T.SpanItem.span g.T.SpanItem.with_range c.args.end
    (Some c.unwrap-parent.result) previous (c.in-Some.ix, node) c.args.self.now in
    rw ((first_other-within _ _ _ _ kept later _ first).0) at c.cut_child.ensures.state ∙ ap tree_at previous

pub returns-in-Some-clause-cut : goal.returns-in-Some-clause-cut
returns-in-Some-clause-cut g c =
    let f = found g (goal.at.returns-in-Some-clause-cut g c).In-Some in
    rw (parent_is g (goal.at.returns-in-Some-clause-cut g c).After-unwrap-parent) (λ kept c' later first.
    let same = same_first_other _ _ _ _ f.0 kept f.2 later _ c' f.3 first in
    let tree_at : Option ℕ → ℕ × Node g.row.T.Denot → Linked g.row.T.Denot =
    λ previous child. cut_tree g.T.SpanItem.span g.T.SpanItem.with_range c.args.end
    (Some c.unwrap-parent.result) previous child c.args.self.now in
    effect g (goal.at.returns-in-Some-clause-cut g c).After-cut_child f.0 f.2 f.1 f.3 f.4
    ∙ (ap (λ previous. tree_at previous (c.in-Some.ix, f.1)) (ap last_index same.0) ∙ ap
    (tree_at (last_index kept)) same.1))

pub returns-in_default-clause-cut : goal.returns-in_default-clause-cut
returns-in_default-clause-cut g c =
    let all = rw c.in_default.is at c.first_other-previous.ensures in
    rw (parent_is g (goal.at.returns-in_default-clause-cut g c).After-unwrap-parent) (λ kept c' later first. absurd (not_both _ _ _ _ all.0 kept later c' all.1 first))

spine_left : (g : _) (c : After-cut_child g) (kept later : List (ℕ × Node g.row.T.Denot)) (node : Node g.row.T.Denot)
    → IsFirstOther g.T.SpanItem.span c.args.end c.args.self.now.nodes (child_of c.args.self.now.nodes c.unwrap-parent.result) kept (c.in-Some.ix, node) later
    → c.first_other-previous.result.0 ≡ last_index kept
    → c.cut_child.new.self.spine ≡ c.args.self.now.spine
spine_left g c kept later node first previous =
    ap (λ (t : Linked g.row.T.Denot). t.spine) (effect g c kept later node first previous)
    ∙ spine-cut g.T.SpanItem.span g.T.SpanItem.with_range c.args.end c.args.self.now (Some c.unwrap-parent.result) (last_index kept) (c.in-Some.ix, node)

pub returns-in-Some-clause-spine : goal.returns-in-Some-clause-spine
returns-in-Some-clause-spine g c =
    let f = found g (goal.at.returns-in-Some-clause-spine g c).In-Some in
    spine_left g (goal.at.returns-in-Some-clause-spine g c).After-cut_child f.0 f.2 f.1 f.3 f.4

-- the siblings as the parent's children
children : (g : _) (c : After-unwrap-parent g) (spans : List (ℕ × Span))
    → HasSiblings g.T.SpanItem.span c.args.self.now spans
    → HasChildren g.T.SpanItem.span c.args.self.now c.unwrap-parent.result spans
children g c spans has = HasChildren-of g.T.SpanItem.span c.args.self.now c.unwrap-parent.result spans (parent_is g c) has

pub returns-in-Some-clause-children : goal.returns-in-Some-clause-children
returns-in-Some-clause-children g c =
    let here = goal.at.returns-in-Some-clause-children g c in
    let f = found g here.In-Some in λ spans has.
    HasSiblings-of g.T.SpanItem.span c.cut_child.new.self c.unwrap-parent.result (truncated c.args.end spans)
    (ap last (spine_left g here.After-cut_child f.0 f.2 f.1 f.3 f.4) ∙ parent_is g here.After-unwrap-parent)
    (subst (λ (t : Linked g.row.T.Denot). HasChildren g.T.SpanItem.span t c.unwrap-parent.result (truncated c.args.end spans)) (sym (effect g here.After-cut_child f.0 f.2 f.1 f.3 f.4))
    (HasChildren-cut g.T.SpanItem.span g.T.SpanItem.with_range g.met.T.SpanItem.sets_range c.args.end c.args.self.now c.unwrap-parent.result f.0 f.2
    (c.in-Some.ix, f.1) spans f.3 (children g here.After-unwrap-parent spans has)))

pub returns-in-Some-clause-focus : goal.returns-in-Some-clause-focus
returns-in-Some-clause-focus g c =
    let here = goal.at.returns-in-Some-clause-focus g c in
    let f = found g here.In-Some in λ spans has.
    ap (λ (t : Linked g.row.T.Denot). t.focus) (effect g here.After-cut_child f.0 f.2 f.1 f.3 f.4)
    ∙ focus-truncated g.T.SpanItem.span g.T.SpanItem.with_range c.args.end c.args.self.now c.unwrap-parent.result f.0 f.2 (c.in-Some.ix, f.1) spans f.3 (children g here.After-unwrap-parent spans has)

pub returns-in_default-clause-children : goal.returns-in_default-clause-children
returns-in_default-clause-children g c =
    let here = goal.at.returns-in_default-clause-children g c in
    let all = rw c.in_default.is at c.first_other-previous.ensures in λ spans has.
    rw (truncated-same _ c.args.end c.args.self.now c.unwrap-parent.result all.0 spans all.1 (children g here.After-unwrap-parent spans has)) has

pub returns-in_default-clause-focus : goal.returns-in_default-clause-focus
returns-in_default-clause-focus g c =
    let here = goal.at.returns-in_default-clause-focus g c in
    let all = rw c.in_default.is at c.first_other-previous.ensures in λ spans has.
    sym (truncated_focus-same _ c.args.end c.args.self.now c.unwrap-parent.result all.0 spans all.1 (children g here.After-unwrap-parent spans has))
