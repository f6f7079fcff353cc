-- The links of a `Tree` whose last node is dropped.
use Rattle.std.proofs.Common.{◌≡◌, ◌≢◌, inl, inr, ℕ, ◌+◌, ◌-◌, ◌<◌, List, [], ◌∷◌, ◌++◌, length, get_or, ap, sym, ◌∙◌, arith, Option, Some, None, subst}
use Rattle.std.specs.Prelude.{slice_get}
use Rattle.std.proofs.lemmas.Bool.{cases_eq}
use Rattle.std.proofs.lemmas.Option.{slice_get-get_or}
use Rattle.std.proofs.lemmas.List.{length_push}
use Rattle.std.proofs.Math.ListN.{get_or-append}
use Rattle.markdown_values.specs.declared.tree.Node.{Node}
use Rattle.markdown_values.specs.tree.Linked.{Linked}
use Rattle.markdown_values.specs.tree.Tree.{with_child, removed, IsLinkWithin, IsNodeWithin, IsWithin, IsLastLinkedFromAlone}
use Rattle.markdown_values.proofs.tree.TreeLemmas.{All-at, All-last, last-push, but_last-push, length-update_at, get-update_at_other, get-update_at_same, get-append_left}

-- a link to one of so many nodes and one more, but not to the last, leads to one before it
link_before : (count : ℕ) (link : Option ℕ) → IsLinkWithin (count + 1) link → link ≢ Some count → IsLinkWithin count link
link_before count None h other = tt
link_before count (Some ix) h other =
    let apart : ix ≢ count = λ e. other (ap Some e) in
    omega arith

module _ {T : Type 0} where
  -- a tree with this last node and this parent
  abbrev pub ending_in : List (Node T) → Node T → List ℕ → ℕ → Option ℕ → Linked T
  ending_in front node path parent focus = record { nodes = front ++ node ∷ []; spine = path ++ parent ∷ []; focus = focus }

  pub removed-is : (front : List (Node T)) (node : Node T) (path : List ℕ) (parent : ℕ) (focus : Option ℕ)
      → removed (ending_in front node path parent focus) ≡ record { nodes = with_child front parent None; spine = path; focus = Some parent }
  removed-is front node path parent focus = rw (last-push path parent, but_last-push path parent, but_last-push front node)

  module _ (front : List (Node T)) (node : Node T) (path : List ℕ) (parent : ℕ) (focus : Option ℕ)
      (h : IsWithin (front ++ node ∷ []) (path ++ parent ∷ []) focus) (alone : IsLastLinkedFromAlone (ending_in front node path parent focus) parent) where
    last_is : length (front ++ node ∷ []) - 1 ≡ length front
    last_is = omega (arith, length_push front node)

    node_within : (k : ℕ) (v : Node T) → slice_get front k ≡ Some v → IsNodeWithin (length front + 1) v
    node_within k v e =
        let there = get-append_left front (node ∷ []) k v e in
        rw (length_push front node) at (All-at (IsNodeWithin (length (front ++ node ∷ []))) (front ++ node ∷ []) k v h.links_lead there)

    next_before : (k : ℕ) (v : Node T) → slice_get front k ≡ Some v → IsLinkWithin (length front) v.next
    next_before k v e =
        let there = get-append_left front (node ∷ []) k v e in
        link_before (length front) v.next (node_within k v e).next (rw (there, last_is) at (alone.as_next k))

    child_before : (k : ℕ) (v : Node T) → k ≢ parent → slice_get front k ≡ Some v → IsLinkWithin (length front) v.child
    child_before k v ne e =
        let there = get-append_left front (node ∷ []) k v e in
        link_before (length front) v.child (node_within k v e).child (rw (there, last_is) at (alone.as_child k ne))

    on_spine_before : (k d : ℕ) → k < length (path ++ parent ∷ []) → get_or (path ++ parent ∷ []) k d < length front
    on_spine_before k d lt =
        let within : get_or (path ++ parent ∷ []) k d < length front + 1 = rw (length_push front node) at (h.spine_leads k d lt) in
        let apart : get_or (path ++ parent ∷ []) k d ≢ length front = rw last_is at (alone.on_spine k d lt) in
        omega arith

    parent_before : parent < length front
    parent_before = All-last (λ ix. ix < length front) (path ++ parent ∷ []) parent on_spine_before (last-push path parent)

    same_length : length (with_child front parent None) ≡ length front
    same_length = length-update_at (λ n. record n { child = None }) front parent

    -- the node at k, where the parent has lost its child link
    changed_within : (k : ℕ) (v : Node T) → slice_get (with_child front parent None) k ≡ Some v → IsNodeWithin (length front) v
    changed_within k v e =
        elim (cases_eq k parent) [
          | inl same ↦
              let g : Node T → Node T = λ n. record n { child = None } in
              let old = get_or front parent v in
              let read = slice_get-get_or front parent v parent_before in
              let now : slice_get (with_child front parent None) parent ≡ Some v = rw same at e in
              let is : g old ≡ v = let q = get-update_at_same g front parent old read in cc in
              subst (IsNodeWithin (length front)) is (record { child = tt; next = next_before parent old read })
          | inr ne ↦
              let read : slice_get front k ≡ Some v = sym (get-update_at_other (λ n. record n { child = None }) front parent k ne) ∙ e in
              record { child = child_before k v ne read; next = next_before k v read }
        ]

    -- all links lead to nodes once the last node and the child link of the parent are dropped
    pub IsWithin-removed : IsWithin (with_child front parent None) path (Some parent)
    IsWithin-removed = record {
      has_dummy = let some = parent_before in let same = same_length in omega arith;
      links_lead =
          λ k d lt. subst (λ (count : ℕ). IsNodeWithin count (get_or (with_child front parent None) k d))
          (sym same_length) (changed_within k _ (slice_get-get_or (with_child front parent None) k d lt));
      spine_leads = λ k d lt.
          let before = on_spine_before k d (omega (arith, length_push path parent)) in
          let same = get_or-append path (parent ∷ []) d k lt in
          let count = same_length in
          omega arith;
      focus_leads = let some = parent_before in let same = same_length in omega arith;
    }
