-- The forest that a `Tree` stands for, where the focus moves to the sibling that follows a node.
use Rattle.std.proofs.Common.{◌≡◌, ◌≢◌, inl, inr, ℕ, List, Option, Some, None, refl}
use Rattle.std.specs.Prelude.{IfSome}
use Rattle.std.proofs.lemmas.Bool.{cases_eq, eq-eqb, ne_eqb}
use Rattle.markdown_values.specs.declared.tree.Node.{Node}
use Rattle.markdown_values.specs.tree.Linked.{Linked}
use Rattle.markdown_values.specs.tree.Tree.{first_root, next_of}
use Rattle.markdown_values.specs.tree.Forest.{Forest, no_tree, tree, first, IsRoot, root_after, Focused, siblings, moved_after, KeepsFocus, IsLinkedAs, StandsFor}
use Rattle.markdown_values.proofs.tree.ForestCounts.{IsRoot-later}
use Rattle.markdown_values.proofs.tree.ForestLemmas.{IsLinkedAs-first, IsLinkedAs-at_end}

root_after-here : (a r : ℕ) (cs later : Forest) → a ≡ r → root_after a (tree r cs later) ≡ first later
root_after-here a r cs later e = rw (eq-eqb a r e)

root_after-there : (a r : ℕ) (cs later : Forest) → a ≢ r → root_after a (tree r cs later) ≡ root_after a later
root_after-there a r cs later ne = rw (ne_eqb a r ne)

-- a root of the later trees is a root
later_root : (r : ℕ) (cs later : Forest) (root : Option ℕ) → IfSome root (λ node. IsRoot node later) → IfSome root (λ node. IsRoot node (tree r cs later))
later_root r cs later None h = tt
later_root r cs later (Some node) h = inr h

first_root-later : (r : ℕ) (cs later : Forest) → IfSome (first later) (λ node. IsRoot node (tree r cs later))
first_root-later r cs no_tree = tt
first_root-later r cs (tree s below later) = inr (inl refl)

-- the root after a node is a root
IsRoot-after : (a : ℕ) (forest : Forest) → IfSome (root_after a forest) (λ node. IsRoot node forest)
IsRoot-after a no_tree = tt
IsRoot-after a (tree r cs later) =
    elim (cases_eq a r) [
      | inl e ↦ rw (root_after-here a r cs later e) (first_root-later r cs later)
      | inr ne ↦ rw (root_after-there a r cs later ne) (later_root r cs later (root_after a later) (IsRoot-after a later))
    ]

module _ {T : Type 0} where
  -- the next link of a root leads to the root after it
  next-root : (nodes : List (Node T)) (link : Option ℕ) (a : ℕ) (forest : Forest) → IsLinkedAs nodes link forest → IsRoot a forest → next_of nodes a ≡ root_after a forest
  next-root nodes link a no_tree h root = absurd root
  next-root nodes link a (tree r cs later) h root =
      elim (cases_eq a r) [
        | inl e ↦ rw (root_after-here a r cs later e, e, h.2) (IsLinkedAs-first nodes h.1.next later h.4)
        | inr ne ↦ rw (root_after-there a r cs later ne) (next-root nodes h.1.next a later h.4 (IsRoot-later a r cs later ne root))
      ]

  pub StandsFor-moved : (t : Linked T) (a : ℕ) (f : Focused) → StandsFor t f → IsRoot a (siblings f) → KeepsFocus (moved_after f a)
      → StandsFor (record t { focus = next_of t.nodes a }) (moved_after f a)
  StandsFor-moved t a f h root keeps =
      let under = IsLinkedAs-at_end t.nodes (first_root t.nodes) f.path f.forest h.links h.path_leads in
      record {
        links = h.links;
        spine_is = h.spine_is;
        focus_is = next-root t.nodes under.0 a (siblings f) under.1 root;
        path_leads = h.path_leads;
        focus_among = IsRoot-after a (siblings f);
        focus_there = λ empty none. let some = rw none at (keeps empty) in cc;
        once = h.once;
      }
