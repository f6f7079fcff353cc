-- A chain after one of its nodes is changed, and the child links that stay.
use Rattle.std.proofs.Common.{◌≡◌, ◌≢◌, ℕ, zero, suc, ◌<◌, List, [], ◌∷◌, ◌++◌, length, refl, ap, sym, ◌∙◌, arith, Option, Some, None, length-append}
use Rattle.std.specs.Prelude.{slice_get}
use Rattle.markdown_values.specs.declared.tree.Node.{Node}
use Rattle.markdown_values.specs.tree.Tree.{child_of, update_at, with_child}
use Rattle.markdown_values.specs.tree.Truncate.{IsChain}
use Rattle.markdown_values.proofs.tree.TreeLemmas.{get-update_at_other}
use Rattle.markdown_values.proofs.tree.ForestLemmas.{KeepsBut}
use Rattle.markdown_values.proofs.tree.truncate.ChainLemmas.{same_chain}

module _ {T : Type 0} where
  -- no child of the list is this node
  abbrev AllApart : ℕ → List (ℕ × Node T) → Type 0
  AllApart ix [] = Unit {0}
  AllApart ix (c ∷ cs) = (c.0 ≢ ix) × AllApart ix cs

  -- no child before c is c
  apart_before : (nodes : List (Node T)) (link : Option ℕ) (kept later : List (ℕ × Node T)) (c : ℕ × Node T)
      → IsChain nodes (Some c.0) (c ∷ later) → IsChain nodes link (kept ++ c ∷ later) → AllApart c.0 kept
  apart_before nodes link [] later c from h = tt
  apart_before nodes link (x ∷ kept) later c from h = (
    λ e.
        let again : IsChain nodes (Some c.0) (x ∷ (kept ++ c ∷ later)) = (ap Some (sym e), h.1, h.2) in
        let same : length (x ∷ (kept ++ c ∷ later)) ≡ length (c ∷ later) = ap length (same_chain nodes (Some c.0) (x ∷ (kept ++ c ∷ later)) (c ∷ later) again from) in
        omega (arith, length-append kept (c ∷ later)),
    apart_before nodes x.1.next kept later c from h.2,
  )

  -- no child of a shorter chain is the first of this one
  apart_after : (nodes : List (Node T)) (link : Option ℕ) (ix : ℕ) (whole later : List (ℕ × Node T))
      → IsChain nodes (Some ix) whole → length later < length whole → IsChain nodes link later → AllApart ix later
  apart_after nodes link ix whole [] from shorter h = tt
  apart_after nodes link ix whole (x ∷ later) from shorter h = (
    λ e.
        let again : IsChain nodes (Some ix) (x ∷ later) = (ap Some (sym e), h.1, h.2) in
        let same : length (x ∷ later) ≡ length whole = ap length (same_chain nodes (Some ix) (x ∷ later) whole again from) in
        omega arith,
    apart_after nodes x.1.next ix whole later from (omega arith) h.2,
  )

  -- a chain stays where no node of it changes
  IsChain-kept : (old new : List (Node T)) (ix : ℕ) (link : Option ℕ) (chain : List (ℕ × Node T)) → KeepsBut old new ix → AllApart ix chain → IsChain old link chain → IsChain new link chain
  IsChain-kept old new ix link [] kept apart h = h
  IsChain-kept old new ix link (x ∷ chain) kept apart h = (h.0, kept x.0 x.1 apart.0 h.1, IsChain-kept old new ix x.1.next chain kept apart.1 h.2)

  -- what leads to c leads to what follows c now
  IsChain-joined : (old new : List (Node T)) (link : Option ℕ) (kept later rest : List (ℕ × Node T)) (c : ℕ × Node T)
      → KeepsBut old new c.0 → AllApart c.0 kept → IsChain old link (kept ++ c ∷ later) → IsChain new (Some c.0) rest
      → IsChain new link (kept ++ rest)
  IsChain-joined old new link [] later rest c keeps apart h follows = rw h.0 follows
  IsChain-joined old new link (x ∷ kept) later rest c keeps apart h follows =
      (h.0, keeps x.0 x.1 apart.0 h.1, IsChain-joined old new x.1.next kept later rest c keeps apart.1 h.2 follows)

  pub chain_from : (nodes : List (Node T)) (link : Option ℕ) (kept later : List (ℕ × Node T)) (c : ℕ × Node T) → IsChain nodes link (kept ++ c ∷ later) → IsChain nodes (Some c.0) (c ∷ later)
  chain_from nodes link [] later c h = (refl, h.1, h.2)
  chain_from nodes link (x ∷ kept) later c h = chain_from nodes x.1.next kept later c h.2

  -- c is changed, and is the last child
  pub IsChain-ended : (old new : List (Node T)) (link : Option ℕ) (kept later : List (ℕ × Node T)) (c : ℕ × Node T)
      (node : Node T) → KeepsBut old new c.0 → slice_get new c.0 ≡ Some node → node.next ≡ None
      → IsChain old link (kept ++ c ∷ later) → IsChain new link (kept ++ (c.0, node) ∷ [])
  IsChain-ended old new link kept later c node keeps changed ends h =
      IsChain-joined old new link kept later ((c.0, node) ∷ []) c keeps (apart_before old link kept later c (chain_from old link kept later c h) h) h (refl, changed, ends)

  -- c is changed, and those after it follow it as they did
  pub IsChain-changed : (old new : List (Node T)) (link : Option ℕ) (kept later : List (ℕ × Node T)) (c : ℕ × Node T)
      (node : Node T) → KeepsBut old new c.0 → slice_get new c.0 ≡ Some node → node.next ≡ c.1.next
      → IsChain old link (kept ++ c ∷ later) → IsChain new link (kept ++ (c.0, node) ∷ later)
  IsChain-changed old new link kept later c node keeps changed same h =
      let from = chain_from old link kept later c h in
      let apart = apart_after old c.1.next c.0 (c ∷ later) later from (omega arith) from.2 in
      let follows : IsChain new node.next later = rw same (IsChain-kept old new c.0 c.1.next later keeps apart from.2) in
      IsChain-joined old new link kept later ((c.0, node) ∷ later) c keeps (apart_before old link kept later c from h) h (refl, changed, follows)

  pub KeepsBut-update : (g : Node T → Node T) (nodes : List (Node T)) (ix : ℕ) → KeepsBut nodes (update_at g nodes ix) ix
  KeepsBut-update g nodes ix i node ne e = get-update_at_other g nodes ix i ne ∙ e

  pub KeepsBut-twice : (f g : Node T → Node T) (nodes : List (Node T)) (ix : ℕ) → KeepsBut nodes (update_at g (update_at f nodes ix) ix) ix
  KeepsBut-twice f g nodes ix i node ne e = get-update_at_other g (update_at f nodes ix) ix i ne ∙ (get-update_at_other f nodes ix i ne ∙ e)

  -- an update that leaves the child links leaves the child of each node
  pub child_of-update : (g : Node T → Node T) (nodes : List (Node T)) (ix parent : ℕ) → ((node : Node T) → (g node).child ≡ node.child) → child_of (update_at g nodes ix) parent ≡ child_of nodes parent
  child_of-update g [] ix parent same = refl
  child_of-update g (n ∷ ns) zero zero same = same n
  child_of-update g (n ∷ ns) zero (suc parent) same = refl
  child_of-update g (n ∷ ns) (suc ix) zero same = refl
  child_of-update g (n ∷ ns) (suc ix) (suc parent) same = child_of-update g ns ix parent same

  pub child_of-with_child : (nodes : List (Node T)) (parent : ℕ) → child_of (with_child nodes parent None) parent ≡ None
  child_of-with_child [] parent = refl
  child_of-with_child (n ∷ ns) zero = refl
  child_of-with_child (n ∷ ns) (suc parent) = child_of-with_child ns parent
