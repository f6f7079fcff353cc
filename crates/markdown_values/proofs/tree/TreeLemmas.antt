-- Lists, and the links of a `Tree`.
use Rattle.std.proofs.Common.{◌≡◌, ◌≢◌, ℕ, zero, suc, ◌-◌, ◌<◌, ◌≤◌, List, [], ◌∷◌, ◌++◌, length, get_or, take, refl, ap, sym, ◌∙◌, arith, Option, Some, None, subst}
use Rattle.std.specs.Prelude.{slice_get, slice_set, All}
use Rattle.std.proofs.lemmas.Option.{get_or_from_slice_get, slice_get_read, slice_get_within}
use Rattle.markdown_values.specs.declared.tree.Node.{Node}
use Rattle.markdown_values.specs.tree.Tree.{last, but_last, update_at, IsLinkWithin, IsNodeWithin, child_of, next_of, linked_from_focus, linked_from_parent, first_root}

module _ {A : Type 0} where
  -- the last of a list that ends in x
  pub last-push : (xs : List A) (x : A) → last (xs ++ x ∷ []) ≡ Some x
  last-push [] x = refl
  last-push (y ∷ []) x = refl
  last-push (y ∷ z ∷ zs) x = last-push (z ∷ zs) x

  pub but_last-push : (xs : List A) (x : A) → but_last (xs ++ x ∷ []) ≡ xs
  but_last-push [] x = refl
  but_last-push (y ∷ []) x = refl
  but_last-push (y ∷ z ∷ zs) x = ap (λ (l : List A). y ∷ l) (but_last-push (z ∷ zs) x)

  -- an edit at an index that holds x is a write of f x
  pub update_at-read : (f : A → A) (xs : List A) (i : ℕ) (x : A) → i < length xs → x ≡ get_or xs i x → update_at f xs i ≡ slice_set xs i (f x)
  update_at-read f [] i x h e = absurd (omega arith)
  update_at-read f (y ∷ ys) zero x h e = ap (λ (v : A). f v ∷ ys) (sym e)
  update_at-read f (y ∷ ys) (suc i) x h e = ap (λ (l : List A). y ∷ l) (update_at-read f ys i x (omega arith) e)

  pub length-update_at : (f : A → A) (xs : List A) (i : ℕ) → length (update_at f xs i) ≡ length xs
  length-update_at f [] i = refl
  length-update_at f (y ∷ ys) zero = refl
  length-update_at f (y ∷ ys) (suc i) = ap suc (length-update_at f ys i)

  pub get-update_at_other : (f : A → A) (xs : List A) (x i : ℕ) → i ≢ x → slice_get (update_at f xs x) i ≡ slice_get xs i
  get-update_at_other f [] x i ne = refl
  get-update_at_other f (y ∷ ys) zero zero ne = absurd (ne refl)
  get-update_at_other f (y ∷ ys) zero (suc i) ne = refl
  get-update_at_other f (y ∷ ys) (suc x) zero ne = refl
  get-update_at_other f (y ∷ ys) (suc x) (suc i) ne = get-update_at_other f ys x i (λ e. ne (ap suc e))

  pub get-update_at_same : (f : A → A) (xs : List A) (x : ℕ) (v : A) → slice_get xs x ≡ Some v → slice_get (update_at f xs x) x ≡ Some (f v)
  get-update_at_same f [] x v e = cc
  get-update_at_same f (y ∷ ys) zero v e = let same : y ≡ v = cc in ap (λ (w : A). Some (f w)) same
  get-update_at_same f (y ∷ ys) (suc x) v e = get-update_at_same f ys x v e

  pub get-append_left : (xs ys : List A) (i : ℕ) (v : A) → slice_get xs i ≡ Some v → slice_get (xs ++ ys) i ≡ Some v
  get-append_left [] ys i v e = cc
  get-append_left (x ∷ xs) ys zero v e = e
  get-append_left (x ∷ xs) ys (suc i) v e = get-append_left xs ys i v e

  pub get-push : (xs : List A) (v : A) → slice_get (xs ++ v ∷ []) (length xs) ≡ Some v
  get-push [] v = refl
  get-push (x ∷ xs) v = get-push xs v

  pub All-at : (P : A → Type 0) (xs : List A) (i : ℕ) (x : A) → All P xs → slice_get xs i ≡ Some x → P x
  All-at P xs i x h e = subst P (get_or_from_slice_get xs i x x e) (h i x (slice_get_within xs i x e))

  pub last-is-get : (xs : List A) → last xs ≡ slice_get xs (length xs - 1)
  last-is-get [] = refl
  last-is-get (y ∷ []) = refl
  last-is-get (y ∷ z ∷ zs) =
      let below = last-is-get (z ∷ zs) in
      let one_less : suc (suc (length zs)) - 1 ≡ suc (suc (length zs) - 1) = omega arith in
      rw one_less below

  pub last-none : (xs : List A) → last xs ≡ None → xs ≡ []
  last-none [] e = refl
  last-none (y ∷ []) e = cc
  last-none (y ∷ z ∷ zs) e = let p : z ∷ zs ≡ [] = last-none (z ∷ zs) e in cc

  pub last-split : (xs : List A) (x : A) → last xs ≡ Some x → xs ≡ but_last xs ++ x ∷ []
  last-split [] x e = cc
  last-split (y ∷ []) x e = let p : y ≡ x = cc in ap (λ (v : A). v ∷ []) p
  last-split (y ∷ z ∷ zs) x e = ap (λ (l : List A). y ∷ l) (last-split (z ∷ zs) x e)

  -- a list that is not empty ends in some element
  pub take-last : (xs : List A) → 0 < length xs → (x : A) × (xs ≡ take (length xs - 1) xs ++ x ∷ [])
  take-last [] h = absurd (omega arith)
  take-last (y ∷ []) h = (y, refl)
  take-last (y ∷ z ∷ zs) h =
      let below = take-last (z ∷ zs) (omega arith) in
      let one_less : suc (suc (length zs)) - 1 ≡ suc (suc (length zs) - 1) = omega arith in
      (below.0, rw one_less (ap (λ (l : List A). y ∷ l) below.1))

  pub All-last : (P : A → Type 0) (xs : List A) (x : A) → All P xs → last xs ≡ Some x → P x
  All-last P xs x h e = All-at P xs (length xs - 1) x h (sym (last-is-get xs) ∙ e)

  -- the last but one
  pub last-but_last : (xs : List A) (x : A) → 2 ≤ length xs → x ≡ get_or xs (length xs - 2) x → Some x ≡ last (but_last xs)
  last-but_last [] x h e = absurd (omega arith)
  last-but_last (y ∷ []) x h e = absurd (omega arith)
  last-but_last (y ∷ z ∷ []) x h e = ap Some e
  last-but_last (y ∷ z ∷ w ∷ ws) x h e =
      let two_less : suc (suc (suc (length ws))) - 2 ≡ suc (suc (suc (length ws)) - 2) = omega arith in
      last-but_last (z ∷ w ∷ ws) x (omega arith) (rw two_less at e)

  pub last-but_last-none : (xs : List A) → length xs < 2 → None ≡ last (but_last xs)
  last-but_last-none [] h = refl
  last-but_last-none (y ∷ []) h = refl
  last-but_last-none (y ∷ z ∷ zs) h = absurd (omega arith)

module _ {T : Type 0} where
  pub first_root-empty : (nodes : List (Node T)) → length nodes ≤ 1 → None ≡ first_root nodes
  first_root-empty [] h = refl
  first_root-empty (n ∷ []) h = refl
  first_root-empty (n ∷ m ∷ ns) h = absurd (omega arith)

  pub first_root-some : (nodes : List (Node T)) → 1 < length nodes → Some 1 ≡ first_root nodes
  first_root-some [] h = absurd (omega arith)
  first_root-some (n ∷ []) h = absurd (omega arith)
  first_root-some (n ∷ m ∷ ns) h = refl

  pub child_of-read : (nodes : List (Node T)) (i : ℕ) (node : Node T) → i < length nodes → node ≡ get_or nodes i node → node.child ≡ child_of nodes i
  child_of-read nodes i node h e = rw (slice_get_read nodes (length nodes) i node refl h e)

  pub next_of-read : (nodes : List (Node T)) (i : ℕ) (node : Node T) → i < length nodes → node ≡ get_or nodes i node → node.next ≡ next_of nodes i
  next_of-read nodes i node h e = rw (slice_get_read nodes (length nodes) i node refl h e)

  pub length-linked : (nodes : List (Node T)) (focus : Option ℕ) (spine : List ℕ) (link : Option ℕ) → length (linked_from_focus nodes focus spine link) ≡ length nodes
  length-linked nodes (Some f) spine link = length-update_at _ nodes f
  length-linked nodes None spine link = length-linked_under nodes (last spine) link
    where
      length-linked_under : (nodes : List (Node T)) (parent : Option ℕ) (link : Option ℕ) → length (linked_from_parent nodes parent link) ≡ length nodes
      length-linked_under nodes None link = refl
      length-linked_under nodes (Some p) link = length-update_at _ nodes p

  -- the next link of a node within leads to a node
  pub next-within : (nodes : List (Node T)) (i : ℕ) (node : Node T) → All (IsNodeWithin (length nodes)) nodes → i < length nodes → node ≡ get_or nodes i node → IsLinkWithin (length nodes) node.next
  next-within nodes i node all h e = (All-at (IsNodeWithin (length nodes)) nodes i node all (slice_get_read nodes (length nodes) i node refl h e)).next

pub last-within : (count : ℕ) (spine : List ℕ) → All (λ ix. ix < count) spine → IsLinkWithin count (last spine)
last-within count spine h = by_last (last spine) refl
  where
    by_last : (l : Option ℕ) → last spine ≡ l → IsLinkWithin count l
    by_last None e = tt
    by_last (Some ix) e = All-last (λ i. i < count) spine ix h e
