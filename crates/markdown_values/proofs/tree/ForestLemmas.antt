-- The forest that a `Tree` stands for, after each change.
use Rattle.std.proofs.Common.{◌≡◌, ◌≢◌, inl, inr, ℕ, ◌+◌, ◌<◌, ◌≤◌, List, [], ◌∷◌, ◌++◌, length, refl, ap, sym, ◌∙◌, arith, Option, Some, None, subst}
use Rattle.std.specs.Prelude.{slice_get, IfSome}
use Rattle.std.proofs.lemmas.Bool.{cases_eq}
use Rattle.std.proofs.lemmas.Option.{slice_get_within}
use Rattle.markdown_values.specs.declared.tree.Node.{Node}
use Rattle.markdown_values.specs.tree.Linked.{Linked}
use Rattle.markdown_values.specs.tree.Tree.{last, but_last, first_root, update_at, isolated}
use Rattle.markdown_values.specs.tree.Tree as effect
use Rattle.markdown_values.specs.tree.Forest.{Forest, no_tree, tree, first, IsRoot, count_in, children_of, with_children, IsPath, at_end, with_at_end}
use Rattle.markdown_values.specs.tree.Forest.{put_after, Focused, siblings, appended, pushed, popped, popped_to, reset_of, IsLinkedAs, StandsFor}
use Rattle.std.proofs.lemmas.Bool.{cases_lt}
use Rattle.std.proofs.lemmas.List.{length_push}
use Rattle.markdown_values.proofs.tree.TreeLemmas.{first_root-empty, first_root-some, get-update_at_other, get-update_at_same, get-append_left, get-push, length-update_at, last-none, last-split}
use Rattle.markdown_values.proofs.tree.ForestCounts.{count_in-here, count_in-there, children_of-here, children_of-there, with_children-here, with_children-there}
use Rattle.markdown_values.proofs.tree.ForestCounts.{put_after-here, put_after-there, count_in-root, count_in-children, count_in-at_end, count_in-with_at_end}
use Rattle.markdown_values.proofs.tree.ForestCounts.{count_in-put_after, IsRoot-later, IsPath-with_at_end, at_end-with_at_end, IsRoot-put_after}

module _ {T : Type 0} where
  -- every node but x is as it was
  abbrev pub KeepsBut : List (Node T) → List (Node T) → ℕ → Type 0
  KeepsBut old new x = (i : ℕ) (node : Node T) → i ≢ x → slice_get old i ≡ Some node → slice_get new i ≡ Some node

  -- links are those of a forest in which no changed node stands
  IsLinkedAs-kept : (old new : List (Node T)) (x : ℕ) (link : Option ℕ) (forest : Forest) → KeepsBut old new x → count_in x forest ≡ 0 → IsLinkedAs old link forest → IsLinkedAs new link forest
  IsLinkedAs-kept old new x link no_tree kept none h = h
  IsLinkedAs-kept old new x link (tree r cs later) kept none h =
      let ne : r ≢ x = λ e. omega (arith, count_in-here x r cs later (sym e)) in
      let apart = count_in-there x r cs later (λ e. ne (sym e)) in
      (h.0, h.1, kept r h.1 ne h.2, IsLinkedAs-kept old new x h.1.child cs kept (omega arith) h.3, IsLinkedAs-kept old new x h.1.next later kept (omega arith) h.4)

  -- a change inside the children of a root
  IsLinkedAs-with_children : (old new : List (Node T)) (x a : ℕ) (changed forest : Forest) (link : Option ℕ) → KeepsBut old new x
      → IsRoot a forest → count_in x forest ≤ 1 → 1 ≤ count_in x (children_of a forest)
      → ((l : Option ℕ) → IsLinkedAs old l (children_of a forest) → IsLinkedAs new l changed)
      → IsLinkedAs old link forest → IsLinkedAs new link (with_children a changed forest)
  IsLinkedAs-with_children old new x a changed no_tree link kept root once inside step h = absurd root
  IsLinkedAs-with_children old new x a changed (tree r cs later) link kept root once inside step h =
      elim (cases_eq a r) [
        | inl e ↦
            let inside' = rw (children_of-here a r cs later e) at inside in
            let step' = rw (children_of-here a r cs later e) at step in
            let ne : r ≢ x = λ q. omega (arith, count_in-here x r cs later (sym q)) in
            let apart = count_in-there x r cs later (λ q. ne (sym q)) in
            rw (with_children-here a r changed cs later e) (h.0, h.1, kept r h.1 ne h.2, step' h.1.child h.3, IsLinkedAs-kept old new x h.1.next later kept (omega arith) h.4)
        | inr n ↦
            let inside' = rw (children_of-there a r cs later n) at inside in
            let step' = rw (children_of-there a r cs later n) at step in
            let below = count_in-children x a later in
            let ne : r ≢ x = λ q. omega (arith, count_in-here x r cs later (sym q)) in
            let apart = count_in-there x r cs later (λ q. ne (sym q)) in
            rw (with_children-there a r changed cs later n) (
              h.0,
              h.1,
              kept r h.1 ne h.2,
              IsLinkedAs-kept old new x h.1.child cs kept (omega arith) h.3,
              IsLinkedAs-with_children old new x a changed later h.1.next kept
                  (IsRoot-later a r cs later n root) (omega arith) inside' step' h.4,
            )
      ]

  -- a change at the end of a path
  IsLinkedAs-with_at_end : (old new : List (Node T)) (x : ℕ) (path : List ℕ) (changed forest : Forest) (link : Option ℕ) → KeepsBut old new x
      → IsPath path forest → count_in x forest ≤ 1 → 1 ≤ count_in x (at_end path forest)
      → ((l : Option ℕ) → IsLinkedAs old l (at_end path forest) → IsLinkedAs new l changed)
      → IsLinkedAs old link forest → IsLinkedAs new link (with_at_end path changed forest)
  IsLinkedAs-with_at_end old new x [] changed forest link kept leads once inside step h = step link h
  IsLinkedAs-with_at_end old new x (a ∷ path) changed forest link kept leads once inside step h =
      let below = count_in-at_end x path (children_of a forest) in
      let above = count_in-children x a forest in
      IsLinkedAs-with_children old new x a (with_at_end path changed (children_of a forest)) forest link kept leads.0 once (omega arith)
      (λ l g. IsLinkedAs-with_at_end old new x path changed (children_of a forest) l kept leads.1 (omega arith) inside step g) h

  -- a new node after the focus
  IsLinkedAs-put_after : (old new : List (Node T)) (f n : ℕ) (item : T) (forest : Forest) (link : Option ℕ) → KeepsBut old new f
      → ((node : Node T) → slice_get old f ≡ Some node → slice_get new f ≡ Some (record node { next = Some n }))
      → slice_get new n ≡ Some (isolated item)
      → IsRoot f forest → count_in f forest ≤ 1
      → IsLinkedAs old link forest → IsLinkedAs new link (put_after f n forest)
  IsLinkedAs-put_after old new f n item no_tree link kept changed made root once h = absurd root
  IsLinkedAs-put_after old new f n item (tree r cs later) link kept changed made root once h =
      elim (cases_eq f r) [
        | inl e ↦
            let here = count_in-here f r cs later e in
            rw (put_after-here f n r cs later e) (
              h.0,
              record h.1 { next = Some n },
              subst (λ i. slice_get new i ≡ Some (record h.1 { next = Some n })) e (changed h.1 (rw e h.2)),
              IsLinkedAs-kept old new f h.1.child cs kept (omega arith) h.3,
              (refl, isolated item, made, refl, refl),
            )
        | inr ne ↦
            let there = count_in-there f r cs later ne in
            let root' = IsRoot-later f r cs later ne root in
            let among = count_in-root f later root' in
            rw (put_after-there f n r cs later ne) (
              h.0,
              h.1,
              kept r h.1 (λ q. ne (sym q)) h.2,
              IsLinkedAs-kept old new f h.1.child cs kept (omega arith) h.3,
              IsLinkedAs-put_after old new f n item later h.1.next kept changed made root' (omega arith) h.4,
            )
      ]

-- the end of a path stands in the forest
count_in-last : (p : ℕ) (path : List ℕ) (forest : Forest) → last path ≡ Some p → IsPath path forest → 1 ≤ count_in p forest
count_in-last p [] forest e h = cc
count_in-last p (a ∷ []) forest e h = let same : a ≡ p = cc in subst (λ i. 1 ≤ count_in i forest) same (count_in-root a forest h.0)
count_in-last p (a ∷ b ∷ path) forest e h = omega (arith, count_in-last p (b ∷ path) (children_of a forest) e h.1, count_in-children p a forest)

module _ {T : Type 0} where
  -- other children of a root, by its child link
  IsLinkedAs-new_children : (old new : List (Node T)) (a : ℕ) (child : Option ℕ) (changed forest : Forest) (link : Option ℕ) → KeepsBut old new a
      → ((node : Node T) → slice_get old a ≡ Some node → slice_get new a ≡ Some (record node { child = child }))
      → IsLinkedAs new child changed
      → IsRoot a forest → count_in a forest ≤ 1
      → IsLinkedAs old link forest → IsLinkedAs new link (with_children a changed forest)
  IsLinkedAs-new_children old new a child changed no_tree link kept change under root once h = absurd root
  IsLinkedAs-new_children old new a child changed (tree r cs later) link kept change under root once h =
      elim (cases_eq a r) [
        | inl e ↦
            let here = count_in-here a r cs later e in
            rw (with_children-here a r changed cs later e) (
              h.0,
              record h.1 { child = child },
              subst (λ i. slice_get new i ≡ Some (record h.1 { child = child })) e (change h.1 (rw e h.2)),
              under,
              IsLinkedAs-kept old new a h.1.next later kept (omega arith) h.4,
            )
        | inr ne ↦
            let there = count_in-there a r cs later ne in
            let root' = IsRoot-later a r cs later ne root in
            let among = count_in-root a later root' in
            rw (with_children-there a r changed cs later ne) (
              h.0,
              h.1,
              kept r h.1 (λ q. ne (sym q)) h.2,
              IsLinkedAs-kept old new a h.1.child cs kept (omega arith) h.3,
              IsLinkedAs-new_children old new a child changed later h.1.next kept change under root' (omega arith) h.4,
            )
      ]

  -- other children of the path's end, by its child link
  IsLinkedAs-under_end : (old new : List (Node T)) (p : ℕ) (child : Option ℕ) (path : List ℕ) (changed forest : Forest) (link : Option ℕ) → KeepsBut old new p
      → ((node : Node T) → slice_get old p ≡ Some node → slice_get new p ≡ Some (record node { child = child }))
      → IsLinkedAs new child changed
      → last path ≡ Some p → IsPath path forest → count_in p forest ≤ 1
      → IsLinkedAs old link forest → IsLinkedAs new link (with_at_end path changed forest)
  IsLinkedAs-under_end old new p child [] changed forest link kept change under e leads once h = cc
  IsLinkedAs-under_end old new p child (a ∷ []) changed forest link kept change under e leads once h =
      let same : p ≡ a = cc in
      IsLinkedAs-new_children old new a child changed forest link (subst (KeepsBut old new) same kept)
      (subst (λ i. (node : Node T) → slice_get old i ≡ Some node → slice_get new i ≡ Some (record node { child = child })) same change)
      under leads.0 (subst (λ i. count_in i forest ≤ 1) same once) h
  IsLinkedAs-under_end old new p child (a ∷ b ∷ path) changed forest link kept change under e leads once h =
      let inside = count_in-last p (b ∷ path) (children_of a forest) e leads.1 in
      let above = count_in-children p a forest in
      IsLinkedAs-with_children old new p a (with_at_end (b ∷ path) changed (children_of a forest)) forest link kept leads.0 once inside
      (λ l g. IsLinkedAs-under_end old new p child (b ∷ path) changed (children_of a forest) l kept change under e leads.1 (omega arith) g) h

  -- an index past the nodes stands in no forest that they link
  count_in-past : (nodes : List (Node T)) (k : ℕ) (link : Option ℕ) (forest : Forest) → length nodes ≤ k → IsLinkedAs nodes link forest → count_in k forest ≡ 0
  count_in-past nodes k link no_tree past h = refl
  count_in-past nodes k link (tree r cs later) past h =
      let within = slice_get_within nodes r h.1 h.2 in
      let there = count_in-there k r cs later (λ e. omega arith) in
      let cs_past = count_in-past nodes k h.1.child cs past h.3 in
      let later_past = count_in-past nodes k h.1.next later past h.4 in
      omega arith

  -- a forest that is not empty has node 1 as its first root
  roots_there : (nodes : List (Node T)) (k : ℕ) (forest : Forest) → 1 ≤ count_in k forest → IsLinkedAs nodes (first_root nodes) forest → 1 < length nodes
  roots_there nodes k no_tree h l = absurd (omega arith)
  roots_there nodes k (tree r cs later) h l =
      elim (cases_lt 1 (length nodes)) [
        | inl more ↦ more
        | inr few ↦ let none = first_root-empty nodes few in let some = l.0 in cc
      ]

  first_root-same : (old new : List (Node T)) → 1 < length old → 1 < length new → first_root new ≡ first_root old
  first_root-same old new h h' = sym (first_root-some new h') ∙ first_root-some old h

  -- a node at the end, and one changed
  KeepsBut-edit : (g : Node T → Node T) (nodes : List (Node T)) (node : Node T) (x : ℕ) → KeepsBut nodes (update_at g (nodes ++ node ∷ []) x) x
  KeepsBut-edit g nodes node x i v ne e = get-update_at_other g (nodes ++ node ∷ []) x i ne ∙ get-append_left nodes (node ∷ []) i v e

  edited_at : (g : Node T → Node T) (nodes : List (Node T)) (node : Node T) (x : ℕ) (v : Node T) → slice_get nodes x ≡ Some v → slice_get (update_at g (nodes ++ node ∷ []) x) x ≡ Some (g v)
  edited_at g nodes node x v e = get-update_at_same g (nodes ++ node ∷ []) x v (get-append_left nodes (node ∷ []) x v e)

  new_at_end : (g : Node T → Node T) (nodes : List (Node T)) (node : Node T) (x : ℕ) → x < length nodes → slice_get (update_at g (nodes ++ node ∷ []) x) (length nodes) ≡ Some node
  new_at_end g nodes node x h = get-update_at_other g (nodes ++ node ∷ []) x (length nodes) (λ e. omega arith) ∙ get-push nodes node

  -- a node that stands in a linked forest is within the nodes
  pub count_in-within : (nodes : List (Node T)) (k : ℕ) (link : Option ℕ) (forest : Forest) → IsLinkedAs nodes link forest → 1 ≤ count_in k forest → k < length nodes
  count_in-within nodes k link forest h among =
      elim (cases_lt k (length nodes)) [ inl within ↦ within | inr past ↦ absurd (let none = count_in-past nodes k link forest past h in omega arith) ]

  -- with the new node once more, no node stands twice
  grown_under : (nodes : List (Node T)) (item : T) (forest : Forest) (path : List ℕ) {focus : Option ℕ}
      → StandsFor (record { nodes = nodes; spine = path; focus = focus }) (record { forest = forest; path = path; focus = focus })
      → (k : ℕ) (changed : Forest) → count_in k changed ≤ count_in k (at_end path forest) + count_in k (tree (length nodes) no_tree no_tree) → count_in k (with_at_end path changed forest) ≤ 1
  grown_under nodes item forest path h k changed more =
      let sum = count_in-with_at_end k path changed forest h.path_leads in
      let top = h.once k in
      elim (cases_eq k (length nodes)) [
        | inl e ↦ let past = count_in-past nodes k (first_root nodes) forest (omega arith) h.links in let one = count_in-here k (length nodes) no_tree no_tree e in omega arith
        | inr ne ↦ let zero_more = count_in-there k (length nodes) no_tree no_tree ne in omega arith
      ]

  -- append, where the tree's spine and focus are written as the forest's path and focus
  StandsFor-appended_at : (nodes : List (Node T)) (item : T) (forest : Forest) (path : List ℕ) (focus : Option ℕ)
      → StandsFor (record { nodes = nodes; spine = path; focus = focus }) (record { forest = forest; path = path; focus = focus })
      → StandsFor (effect.after_append (record { nodes = nodes; spine = path; focus = focus }) item) (appended (record { forest = forest; path = path; focus = focus }) (length nodes))
  StandsFor-appended_at nodes item forest path (Some f) h =
      let below = at_end path forest in
      let among = count_in-root f below h.focus_among in
      let in_forest = count_in-at_end f path forest in
      let within : f < length nodes = count_in-within nodes f (first_root nodes) forest h.links (omega arith) in
      let more = roots_there nodes f forest (omega arith) h.links in
      let g : Node T → Node T = λ node. record node { next = Some (length nodes) } in
      let new = update_at g (nodes ++ isolated item ∷ []) f in
      let longer : length new ≡ length nodes + 1 = length-update_at g (nodes ++ isolated item ∷ []) f ∙ length_push nodes (isolated item) in
      let kept = KeepsBut-edit g nodes (isolated item) f in
      record {
        links = rw (first_root-same nodes new more (omega arith))
            (IsLinkedAs-with_at_end nodes new f path (put_after f (length nodes) below) forest (first_root nodes) kept h.path_leads (h.once f) (omega arith)
            (λ l under. IsLinkedAs-put_after nodes new f (length nodes) item below l kept
            (edited_at g nodes (isolated item) f) (new_at_end g nodes (isolated item) f within) h.focus_among
            (let top = h.once f in omega arith) under)
            h.links);
        spine_is = refl;
        focus_is = refl;
        path_leads = IsPath-with_at_end path (put_after f (length nodes) below) forest h.path_leads;
        focus_among = rw (at_end-with_at_end path (put_after f (length nodes) below) forest h.path_leads) (IsRoot-put_after f (length nodes) below h.focus_among);
        focus_there = λ empty none. cc;
        once = λ k. grown_under nodes item forest path h k (put_after f (length nodes) below) (count_in-put_after k f (length nodes) below);
      }
  StandsFor-appended_at nodes item forest path None h = by_parent (last path) refl
    where
      by_parent : (parent : Option ℕ) → last path ≡ parent
          → StandsFor (record {
            nodes = effect.linked_from_parent (nodes ++ isolated item ∷ []) parent
                (Some (length nodes));
            spine = path;
            focus = Some (length nodes);
          })
          (record {
            forest = with_at_end path (tree (length nodes) no_tree no_tree) forest;
            path = path;
            focus = Some
                (length nodes);
          })
      by_parent None e =
          let empty : path ≡ [] = last-none path e in
          let lone = h.focus_there empty refl in
          let longer = length_push nodes (isolated item) in
          rw empty (record {
            links = (
              let root = first_root-some (nodes ++ isolated item ∷ []) (omega arith) in let one : Some 1 ≡ Some
                  (length nodes) = ap Some (sym lone) in sym root ∙ one,
              isolated item,
              get-push nodes
                  (isolated item),
              refl,
              refl,
            );
            spine_is = refl;
            focus_is = refl;
            path_leads = tt;
            focus_among = inl refl;
            focus_there = λ q none. cc;
            once = λ k. elim (cases_eq k (length nodes)) [
              | inl same ↦ omega (arith, count_in-here k (length nodes) no_tree no_tree same)
              | inr ne ↦ omega (arith, count_in-there k (length nodes) no_tree no_tree ne)
            ];
          })
      by_parent (Some p) e =
          let in_forest = count_in-last p path forest e h.path_leads in
          let within : p < length nodes = count_in-within nodes p (first_root nodes) forest h.links in_forest in
          let more = roots_there nodes p forest in_forest h.links in
          let g : Node T → Node T = λ node. record node { child = Some (length nodes) } in
          let new = update_at g (nodes ++ isolated item ∷ []) p in
          let longer : length new ≡ length nodes + 1 = length-update_at g (nodes ++ isolated item ∷ []) p ∙ length_push nodes (isolated item) in
          let lone : Forest = tree (length nodes) no_tree no_tree in
          record {
            links = rw (first_root-same nodes new more (omega arith))
                (IsLinkedAs-under_end nodes new p (Some (length nodes)) path lone forest (first_root nodes) (KeepsBut-edit g nodes (isolated item) p) (edited_at g nodes (isolated item) p)
                (refl, isolated item, new_at_end g nodes (isolated item) p within, refl, refl) e h.path_leads (h.once p) h.links);
            spine_is = refl;
            focus_is = refl;
            path_leads = IsPath-with_at_end path lone forest h.path_leads;
            focus_among = rw (at_end-with_at_end path lone forest h.path_leads) (inl refl);
            focus_there = λ q none. cc;
            once = λ k. grown_under nodes item forest path h k lone (omega arith);
          }

  pub StandsFor-appended : (t : Linked T) (item : T) (f : Focused) → StandsFor t f → StandsFor (effect.after_append t item) (appended f (length t.nodes))
  StandsFor-appended t item f h =
      let same_spine = h.spine_is in
      let same_focus = h.focus_is in
      let at_spine : (spine : List ℕ) (focus : Option ℕ) → spine ≡ f.path → focus ≡ f.focus
      → StandsFor (effect.after_append (record { nodes = t.nodes; spine = spine; focus = focus }) item)
      (appended f (length t.nodes)) =
      λ spine focus p q. rw (p, q)
      (StandsFor-appended_at t.nodes item f.forest f.path f.focus
      (record {
        links = h.links;
        spine_is = refl;
        focus_is = refl;
        path_leads = h.path_leads;
        focus_among = h.focus_among;
        focus_there = h.focus_there;
        once = h.once;
      })) in
      at_spine t.spine t.focus h.spine_is h.focus_is

-- the root of each sub-forest is one of its roots
first-IsRoot : (forest : Forest) → IfSome (first forest) (λ node. IsRoot node forest)
first-IsRoot no_tree = tt
first-IsRoot (tree r cs later) = inl refl

IsPath-push : (path : List ℕ) (a : ℕ) (forest : Forest) → IsPath path forest → IsRoot a (at_end path forest) → IsPath (path ++ a ∷ []) forest
IsPath-push [] a forest h root = (root, tt)
IsPath-push (b ∷ path) a forest h root = (h.0, IsPath-push path a (children_of b forest) h.1 root)

at_end-push : (path : List ℕ) (a : ℕ) (forest : Forest) → at_end (path ++ a ∷ []) forest ≡ children_of a (at_end path forest)
at_end-push [] a forest = refl
at_end-push (b ∷ path) a forest = at_end-push path a (children_of b forest)

IsPath-but_end : (path : List ℕ) (a : ℕ) (forest : Forest) → IsPath (path ++ a ∷ []) forest → IsPath path forest × IsRoot a (at_end path forest)
IsPath-but_end [] a forest h = (tt, h.0)
IsPath-but_end (b ∷ path) a forest h = let below = IsPath-but_end path a (children_of b forest) h.1 in ((h.0, below.0), below.1)

push-not-nil : (xs : List ℕ) (a : ℕ) → xs ++ a ∷ [] ≡ [] → ⊥
push-not-nil [] a e = cc
push-not-nil (x ∷ xs) a e = cc

module _ {T : Type 0} where
  pub IsLinkedAs-first : (nodes : List (Node T)) (link : Option ℕ) (forest : Forest) → IsLinkedAs nodes link forest → link ≡ first forest
  IsLinkedAs-first nodes link no_tree h = h
  IsLinkedAs-first nodes link (tree r cs later) h = h.0

  -- the children of a root, from its child link on
  IsLinkedAs-children : (nodes : List (Node T)) (link : Option ℕ) (a : ℕ) (forest : Forest)
      → IsLinkedAs nodes link forest → IsRoot a forest
      → IsLinkedAs nodes (effect.child_of nodes a) (children_of a forest)
  IsLinkedAs-children nodes link a no_tree h root = absurd root
  IsLinkedAs-children nodes link a (tree r cs later) h root =
      elim (cases_eq a r) [
        | inl e ↦ rw (children_of-here a r cs later e, e, h.2) h.3
        | inr ne ↦ rw (children_of-there a r cs later ne) (IsLinkedAs-children nodes h.1.next a later h.4 (IsRoot-later a r cs later ne root))
      ]

  pub IsLinkedAs-at_end : (nodes : List (Node T)) (link : Option ℕ) (path : List ℕ) (forest : Forest)
      → IsLinkedAs nodes link forest → IsPath path forest → (l : Option ℕ) × IsLinkedAs nodes l (at_end path forest)
  IsLinkedAs-at_end nodes link [] forest h leads = (link, h)
  IsLinkedAs-at_end nodes link (a ∷ path) forest h leads =
      IsLinkedAs-at_end nodes (effect.child_of nodes a) path (children_of a forest) (IsLinkedAs-children nodes link a forest h leads.0) leads.1

  pub StandsFor-pushed : (t : Linked T) (a : ℕ) (f : Focused) → t.focus ≡ Some a → StandsFor t f → StandsFor (effect.after_push t a) (pushed f a)
  StandsFor-pushed t a f e h =
      let focused : f.focus ≡ Some a = sym h.focus_is ∙ e in
      let root : IsRoot a (siblings f) = rw focused at h.focus_among in
      let under = IsLinkedAs-at_end t.nodes (first_root t.nodes) f.path f.forest h.links h.path_leads in
      let below = IsLinkedAs-first t.nodes (effect.child_of t.nodes a) (children_of a (siblings f)) (IsLinkedAs-children t.nodes under.0 a (siblings f) under.1 root) in
      record {
        links = h.links;
        spine_is = ap (λ l. l ++ a ∷ []) h.spine_is;
        focus_is = below;
        path_leads = IsPath-push f.path a f.forest h.path_leads root;
        focus_among = rw (at_end-push f.path a f.forest) (first-IsRoot (children_of a (siblings f)));
        focus_there = λ q none. absurd (push-not-nil f.path a q);
        once = h.once;
      }

  pub StandsFor-popped : (t : Linked T) (f : Focused) → StandsFor t f → StandsFor (effect.after_pop t) (popped f)
  StandsFor-popped t f h = subst (λ s. StandsFor (effect.after_pop_to t (last s)) (popped f)) (sym h.spine_is) (by_end (last f.path) refl)
    where
      by_end : (end : Option ℕ) → last f.path ≡ end → StandsFor (effect.after_pop_to t end) (popped_to f end)
      by_end None e = h
      by_end (Some a) e =
          let parts = IsPath-but_end (but_last f.path) a f.forest (rw (last-split f.path a e) at h.path_leads) in
          record {
            links = h.links;
            spine_is = ap but_last h.spine_is;
            focus_is = refl;
            path_leads = parts.0;
            focus_among = parts.1;
            focus_there = λ q none. cc;
            once = h.once;
          }

  pub StandsFor-reset : (t : Linked T) (f : Focused) → 0 < length t.nodes → StandsFor t f → StandsFor (effect.after_reset t) (reset_of f)
  StandsFor-reset t f dummy h =
      record {
        links = h.links;
        spine_is = refl;
        focus_is = IsLinkedAs-first t.nodes (first_root t.nodes) f.forest h.links;
        path_leads = tt;
        focus_among = first-IsRoot f.forest;
        focus_there = λ q none. lone none;
        once = h.once;
      }
    where
      lone : first f.forest ≡ None → length t.nodes ≡ 1
      lone none = elim (cases_lt 1 (length t.nodes)) [
        | inl more ↦ let some = first_root-some t.nodes more in let same = IsLinkedAs-first t.nodes (first_root t.nodes) f.forest h.links in cc
        | inr few ↦ omega arith
      ]

  pub StandsFor-empty : (item : T) → StandsFor (effect.empty_tree item) (record { forest = no_tree; path = []; focus = None })
  StandsFor-empty item = record { links = refl; spine_is = refl; focus_is = refl; path_leads = tt; focus_among = tt; focus_there = λ q none. refl; once = λ k. omega arith }
