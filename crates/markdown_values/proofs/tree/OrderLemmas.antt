-- A walk of a forest by its links: what it has listed, and what it has still to follow.
use Rattle.std.proofs.Common.{◌≡◌, ◌≢◌, inl, inr, ℕ, ◌+◌, ◌<◌, ◌≤◌, true, false, List, [], ◌∷◌, ◌++◌, length, map}
use Rattle.std.proofs.Common.{refl, ap, sym, ◌∙◌, arith, Option, Some, None, append_assoc, append-nil, length-append}
use Rattle.std.specs.Prelude.{slice_get, option_to_list, All, IfSome, nat_eq, eqb, ◌==◌, if◌then◌else◌}
use Rattle.std.specs.List.{AllByRecursion, IsDistinct, list_any}
use Rattle.std.proofs.lemmas.Bool.{cases_eq, eq-eqb, eqb-true, ne_eqb, or_cases}
use Rattle.std.proofs.lemmas.List.{length-map}
use Rattle.std.proofs.lemmas.List.Elements.{All-nil, All-push, All-pop, All-weaker}
use Rattle.std.proofs.lemmas.Map.Steps.{length-le_from_distinct_below}
use Rattle.markdown_values.specs.declared.tree.Node.{Node}
use Rattle.markdown_values.specs.tree.Linked.{Linked}
use Rattle.markdown_values.specs.tree.Tree.{first_root, IsLinkWithin, IsNodeAt}
use Rattle.markdown_values.specs.tree.Forest.{Forest, no_tree, tree, count_in, IsLinkedAs, HasForest}
use Rattle.markdown_values.specs.tree.Order.{in_order}
use Rattle.markdown_values.proofs.tree.ForestCounts.{count_in-here, count_in-there}
use Rattle.markdown_values.proofs.tree.ForestLemmas.{count_in-within}

-- a link, if it leads to a node, is put on those that are still to be followed
abbrev pub with_link : List (ℕ × ℕ) → Option ℕ → ℕ → List (ℕ × ℕ)
with_link pending link depth = pending ++ map (λ ix. (ix, depth)) (option_to_list link)

module _ {T : Type 0} (nodes : List (Node T)) where
  -- from these links on, the last of them first, and each at its depth, the walk tells these nodes
  abbrev pub Tells : List (ℕ × ℕ) → List (ℕ × ℕ) → Type 0
  Tells [] listed = listed ≡ []
  Tells (e ∷ pending) listed =
      (forest : Forest) × (before : List (ℕ × ℕ)) × IsLinkedAs nodes (Some e.0) forest × Tells pending before × (listed ≡ before ++ in_order e.1 forest)

  Tells-push : (pending : List (ℕ × ℕ)) (ix depth : ℕ) (forest : Forest) (listed : List (ℕ × ℕ)) → IsLinkedAs nodes (Some ix) forest → Tells pending listed
      → Tells (pending ++ (ix, depth) ∷ []) (in_order depth forest ++ listed)
  Tells-push [] ix depth forest listed link h = (forest, [], link, refl, ap (λ t. in_order depth forest ++ t) h ∙ append-nil (in_order depth forest))
  Tells-push (e ∷ pending) ix depth forest listed link h = (
    h.0,
    in_order depth forest ++ h.1,
    h.2,
    Tells-push pending ix depth forest h.1 link h.3,
    ap (λ t. in_order depth forest ++ t) h.4 ∙ sym (append_assoc (in_order depth forest) h.1 (in_order e.1 h.0)),
  )

  -- a link more, and the forest that it leads to
  Tells-with_link : (pending : List (ℕ × ℕ)) (link : Option ℕ) (depth : ℕ) (forest : Forest) (listed : List (ℕ × ℕ)) → IsLinkedAs nodes link forest → Tells pending listed
      → Tells (with_link pending link depth) (in_order depth forest ++ listed)
  Tells-with_link pending None depth no_tree listed link h = rw append-nil h
  Tells-with_link pending None depth (tree r cs later) listed link h = let none = link.0 in cc
  Tells-with_link pending (Some ix) depth forest listed link h = Tells-push pending ix depth forest listed link h

  -- what the last link tells first
  Tells-last : (pending : List (ℕ × ℕ)) (e : ℕ × ℕ) (listed : List (ℕ × ℕ)) → Tells (pending ++ e ∷ []) listed
      → (forest : Forest) × (rest : List (ℕ × ℕ)) × IsLinkedAs nodes (Some e.0) forest × Tells pending rest × (listed ≡ in_order e.1 forest ++ rest)
  Tells-last [] e listed h = (h.0, [], h.2, refl, h.4 ∙ ap (λ t. t ++ in_order e.1 h.0) h.3 ∙ sym (append-nil (in_order e.1 h.0)))
  Tells-last (d ∷ pending) e listed h =
      let below = Tells-last pending e h.1 h.3 in (
        below.0,
        below.1 ++ in_order d.1 h.0,
        below.2,
        (h.0, below.1, h.2, below.3, refl),
        h.4 ∙ ap (λ t. t ++ in_order d.1 h.0) below.4 ∙ append_assoc (in_order e.1 below.0) below.1 (in_order d.1 h.0),
      )

  -- a node is listed, and its links are put on those to be followed
  by_node : (pending : List (ℕ × ℕ)) (ix depth : ℕ) (node : Node T) (forest : Forest) (rest : List (ℕ × ℕ)) → slice_get nodes ix ≡ Some node
      → IsLinkedAs nodes (Some ix) forest → Tells pending rest
      → (listed : List (ℕ × ℕ)) × Tells (with_link (with_link pending node.next depth) node.child (depth + 1)) listed × (in_order depth forest ++ rest ≡ (ix, depth) ∷ listed)
  by_node pending ix depth node no_tree rest here link h = cc
  by_node pending ix depth node (tree r cs later) rest here link h =
      let root = link.0 in
      let index : ix ≡ r = cc in
      let there = link.2 in
      let same : node ≡ link.1 = let r : slice_get nodes ix ≡ Some link.1 = rw index there in cc in
      let after = Tells-with_link pending node.next depth later rest (rw same link.4) h in
      let below = Tells-with_link (with_link pending node.next depth) node.child (depth + 1) cs (in_order depth later ++ rest) (rw same link.3) after in (
        in_order (depth + 1) cs ++ (in_order depth later ++ rest),
        below,
        rw (sym index) (ap (λ (t : List (ℕ × ℕ)). (ix, depth) ∷ t) (append_assoc (in_order (depth + 1) cs) (in_order depth later) rest)),
      )

  pub Tells-step : (pending : List (ℕ × ℕ)) (ix depth : ℕ) (node : Node T) (listed : List (ℕ × ℕ)) → slice_get nodes ix ≡ Some node → Tells (pending ++ (ix, depth) ∷ []) listed
      → (rest : List (ℕ × ℕ)) × Tells (with_link (with_link pending node.next depth) node.child (depth + 1)) rest × (listed ≡ (ix, depth) ∷ rest)
  Tells-step pending ix depth node listed here h =
      let last = Tells-last pending (ix, depth) listed h in
      let step = by_node pending ix depth node last.0 last.1 here last.2 last.3 in (step.0, step.1, last.4 ∙ step.2)

  -- before a walk of the whole forest
  pub Tells-first : (link : Option ℕ) (forest : Forest) → IsLinkedAs nodes link forest → Tells (with_link [] link 0) (in_order 0 forest)
  Tells-first link forest h = rw append-nil at (Tells-with_link [] link 0 forest [] h refl)

-- how often a number stands in a list
abbrev times : ℕ → List ℕ → ℕ
times node [] = 0
times node (x ∷ xs) = (if node == x then 1 else 0) + times node xs

times-here : (k x : ℕ) (xs : List ℕ) → k ≡ x → times k (x ∷ xs) ≡ 1 + times k xs
times-here k x xs e = rw (eq-eqb k x e)

times-there : (k x : ℕ) (xs : List ℕ) → k ≢ x → times k (x ∷ xs) ≡ times k xs
times-there k x xs ne = rw (ne_eqb k x ne) (omega arith)

times-append : (k : ℕ) (xs ys : List ℕ) → times k (xs ++ ys) ≡ times k xs + times k ys
times-append k [] ys = omega arith
times-append k (x ∷ xs) ys = omega (arith, times-append k xs ys)

-- the nodes that a walk tells
abbrev pub nodes_of : List (ℕ × ℕ) → List ℕ
nodes_of listed = map (λ node. node.0) listed

nodes_of-append : (xs ys : List (ℕ × ℕ)) → nodes_of (xs ++ ys) ≡ nodes_of xs ++ nodes_of ys
nodes_of-append [] ys = refl
nodes_of-append (x ∷ xs) ys = ap (λ l. x.0 ∷ l) (nodes_of-append xs ys)

-- a node is listed as often as it stands in the forest
times-in_order : (k depth : ℕ) (forest : Forest) → times k (nodes_of (in_order depth forest)) ≡ count_in k forest
times-in_order k depth no_tree = refl
times-in_order k depth (tree r cs later) =
    let below = times-in_order k (depth + 1) cs in
    let after = times-in_order k depth later in
    let parts = ap (times k) (nodes_of-append (in_order (depth + 1) cs) (in_order depth later)) in
    let split = times-append k (nodes_of (in_order (depth + 1) cs)) (nodes_of (in_order depth later)) in
    elim (cases_eq k r) [
      | inl e ↦ omega (arith, times-here k r (nodes_of (in_order (depth + 1) cs ++ in_order depth later)) e, count_in-here k r cs later e)
      | inr ne ↦ omega (arith, times-there k r (nodes_of (in_order (depth + 1) cs ++ in_order depth later)) ne, count_in-there k r cs later ne)
    ]

-- what is not in a list differs from all of it
all_apart : (x : ℕ) (xs : List ℕ) → times x xs ≡ 0 → AllByRecursion (λ y. eqb x y ≡ false) xs
all_apart x [] none = tt
all_apart x (y ∷ ys) none =
    elim (cases_eq x y) [
      | inl e ↦ absurd (omega (arith, times-here x y ys e))
      | inr ne ↦ (ne_eqb x y ne, all_apart x ys (omega (arith, times-there x y ys ne)))
    ]

-- numbers that stand once at most are distinct
distinct_once : (xs : List ℕ) → ((k : ℕ) → times k xs ≤ 1) → IsDistinct eqb xs
unfolding IsDistinct
distinct_once [] once = tt
distinct_once (x ∷ xs) once = (
  all_apart x xs (let top = once x in omega (arith, times-here x x xs refl)),
  distinct_once xs (λ k. let top = once k in elim (cases_eq k x) [
    | inl e ↦ omega (arith, times-here k x xs e)
    | inr ne ↦ omega (arith, times-there k x xs ne)
  ]),
)

-- what is found in a list stands in it
times-found : (k : ℕ) (xs : List ℕ) → list_any (eqb k) xs ≡ true → 1 ≤ times k xs
times-found k [] found = cc
times-found k (x ∷ xs) found =
    elim (or_cases (eqb k x) (list_any (eqb k) xs) found) [
      | inl here ↦ omega (arith, times-here k x xs (eqb-true k x here))
      | inr there ↦ let later = times-found k xs there in elim (cases_eq k x) [
        | inl e ↦ omega (arith, times-here k x xs e)
        | inr ne ↦ omega (arith, times-there k x xs ne)
      ]
    ]

module _ {T : Type 0} where
  -- a walk of what a tree stands for tells no node twice
  pub in_order-once : (t : Linked T) (forest : Forest) → HasForest t forest → IsDistinct nat_eq (nodes_of (in_order 0 forest))
  in_order-once t forest h = distinct_once (nodes_of (in_order 0 forest)) (λ k. let top = h.once k in omega (arith, times-in_order k 0 forest))

  -- and no more nodes than there are
  pub in_order-most : (t : Linked T) (forest : Forest) → HasForest t forest → length (in_order 0 forest) ≤ length t.nodes
  in_order-most t forest h =
      let most = length-le_from_distinct_below (nodes_of (in_order 0 forest)) (length t.nodes) (in_order-once t forest h)
      (λ k found. count_in-within t.nodes k (first_root t.nodes) forest h.links
      (let stands = times-found k (nodes_of (in_order 0 forest)) found in omega (arith, times-in_order k 0 forest))) in
      omega (arith, length-map (in_order 0 forest) (λ node. node.0))

  -- what a walk has listed and has still to follow, where it has listed this many nodes
  pub record IsWalked (t : Linked T) (listed : ℕ) (order pending : List (ℕ × ℕ)) : Type 0 where
    pub count : length order ≡ listed
    pub listed_lead : All (λ node. node.0 < length t.nodes) order
    pub pending_lead : All (λ node. (node.0 < length t.nodes) × (node.1 ≤ listed)) pending
    pub whole : (forest : Forest) → HasForest t forest → (rest : List (ℕ × ℕ)) × Tells t.nodes pending rest × (order ++ rest ≡ in_order 0 forest)

  -- a link that leads to a node, at a depth of which there have been enough nodes
  All-with_link : (t : Linked T) (listed : ℕ) (pending : List (ℕ × ℕ)) (link : Option ℕ) (depth : ℕ) → IsLinkWithin (length t.nodes) link → depth ≤ listed
      → All (λ node. (node.0 < length t.nodes) × (node.1 ≤ listed)) pending
      → All (λ node. (node.0 < length t.nodes) × (node.1 ≤ listed)) (with_link pending link depth)
  All-with_link t listed pending None depth within deep h = rw append-nil h
  All-with_link t listed pending (Some ix) depth within deep h = All-push (λ node. (node.0 < length t.nodes) × (node.1 ≤ listed)) pending (ix, depth) h (within, deep)

  pub IsWalked-first : (t : Linked T) (link : Option ℕ) → link ≡ first_root t.nodes → IsLinkWithin (length t.nodes) link → IsWalked t 0 [] (with_link [] link 0)
  IsWalked-first t link is within = record {
    count = refl;
    listed_lead = All-nil (λ node. node.0 < length t.nodes);
    pending_lead = All-with_link t 0 [] link 0 within (omega arith) (All-nil (λ node. (node.0 < length t.nodes) × (node.1 ≤ 0)));
    whole = λ forest h. (in_order 0 forest, Tells-first t.nodes link forest (rw is h.links), refl);
  }

  -- the link that is followed leads to a node, at a depth of which there have been enough nodes
  pub IsWalked-pop : (t : Linked T) (listed : ℕ) (order old new : List (ℕ × ℕ)) (popped : Option (ℕ × ℕ)) → old ≡ new ++ option_to_list popped → IsWalked t listed order old
      → IfSome popped (λ node. (node.0 < length t.nodes) × (node.1 ≤ listed))
  IsWalked-pop t listed order old new popped parts h = (All-pop (λ node. (node.0 < length t.nodes) × (node.1 ≤ listed)) old new popped parts h.pending_lead).1

  pub IsWalked-step : (t : Linked T) (listed : ℕ) (order pending : List (ℕ × ℕ)) (ix depth : ℕ) (node : Node T) → IsNodeAt t ix node
      → IsWalked t listed order (pending ++ (ix, depth) ∷ [])
      → IsWalked t (listed + 1) (order ++ (ix, depth) ∷ []) (with_link (with_link pending node.next depth) node.child (depth + 1))
  IsWalked-step t listed order pending ix depth node here h =
      let leads : ℕ × ℕ → Type 0 = λ node. (node.0 < length t.nodes) × (node.1 ≤ listed) in
      let leads' : ℕ × ℕ → Type 0 = λ node. (node.0 < length t.nodes) × (node.1 ≤ listed + 1) in
      let parts = All-pop leads (pending ++ (ix, depth) ∷ []) pending (Some (ix, depth)) refl h.pending_lead in
      let weaker : (node : ℕ × ℕ) → leads node → leads' node = λ node within. (within.0, omega (arith, within.1)) in
      record {
        count = length-append order ((ix, depth) ∷ []) ∙ ap (λ n. n + 1) h.count;
        listed_lead = All-push (λ node. node.0 < length t.nodes) order (ix, depth) h.listed_lead parts.1.0;
        pending_lead = All-with_link t (listed + 1) (with_link pending node.next depth) node.child (depth + 1) here.child (omega (arith, parts.1.1))
            (All-with_link t (listed + 1) pending node.next depth here.next (omega (arith, parts.1.1)) (All-weaker leads leads' weaker pending parts.0));
        whole = λ forest links.
            let before = h.whole forest links in
            let step = Tells-step t.nodes pending ix depth node before.0 here.here before.1 in (
              step.0,
              step.1,
              append_assoc order ((ix, depth) ∷ []) step.0 ∙ ap (λ l. order ++ l) (sym step.2) ∙ before.2,
            );
      }

  -- nothing is left to follow
  pub IsWalked-done : (t : Linked T) (listed : ℕ) (order pending : List (ℕ × ℕ)) → length pending ≡ 0 → IsWalked t listed order pending
      → (forest : Forest) → HasForest t forest → order ≡ in_order 0 forest
  IsWalked-done t listed order [] none h forest links = let all = h.whole forest links in sym (append-nil order) ∙ ap (λ l. order ++ l) (sym all.1) ∙ all.2
  IsWalked-done t listed order (node ∷ pending) none h forest links = absurd (omega (arith, none))

  -- as many nodes are listed as there are
  pub IsWalked-all : (t : Linked T) (order pending : List (ℕ × ℕ)) → IsWalked t (length t.nodes) order pending → (forest : Forest) → HasForest t forest → order ≡ in_order 0 forest
  IsWalked-all t order pending h forest links = let all = h.whole forest links in by_rest all.0 all.2
    where
      by_rest : (rest : List (ℕ × ℕ)) → order ++ rest ≡ in_order 0 forest → order ≡ in_order 0 forest
      by_rest [] e = sym (append-nil order) ∙ e
      by_rest (node ∷ rest) e = absurd (omega (arith, ap length e, length-append order (node ∷ rest), h.count, in_order-most t forest links))
