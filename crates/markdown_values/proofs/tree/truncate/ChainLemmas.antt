-- A chain of next links that ends.
use Rattle.std.proofs.Common.{◌≡◌, inl, inr, ℕ, zero, suc, ◌<◌, ◌≤◌, List, [], ◌∷◌, ◌++◌, length, refl, ap, sym, arith, Option, Some, None, true, drop, get_or, append_assoc, append-nil, length-append}
use Rattle.std.specs.Prelude.{slice_get, All, option_map}
use Rattle.std.specs.List.{list_any}
use lib.Dec.{eqb}
use Rattle.std.proofs.lemmas.Option.{slice_get_within}
use Rattle.std.proofs.lemmas.Bool.{eqb-true, ne_eqb, or_cases}
use Rattle.std.proofs.lemmas.Map.Steps.{length-le_from_distinct_below}
use Rattle.std.proofs.lemmas.Map.Keys.{IsDistinct-from_apart}
use Rattle.std.proofs.lemmas.List.{length-drop, get_or_at}
use Rattle.markdown_values.specs.declared.tree.Node.{Node}
use Rattle.markdown_values.specs.tree.Tree.{next_of, IsLinkWithin}
use Rattle.std.proofs.lemmas.List.Elements.{All-push}
use Rattle.markdown_values.proofs.tree.TreeLemmas.{last-push}
use Rattle.markdown_values.specs.tree.Truncate.{Span, IsChain, last_index, EndsBefore, IsFirstOther, AllEndBefore}

module _ {T : Type 0} where
  -- one link gives one chain
  pub same_chain : (nodes : List (Node T)) (link : Option ℕ) (xs ys : List (ℕ × Node T)) → IsChain nodes link xs → IsChain nodes link ys → xs ≡ ys
  same_chain nodes link [] [] h k = refl
  same_chain nodes link [] (y ∷ ys) h k = let q = k.0 in cc
  same_chain nodes link (x ∷ xs) [] h k = let q = h.0 in cc
  same_chain nodes link (x ∷ xs) (y ∷ ys) h k =
      let a = h.0 in
      let b = k.0 in
      let index : x.0 ≡ y.0 = cc in
      let node : x.1 ≡ y.1 = let p = h.1 in let q = k.1 in let r : slice_get nodes x.0 ≡ Some y.1 = rw index q in cc in
      let rest = same_chain nodes x.1.next xs ys h.2 (rw node k.2) in
      let pair : x ≡ y = λ i. (index i, node i) in cc

  -- how many links there are from this one on, as far as the fuel goes
  abbrev pub steps : List (Node T) → ℕ → Option ℕ → ℕ
  steps nodes zero link = 0
  steps nodes (suc fuel) None = 0
  steps nodes (suc fuel) (Some ix) = suc (steps nodes fuel (next_of nodes ix))

  steps-is : (nodes : List (Node T)) (fuel : ℕ) (link : Option ℕ) (xs : List (ℕ × Node T)) → IsChain nodes link xs → length xs ≤ fuel → steps nodes fuel link ≡ length xs
  steps-is nodes zero link [] h e = refl
  steps-is nodes zero link (x ∷ xs) h e = absurd (omega arith)
  steps-is nodes (suc fuel) link [] h e = rw h
  steps-is nodes (suc fuel) link (x ∷ xs) h e = rw (h.0, h.1) (ap suc (steps-is nodes fuel x.1.next xs h.2 (omega arith)))

  indices : List (ℕ × Node T) → List ℕ
  indices [] = []
  indices (x ∷ xs) = x.0 ∷ indices xs

  length-indices : (xs : List (ℕ × Node T)) → length (indices xs) ≡ length xs
  unfolding indices
  length-indices [] = refl
  length-indices (x ∷ xs) = ap suc (length-indices xs)

  IsChain-drop : (nodes : List (Node T)) (link : Option ℕ) (xs : List (ℕ × Node T)) (i d : ℕ) → IsChain nodes link xs → i < length xs → IsChain nodes (Some (get_or (indices xs) i d)) (drop i xs)
  unfolding indices
  IsChain-drop nodes link [] i d h lt = absurd (omega arith)
  IsChain-drop nodes link (x ∷ xs) zero d h lt = (refl, h.1, h.2)
  IsChain-drop nodes link (x ∷ xs) (suc i) d h lt = IsChain-drop nodes x.1.next xs i d h.2 (omega arith)

  index-within : (nodes : List (Node T)) (link : Option ℕ) (xs : List (ℕ × Node T)) (q : ℕ) → IsChain nodes link xs → list_any (eqb q) (indices xs) ≡ true → q < length nodes
  unfolding indices
  index-within nodes link [] q h e = cc
  index-within nodes link (x ∷ xs) q h e =
      elim (or_cases (eqb q x.0) (list_any (eqb q) (indices xs)) e) [
        | inl here ↦ let same = eqb-true q x.0 here in let within = slice_get_within nodes x.0 x.1 h.1 in omega arith
        | inr there ↦ index-within nodes x.1.next xs q h.2 there
      ]

  -- a chain has at most as many nodes as there are
  length-chain : (nodes : List (Node T)) (link : Option ℕ) (xs : List (ℕ × Node T)) → IsChain nodes link xs → length xs ≤ length nodes
  length-chain nodes link xs h =
      let count = length-indices xs in
      let bound =
      length-le_from_distinct_below (indices xs) (length nodes)
      (IsDistinct-from_apart eqb (indices xs)
      (λ i j d lt within. ne_eqb _ _ (λ e. apart i j d lt (omega arith) e)))
      (λ q e. index-within nodes link xs q h e) in
      omega arith
    where
      apart : (i j d : ℕ) → i < j → j < length xs → get_or (indices xs) i d ≡ get_or (indices xs) j d → ⊥
      apart i j d lt within e =
          let first = IsChain-drop nodes link xs i d h (omega arith) in
          let second = IsChain-drop nodes link xs j d h within in
          let same = ap length (same_chain nodes _ (drop i xs) (drop j xs) (rw e at first) second) in
          omega (arith, length-drop i xs, length-drop j xs)

  module _ (span : T → Span) (e : ℕ) (nodes : List (Node T)) (link : Option ℕ) where
    -- a search has passed the children in kept, and rest is what follows
    pub record Passed (next previous : Option ℕ) (kept rest : List (ℕ × Node T)) : Type 0 where
      pub chain : IsChain nodes link (kept ++ rest)
      pub ends_before : All (EndsBefore span e) kept
      pub next_is : IsChain nodes next rest
      pub previous_is : previous ≡ last_index kept

    pub Passed-within : (ix : ℕ) (previous : Option ℕ) (kept rest : List (ℕ × Node T)) → Passed (Some ix) previous kept rest → ix < length nodes
    Passed-within ix previous kept [] h = let p = h.next_is in cc
    Passed-within ix previous kept (x ∷ rest) h = let p = h.next_is.0 in let same : ix ≡ x.0 = cc in let within = slice_get_within nodes x.0 x.1 h.next_is.1 in omega arith

    -- the node that a search looks at is the first of the rest
    Passed-here : (ix : ℕ) (node : Node T) (previous : Option ℕ) (kept rest : List (ℕ × Node T)) → slice_get nodes ix ≡ Some node → Passed (Some ix) previous kept rest
        → (later : List (ℕ × Node T)) × (rest ≡ (ix, node) ∷ later)
    Passed-here ix node previous kept [] g h = let p = h.next_is in cc
    Passed-here ix node previous kept (x ∷ rest) g h =
        let p = h.next_is.0 in
        let index : ix ≡ x.0 = cc in
        let q = h.next_is.1 in
        let same : node ≡ x.1 = let r : slice_get nodes ix ≡ Some x.1 = rw index q in cc in
        let pair : x ≡ (ix, node) = λ i. (sym index i, sym same i) in (rest, ap (λ c. c ∷ rest) pair)

    pub Passed-found : (ix : ℕ) (node : Node T) (previous : Option ℕ) (kept rest : List (ℕ × Node T)) → slice_get nodes ix ≡ Some node → e ≤ (span node.item).end → Passed (Some ix) previous kept rest
        → (kept' : List (ℕ × Node T)) × (node' : Node T) × (later : List (ℕ × Node T)) × IsFirstOther span e nodes link kept' (ix, node') later × (previous ≡ last_index kept')
    Passed-found ix node previous kept rest g reaches h =
        let here = Passed-here ix node previous kept rest g h in
        (kept, node, here.0, record { chain = rw here.1 at h.chain; ends_before = h.ends_before; ends_later = reaches }, h.previous_is)

    pub Passed-smaller : (ix : ℕ) (node : Node T) (previous : Option ℕ) (kept rest : List (ℕ × Node T)) → slice_get nodes ix ≡ Some node → Passed (Some ix) previous kept rest
        → steps nodes (length nodes) node.next < steps nodes (length nodes) (Some ix)
    Passed-smaller ix node previous kept rest g h =
        let here = Passed-here ix node previous kept rest g h in
        let chain = rw here.1 at h.next_is in
        let most = length-chain nodes (Some ix) ((ix, node) ∷ here.0) chain in
        let now = steps-is nodes (length nodes) (Some ix) ((ix, node) ∷ here.0) chain most in
        let then = steps-is nodes (length nodes) node.next here.0 chain.2 (omega arith) in
        omega arith

    pub Passed-more : (ix : ℕ) (node : Node T) (previous : Option ℕ) (kept rest : List (ℕ × Node T)) → slice_get nodes ix ≡ Some node → (span node.item).end < e → Passed (Some ix) previous kept rest
        → (kept' rest' : List (ℕ × Node T)) × Passed node.next (Some ix) kept' rest'
    Passed-more ix node previous kept rest g ends h =
        let here = Passed-here ix node previous kept rest g h in
        let chain = rw here.1 at h.next_is in (
          kept ++ (ix, node) ∷ [],
          here.0,
          record {
            chain = rw append_assoc (rw here.1 at h.chain);
            ends_before = All-push (λ c. (span c.1.item).end < e) kept (ix, node) h.ends_before ends;
            next_is = chain.2;
            previous_is = sym (ap (option_map (λ c. c.0)) (last-push kept (ix, node)));
          },
        )

    pub Passed-all : (previous : Option ℕ) (kept rest : List (ℕ × Node T)) → Passed None previous kept rest → (children : List (ℕ × Node T)) × AllEndBefore span e nodes link children
    Passed-all previous kept [] h = (kept ++ [], record { chain = h.chain; ends_before = rw append-nil h.ends_before })
    Passed-all previous kept (x ∷ rest) h = let p = h.next_is.0 in cc

    -- the first other child is one
    pub same_first_other : (kept kept' later later' : List (ℕ × Node T)) (c c' : ℕ × Node T)
        → IsFirstOther span e nodes link kept c later → IsFirstOther span e nodes link kept' c' later'
        → (kept ≡ kept') × (c ≡ c')
    same_first_other kept kept' later later' c c' h k = split kept kept' (same_chain nodes link _ _ h.chain k.chain) h.ends_before k.ends_before
      where
        split : (a b : List (ℕ × Node T)) → a ++ c ∷ later ≡ b ++ c' ∷ later' → All (λ x. (span x.1.item).end < e) a → All (λ x. (span x.1.item).end < e) b → (a ≡ b) × (c ≡ c')
        split [] [] q p r = let same : c ≡ c' = cc in (refl, same)
        split [] (y ∷ b) q p r = let same : c ≡ y = cc in absurd (let ends = r 0 y (omega arith) in let later_end = rw same at h.ends_later in omega arith)
        split (x ∷ a) [] q p r = let same : x ≡ c' = cc in absurd (let ends = p 0 x (omega arith) in let later_end = rw (← same) at k.ends_later in omega arith)
        split (x ∷ a) (y ∷ b) q p r =
            let head : x ≡ y = cc in
            let tail : a ++ c ∷ later ≡ b ++ c' ∷ later' = cc in
            let below = split a b tail (λ i d lt. p (suc i) d (omega arith)) (λ i d lt. r (suc i) d (omega arith)) in
            let first = below.0 in
            let whole : x ∷ a ≡ y ∷ b = cc in (whole, below.1)

    pub not_both : (children kept later : List (ℕ × Node T)) (c : ℕ × Node T) → AllEndBefore span e nodes link children → IsFirstOther span e nodes link kept c later → ⊥
    not_both children kept later c h k =
        let same = same_chain nodes link children (kept ++ c ∷ later) h.chain k.chain in
        let all = rw same at h.ends_before in
        let ends = all (length kept) c (omega (arith, length-append kept (c ∷ later))) in
        let later_end = k.ends_later in
        let there = get_or_at kept c later c (length kept) refl in
        absurd (let ends' = rw there at ends in omega arith)

    pub first_other-within : (kept later : List (ℕ × Node T)) (c : ℕ × Node T)
        → IsFirstOther span e nodes link kept c later
        → (slice_get nodes c.0 ≡ Some c.1) × IsLinkWithin (length nodes) (last_index kept)
    first_other-within kept later c h = (chain_at link kept h.chain, by_last link kept h.chain)
      where
        chain_at : (l : Option ℕ) (kept : List (ℕ × Node T)) → IsChain nodes l (kept ++ c ∷ later) → slice_get nodes c.0 ≡ Some c.1
        chain_at l [] g = g.1
        chain_at l (x ∷ kept) g = chain_at x.1.next kept g.2

        by_last : (l : Option ℕ) (kept : List (ℕ × Node T)) → IsChain nodes l (kept ++ c ∷ later) → IsLinkWithin (length nodes) (last_index kept)
        by_last l [] g = tt
        by_last l (x ∷ []) g = slice_get_within nodes x.0 x.1 g.1
        by_last l (x ∷ y ∷ kept) g = by_last x.1.next (y ∷ kept) g.2
