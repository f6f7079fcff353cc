-- The children of a parent, after one of them is cut.
use Rattle.std.proofs.Common.{◌≡◌, inl, inr, ℕ, suc, ◌-◌, ◌≤◌, List, [], ◌∷◌, ◌++◌, refl, ap, sym, ◌∙◌, arith, Option, Some, None, Bool, true, false, map, append-nil, append_assoc}
use Rattle.std.specs.Prelude.{slice_get, All, if◌then◌else◌, option_map}
use Rattle.std.proofs.lemmas.Bool.{cases_eq, eq-eqb, ne_eqb, lt-ltb, le-ltb}
use Rattle.std.proofs.lemmas.List.{map-append}
use Rattle.markdown_values.specs.declared.tree.Node.{Node}
use Rattle.markdown_values.specs.tree.Linked.{Linked}
use Rattle.markdown_values.specs.tree.Tree.{last, but_last, child_of, update_at, with_next, with_item}
use Rattle.markdown_values.specs.tree.Truncate.{Span, IsChain, last_index, EndsBefore, IsFirstOther, AllEndBefore, HasChildren, HasSiblings, cut_tree}
use Rattle.markdown_values.specs.tree.Truncate.{dropped_after, cut, cut_focus, first_other, CanCut, CanTruncate, truncated, truncated_focus}
use Rattle.markdown_values.proofs.tree.TreeLemmas.{get-update_at_same, last-none, last-split}
use Rattle.markdown_values.proofs.tree.truncate.ChainLemmas.{same_chain}
use Rattle.markdown_values.proofs.tree.truncate.ChainChanges.{chain_from, IsChain-ended, IsChain-changed, KeepsBut-update, KeepsBut-twice, child_of-update, child_of-with_child}

module _ {T : Type 0} where
  module _ (span : T → Span) where
    -- a child as its node's index and the range of its item
    abbrev pub see : ℕ × Node T → ℕ × Span
    see c = (c.0, span c.1.item)

    -- the children that end before e stay
    truncated-kept : (e : ℕ) (kept later : List (ℕ × Node T)) (c : ℕ × Node T) → All (EndsBefore span e) kept → e ≤ (span c.1.item).end
        → truncated e (map see (kept ++ c ∷ later)) ≡ map see kept ++ cut e (see c) (map see later)
    truncated-kept e [] later c ends reaches = rw (le-ltb (span c.1.item).end e reaches)
    truncated-kept e (x ∷ kept) later c ends reaches =
        rw (lt-ltb (span x.1.item).end e (ends 0 x (omega arith))) (ap (λ (l : List (ℕ × Span)). see x ∷ l) (truncated-kept e kept later c (λ k d lt. ends (suc k) d (omega arith)) reaches))

    truncated-all : (e : ℕ) (children : List (ℕ × Node T)) → All (EndsBefore span e) children → truncated e (map see children) ≡ map see children
    truncated-all e [] ends = refl
    truncated-all e (x ∷ children) ends =
        rw (lt-ltb (span x.1.item).end e (ends 0 x (omega arith))) (ap (λ (l : List (ℕ × Span)). see x ∷ l) (truncated-all e children (λ k d lt. ends (suc k) d (omega arith))))

    truncated_focus-all : (e : ℕ) (focus previous : Option ℕ) (children : List (ℕ × Node T)) → All (EndsBefore span e) children → truncated_focus e focus previous (map see children) ≡ focus
    truncated_focus-all e focus previous [] ends = refl
    truncated_focus-all e focus previous (x ∷ children) ends =
        rw (lt-ltb (span x.1.item).end e (ends 0 x (omega arith))) (truncated_focus-all e focus (Some x.0) children (λ k d lt. ends (suc k) d (omega arith)))

    first_other-kept : (e : ℕ) (kept later : List (ℕ × Node T)) (c : ℕ × Node T) → All (EndsBefore span e) kept
        → e ≤ (span c.1.item).end → first_other e (map see (kept ++ c ∷ later)) ≡ Some (span c.1.item)
    first_other-kept e [] later c ends reaches = rw (le-ltb (span c.1.item).end e reaches)
    first_other-kept e (x ∷ kept) later c ends reaches =
        rw (lt-ltb (span x.1.item).end e (ends 0 x (omega arith))) (first_other-kept e kept later c (λ k d lt. ends (suc k) d (omega arith)) reaches)

    -- siblings are children of the last of the spine
    pub HasChildren-of : (t : Linked T) (parent : ℕ) (spans : List (ℕ × Span)) → last t.spine ≡ Some parent → HasSiblings span t spans → HasChildren span t parent spans
    HasChildren-of t parent spans p h = rw p at h

    pub HasSiblings-of : (t : Linked T) (parent : ℕ) (spans : List (ℕ × Span)) → last t.spine ≡ Some parent → HasChildren span t parent spans → HasSiblings span t spans
    HasSiblings-of t parent spans p h = rw p h

    -- the first other child can be cut
    pub CanCut-first : (e : ℕ) (t : Linked T) (parent : ℕ) (kept later : List (ℕ × Node T)) (c : ℕ × Node T)
        → last t.spine ≡ Some parent → IsFirstOther span e t.nodes (child_of t.nodes parent) kept c later
        → CanTruncate span e t → CanCut e (span c.1.item)
    CanCut-first e t parent kept later c p h can =
        let has = HasChildren-of t parent can.0 p can.1 in
        let same = same_chain t.nodes (child_of t.nodes parent) has.0 (kept ++ c ∷ later) has.1 h.chain in
        let spans : can.0 ≡ map see (kept ++ c ∷ later) = sym has.2 ∙ ap (map see) same in
        rw (spans, first_other-kept e kept later c h.ends_before h.ends_later) at can.2

    -- the last of some children, or with none the one before them
    last_after : Option ℕ → List (ℕ × Node T) → Option ℕ
    last_after previous [] = previous
    last_after previous (x ∷ kept) = last_after (Some x.0) kept

    last_after-is : (previous : Option ℕ) (x : ℕ × Node T) (kept : List (ℕ × Node T)) → last_after previous (x ∷ kept) ≡ last_index (x ∷ kept)
    unfolding last_after
    last_after-is previous x [] = refl
    last_after-is previous x (y ∷ kept) = last_after-is (Some x.0) y kept

    last_after-none : (kept : List (ℕ × Node T)) → last_after None kept ≡ last_index kept
    unfolding last_after
    last_after-none [] = refl
    last_after-none (x ∷ kept) = last_after-is None x kept

    truncated_focus-after : (e : ℕ) (focus previous : Option ℕ) (kept later : List (ℕ × Node T)) (c : ℕ × Node T) → All (EndsBefore span e) kept → e ≤ (span c.1.item).end
        → truncated_focus e focus previous (map see (kept ++ c ∷ later)) ≡ cut_focus e (last_after previous kept) (see c)
    unfolding last_after
    truncated_focus-after e focus previous [] later c ends reaches = rw (le-ltb (span c.1.item).end e reaches)
    truncated_focus-after e focus previous (x ∷ kept) later c ends reaches =
        rw (lt-ltb (span x.1.item).end e (ends 0 x (omega arith))) (truncated_focus-after e focus (Some x.0) kept later c (λ k d lt. ends (suc k) d (omega arith)) reaches)

    truncated_focus-kept : (e : ℕ) (focus : Option ℕ) (kept later : List (ℕ × Node T)) (c : ℕ × Node T) → All (EndsBefore span e) kept → e ≤ (span c.1.item).end
        → truncated_focus e focus None (map see (kept ++ c ∷ later)) ≡ cut_focus e (last_index kept) (see c)
    truncated_focus-kept e focus kept later c ends reaches =
        truncated_focus-after e focus None kept later c ends reaches ∙ ap (λ (previous : Option ℕ). cut_focus e previous (see c)) (last_after-none kept)

    -- the children of parent are those in kept, and then these
    abbrev HasAfter : Linked T → ℕ → List (ℕ × Node T) → List (ℕ × Span) → Type 0
    HasAfter t parent kept spans = (children : List (ℕ × Node T)) × IsChain t.nodes (child_of t.nodes parent) children × (map see children ≡ map see kept ++ spans)

    module _ (e : ℕ) (t : Linked T) (parent : ℕ) (kept later : List (ℕ × Node T)) (c : ℕ × Node T) (h : IsChain t.nodes (child_of t.nodes parent) (kept ++ c ∷ later)) where
      here : slice_get t.nodes c.0 ≡ Some c.1
      here = (chain_from t.nodes (child_of t.nodes parent) kept later c h).1

      -- c is the last child
      has-ended : (focus : Option ℕ) → HasAfter (record t { nodes = with_next t.nodes c.0 None; focus = focus }) parent kept (see c ∷ [])
      has-ended focus =
          let node = record c.1 { next = None } in
          let changed = get-update_at_same (λ node. record node { next = None }) t.nodes c.0 c.1 here in (
            kept ++ (c.0, node) ∷ [],
            rw (child_of-update (λ node. record node { next = None }) t.nodes c.0 parent (λ n. refl))
                (IsChain-ended t.nodes _ (child_of t.nodes parent) kept later c node
                (KeepsBut-update _ t.nodes c.0) changed refl h),
            map-append see kept ((c.0, node) ∷ []),
          )

      -- c has another item
      has-changed : (item : T) (focus : Option ℕ) → HasAfter (record t { nodes = with_item t.nodes c.0 item; focus = focus }) parent kept ((c.0, span item) ∷ map see later)
      has-changed item focus =
          let node = record c.1 { item = item } in
          let changed = get-update_at_same (λ node. record node { item = item }) t.nodes c.0 c.1 here in (
            kept ++ (c.0, node) ∷ later,
            rw (child_of-update (λ node. record node { item = item }) t.nodes c.0 parent (λ n. refl))
                (IsChain-changed t.nodes _ (child_of t.nodes parent) kept later c node
                (KeepsBut-update _ t.nodes c.0) changed refl h),
            map-append see kept ((c.0, node) ∷ later),
          )

      -- c has another item, and is the last child
      has-changed_last : (item : T) (focus : Option ℕ) → HasAfter (record t { nodes = with_next (with_item t.nodes c.0 item) c.0 None; focus = focus }) parent kept ((c.0, span item) ∷ [])
      has-changed_last item focus =
          let f : Node T → Node T = λ node. record node { item = item } in
          let g : Node T → Node T = λ node. record node { next = None } in
          let node = g (f c.1) in
          let changed = get-update_at_same g (update_at f t.nodes c.0) c.0 (f c.1) (get-update_at_same f t.nodes c.0 c.1 here) in (
            kept ++ (c.0, node) ∷ [],
            rw (
              child_of-update g (update_at f t.nodes c.0) c.0 parent (λ n. refl),
              child_of-update f t.nodes c.0 parent (λ n. refl),
            )
                (IsChain-ended t.nodes _ (child_of t.nodes parent) kept later c node
                (KeepsBut-twice f g t.nodes c.0) changed refl h),
            map-append see kept ((c.0, node) ∷ []),
          )

      -- c is dropped
      has-dropped : HasAfter (dropped_after t (Some parent) (last_index kept)) parent kept []
      has-dropped = by_last (last kept) refl
        where
          by_last : (l : Option (ℕ × Node T)) → last kept ≡ l → HasAfter (dropped_after t (Some parent) (option_map (λ x. x.0) l)) parent kept []
          by_last None p = ([], child_of-with_child t.nodes parent, rw (last-none kept p) refl)
          by_last (Some x) p =
              let split = last-split kept x p in
              let g : Node T → Node T = λ node. record node { next = None } in
              let front = but_last kept in
              let longer : IsChain t.nodes (child_of t.nodes parent) (front ++ x ∷ (c ∷ later)) = rw append_assoc at (rw split at h) in
              let changed = get-update_at_same g t.nodes x.0 x.1 (chain_from t.nodes (child_of t.nodes parent) front (c ∷ later) x longer).1 in (
                front ++ (x.0, g x.1) ∷ [],
                rw (child_of-update g t.nodes x.0 parent (λ n. refl))
                    (IsChain-ended t.nodes _ (child_of t.nodes parent) front (c ∷ later) x (g x.1)
                    (KeepsBut-update g t.nodes x.0) changed refl longer),
                map-append see front ((x.0, g x.1) ∷ []) ∙ (sym (map-append see front (x ∷ [])) ∙ (ap (map see) (sym split) ∙ sym (append-nil (map see kept)))),
              )

    -- the children after the first other one was cut
    module _ (with_range : T → ℕ → ℕ → T) (law : (item : T) (start end : ℕ) → span (with_range item start end) ≡ record (span item) { start = start; end = end }) where
      has-cut : (e : ℕ) (t : Linked T) (parent : ℕ) (kept later : List (ℕ × Node T)) (c : ℕ × Node T) → IsChain t.nodes (child_of t.nodes parent) (kept ++ c ∷ later)
          → HasAfter (cut_tree span with_range e (Some parent) (last_index kept) c t) parent kept (cut e (see c) (map see later))
      has-cut e t parent kept later c h =
          elim (cases_eq (span c.1.item).end e) [
            | inl at_end ↦ rw (eq-eqb (span c.1.item).end e at_end) (has-ended e t parent kept later c h (Some c.0))
            | inr other_end ↦
                rw (ne_eqb (span c.1.item).end e other_end)
                (elim (cases_eq (span c.1.item).start e) [
                  | inl at_start ↦ rw (eq-eqb (span c.1.item).start e at_start) (at_bit (span c.1.item).escaped refl)
                  | inr before ↦
                      let after = has-changed_last e t parent kept later c h (with_range c.1.item (span c.1.item).start e) (Some c.0) in
                      rw (ne_eqb (span c.1.item).start e before) (after.0, after.1, after.2 ∙ ap (λ (s : Span). map see kept ++ (c.0, s) ∷ []) (law c.1.item (span c.1.item).start e))
                ])
          ]
        where
          at_bit : (bit : Bool) → (span c.1.item).escaped ≡ bit
              → HasAfter (if (span c.1.item).escaped then record t {
                nodes = with_item t.nodes c.0 (with_range c.1.item (e - 1) e);
                focus = Some c.0;
              } else dropped_after t (Some parent)
              (last_index kept)) parent kept
              (if (span c.1.item).escaped then (c.0, record (span c.1.item) { start = e - 1; end = e }) ∷ map see later else [])
          at_bit true bit =
              let after = has-changed e t parent kept later c h (with_range c.1.item (e - 1) e) (Some c.0) in
              let range = rw bit at (law c.1.item (e - 1) e) in
              rw bit (after.0, after.1, after.2 ∙ ap (λ (s : Span). map see kept ++ (c.0, s) ∷ map see later) range)
          at_bit false bit = rw bit (has-dropped e t parent kept later c h)

    -- the focus after the first other child was cut
    focus-cut : (with_range : T → ℕ → ℕ → T) (e : ℕ) (t : Linked T) (parent : ℕ) (previous : Option ℕ)
        (c : ℕ × Node T) → (cut_tree span with_range e (Some parent) previous c t).focus ≡ cut_focus e previous
        (see c)
    focus-cut with_range e t parent previous c =
        elim (cases_eq (span c.1.item).end e) [
          | inl at_end ↦ rw (eq-eqb (span c.1.item).end e at_end)
          | inr other_end ↦
              rw (ne_eqb (span c.1.item).end e other_end)
              (elim (cases_eq (span c.1.item).start e) [
                | inl at_start ↦ rw (eq-eqb (span c.1.item).start e at_start) (at_bit (span c.1.item).escaped refl previous)
                | inr before ↦ rw (ne_eqb (span c.1.item).start e before)
              ])
        ]
      where
        at_bit : (bit : Bool) → (span c.1.item).escaped ≡ bit → (previous : Option ℕ)
            → (if (span c.1.item).escaped then record t {
              nodes = with_item t.nodes c.0 (with_range c.1.item (e - 1) e);
              focus = Some c.0;
            } else dropped_after t (Some parent) previous).focus
            ≡ (if (span c.1.item).escaped then Some c.0 else previous)
        at_bit true bit previous = rw bit
        at_bit false bit None = rw bit
        at_bit false bit (Some ix) = rw bit

    -- the spine stays
    pub spine-cut : (with_range : T → ℕ → ℕ → T) (e : ℕ) (t : Linked T) (parent previous : Option ℕ) (c : ℕ × Node T) → (cut_tree span with_range e parent previous c t).spine ≡ t.spine
    spine-cut with_range e t parent previous c =
        elim (cases_eq (span c.1.item).end e) [
          | inl at_end ↦ rw (eq-eqb (span c.1.item).end e at_end) refl
          | inr other_end ↦
              rw (ne_eqb (span c.1.item).end e other_end)
              (elim (cases_eq (span c.1.item).start e) [
                | inl at_start ↦ rw (eq-eqb (span c.1.item).start e at_start) (at_bit (span c.1.item).escaped refl previous)
                | inr before ↦ rw (ne_eqb (span c.1.item).start e before) refl
              ])
        ]
      where
        at_bit : (bit : Bool) → (span c.1.item).escaped ≡ bit → (previous : Option ℕ)
            → (if (span c.1.item).escaped then record t { nodes = with_item t.nodes c.0 (with_range c.1.item (e - 1) e); focus = Some c.0 } else dropped_after t parent previous).spine ≡ t.spine
        at_bit true bit previous = rw bit refl
        at_bit false bit None = rw bit refl
        at_bit false bit (Some ix) = rw bit refl

    -- the children and the focus after a truncation
    pub HasChildren-cut : (with_range : T → ℕ → ℕ → T) → ((item : T) (start end : ℕ) → span (with_range item start end) ≡ record (span item) { start = start; end = end })
        → (e : ℕ) (t : Linked T) (parent : ℕ) (kept later : List (ℕ × Node T)) (c : ℕ × Node T) (spans : List (ℕ × Span))
        → IsFirstOther span e t.nodes (child_of t.nodes parent) kept c later → HasChildren span t parent spans
        → HasChildren span (cut_tree span with_range e (Some parent) (last_index kept) c t) parent (truncated e spans)
    HasChildren-cut with_range law e t parent kept later c spans h has =
        let same = same_chain t.nodes (child_of t.nodes parent) has.0 (kept ++ c ∷ later) has.1 h.chain in
        let are : spans ≡ map see (kept ++ c ∷ later) = sym has.2 ∙ ap (map see) same in
        let after = has-cut with_range law e t parent kept later c h.chain in
        (after.0, after.1, after.2 ∙ sym (ap (truncated e) are ∙ truncated-kept e kept later c h.ends_before h.ends_later))

    pub focus-truncated : (with_range : T → ℕ → ℕ → T) (e : ℕ) (t : Linked T) (parent : ℕ) (kept later : List (ℕ × Node T)) (c : ℕ × Node T) (spans : List (ℕ × Span))
        → IsFirstOther span e t.nodes (child_of t.nodes parent) kept c later → HasChildren span t parent spans
        → (cut_tree span with_range e (Some parent) (last_index kept) c t).focus ≡ truncated_focus e t.focus None spans
    focus-truncated with_range e t parent kept later c spans h has =
        let same = same_chain t.nodes (child_of t.nodes parent) has.0 (kept ++ c ∷ later) has.1 h.chain in
        let are : spans ≡ map see (kept ++ c ∷ later) = sym has.2 ∙ ap (map see) same in
        focus-cut with_range e t parent (last_index kept) c ∙ sym (ap (truncated_focus e t.focus None) are ∙ truncated_focus-kept e t.focus kept later c h.ends_before h.ends_later)

    -- where every child ends before e, nothing is cut
    spans-all : (e : ℕ) (t : Linked T) (parent : ℕ) (children : List (ℕ × Node T)) (spans : List (ℕ × Span))
        → AllEndBefore span e t.nodes (child_of t.nodes parent) children → HasChildren span t parent spans
        → spans ≡ map see children
    spans-all e t parent children spans h has = sym has.2 ∙ ap (map see) (same_chain t.nodes (child_of t.nodes parent) has.0 children has.1 h.chain)

    pub truncated-same : (e : ℕ) (t : Linked T) (parent : ℕ) (children : List (ℕ × Node T)) (spans : List (ℕ × Span))
        → AllEndBefore span e t.nodes (child_of t.nodes parent) children → HasChildren span t parent spans
        → truncated e spans ≡ spans
    truncated-same e t parent children spans h has = rw (spans-all e t parent children spans h has) (truncated-all e children h.ends_before)

    pub truncated_focus-same : (e : ℕ) (t : Linked T) (parent : ℕ) (children : List (ℕ × Node T))
        (spans : List (ℕ × Span)) → AllEndBefore span e t.nodes (child_of t.nodes parent) children
        → HasChildren span t parent spans → truncated_focus e t.focus None spans ≡ t.focus
    truncated_focus-same e t parent children spans h has = rw (spans-all e t parent children spans h has) (truncated_focus-all e t.focus None children h.ends_before)
