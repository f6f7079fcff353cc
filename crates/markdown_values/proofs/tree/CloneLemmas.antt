-- A `Tree` whose nodes are clones of another's.
use Rattle.std.proofs.Common.{◌≡◌, ℕ, ◌<◌, List, length, get_or, refl, arith, Option, subst}
use Rattle.std.specs.List.{AllZip}
use Rattle.std.proofs.lemmas.List.Elements.{AllZip-get_or, length_all_zip, same_from_all_zip}
use Rattle.markdown_values.specs.declared.tree.Node.{Node}
use Rattle.markdown_values.specs.tree.Linked.{Linked}
use Rattle.markdown_values.specs.tree.Tree.{IsLinkWithin, IsWithin, IsNodeClone, IsTreeClone}

module _ {T : Type 0} (is_clone : T → T → Type 0) where
  -- clones have the same links, so they lead to nodes too
  pub IsWithin-clones : (nodes copies : List (Node T)) (spine : List ℕ) (focus : Option ℕ) → AllZip (IsNodeClone is_clone) nodes copies → IsWithin nodes spine focus → IsWithin copies spine focus
  IsWithin-clones nodes copies spine focus clones h =
      let same : length nodes ≡ length copies = length_all_zip (IsNodeClone is_clone) nodes copies clones in
      record {
        has_dummy = subst (λ (count : ℕ). 0 < count) same h.has_dummy;
        links_lead = λ k d lt.
            let clone = AllZip-get_or (IsNodeClone is_clone) nodes copies k d d clones (omega arith) in
            let node = h.links_lead k d (omega arith) in
            record {
              child = subst (λ (count : ℕ). IsLinkWithin count (get_or copies k d).child) same (rw clone.child node.child);
              next = subst (λ (count : ℕ). IsLinkWithin count (get_or copies k d).next) same (rw clone.next node.next);
            };
        spine_leads = λ k d lt. subst (λ (count : ℕ). get_or spine k d < count) same (h.spine_leads k d lt);
        focus_leads = subst (λ (count : ℕ). IsLinkWithin count focus) same h.focus_leads;
      }

  -- where clones of items equal them, clones of nodes equal them
  same_nodes : (nodes copies : List (Node T)) → AllZip (IsNodeClone is_clone) nodes copies → ((item copy : T) → is_clone item copy → copy ≡ item) → copies ≡ nodes
  same_nodes nodes copies clones same_items =
      same_from_all_zip (IsNodeClone is_clone) nodes copies clones (λ node copy clone.
      let same_item = same_items node.item copy.item clone.item in
      λ i. record { child = clone.child i; next = clone.next i; item = same_item i })

  pub IsTreeClone-made : (t : Linked T) (copies : List (Node T)) (spine : List ℕ) → AllZip (IsNodeClone is_clone) t.nodes copies → spine ≡ t.spine
      → IsTreeClone is_clone t (record { nodes = copies; spine = spine; focus = t.focus })
  IsTreeClone-made t copies spine clones same_spine =
      record {
        nodes = clones;
        spine = same_spine;
        focus = refl;
        equal = λ same_items.
            let same = same_nodes t.nodes copies clones same_items in
            λ i. record { nodes = same i; spine = same_spine i; focus = t.focus };
      }
