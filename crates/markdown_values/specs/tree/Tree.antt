-- What each call of a `Tree` does to its nodes, its spine and its focus.
use Rattle.std.specs.Prelude.{◌≡◌, ℕ, zero, suc, ◌<◌, List, [], ◌∷◌, ◌++◌, length, All, Option, Some, None, slice_get, option_and_then, ◌≢◌, ◌-◌}
use Rattle.std.specs.List.{AllZip}
use Rattle.markdown_values.specs.declared.tree.Node.{Node}
use Rattle.markdown_values.specs.tree.Linked.{Linked}

-- the last element, if there is one
abbrev pub last : {A : Type 0} → List A → Option A
last [] = None
last (x ∷ []) = Some x
last (x ∷ y ∷ ys) = last (y ∷ ys)

-- all but the last element
abbrev pub but_last : {A : Type 0} → List A → List A
but_last [] = []
but_last (x ∷ []) = []
but_last (x ∷ y ∷ ys) = x ∷ but_last (y ∷ ys)

-- the list with f applied to the element at this index
abbrev pub update_at : {A : Type 0} → (A → A) → List A → ℕ → List A
update_at f [] ix = []
update_at f (x ∷ xs) zero = f x ∷ xs
update_at f (x ∷ xs) (suc ix) = x ∷ update_at f xs ix

-- the link, if there is one, leads to one of so many nodes
abbrev pub IsLinkWithin : ℕ → Option ℕ → Type 0
IsLinkWithin count None = Unit {0}
IsLinkWithin count (Some ix) = ix < count

-- the link, or where there is none the focus as it was
abbrev pub link_or_focus : Option ℕ → Option ℕ → Option ℕ
link_or_focus None focus = focus
link_or_focus (Some ix) focus = Some ix

module _ {T : Type 0} where
  pub record IsNodeWithin (count : ℕ) (node : Node T) : Type 0 where
    pub child : IsLinkWithin count node.child
    pub next : IsLinkWithin count node.next

  -- there is a dummy, and links, spine and focus lead to nodes
  pub record IsWithin (nodes : List (Node T)) (spine : List ℕ) (focus : Option ℕ) : Type 0 where
    pub has_dummy : 0 < length nodes
    pub links_lead : All (IsNodeWithin (length nodes)) nodes
    pub spine_leads : All (λ ix. ix < length nodes) spine
    pub focus_leads : IsLinkWithin (length nodes) focus

  -- the node at this index, whose links lead to nodes
  pub record IsNodeAt (t : Linked T) (ix : ℕ) (node : Node T) : Type 0 where
    pub here : slice_get t.nodes ix ≡ Some node
    pub child : IsLinkWithin (length t.nodes) node.child
    pub next : IsLinkWithin (length t.nodes) node.next

  -- a node with no links
  abbrev pub isolated : T → Node T
  isolated item = record { child = None; next = None; item = item }

  abbrev pub with_next : List (Node T) → ℕ → Option ℕ → List (Node T)
  with_next nodes ix link = update_at (λ node. record node { next = link }) nodes ix

  abbrev pub with_child : List (Node T) → ℕ → Option ℕ → List (Node T)
  with_child nodes ix link = update_at (λ node. record node { child = link }) nodes ix

  abbrev pub with_item : List (Node T) → ℕ → T → List (Node T)
  with_item nodes ix item = update_at (λ node. record node { item = item }) nodes ix

  -- the parent, as the last of the spine, has this child link
  abbrev pub linked_from_parent : List (Node T) → Option ℕ → Option ℕ → List (Node T)
  linked_from_parent nodes None link = nodes
  linked_from_parent nodes (Some parent) link = with_child nodes parent link

  -- the focus has this next link, or with no focus the parent has this child link
  abbrev pub linked_from_focus : List (Node T) → Option ℕ → List ℕ → Option ℕ → List (Node T)
  linked_from_focus nodes (Some focus) spine link = with_next nodes focus link
  linked_from_focus nodes None spine link = linked_from_parent nodes (last spine) link

  -- the child link of the node at this index
  abbrev pub child_of : List (Node T) → ℕ → Option ℕ
  child_of nodes ix = option_and_then (λ node. node.child) (slice_get nodes ix)

  -- the next link of the node at this index
  abbrev pub next_of : List (Node T) → ℕ → Option ℕ
  next_of nodes ix = option_and_then (λ node. node.next) (slice_get nodes ix)

  -- the first node after the dummy, if there is one
  abbrev pub first_root : List (Node T) → Option ℕ
  first_root [] = None
  first_root (dummy ∷ []) = None
  first_root (dummy ∷ node ∷ nodes) = Some 1

  -- a tree of the dummy alone
  abbrev pub empty_tree : T → Linked T
  empty_tree item = record { nodes = isolated item ∷ []; spine = []; focus = None }

  -- an isolated node more
  abbrev pub with_node : Linked T → T → Linked T
  with_node t item = record t { nodes = t.nodes ++ isolated item ∷ [] }

  -- a node more, linked from the focus or the parent, and in focus
  abbrev pub after_append : Linked T → T → Linked T
  after_append t item = record {
    nodes = linked_from_focus (t.nodes ++ isolated item ∷ []) t.focus t.spine (Some (length t.nodes));
    spine = t.spine;
    focus = Some (length t.nodes);
  }

  -- this node goes on the spine, and its first child, if there is one, is in focus
  abbrev pub after_push : Linked T → ℕ → Linked T
  after_push t ix = record t { spine = t.spine ++ ix ∷ []; focus = child_of t.nodes ix }

  -- this parent, the last of the spine, leaves it and is in focus
  abbrev pub after_pop_to : Linked T → Option ℕ → Linked T
  after_pop_to t None = t
  after_pop_to t (Some parent) = record t { spine = but_last t.spine; focus = Some parent }

  abbrev pub after_pop : Linked T → Linked T
  after_pop t = after_pop_to t (last t.spine)

  -- as after `pop`, and without the last node and the child link of the parent
  abbrev pub removed_under : Linked T → Option ℕ → Linked T
  removed_under t None = t
  removed_under t (Some parent) = record {
    nodes = with_child (but_last t.nodes) parent None;
    spine = but_last t.spine;
    focus = Some parent;
  }

  abbrev pub removed : Linked T → Linked T
  removed t = removed_under t (last t.spine)

  -- under this parent, no other link leads to the last node, and the spine does not hold it
  pub record IsLastLinkedFromAlone (t : Linked T) (parent : ℕ) : Type 0 where
    pub as_child : (ix : ℕ) → ix ≢ parent → child_of t.nodes ix ≢ Some (length t.nodes - 1)
    pub as_next : (ix : ℕ) → next_of t.nodes ix ≢ Some (length t.nodes - 1)
    pub on_spine : All (λ ix. ix ≢ length t.nodes - 1) t.spine

  -- focus on the first node, if there is one, and an empty spine
  abbrev pub after_reset : Linked T → Linked T
  after_reset t = record t { spine = []; focus = first_root t.nodes }

  -- this node loses its next link, which the focus or the parent takes
  abbrev pub truncated_to_parent : Linked T → ℕ → Linked T
  truncated_to_parent t ix = record {
    nodes = linked_from_focus (with_next t.nodes ix None) t.focus t.spine (next_of t.nodes ix);
    spine = t.spine;
    focus = link_or_focus (next_of t.nodes ix) t.focus;
  }

  module _ (is_clone : T → T → Type 0) where
    -- a node with the same links, and a clone of the item
    pub record IsNodeClone (node copy : Node T) : Type 0 where
      pub child : copy.child ≡ node.child
      pub next : copy.next ≡ node.next
      pub item : is_clone node.item copy.item

    -- a tree with clones of the nodes, and the same spine and focus, which equals the tree where a clone of an item equals the item
    pub record IsTreeClone (t copy : Linked T) : Type 0 where
      pub nodes : AllZip IsNodeClone t.nodes copy.nodes
      pub spine : copy.spine ≡ t.spine
      pub focus : copy.focus ≡ t.focus
      pub equal : ((item copy : T) → is_clone item copy → copy ≡ item) → copy ≡ t
