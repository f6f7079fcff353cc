-- Children that are cut where their parent's text now ends.
use Rattle.std.specs.Prelude.{◌≡◌, ◌≢◌, ◌≤◌, ◌<◌, ℕ, ◌-◌, IsTrue, All, ◌==◌, nat_lt, Bool, if◌then◌else◌, List, [], ◌∷◌, ◌++◌, map, Option, Some, None, slice_get, option_map, option_and_then, IfSome}
use Rattle.markdown_values.specs.declared.tree.Node.{Node}
use Rattle.markdown_values.specs.tree.Linked.{Linked}
use Rattle.markdown_values.specs.tree.Tree.{last, child_of, with_next, with_item, linked_from_parent}

-- the range of a child, and whether a backslash escapes its first byte (CommonMark 0.31.2, section 2.4)
pub record Span : Type 0 where
  pub start : ℕ
  pub end : ℕ
  pub escaped : Bool

-- what is left of the first child that does not end before e, and of those after it, each with its node
abbrev pub cut : ℕ → ℕ × Span → List (ℕ × Span) → List (ℕ × Span)
cut e c later =
    if c.1.end == e then c ∷ []
    else if c.1.start == e then (if c.1.escaped then (c.0, record c.1 { start = e - 1; end = e }) ∷ later else [])
    else (c.0, record c.1 { end = e }) ∷ []

-- the children after a truncation at e: those that end before e stay, and the first other is cut, with what follows it
abbrev pub truncated : ℕ → List (ℕ × Span) → List (ℕ × Span)
truncated e [] = []
truncated e (c ∷ later) = if nat_lt c.1.end e then c ∷ truncated e later else cut e c later

-- the child that was cut, or where it was dropped the one before it
abbrev pub cut_focus : ℕ → Option ℕ → ℕ × Span → Option ℕ
cut_focus e previous c =
    if c.1.end == e then Some c.0
    else if c.1.start == e then (if c.1.escaped then Some c.0 else previous)
    else Some c.0

-- the focus after a truncation at e: where nothing changed, as it was
abbrev pub truncated_focus : ℕ → Option ℕ → Option ℕ → List (ℕ × Span) → Option ℕ
truncated_focus e focus previous [] = focus
truncated_focus e focus previous (c ∷ later) = if nat_lt c.1.end e then truncated_focus e focus (Some c.0) later else cut_focus e previous c

-- the first child that does not end before e, if there is one
abbrev pub first_other : ℕ → List (ℕ × Span) → Option Span
first_other e [] = None
first_other e (c ∷ later) = if nat_lt c.1.end e then first_other e later else Some c.1

-- what a truncation at e asks of that child
pub record CanCut (e : ℕ) (c : Span) : Type 0 where
  pub starts_before : c.end ≢ e → c.start ≤ e
  pub has_backslash : c.end ≢ e → c.start ≡ e → IsTrue c.escaped → 1 ≤ e

module _ {T : Type 0} where
  -- from this link on, the next links give these nodes, each with its index, and end
  abbrev pub IsChain : List (Node T) → Option ℕ → List (ℕ × Node T) → Type 0
  IsChain nodes link [] = link ≡ None
  IsChain nodes link (c ∷ later) = (link ≡ Some c.0) × (slice_get nodes c.0 ≡ Some c.1) × IsChain nodes c.1.next later

  -- the index of the last of a chain, if there is one
  abbrev pub last_index : List (ℕ × Node T) → Option ℕ
  last_index chain = option_map (λ c. c.0) (last chain)

  -- the link to the first sibling: the first child of the parent, which is the last of the spine
  abbrev pub first_sibling : Linked T → Option ℕ
  first_sibling t = option_and_then (child_of t.nodes) (last t.spine)

  -- the child before leads no further, or with none the parent to no child, and that child or none is in focus
  abbrev pub dropped_after : Linked T → Option ℕ → Option ℕ → Linked T
  dropped_after t parent None = record t { nodes = linked_from_parent t.nodes parent None; focus = None }
  dropped_after t parent (Some previous) = record t { nodes = with_next t.nodes previous None; focus = Some previous }

  module _ (span : T → Span) where
    abbrev pub EndsBefore : ℕ → ℕ × Node T → Type 0
    EndsBefore e c = (span c.1.item).end < e

    -- the chain from this link on, cut in two where the first child c does not end before e
    pub record IsFirstOther (e : ℕ) (nodes : List (Node T)) (link : Option ℕ) (kept : List (ℕ × Node T)) (c : ℕ × Node T) (later : List (ℕ × Node T)) : Type 0 where
      pub chain : IsChain nodes link (kept ++ c ∷ later)
      pub ends_before : All (EndsBefore e) kept
      pub ends_later : e ≤ (span c.1.item).end

    -- the chain from this link on, of which every child ends before e
    pub record AllEndBefore (e : ℕ) (nodes : List (Node T)) (link : Option ℕ) (children : List (ℕ × Node T)) : Type 0 where
      pub chain : IsChain nodes link children
      pub ends_before : All (EndsBefore e) children

    -- from this link on, the chain is of nodes with these indices and ranges
    abbrev pub HasRanges : List (Node T) → Option ℕ → List (ℕ × Span) → Type 0
    HasRanges nodes link spans = (chain : List (ℕ × Node T)) × IsChain nodes link chain × (map (λ c. (c.0, span c.1.item)) chain ≡ spans)

    -- the children of parent are these nodes, with these ranges
    abbrev pub HasChildren : Linked T → ℕ → List (ℕ × Span) → Type 0
    HasChildren t parent spans = HasRanges t.nodes (child_of t.nodes parent) spans

    -- the siblings are these nodes, with these ranges
    abbrev pub HasSiblings : Linked T → List (ℕ × Span) → Type 0
    HasSiblings t spans = HasRanges t.nodes (first_sibling t) spans

    -- the chain of the siblings ends, and the first of them that does not end before e can be cut
    abbrev pub CanTruncate : ℕ → Linked T → Type 0
    CanTruncate e t = (spans : List (ℕ × Span)) × HasSiblings t spans × IfSome (first_other e spans) (CanCut e)

    -- a search finds the first other child, and the child before it, or that every child ends before e
    abbrev pub FindsOther : ℕ → List (Node T) → Option ℕ → Option ℕ → Option ℕ → Type 0
    FindsOther e nodes link previous None = (children : List (ℕ × Node T)) × AllEndBefore e nodes link children
    FindsOther e nodes link previous (Some ix) =
        (kept : List (ℕ × Node T)) × (node : Node T) × (later : List (ℕ × Node T)) × IsFirstOther e nodes link kept
        (ix, node) later × (previous ≡ last_index kept)

    -- the tree after a truncation at e, where c is the first child of parent that does not end before e, and previous the one before it
    abbrev pub cut_tree : (T → ℕ → ℕ → T) → ℕ → Option ℕ → Option ℕ → ℕ × Node T → Linked T → Linked T
    cut_tree with_range e parent previous c t =
        let ix = c.0 in
        let item = c.1.item in
        let range = span item in
        if range.end == e then record t { nodes = with_next t.nodes ix None; focus = Some ix }
        else if range.start == e then (
        if range.escaped then record t { nodes = with_item t.nodes ix (with_range item (e - 1) e); focus = Some ix }
        else dropped_after t parent previous
        )
        else record t { nodes = with_next (with_item t.nodes ix (with_range item range.start e)) ix None; focus = Some ix }

    -- where there is a first other child, c, it is cut after those that are kept
    abbrev pub CutsFirstOther : (T → ℕ → ℕ → T) → ℕ → Linked T → Linked T → Type 0
    CutsFirstOther with_range e old new =
        (kept : List (ℕ × Node T)) (c : ℕ × Node T) (later : List (ℕ × Node T))
        → IsFirstOther e old.nodes (first_sibling old) kept c later
        → new ≡ cut_tree with_range e (last old.spine) (last_index kept) c old
