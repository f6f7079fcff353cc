-- Lists end with the same leaf block by the bytes of a page and by its lines.
use Rattle.std.proofs.Common.{ℕ, suc, Bool, true, false, not, ◌&&◌, ◌==◌, List, [], ◌∷◌, Option, Some, None, ◌≡◌, ◌≢◌, ◌⊎◌, inl, inr}
use Rattle.std.proofs.Common.{refl, sym, subst, ◌||◌, if◌then◌else◌}
use Rattle.std.proofs.lemmas.Bool.{eqb-true}
use Rattle.std.specs.Prelude.{⊤}
use Rattle.markdown_blocks.specs.blocks.Pages.{is_blank_kind}
use Rattle.markdown_blocks.specs.declared.containers.Container.{Container}
use Rattle.markdown_blocks.specs.declared.containers.Container.TheVariants.{Quote, Item, Footnote, TermDefinition}
use Rattle.markdown_blocks.specs.declared.containers.ListItem.{ListItem}
use Rattle.markdown_blocks.specs.events.Events.{LeafBlock, block_end}
use Rattle.markdown_blocks.specs.laws.Order.{HoldSome}
use Rattle.markdown_blocks.specs.lists.Lists.{Nodes, nothing, leaf_then, container_then, begins_blank, next_line, lines_passed}
use Rattle.markdown_blocks.specs.lists.Lists.{Child, leaf_child, container_child, child_unless, children}
use Rattle.markdown_blocks.specs.lists.Lists.{last_end as last_line, end_of as line_of}
use Rattle.markdown_events.specs.declared.page.levels.ItemList.{ItemList}
use Rattle.markdown_events.specs.page.ListEnds.{EndAlike, EndsAt, IsLeafOf}
use Rattle.markdown_events.specs.page.Spans.{container_end, end_of, first_offset, front_list, is_parted, is_set_off, last_end, lines_end, list_alone, list_with}
use Rattle.markdown_events.proofs.page.ListRuns.{delimiter_with, is_of, run_of}

-- ---- leaf blocks

-- each leaf block of the nodes is such a one
abbrev AreLeaves : (LeafBlock → Type 0) → Nodes → Type 0
AreLeaves P nothing = ⊤
AreLeaves P (leaf_then block later) = P block × AreLeaves P later
AreLeaves P (container_then c offset inner later) = AreLeaves P inner × AreLeaves P later

leaves_mapped : (P Q : LeafBlock → Type 0) → ((leaf : LeafBlock) → P leaf → Q leaf) → (nodes : Nodes) → AreLeaves P nodes → AreLeaves Q nodes
leaves_mapped P Q implies nothing are = tt
leaves_mapped P Q implies (leaf_then block later) are = (implies block are.0, leaves_mapped P Q implies later are.1)
leaves_mapped P Q implies (container_then c offset inner later) are =
    (leaves_mapped P Q implies inner are.0, leaves_mapped P Q implies later are.1)

own_leaves : (nodes : Nodes) → AreLeaves (IsLeafOf nodes) nodes
own_leaves nothing = tt
own_leaves (leaf_then block later) =
    (inl refl, leaves_mapped (IsLeafOf later) (IsLeafOf (leaf_then block later)) (λ leaf is. inr is) later (own_leaves later))
own_leaves (container_then c offset inner later) =
    let nodes = container_then c offset inner later in (
      leaves_mapped (IsLeafOf inner) (IsLeafOf nodes) (λ leaf is. inl is) inner (own_leaves inner),
      leaves_mapped (IsLeafOf later) (IsLeafOf nodes) (λ leaf is. inr is) later (own_leaves later),
    )

pub alike_mapped : (P Q : LeafBlock → Type 0) → ((leaf : LeafBlock) → P leaf → Q leaf) → (offset line : ℕ) → EndAlike P offset line → EndAlike Q offset line
alike_mapped P Q implies offset line (leaf, is, ends, lines) = (leaf, implies leaf is, ends, lines)

module _ (P : LeafBlock → Type 0) where
  after_leaf : (block : LeafBlock) → P block → EndAlike P (block_end block) (next_line block)
  after_leaf block is = (block, is, inl refl, refl)

  -- ---- the last line of nodes

  lines_alike : (nodes : Nodes) → AreLeaves P nodes → HoldSome nodes → (offset line : ℕ) → EndAlike P offset line ⊎ (nodes ≢ nothing)
      → EndAlike P (lines_end offset nodes) (lines_passed line nodes)
  lines_alike nothing are some offset line (inl alike) = alike
  lines_alike nothing are some offset line (inr any) = absurd (any refl)
  lines_alike (leaf_then block later) are some offset line begun =
      lines_alike later are.1 some (block_end block) (next_line block) (inl (after_leaf block are.0))
  lines_alike (container_then c offset inner later) are some from line begun =
      lines_alike later are.1 some.2 (lines_end 0 inner) (lines_passed line inner)
      (inl (lines_alike inner are.0 some.1 0 line (inr some.0)))

  -- ---- the last of them that is not blank

  -- Before nodes something ends alike; or, where they are what a container holds, there are some, and the first of them begins here.
  abbrev Begun : Bool → Nodes → ℕ → ℕ → Type 0
  Begun false nodes offset line = EndAlike P offset line
  Begun true nodes offset line = (nodes ≢ nothing) × (offset ≡ first_offset nodes)

  -- a container
  own_alike : (c : Container) (lines last passed content line : ℕ) → EndAlike P lines passed → EndAlike P last content
      → (held : List Child) → content ≡ last_line line held → EndAlike P (end_of c lines last) (line_of c line passed held)
  own_alike Quote lines last passed content line alike_lines alike held is = alike_lines
  own_alike (Item one) lines last passed content line alike_lines alike held is = subst (EndAlike P last) is alike
  own_alike Footnote lines last passed content line alike_lines alike held is = subst (EndAlike P last) is alike
  own_alike (TermDefinition one) lines last passed content line alike_lines alike held is = subst (EndAlike P last) is alike

  abbrev AreAlike : Nodes → Type 0
  AreAlike nodes = (is_first : Bool) (offset line depth start : ℕ) → Begun is_first nodes offset line
      → EndAlike P (last_end offset nodes) (last_line line (children is_first depth start nodes))

  module _ (block : LeafBlock) (later : Nodes) (is : P block) (alike : AreAlike later) where
    leaf_alike : AreAlike (leaf_then block later)
    leaf_alike is_first offset line depth start = by_kind (is_blank_kind block.kind) refl is_first
      where
        others : List Child
        others = children false depth (next_line block) later

        child : Child
        child = leaf_child block start (begins_blank later)

        by_kind : (k : Bool) → is_blank_kind block.kind ≡ k → (is_first : Bool) → Begun is_first (leaf_then block later) offset line
            → EndAlike P (last_end (if k then offset else block_end block) later)
            (last_line line (child_unless (k && not is_first) (leaf_child block start (begins_blank later)) (children false depth (next_line block) later)))
        by_kind true blank false begun = alike false offset line depth (next_line block) begun
        by_kind true blank true begun =
            alike false offset (next_line block) depth (next_line block) (block, is, inr (blank, begun.1), refl)
        by_kind false some is_first begun =
            alike false (block_end block) (next_line block) depth (next_line block) (after_leaf block is)

  container_alike : (c : Container) (inner : Nodes) → AreLeaves P inner → HoldSome inner → inner ≢ nothing → AreAlike inner → (depth start : ℕ)
      → EndAlike P (container_end c inner) (line_of c start (lines_passed start inner) (children true depth start inner))
  container_alike c inner are some any alike depth start =
      let held = children true depth start inner in
      own_alike c (lines_end 0 inner) (last_end (first_offset inner) inner) (lines_passed start inner) (last_line start held) start
      (lines_alike inner are some 0 start (inr any)) (alike true (first_offset inner) start depth start (any, refl)) held refl

  none_alike : AreAlike nothing
  none_alike false offset line depth start begun = begun
  none_alike true offset line depth start begun = absurd (begun.0 refl)

  pub ends_alike : (nodes : Nodes) → AreLeaves P nodes → HoldSome nodes → AreAlike nodes
  ends_alike nothing are some = none_alike
  ends_alike (leaf_then block later) are some = leaf_alike block later are.0 (ends_alike later are.1 some)
  ends_alike (container_then c offset inner later) are some = λ is_first from line depth start begun.
      ends_alike later are.1 some.2 false (container_end c inner) (line_of c start (lines_passed start inner) (children true (suc depth) start inner))
      depth (lines_passed start inner)
      (container_alike c inner are.0 some.1 some.0 (ends_alike inner are.0 some.1) (suc depth) start)

  -- ---- the items that go on with a list

  -- where the list of an item ends that ends here, before this list
  abbrev ends_with : ListItem → ℕ → Option ItemList → ℕ
  ends_with item offset None = offset
  ends_with item offset (Some list) = if item.delimiter == list.delimiter then list.to else offset

  list_to : (item : ListItem) (inner : Nodes) (set_off : Bool) (list : Option ItemList)
      → ends_with item (container_end (Item item) inner) list ≡ (list_with item inner set_off list).to
  list_to item inner set_off None = refl
  list_to item inner set_off (Some list) = by_case (item.delimiter == list.delimiter)
    where
      by_case : (q : Bool) → (if q then list.to else container_end (Item item) inner)
          ≡ (if q then record list { is_loose = list.is_loose || (is_parted inner || set_off) } else list_alone item inner).to
      by_case true = refl
      by_case false = refl

  abbrev IsRunAlike : Nodes → Type 0
  IsRunAlike nodes = (item : ListItem) (offset line depth start : ℕ) → EndAlike P offset line
      → EndAlike P (ends_with item offset (front_list nodes)) (last_line line (run_of item.delimiter (children false depth start nodes)))

  run_with_leaf : (block : LeafBlock) (later : Nodes) → IsRunAlike later → IsRunAlike (leaf_then block later)
  run_with_leaf block later alike item offset line depth start begun = by_kind (is_blank_kind block.kind)
    where
      by_kind : (k : Bool) → EndAlike P (ends_with item offset (if k then front_list later else None))
          (last_line line (run_of item.delimiter
          (child_unless (k && not false) (leaf_child block start (begins_blank later)) (children false depth (next_line block) later))))
      by_kind true = alike item offset line depth (next_line block) begun
      by_kind false = begun

  run_with_item : (other : ListItem) (from : ℕ) (inner later : Nodes) → AreLeaves P inner → HoldSome inner → inner ≢ nothing → IsRunAlike later
      → IsRunAlike (container_then (Item other) from inner later)
  run_with_item other from inner later are some any alike item offset line depth start begun =
      subst (λ d. EndAlike P (if item.delimiter == d then list.to else offset) ends)
      (sym (delimiter_with other inner set_off (front_list later)))
      (by_case (item.delimiter == other.delimiter) refl)
    where
      set_off : Bool
      set_off = is_set_off other inner later

      list : ItemList
      list = list_with other inner set_off (front_list later)

      passed : ℕ
      passed = lines_passed start inner

      next : Child
      next = container_child (Item other) (suc depth) start passed (begins_blank later) (children true (suc depth) start inner)

      ends : ℕ
      ends = last_line line (if item.delimiter == other.delimiter then next ∷ run_of item.delimiter (children false depth passed later) else [])

      with_next : EndAlike P list.to (last_line next.end (run_of other.delimiter (children false depth passed later)))
      with_next = subst (λ n. EndAlike P n (last_line next.end (run_of other.delimiter (children false depth passed later))))
          (list_to other inner set_off (front_list later))
          (alike other (container_end (Item other) inner) next.end depth passed
          (container_alike (Item other) inner are some any (ends_alike inner are some) (suc depth) start))

      by_case : (q : Bool) → (item.delimiter == other.delimiter) ≡ q
          → EndAlike P (if q then list.to else offset)
          (last_line line (if q then next ∷ run_of item.delimiter (children false depth passed later) else []))
      by_case true is = subst (λ d. EndAlike P list.to (last_line next.end (run_of d (children false depth passed later))))
          (sym (eqb-true item.delimiter other.delimiter is)) with_next
      by_case false is = begun

  run_alike : (nodes : Nodes) → AreLeaves P nodes → HoldSome nodes → IsRunAlike nodes
  run_alike nothing are some = λ item offset line depth start begun. begun
  run_alike (leaf_then block later) are some = run_with_leaf block later (run_alike later are.1 some)
  run_alike (container_then (Item other) from inner later) are some =
      run_with_item other from inner later are.0 some.1 some.0 (run_alike later are.1 some.2)
  run_alike (container_then c from inner later) are some = λ item offset line depth start begun. begun

-- The list of an item and of those that go on with it ends with one leaf block by its bytes and by its lines, where each container holds
-- something.
pub item_ends_alike : (item : ListItem) (offset : ℕ) (inner later : Nodes) (depth line : ℕ) → HoldSome (container_then (Item item) offset inner later)
    → (let passed = lines_passed line inner in
    let first = container_child (Item item) (suc depth) line passed (begins_blank later) (children true (suc depth) line inner) in
    EndAlike (IsLeafOf (container_then (Item item) offset inner later)) (list_with item inner (is_set_off item inner later) (front_list later)).to
    (last_line first.end (run_of item.delimiter (children false depth passed later))))
item_ends_alike item offset inner later depth line some =
    let nodes = container_then (Item item) offset inner later in
    let passed = lines_passed line inner in
    let first = container_child (Item item) (suc depth) line passed (begins_blank later) (children true (suc depth) line inner) in
    let are = own_leaves nodes in
    subst (λ n. EndAlike (IsLeafOf nodes) n (last_line first.end (run_of item.delimiter (children false depth passed later))))
    (list_to (IsLeafOf nodes) item inner (is_set_off item inner later) (front_list later))
    (run_alike (IsLeafOf nodes) later are.1 some.2 item (container_end (Item item) inner) first.end depth passed
    (container_alike (IsLeafOf nodes) (Item item) inner are.0 some.1 some.0 (ends_alike (IsLeafOf nodes) inner are.0 some.1) (suc depth) line))
