-- Each list of the page is one that blocks begin with: the one that begins with its first item.
use Rattle.std.proofs.Common.{ℕ, suc, Bool, true, false, not, ◌&&◌, List, [], ◌∷◌, ◌++◌, Option, Some, None, ◌≡◌, ◌⊎◌, inl, inr, if◌then◌else◌}
use Rattle.std.proofs.Common.{refl, sym, ap, subst, arith, ◌∙◌, append_assoc}
use Rattle.std.proofs.lemmas.List.{append-nil}
use Rattle.std.proofs.lemmas.List.Elements.{Contains-append_cases, Contains-push_cases}
use Rattle.std.specs.List.{Contains}
use Rattle.std.specs.Option.{option_to_list}
use Rattle.markdown_blocks.specs.declared.containers.Container.{Container}
use Rattle.markdown_blocks.specs.declared.containers.Container.TheVariants.{Item}
use Rattle.markdown_blocks.specs.declared.containers.ListItem.{ListItem}
use Rattle.markdown_blocks.specs.declared.lists.ListBlock.{ListBlock}
use Rattle.markdown_blocks.specs.events.Events.{LeafBlock}
use Rattle.markdown_blocks.specs.laws.Order.{HoldSome}
use Rattle.markdown_blocks.specs.blocks.Pages.{is_blank_kind}
use Rattle.markdown_blocks.specs.lists.Lists.{Nodes, nothing, leaf_then, container_then, begins_blank, lines_passed}
use Rattle.markdown_blocks.specs.lists.Lists.{Child, leaf_child, container_child, child_unless, children, are_alike, are_loose, goes_on}
use Rattle.markdown_blocks.specs.lists.Lists.{last_end, list_of, lists_among, lists_of}
use Rattle.markdown_events.specs.declared.page.levels.ItemList.{ItemList}
use Rattle.markdown_events.specs.page.Spans.{is_set_off, list_with, front_list}
use Rattle.markdown_events.specs.page.ListEnds.{EndAlike, IsLeafOf}
use Rattle.markdown_events.proofs.page.FrontLists.{item_is_loose}
use Rattle.markdown_events.proofs.page.ListEnds.{item_ends_alike}
use Rattle.markdown_events.proofs.page.ListRuns.{alike_is, delimiter_with, is_of, line_after, run_of}

-- The nodes, before which so many lines of the page stand, begin with a list that begins at the line where this one does, has its bullet or
-- delimiter, is loose or tight as it is, and ends with the same leaf block, where each container holds something.
abbrev pub BeginWith : Nodes → ℕ → ListBlock → Type 0
BeginWith nodes line block = (list : ItemList) × (front_list nodes ≡ Some list) × (block.line ≡ line)
    × (block.delimiter ≡ list.delimiter) × (block.is_loose ≡ list.is_loose) × (HoldSome nodes → EndAlike (IsLeafOf nodes) list.to block.end)

-- so do those from one of the containers on, among the nodes or in them
abbrev pub BeginsIn : ListBlock → ℕ → Nodes → Type 0
BeginsIn block line nothing = ⊥
BeginsIn block line (leaf_then leaf later) = BeginsIn block (line_after leaf) later
BeginsIn block line (container_then c offset inner later) =
    BeginWith (container_then c offset inner later) line block
    ⊎ (BeginsIn block line inner ⊎ BeginsIn block (lines_passed line inner) later)

-- ---- the items of a list

-- those of blocks that go on with the list of these items
abbrev more_of : List Child → List Child → List Child
more_of items [] = []
more_of items (child ∷ later) = if goes_on items child then child ∷ more_of items later else []

none_more : (later : List Child) → more_of [] later ≡ []
none_more [] = refl
none_more (child ∷ later) = refl

more_with : (items : List Child) (child : Child) → goes_on items child ≡ true → (later : List Child)
    → more_of (items ++ child ∷ []) later ≡ more_of items later
more_with [] child on later = cc
more_with (first ∷ more) child on [] = refl
more_with (first ∷ more) child on (next ∷ later) =
    ap (λ ms. if goes_on (first ∷ more) next then next ∷ ms else []) (more_with (first ∷ more) child on later)

-- those that go on with the list of an item are its run
run_is : (item : ListItem) (first : Child) → first.container ≡ Some (Item item) → (later : List Child)
    → more_of (first ∷ []) later ≡ run_of item.delimiter later
run_is item first is [] = refl
run_is item first is (child ∷ later) =
    ap (λ q. if q then child ∷ more_of (first ∷ []) later else []) (ap (λ c. are_alike c child.container) is ∙ alike_is item child.container)
    ∙ ap (λ more. if is_of item.delimiter child.container then child ∷ more else []) (run_is item first is later)

-- ---- one more block

-- the list is that of these items and of those that go on with it, or else this holds
abbrev IsTheirs : ℕ → List Child → List Child → ListBlock → Type 0 → Type 0
IsTheirs depth items later block P = (list_of depth (items ++ more_of items later) ≡ Some block) ⊎ P

of_option : (list : Option ListBlock) (block : ListBlock) → Contains (option_to_list list) block → list ≡ Some block
of_option None block there = absurd (omega (arith, there.1))
of_option (Some list) block there = elim (Contains-push_cases [] list block there) [
  | inl none ↦ absurd (omega (arith, none.1))
  | inr is ↦ ap Some is
]

module _ (depth : ℕ) (block : ListBlock) (P : Type 0) (child : Child) (later : List Child) (in_child : Contains child.inside block → P)
    (after : (items : List Child) → Contains (lists_among depth items later) block → IsTheirs depth items later block P)
    (with_child : list_of depth (child ∷ more_of (child ∷ []) later) ≡ Some block → P) where
  theirs_with : (items : List Child) → Contains (lists_among depth items (child ∷ later)) block → IsTheirs depth items (child ∷ later) block P
  theirs_with items there = by_case (goes_on items child) refl there
    where
      ended : Bool → List ListBlock
      ended q = if q then [] else option_to_list (list_of depth items)

      by_case : (q : Bool) → goes_on items child ≡ q
          → Contains ((if q then [] else option_to_list (list_of depth items)) ++ child.inside
          ++ lists_among depth (if q then items ++ child ∷ [] else child ∷ []) later) block
          → (list_of depth (items ++ (if q then child ∷ more_of items later else [])) ≡ Some block) ⊎ P
      by_case true on found = elim (Contains-append_cases ([] ++ child.inside) (lists_among depth (items ++ child ∷ []) later) block found) [
        | inl inside ↦ inr (in_child inside)
        | inr rest ↦ elim (after (items ++ child ∷ []) rest) [
          | inl is ↦ inl (ap (λ more. list_of depth (items ++ child ∷ more)) (sym (more_with items child on later))
              ∙ ap (list_of depth) (sym (append_assoc items (child ∷ []) (more_of (items ++ child ∷ []) later))) ∙ is)
          | inr holds ↦ inr holds
        ]
      ]
      by_case false on found =
          elim (Contains-append_cases (option_to_list (list_of depth items) ++ child.inside) (lists_among depth (child ∷ []) later) block found) [
            | inl before ↦ elim (Contains-append_cases (option_to_list (list_of depth items)) child.inside block before) [
              | inl here ↦ inl (ap (list_of depth) (append-nil items) ∙ of_option (list_of depth items) block here)
              | inr inside ↦ inr (in_child inside)
            ]
            | inr rest ↦ elim (after (child ∷ []) rest) [
              | inl is ↦ inr (with_child is)
              | inr holds ↦ inr holds
            ]
          ]

-- ---- nodes

abbrev AreTheirs : Nodes → Type 0
AreTheirs nodes = (is_first : Bool) (depth line : ℕ) (block : ListBlock) (items : List Child)
    → Contains (lists_among depth items (children is_first depth line nodes)) block
    → IsTheirs depth items (children is_first depth line nodes) block (BeginsIn block line nodes)

theirs_with_leaf : (leaf : LeafBlock) (later : Nodes) → AreTheirs later → AreTheirs (leaf_then leaf later)
theirs_with_leaf leaf later theirs is_first depth line block = by_skip (is_blank_kind leaf.kind && not is_first)
  where
    blocks : List Child
    blocks = children false depth (line_after leaf) later

    by_skip : (skip : Bool) (items : List Child)
        → Contains (lists_among depth items (child_unless skip (leaf_child leaf line (begins_blank later)) (children false depth (line_after leaf) later))) block
        → IsTheirs depth items (child_unless skip (leaf_child leaf line (begins_blank later)) (children false depth (line_after leaf) later)) block
        (BeginsIn block (line_after leaf) later)
    by_skip true items there = theirs false depth (line_after leaf) block items there
    by_skip false items there =
        theirs_with depth block (BeginsIn block (line_after leaf) later) (leaf_child leaf line (begins_blank later))
        (children false depth (line_after leaf) later)
        (λ inside. absurd (omega (arith, inside.1)))
        (theirs false depth (line_after leaf) block)
        (λ is. absurd (cc)) items there

-- the list that begins with a container
begins_with : (c : Container) (offset : ℕ) (inner later : Nodes) (depth line : ℕ) (block : ListBlock)
    → (let passed = lines_passed line inner in
    let first = container_child c (suc depth) line passed (begins_blank later) (children true (suc depth) line inner) in
    list_of depth (first ∷ more_of (first ∷ []) (children false depth passed later))) ≡ Some block
    → BeginWith (container_then c offset inner later) line block
begins_with (Item item) offset inner later depth line block is =
    let passed = lines_passed line inner in
    let first = container_child (Item item) (suc depth) line passed (begins_blank later) (children true (suc depth) line inner) in
    let others = children false depth passed later in
    let got : (b : ListBlock) → ◌≡◌ {A = Option ListBlock} (Some b) (Some block) → b ≡ block = λ b same. cc in
    let same = got _ is in (
      list_with item inner (is_set_off item inner later) (front_list later),
      refl,
      sym (ap (λ (b : ListBlock). b.line) same),
      sym (ap (λ (b : ListBlock). b.delimiter) same) ∙ sym (delimiter_with item inner (is_set_off item inner later) (front_list later)),
      sym (ap (λ (b : ListBlock). b.is_loose) same)
          ∙ ap (λ more. are_loose (first ∷ more)) (run_is item first refl others)
          ∙ item_is_loose item inner later depth line,
      λ some.
          subst (EndAlike (IsLeafOf (container_then (Item item) offset inner later))
          (list_with item inner (is_set_off item inner later) (front_list later)).to)
          (ap (last_end first.end) (sym (run_is item first refl others)) ∙ ap (λ (b : ListBlock). b.end) same)
          (item_ends_alike item offset inner later depth line some),
    )
begins_with c offset inner later depth line block is = absurd (cc)

theirs_with_container : (c : Container) (offset : ℕ) (inner later : Nodes) → AreTheirs inner → AreTheirs later
    → AreTheirs (container_then c offset inner later)
theirs_with_container c offset inner later theirs_inner theirs is_first depth line block items there =
    let passed = lines_passed line inner in
    let content = children true (suc depth) line inner in
    theirs_with depth block (BeginsIn block line (container_then c offset inner later))
    (container_child c (suc depth) line passed (begins_blank later) content) (children false depth passed later)
    (λ inside. elim (theirs_inner true (suc depth) line block [] inside) [
      | inl is ↦ (let none : ◌≡◌ {A = Option ListBlock} None (Some block) = ap (list_of (suc depth)) (sym (none_more content)) ∙ is in absurd (cc))
      | inr holds ↦ inr (inl holds)
    ])
    (λ next found. elim (theirs false depth passed block next found) [
      | inl is ↦ inl is
      | inr holds ↦ inr (inr (inr holds))
    ])
    (λ is. inl (begins_with c offset inner later depth line block is)) items there

are_theirs : (nodes : Nodes) → AreTheirs nodes
are_theirs nothing = λ is_first depth line block items there.
    inl (ap (list_of depth) (append-nil items) ∙ of_option (list_of depth items) block there)
are_theirs (leaf_then leaf later) = theirs_with_leaf leaf later (are_theirs later)
are_theirs (container_then c offset inner later) = theirs_with_container c offset inner later (are_theirs inner) (are_theirs later)

-- Where a list of the page begins, there blocks begin with a list of its bullet or delimiter, which is loose or tight as it is, and ends with
-- the same leaf block.
pub listed_is_front_list : (nodes : Nodes) (block : ListBlock) → Contains (lists_of nodes) block → BeginsIn block 0 nodes
listed_is_front_list nodes block there = elim (are_theirs nodes true 0 0 block [] there) [
  | inl is ↦ (let none : ◌≡◌ {A = Option ListBlock} None (Some block) = ap (list_of 0) (sym (none_more (children true 0 0 nodes))) ∙ is in absurd (cc))
  | inr holds ↦ holds
]
