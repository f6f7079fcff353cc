-- The list that nodes begin with is a list of the page.
use Rattle.std.proofs.Common.{ℕ, suc, Bool, true, false, not, ◌&&◌, ◌||◌, ◌==◌, List, [], ◌∷◌, ◌++◌, Option, Some, None, ◌≡◌, inr, if◌then◌else◌}
use Rattle.std.proofs.Common.{refl, sym, ap, subst, arith, ◌∙◌, append_assoc}
use Rattle.std.proofs.lemmas.Bool.{eqb-true}
use Rattle.std.proofs.lemmas.List.{append-nil}
use Rattle.std.proofs.lemmas.List.Elements.{Contains-append_left, Contains-append_right}
use Rattle.std.specs.List.{Contains}
use Rattle.std.specs.Option.{option_to_list}
use Rattle.markdown_blocks.specs.declared.containers.Container.{Container}
use Rattle.markdown_blocks.specs.declared.containers.Container.TheVariants.{Item}
use Rattle.markdown_blocks.specs.declared.containers.ListItem.{ListItem}
use Rattle.markdown_blocks.specs.declared.lists.ListBlock.{ListBlock}
use Rattle.markdown_blocks.specs.events.Events.{LeafBlock}
use Rattle.markdown_blocks.specs.laws.Order.{HoldSome}
use Rattle.markdown_blocks.specs.blocks.Pages.{is_blank_kind}
use Rattle.markdown_blocks.specs.lists.Lists.{Nodes, nothing, leaf_then, container_then, begins_blank, next_line, lines_passed}
use Rattle.markdown_blocks.specs.lists.Lists.{Child, leaf_child, container_child, child_unless, children, are_alike, are_loose}
use Rattle.markdown_blocks.specs.lists.Lists.{last_end, list_of, goes_on, lists_among}
use Rattle.markdown_events.specs.declared.page.levels.ItemList.{ItemList}
use Rattle.markdown_events.specs.page.Spans.{is_parted, is_set_off, list_alone, list_with, front_list}
use Rattle.markdown_events.specs.page.ListEnds.{EndAlike, IsLeafOf}
use Rattle.markdown_events.proofs.page.LevelLemmas.{are_marked, same_followed, whole_parted_is}
use Rattle.markdown_events.proofs.page.ListEnds.{alike_mapped, item_ends_alike}
use Rattle.markdown_events.proofs.page.ListRuns.{alike_is, delimiter_with, is_of, line_after, run_of}

-- ---- the run is a list

module _ (depth : ℕ) (item : ListItem) (first : Child) (is_item : first.container ≡ Some (Item item)) where
  abbrev IsListedAfter : List Child → List Child → Type 0
  IsListedAfter items later = (block : ListBlock) → list_of depth (items ++ run_of item.delimiter later) ≡ Some block
      → Contains (lists_among depth items later) block

  goes_on_is : (more : List Child) (child : Child) → goes_on (first ∷ more) child ≡ is_of item.delimiter child.container
  goes_on_is more child = ap (λ c. are_alike c child.container) is_item ∙ alike_is item child.container

  option_holds : (list : Option ListBlock) (block : ListBlock) → list ≡ Some block → Contains (option_to_list list) block
  option_holds None block same = absurd (cc)
  option_holds (Some list) block same = let is : list ≡ block = cc in (0, omega arith, is)

  -- one more block
  listed_more : (child : Child) (later more : List Child) → IsListedAfter (first ∷ (more ++ child ∷ [])) later → IsListedAfter (first ∷ more) (child ∷ later)
  listed_more child later more longer block same =
      subst (λ q. Contains ((if q then [] else option_to_list (list_of depth (first ∷ more))) ++ child.inside
      ++ lists_among depth (if q then (first ∷ more) ++ child ∷ [] else child ∷ []) later) block)
      (sym (goes_on_is more child)) (by_case (is_of item.delimiter child.container) same)
    where
      by_case : (q : Bool) → list_of depth ((first ∷ more) ++ (if q then child ∷ run_of item.delimiter later else [])) ≡ Some block
          → Contains ((if q then [] else option_to_list (list_of depth (first ∷ more))) ++ child.inside
          ++ lists_among depth (if q then (first ∷ more) ++ child ∷ [] else child ∷ []) later) block
      by_case true is_list =
          Contains-append_right ([] ++ child.inside) (lists_among depth (first ∷ (more ++ child ∷ [])) later) block
          (longer block (ap (list_of depth) (append_assoc (first ∷ more) (child ∷ []) (run_of item.delimiter later)) ∙ is_list))
      by_case false is_list =
          Contains-append_left (option_to_list (list_of depth (first ∷ more)) ++ child.inside) (lists_among depth (child ∷ []) later) block
          (Contains-append_left (option_to_list (list_of depth (first ∷ more))) child.inside block
          (option_holds (list_of depth (first ∷ more)) block (ap (list_of depth) (sym (append-nil (first ∷ more))) ∙ is_list)))

  listed : (later more : List Child) → IsListedAfter (first ∷ more) later
  listed [] more = λ block same.
      option_holds (list_of depth (first ∷ more)) block (ap (list_of depth) (sym (append-nil (first ∷ more))) ∙ same)
  listed (child ∷ later) more = listed_more child later more (listed later (more ++ child ∷ []))

-- ---- whether it is loose

-- the list of an item, parted and followed by a blank line or not, that stands before this list
abbrev is_loose_before : ListItem → Bool → Bool → Option ItemList → Bool
is_loose_before item parted blank None = parted
is_loose_before item parted blank (Some list) = if item.delimiter == list.delimiter then list.is_loose || (parted || blank) else parted

loose_with : (item : ListItem) (inner : Nodes) (set_off : Bool) (list : Option ItemList)
    → (list_with item inner set_off list).is_loose ≡ is_loose_before item (is_parted inner) set_off list
loose_with item inner set_off None = refl
loose_with item inner set_off (Some list) = by_case (item.delimiter == list.delimiter)
  where
    by_case : (q : Bool)
        → (if q then record list { is_loose = list.is_loose || (is_parted inner || set_off) } else list_alone item inner).is_loose
        ≡ (if q then list.is_loose || (is_parted inner || set_off) else is_parted inner)
    by_case true = refl
    by_case false = refl

-- the run of an item is loose as the list of it is
abbrev IsLooseRun : Nodes → Type 0
IsLooseRun later = (item : ListItem) (child : Child) (depth line : ℕ)
    → are_loose (child ∷ run_of item.delimiter (children false depth line later))
    ≡ is_loose_before item child.is_parted child.is_blank (front_list later)

loose_leaf : (block : LeafBlock) (later : Nodes) → IsLooseRun later → IsLooseRun (leaf_then block later)
loose_leaf block later loose item child depth line = by_kind (is_blank_kind block.kind)
  where
    by_kind : (k : Bool)
        → are_loose (child ∷ run_of item.delimiter
        (child_unless (k && not false) (leaf_child block line (begins_blank later)) (children false depth (line_after block) later)))
        ≡ is_loose_before item child.is_parted child.is_blank (if k then front_list later else None)
    by_kind true = loose item child depth (line_after block)
    by_kind false = refl

or_comm : (a b : Bool) → (a || b) ≡ (b || a)
or_comm true true = refl
or_comm true false = refl
or_comm false true = refl
or_comm false false = refl

loose_item : (other : ListItem) (offset : ℕ) (inner later : Nodes) → IsLooseRun later → IsLooseRun (container_then (Item other) offset inner later)
loose_item other offset inner later loose item child depth line =
    let next = container_child (Item other) (suc depth) line (lines_passed line inner) (begins_blank later) (children true (suc depth) line inner) in
    let set_off = is_set_off other inner later in
    let list = list_with other inner set_off (front_list later) in
    let passed = lines_passed line inner in
    let test : (item.delimiter == list.delimiter) ≡ (item.delimiter == other.delimiter) =
    ap (λ d. item.delimiter == d) (delimiter_with other inner set_off (front_list later)) in
    let next_is : are_loose (next ∷ run_of other.delimiter (children false depth passed later)) ≡ list.is_loose =
    loose other next depth passed
    ∙ ap (λ p. is_loose_before other p next.is_blank (front_list later))
    (whole_parted_is inner (suc depth) line ∙ sym (whole_parted_is inner 0 0))
    ∙ ap (λ b. is_loose_before other (is_parted inner) b (front_list later))
    (same_followed (Item other) (suc depth) line inner later (are_marked inner))
    ∙ sym (loose_with other inner set_off (front_list later)) in
    by_case next list.is_loose passed next_is (item.delimiter == other.delimiter) refl
    ∙ ap (λ q. if q then list.is_loose || (child.is_parted || child.is_blank) else child.is_parted) (sym test)
  where
    by_case : (next : Child) (is_loose : Bool) (passed : ℕ)
        → are_loose (next ∷ run_of other.delimiter (children false depth passed later)) ≡ is_loose
        → (q : Bool) → (item.delimiter == other.delimiter) ≡ q
        → are_loose (child ∷ (if q then next ∷ run_of item.delimiter (children false depth passed later) else []))
        ≡ (if q then is_loose || (child.is_parted || child.is_blank) else child.is_parted)
    by_case next is_loose passed next_is true is =
        ap (λ d. (child.is_parted || child.is_blank) || are_loose (next ∷ run_of d (children false depth passed later)))
        (eqb-true item.delimiter other.delimiter is)
        ∙ ap (λ l. (child.is_parted || child.is_blank) || l) next_is
        ∙ or_comm (child.is_parted || child.is_blank) is_loose
    by_case next is_loose passed next_is false is = refl

loose_run : (nodes : Nodes) → IsLooseRun nodes
loose_run nothing = λ item child depth line. refl
loose_run (leaf_then block later) = loose_leaf block later (loose_run later)
loose_run (container_then (Item other) offset inner later) = loose_item other offset inner later (loose_run later)
loose_run (container_then c offset inner later) = λ item child depth line. refl

-- ---- the list that begins with an item

-- One of the lists of blocks in so many containers has the bullet or delimiter of this list, and is loose or tight as it is; and both end
-- with one leaf block, where each container among the nodes of which they are holds something.
abbrev pub IsListed : Nodes → ℕ → List Child → ItemList → Type 0
IsListed nodes depth blocks list = (block : ListBlock) × Contains (lists_among depth [] blocks) block × (block.delimiter ≡ list.delimiter)
    × (block.is_loose ≡ list.is_loose) × (HoldSome nodes → EndAlike (IsLeafOf nodes) list.to block.end)

-- so it is where another leaf block stands before them
listed_after_leaf : (block : LeafBlock) (nodes : Nodes) (depth : ℕ) (blocks : List Child) (list : ItemList) → IsListed nodes depth blocks list
    → IsListed (leaf_then block nodes) depth blocks list
listed_after_leaf block nodes depth blocks list (listed, there, of, loose, ends) = (
  listed,
  there,
  of,
  loose,
  λ some. alike_mapped (IsLeafOf nodes) (IsLeafOf (leaf_then block nodes)) (λ leaf is. inr is) list.to listed.end (ends some),
)

-- an item's run is loose as its list is
pub item_is_loose : (item : ListItem) (inner later : Nodes) (depth line : ℕ)
    → (let passed = lines_passed line inner in
    let first = container_child (Item item) (suc depth) line passed (begins_blank later) (children true (suc depth) line inner) in
    are_loose (first ∷ run_of item.delimiter (children false depth passed later)))
    ≡ (list_with item inner (is_set_off item inner later) (front_list later)).is_loose
item_is_loose item inner later depth line =
    let passed = lines_passed line inner in
    let first = container_child (Item item) (suc depth) line passed (begins_blank later) (children true (suc depth) line inner) in
    loose_run later item first depth passed
    ∙ ap (λ p. is_loose_before item p first.is_blank (front_list later))
    (whole_parted_is inner (suc depth) line ∙ sym (whole_parted_is inner 0 0))
    ∙ ap (λ b. is_loose_before item (is_parted inner) b (front_list later))
    (same_followed (Item item) (suc depth) line inner later (are_marked inner))
    ∙ sym (loose_with item inner (is_set_off item inner later) (front_list later))

item_is_listed : (item : ListItem) (offset : ℕ) (inner later : Nodes) (depth line : ℕ)
    → IsListed (container_then (Item item) offset inner later) depth (children false depth line (container_then (Item item) offset inner later))
    (list_with item inner (is_set_off item inner later) (front_list later))
item_is_listed item offset inner later depth line =
    let passed = lines_passed line inner in
    let first = container_child (Item item) (suc depth) line passed (begins_blank later) (children true (suc depth) line inner) in
    let others = children false depth passed later in
    let run = run_of item.delimiter others in
    let block : ListBlock = record {
      delimiter = item.delimiter;
      is_loose = are_loose (first ∷ run);
      start = item.start;
      depth = depth;
      line = line;
      end = last_end first.end run;
    } in (
      block,
      Contains-append_right ([] ++ first.inside) (lists_among depth (first ∷ []) others) block (listed depth item first refl others [] block refl),
      sym (delimiter_with item inner (is_set_off item inner later) (front_list later)),
      item_is_loose item inner later depth line,
      item_ends_alike item offset inner later depth line,
    )

-- a leaf block before them is in none of the lists
lists_after_leaf : (depth line : ℕ) (block : LeafBlock) (blank : Bool) (later : List Child)
    → lists_among depth [] (leaf_child block line blank ∷ later) ≡ lists_among depth [] later
lists_after_leaf depth line block blank [] = refl
lists_after_leaf depth line block blank (child ∷ later) = refl

abbrev IsFrontListed : Nodes → Type 0
IsFrontListed nodes = (list : ItemList) → front_list nodes ≡ Some list → (depth line : ℕ)
    → IsListed nodes depth (children false depth line nodes) list

front_after_leaf : (block : LeafBlock) (later : Nodes) → IsFrontListed later → IsFrontListed (leaf_then block later)
front_after_leaf block later listed_later list front depth line = by_kind (is_blank_kind block.kind) front
  where
    by_kind : (k : Bool) → ◌≡◌ {A = Option ItemList} (if k then front_list later else None) (Some list)
        → IsListed (leaf_then block later) depth
        (child_unless (k && not false) (leaf_child block line (begins_blank later)) (children false depth (line_after block) later)) list
    by_kind true is =
        listed_after_leaf block later depth (children false depth (line_after block) later) list (listed_later list is depth (line_after block))
    by_kind false is = absurd (cc)

front_is_listed : (nodes : Nodes) → IsFrontListed nodes
front_is_listed nothing = λ list front depth line. absurd (cc)
front_is_listed (leaf_then block later) = front_after_leaf block later (front_is_listed later)
front_is_listed (container_then (Item item) offset inner later) = λ list front depth line.
    let is : list_with item inner (is_set_off item inner later) (front_list later) ≡ list = cc in
    subst (IsListed (container_then (Item item) offset inner later) depth (children false depth line (container_then (Item item) offset inner later))) is
    (item_is_listed item offset inner later depth line)
front_is_listed (container_then c offset inner later) = λ list front depth line. absurd (cc)

-- The list that the blocks of a container or of the page begin with, blank lines aside, is one of their lists.
pub front_list_is_listed : (nodes : Nodes) (list : ItemList) → front_list nodes ≡ Some list → (is_first : Bool) (depth line : ℕ)
    → IsListed nodes depth (children is_first depth line nodes) list
front_list_is_listed nodes list front false depth line = front_is_listed nodes list front depth line
front_list_is_listed nothing list front true depth line = absurd (cc)
front_list_is_listed (container_then c offset inner later) list front true depth line =
    front_is_listed (container_then c offset inner later) list front depth line
front_list_is_listed (leaf_then block later) list front true depth line = by_kind (is_blank_kind block.kind) front
  where
    by_kind : (k : Bool) → ◌≡◌ {A = Option ItemList} (if k then front_list later else None) (Some list)
        → IsListed (leaf_then block later) depth
        (child_unless (k && not true) (leaf_child block line (begins_blank later)) (children false depth (line_after block) later)) list
    by_kind false is = absurd (cc)
    by_kind true is =
        let blocks = children false depth (line_after block) later in
        let nodes = leaf_then block later in
        subst (λ lists. (found : ListBlock) × Contains lists found × (found.delimiter ≡ list.delimiter) × (found.is_loose ≡ list.is_loose)
        × (HoldSome nodes → EndAlike (IsLeafOf nodes) list.to found.end))
        (sym (lists_after_leaf depth line block (begins_blank later) blocks))
        (listed_after_leaf block later depth blocks list (front_is_listed later list is depth (line_after block)))
