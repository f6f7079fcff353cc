-- What is known of blocks, where one more is read before them.
use Rattle.std.proofs.Common.{ℕ, suc, Bool, true, false, not, ◌&&◌, ◌||◌, ◌==◌, List, [], ◌∷◌, Option, Some, None, ◌≡◌, if◌then◌else◌}
use Rattle.std.proofs.Common.{refl, sym, ap, ◌∙◌}
use Rattle.std.proofs.lemmas.Bool.{eqb-true}
use Rattle.std.specs.Prelude.{is_some, unwrap_or}
use Rattle.markdown_blocks.specs.declared.containers.Container.{Container}
use Rattle.markdown_blocks.specs.declared.containers.Container.TheVariants.{Quote, Item}
use Rattle.markdown_blocks.specs.declared.containers.ListItem.{ListItem}
use Rattle.markdown_blocks.specs.events.Events.{LeafBlock}
use Rattle.markdown_blocks.specs.blocks.Pages.{is_blank_kind}
use Rattle.markdown_blocks.specs.lists.Lists.{Nodes, nothing, leaf_then, container_then, begins_blank, next_line, lines_passed}
use Rattle.markdown_blocks.specs.lists.Lists.{Child, leaf_child, container_child, child_unless, children, are_alike, are_parted, ends_blank, ends_blank_line}
use Rattle.markdown_events.specs.declared.page.levels.ContainerContent.{ContainerContent}
use Rattle.markdown_events.specs.declared.page.levels.ItemList.{ItemList}
use Rattle.markdown_events.specs.declared.page.levels.LastBlock.{LastBlock}
use Rattle.markdown_events.specs.declared.page.levels.Level.{Level}
use Rattle.markdown_events.specs.declared.page.spans.Span.{Span}
use Rattle.markdown_events.specs.page.Levels.{content_of, is_followed, last_with, last_of, begins_blank_twice, level_of, goes_on, with_block, ended_at}
use Rattle.markdown_events.specs.page.Spans.{first_offset, block_end, last_end, lines_end, end_of, container_end}
use Rattle.markdown_events.specs.page.Spans.{is_parted, is_set_off, is_alike, list_alone, list_with, front_list, span_of}

-- ---- the last of the blocks

-- a leaf block as the last one
abbrev leaf_alone : LeafBlock → Nodes → LastBlock
leaf_alone block later = record { to = block_end block; is_blank = begins_blank later }

abbrev pub last_or : ℕ → Bool → Option LastBlock → LastBlock
last_or to blank last = unwrap_or last (record { to = to; is_blank = blank })

-- the end of blocks is that of the last
abbrev EndsThere : Nodes → Type 0
EndsThere nodes = (to : ℕ) (blank : Bool) → last_end to nodes ≡ (last_or to blank (last_of nodes)).to

end_with_leaf : (block : LeafBlock) (later : Nodes) → EndsThere later → EndsThere (leaf_then block later)
end_with_leaf block later there to blank = by_kind (is_blank_kind block.kind)
  where
    by_kind : (k : Bool) → last_end (if k then to else block_end block) later
        ≡ (last_or to blank (last_with k (last_of later) (leaf_alone block later))).to
    by_kind true = there to blank
    by_kind false = there (block_end block) (begins_blank later)

end_is : (nodes : Nodes) → EndsThere nodes
end_is nothing = λ to blank. refl
end_is (leaf_then block later) = end_with_leaf block later (end_is later)
end_is (container_then c offset inner later) = λ to blank. end_is later (container_end c inner) (is_followed c inner later)

-- and so is that of their lines
lines_are : (nodes : Nodes) (to : ℕ) → (if begins_blank nodes || is_some (last_of nodes) then lines_end 0 nodes else to) ≡ lines_end to nodes
lines_are nothing to = refl
lines_are (leaf_then block later) to = by_kind (is_blank_kind block.kind)
  where
    by_kind : (k : Bool) → (if k || is_some (last_with k (last_of later) (leaf_alone block later)) then lines_end (block_end block) later else to)
        ≡ lines_end (block_end block) later
    by_kind true = refl
    by_kind false = refl
lines_are (container_then c offset inner later) to = refl

-- whether a blank line follows the last, or ends it, whatever lines stand before
abbrev pub AreMarked : Nodes → Type 0
AreMarked nodes = ((depth line to : ℕ) (blank : Bool) → ends_blank blank (children false depth line nodes) ≡ (last_or to blank (last_of nodes)).is_blank)
    × ((depth line to : ℕ) → ends_blank false (children true depth line nodes) ≡ (last_or to (begins_blank_twice nodes) (last_of nodes)).is_blank)

pub same_followed : (c : Container) (depth line : ℕ) (inner later : Nodes) → AreMarked inner
    → (ends_blank_line c (children true depth line inner) || begins_blank later) ≡ is_followed c inner later
same_followed Quote depth line inner later marked = refl
same_followed c depth line inner later marked =
    ap (λ b. b || begins_blank later) (marked.1 depth line 0 ∙ sym (marked.1 0 0 0))

module _ (block : LeafBlock) (later : Nodes) (marked : AreMarked later) where
  marked_with_leaf : AreMarked (leaf_then block later)
  marked_with_leaf = (
    λ depth line to blank. by_kind depth line to blank (is_blank_kind block.kind),
    λ depth line to. by_kind_first depth line to (is_blank_kind block.kind),
  )
    where
      by_kind : (depth line to : ℕ) (blank k : Bool)
          → ends_blank blank (child_unless (k && not false) (leaf_child block line (begins_blank later)) (children false depth (next_line block) later))
          ≡ (last_or to blank (last_with k (last_of later) (leaf_alone block later))).is_blank
      by_kind depth line to blank true = marked.0 depth (next_line block) to blank
      by_kind depth line to blank false = marked.0 depth (next_line block) (block_end block) (begins_blank later)

      by_kind_first : (depth line to : ℕ) (k : Bool)
          → ends_blank false (child_unless (k && not true) (leaf_child block line (begins_blank later)) (children false depth (next_line block) later))
          ≡ (last_or to (k && begins_blank later) (last_with k (last_of later) (leaf_alone block later))).is_blank
      by_kind_first depth line to true = marked.0 depth (next_line block) to (begins_blank later)
      by_kind_first depth line to false = marked.0 depth (next_line block) (block_end block) (begins_blank later)

marked_with_container : (c : Container) (offset : ℕ) (inner later : Nodes) → AreMarked inner → AreMarked later
    → AreMarked (container_then c offset inner later)
marked_with_container c offset inner later marked_inner marked = (λ depth line to blank. here depth line, λ depth line to. here depth line)
  where
    here : (depth line : ℕ)
        → ends_blank (ends_blank_line c (children true (suc depth) line inner) || begins_blank later)
        (children false depth (lines_passed line inner) later)
        ≡ (last_or (container_end c inner) (is_followed c inner later) (last_of later)).is_blank
    here depth line =
        ap (λ b. ends_blank b (children false depth (lines_passed line inner) later)) (same_followed c (suc depth) line inner later marked_inner)
        ∙ marked.0 depth (lines_passed line inner) (container_end c inner) (is_followed c inner later)

pub are_marked : (nodes : Nodes) → AreMarked nodes
are_marked nothing = (λ depth line to blank. refl, λ depth line to. refl)
are_marked (leaf_then block later) = marked_with_leaf block later (are_marked later)
are_marked (container_then c offset inner later) = marked_with_container c offset inner later (are_marked inner) (are_marked later)

-- ---- blocks that follow each other

abbrev has_any : List Child → Bool
has_any [] = false
has_any (child ∷ later) = true

-- the first of the blocks is alike
abbrev alike_first : Option Container → List Child → Bool
alike_first container [] = false
alike_first container (next ∷ later) = are_alike container next.container

one_parted : (child : Child) (later : List Child)
    → are_parted (child ∷ later) ≡ ((has_any later && (child.is_blank && not (alike_first child.container later))) || are_parted later)
one_parted child [] = refl
one_parted child (next ∷ later) = refl

no_block_is_alike : (later : List Child) → alike_first None later ≡ false
no_block_is_alike [] = refl
no_block_is_alike (next ∷ later) = refl

abbrev HasLast : Nodes → Type 0
HasLast nodes = (depth line : ℕ) → has_any (children false depth line nodes) ≡ is_some (last_of nodes)

any_with_leaf : (block : LeafBlock) (later : Nodes) → HasLast later → HasLast (leaf_then block later)
any_with_leaf block later has depth line = by_kind (is_blank_kind block.kind)
  where
    by_kind : (k : Bool)
        → has_any (child_unless (k && not false) (leaf_child block line (begins_blank later)) (children false depth (next_line block) later))
        ≡ is_some (last_with k (last_of later) (leaf_alone block later))
    by_kind true = has depth (next_line block)
    by_kind false = refl

any_is_last : (nodes : Nodes) → HasLast nodes
any_is_last nothing = λ depth line. refl
any_is_last (leaf_then block later) = any_with_leaf block later (any_is_last later)
any_is_last (container_then c offset inner later) = λ depth line. refl

-- no block is alike to a container that is no item
abbrev is_item : Container → Bool
is_item (Item i) = true
is_item c = false

none_is_alike : (c : Container) (later : List Child) → is_item c ≡ false → alike_first (Some c) later ≡ false
none_is_alike (Item i) later no_item = absurd (cc)
none_is_alike c [] no_item = refl
none_is_alike c (next ∷ later) no_item = refl

-- an item is alike to the first block where it is one more item of the list that the blocks begin with
abbrev IsAlikeFirst : ListItem → Nodes → Type 0
IsAlikeFirst i nodes = (depth line : ℕ) → alike_first (Some (Item i)) (children false depth line nodes) ≡ is_alike i (front_list nodes)

alike_with_leaf : (i : ListItem) (block : LeafBlock) (later : Nodes) → IsAlikeFirst i later → IsAlikeFirst i (leaf_then block later)
alike_with_leaf i block later alike depth line = by_kind (is_blank_kind block.kind)
  where
    by_kind : (k : Bool)
        → alike_first (Some (Item i))
        (child_unless (k && not false) (leaf_child block line (begins_blank later)) (children false depth (next_line block) later))
        ≡ is_alike i (if k then front_list later else None)
    by_kind true = alike depth (next_line block)
    by_kind false = refl

-- the list of an item has its bullet or delimiter
pub list_of_item : (i other : ListItem) (inner : Nodes) (set_off : Bool) (list : Option ItemList)
    → is_alike i (Some (list_with other inner set_off list)) ≡ (i.delimiter == other.delimiter)
list_of_item i other inner set_off None = refl
list_of_item i other inner set_off (Some list) = by_case (other.delimiter == list.delimiter) refl
  where
    by_case : (q : Bool) → (other.delimiter == list.delimiter) ≡ q
        → (i.delimiter == (if q then record list { is_loose = list.is_loose || (is_parted inner || set_off) } else list_alone other inner).delimiter)
        ≡ (i.delimiter == other.delimiter)
    by_case true is = ap (λ d. i.delimiter == d) (sym (eqb-true other.delimiter list.delimiter is))
    by_case false is = refl

item_is_on : (i : ListItem) (nodes : Nodes) → IsAlikeFirst i nodes
item_is_on i nothing = λ depth line. refl
item_is_on i (leaf_then block later) = alike_with_leaf i block later (item_is_on i later)
item_is_on i (container_then (Item other) offset inner later) =
    λ depth line. sym (list_of_item i other inner (is_set_off other inner later) (front_list later))
item_is_on i (container_then c offset inner later) = λ depth line. refl

alike_is_on : (c : Container) (nodes : Nodes) (depth line : ℕ) → alike_first (Some c) (children false depth line nodes) ≡ goes_on c (front_list nodes)
alike_is_on (Item i) nodes depth line = item_is_on i nodes depth line
alike_is_on c nodes depth line = none_is_alike c (children false depth line nodes) refl

-- ---- what parts them

-- a blank line stands between these and the block before them
abbrev is_parting : Bool → Bool → Nodes → Bool
is_parting blank more later = is_some (last_of later) && (blank && not more)

abbrev parted_leaf : Bool → Nodes → Bool → Bool
parted_leaf true later parted = parted
parted_leaf false later parted = is_parting (begins_blank later) false later || parted

-- a blank line stands between two of them
abbrev pub parted_of : Nodes → Bool
parted_of nothing = false
parted_of (leaf_then block later) = parted_leaf (is_blank_kind block.kind) later (parted_of later)
parted_of (container_then c offset inner later) =
    is_parting (is_followed c inner later) (goes_on c (front_list later)) later || parted_of later

abbrev IsParted : Nodes → Type 0
IsParted nodes = (depth line : ℕ) → are_parted (children false depth line nodes) ≡ parted_of nodes

-- what stands before the last of them
parted_with : (child : Child) (later : Nodes) → IsParted later → (depth line : ℕ) (blank more : Bool) → child.is_blank ≡ blank
    → alike_first child.container (children false depth line later) ≡ more
    → are_parted (child ∷ children false depth line later) ≡ (is_parting blank more later || parted_of later)
parted_with child later parted depth line blank more is_blank is_more =
    let blocks = children false depth line later in
    one_parted child blocks
    ∙ ap (λ m. (has_any blocks && (child.is_blank && not m)) || are_parted blocks) is_more
    ∙ ap (λ b. (has_any blocks && (b && not more)) || are_parted blocks) is_blank
    ∙ ap (λ any. (any && (blank && not more)) || are_parted blocks) (any_is_last later depth line)
    ∙ ap (λ p. is_parting blank more later || p) (parted depth line)

parted_with_leaf : (block : LeafBlock) (later : Nodes) → IsParted later → (depth line before : ℕ)
    → are_parted (leaf_child block before (begins_blank later) ∷ children false depth line later)
    ≡ (is_parting (begins_blank later) false later || parted_of later)
parted_with_leaf block later parted depth line before =
    parted_with (leaf_child block before (begins_blank later)) later parted depth line (begins_blank later) false refl
    (no_block_is_alike (children false depth line later))

parted_leaf_is : (block : LeafBlock) (later : Nodes) → IsParted later → IsParted (leaf_then block later)
parted_leaf_is block later parted depth line = by_kind (is_blank_kind block.kind)
  where
    by_kind : (k : Bool)
        → are_parted (child_unless (k && not false) (leaf_child block line (begins_blank later)) (children false depth (next_line block) later))
        ≡ parted_leaf k later (parted_of later)
    by_kind true = parted depth (next_line block)
    by_kind false = parted_with_leaf block later parted depth (next_line block) line

parted_is : (nodes : Nodes) → IsParted nodes
parted_is nothing = λ depth line. refl
parted_is (leaf_then block later) = parted_leaf_is block later (parted_is later)
parted_is (container_then c offset inner later) = λ depth line.
    parted_with
    (container_child c (suc depth) line (lines_passed line inner) (begins_blank later) (children true (suc depth) line inner))
    later (parted_is later) depth (lines_passed line inner) (is_followed c inner later) (goes_on c (front_list later))
    (same_followed c (suc depth) line inner later (are_marked inner))
    (alike_is_on c later depth (lines_passed line inner))

-- ---- all blocks in a container

-- the same where the first of them may be blank
abbrev pub whole_parted_of : Nodes → Bool
whole_parted_of nodes = (is_some (last_of nodes) && begins_blank_twice nodes) || parted_of nodes

whole_parted_leaf : (block : LeafBlock) (later : Nodes) (depth line : ℕ)
    → are_parted (children true depth line (leaf_then block later)) ≡ whole_parted_of (leaf_then block later)
whole_parted_leaf block later depth line = by_kind (is_blank_kind block.kind)
  where
    and_true : (b : Bool) → (b && true) ≡ b
    and_true true = refl
    and_true false = refl

    here : are_parted (leaf_child block line (begins_blank later) ∷ children false depth (next_line block) later)
        ≡ (is_parting (begins_blank later) false later || parted_of later)
    here = parted_with_leaf block later (parted_is later) depth (next_line block) line

    by_kind : (k : Bool)
        → are_parted (child_unless (k && not true) (leaf_child block line (begins_blank later)) (children false depth (next_line block) later))
        ≡ ((is_some (last_with k (last_of later) (leaf_alone block later)) && (k && begins_blank later)) || parted_leaf k later (parted_of later))
    by_kind true = here ∙ ap (λ b. (is_some (last_of later) && b) || parted_of later) (and_true (begins_blank later))
    by_kind false = here

pub whole_parted_is : (nodes : Nodes) (depth line : ℕ) → are_parted (children true depth line nodes) ≡ whole_parted_of nodes
whole_parted_is nothing depth line = refl
whole_parted_is (leaf_then block later) depth line = whole_parted_leaf block later depth line
whole_parted_is (container_then c offset inner later) depth line = parted_is (container_then c offset inner later) depth line

pub parted_known : (level : Level) (nodes : Nodes) → level ≡ level_of nodes
    → ((is_some level.last && level.begins_blank_twice) || level.is_parted) ≡ is_parted nodes
parted_known level nodes same =
    ap (λ l. (is_some l.last && l.begins_blank_twice) || l.is_parted) same
    ∙ ap (λ p. (is_some (last_of nodes) && begins_blank_twice nodes) || p) (parted_is nodes 0 0)
    ∙ sym (whole_parted_is nodes 0 0)

pub content_known : (level : Level) (nodes : Nodes) → level ≡ level_of nodes → (last : LastBlock)
    → last ≡ last_or level.offset level.begins_blank_twice level.last → (parted : Bool) → parted ≡ is_parted nodes
    → ◌≡◌ {A = ContainerContent} (record { to = last.to; lines_to = level.lines_to; is_parted = parted; ends_blank = last.is_blank }) (content_of nodes)
content_known level nodes same last is_last parted parts =
    let content : ℕ → Bool → Bool → ContainerContent = λ to parted blank.
    record { to = to; lines_to = lines_end 0 nodes; is_parted = parted; ends_blank = blank } in
    let known : Level → LastBlock = λ l. last_or l.offset l.begins_blank_twice l.last in
    ap (λ (l : Level). record { to = last.to; lines_to = l.lines_to; is_parted = parted; ends_blank = last.is_blank }) same
    ∙ ap (λ l. content l.to parted l.is_blank) (is_last ∙ ap known same)
    ∙ ap (λ p. content (known (level_of nodes)).to p (known (level_of nodes)).is_blank) parts
    ∙ ap (λ to. content to (is_parted nodes) (known (level_of nodes)).is_blank) (sym (end_is nodes (first_offset nodes) (begins_blank_twice nodes)))
    ∙ ap (content (last_end (first_offset nodes) nodes) (is_parted nodes)) (sym ((are_marked nodes).1 0 0 (first_offset nodes)))

-- ---- one more block

abbrev parted_of_all : Nodes → Bool
parted_of_all nodes = are_parted (children false 0 0 nodes)

abbrev pub leaf_level : Bool → LeafBlock → Level → Level
leaf_level true block later =
    record (ended_at (block_end block) later) { offset = block.offset; begins_blank = true; begins_blank_twice = later.begins_blank }
leaf_level false block later =
    with_block block.offset (record { to = block_end block; is_blank = later.begins_blank }) false None (ended_at (block_end block) later)

pub level_with_leaf : (block : LeafBlock) (later : Nodes)
    → leaf_level (is_blank_kind block.kind) block (level_of later) ≡ level_of (leaf_then block later)
level_with_leaf block later = by_kind (is_blank_kind block.kind)
  where
    known : ℕ → Bool → Bool → Level
    known lines k parted = record {
      offset = block.offset;
      lines_to = lines;
      last = last_with k (last_of later) (leaf_alone block later);
      is_parted = parted;
      begins_blank = k;
      begins_blank_twice = k && begins_blank later;
      list = if k then front_list later else None;
    }

    by_kind : (k : Bool)
        → leaf_level k block (level_of later)
        ≡ known (lines_end (block_end block) later) k (are_parted (child_unless (k && not false) (leaf_child block 0 (begins_blank later)) (children false 0 (next_line block) later)))
    by_kind true = ap (λ n. known n true (parted_of_all later)) (lines_are later (block_end block))
        ∙ ap (known (lines_end (block_end block) later) true) (parted_is later 0 0 ∙ sym (parted_is later 0 (next_line block)))
    by_kind false = ap (λ n. known n false (is_parting (begins_blank later) false later || parted_of_all later)) (lines_are later (block_end block))
        ∙ ap (known (lines_end (block_end block) later) false) (ap (λ p. is_parting (begins_blank later) false later || p) (parted_is later 0 0)
        ∙ sym (parted_with_leaf block later (parted_is later) 0 (next_line block) 0))

pub level_with_container : (c : Container) (offset : ℕ) (inner later : Nodes)
    → with_block offset (record { to = container_end c inner; is_blank = is_followed c inner later }) (goes_on c (front_list later))
    (front_list (container_then c offset inner later)) (ended_at (lines_end 0 inner) (level_of later))
    ≡ level_of (container_then c offset inner later)
level_with_container c offset inner later =
    let level : ℕ → Bool → Level = λ lines parted. record {
      offset = offset;
      lines_to = lines;
      last = Some (last_or (container_end c inner) (is_followed c inner later) (last_of later));
      is_parted = parted;
      begins_blank = false;
      begins_blank_twice = false;
      list = front_list (container_then c offset inner later);
    } in
    ap (λ n. level n (is_parting (is_followed c inner later) (goes_on c (front_list later)) later || parted_of_all later))
    (lines_are later (lines_end 0 inner))
    ∙ ap (level (lines_end (lines_end 0 inner) later))
    (ap (λ p. is_parting (is_followed c inner later) (goes_on c (front_list later)) later || p) (parted_is later 0 0)
    ∙ sym (parted_is (container_then c offset inner later) 0 0))

pub level_known : (c : Container) (offset : ℕ) (content : ContainerContent) (level : Level) (inner later : Nodes) → content ≡ content_of inner
    → level ≡ level_of later → (blank : Bool) → blank ≡ is_followed c inner later → (more : Bool) → more ≡ goes_on c level.list
    → (list : Option ItemList) → list ≡ front_list (container_then c offset inner later)
    → (to : ℕ) → to ≡ end_of c content.lines_to content.to
    → with_block offset (record { to = to; is_blank = blank }) more list (ended_at content.lines_to level)
    ≡ level_of (container_then c offset inner later)
level_known c offset content level inner later same same_later blank is_blank more is_more list is_list to is_to =
    let front = front_list (container_then c offset inner later) in
    let followed = is_followed c inner later in
    let at : ContainerContent → LastBlock = λ all. record { to = end_of c all.lines_to all.to; is_blank = followed } in
    ap (λ n. with_block offset (record { to = n; is_blank = blank }) more list (ended_at content.lines_to level)) is_to
    ∙ ap (λ b. with_block offset (record { to = end_of c content.lines_to content.to; is_blank = b }) more list (ended_at content.lines_to level))
    is_blank
    ∙ ap (λ m. with_block offset (at content) m list (ended_at content.lines_to level)) is_more
    ∙ ap (λ l. with_block offset (at content) (goes_on c level.list) l (ended_at content.lines_to level)) is_list
    ∙ ap (λ all. with_block offset (at all) (goes_on c level.list) front (ended_at all.lines_to level)) same
    ∙ ap (λ known. with_block offset (at (content_of inner)) (goes_on c known.list) front (ended_at (lines_end 0 inner) known)) same_later
    ∙ level_with_container c offset inner later

-- ---- what a container spans

abbrev pub span_with : Option ItemList → ℕ → Bool → Span
span_with (Some list) to more = record { to = to; is_loose = list.is_loose; list_to = list.to; is_last = not more }
span_with None to more = record { to = to; is_loose = false; list_to = 0; is_last = false }

pub span_is : (c : Container) (offset : ℕ) (inner later : Nodes)
    → span_with (front_list (container_then c offset inner later)) (container_end c inner) (goes_on c (front_list later)) ≡ span_of c inner later
span_is (Item i) offset inner later = refl
span_is c offset inner later = refl

pub span_known : (c : Container) (content : ContainerContent) (level : Level) (inner later : Nodes) → content ≡ content_of inner → level ≡ level_of later
    → (list : Option ItemList) → list ≡ front_list (container_then c 0 inner later) → (more : Bool) → more ≡ goes_on c level.list
    → (to : ℕ) → to ≡ end_of c content.lines_to content.to → span_with list to more ≡ span_of c inner later
span_known c content level inner later same same_later list is_list more is_more to is_to =
    let front = front_list (container_then c 0 inner later) in
    ap (λ l. span_with l to more) is_list
    ∙ ap (span_with front to) is_more
    ∙ ap (λ n. span_with front n (goes_on c level.list)) (is_to ∙ ap (λ all. end_of c all.lines_to all.to) same)
    ∙ ap (λ known. span_with front (container_end c inner) (goes_on c known.list)) same_later
    ∙ span_is c 0 inner later
