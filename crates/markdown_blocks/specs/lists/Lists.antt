-- The lists of a page. (CommonMark 0.31.2, section 5.3)
use Rattle.std.specs.Prelude.{ℕ, suc, ◌+◌, Bool, true, false, not, ◌&&◌, ◌||◌, ◌==◌, ◌≡◌, List, [], ◌∷◌, ◌++◌, Option, Some, None, if◌then◌else◌}
use Rattle.std.specs.Option.{option_to_list}
use Rattle.markdown_values.specs.declared.values.extensions.Extensions.{Extensions}
use Rattle.markdown_blocks.specs.declared.containers.Container.{Container}
use Rattle.markdown_blocks.specs.declared.containers.Container.TheVariants.{Quote, Item, Footnote, TermDefinition}
use Rattle.markdown_blocks.specs.blocks.Pages.{is_blank_kind}
use Rattle.markdown_blocks.specs.declared.lists.ListBlock.{ListBlock}
use Rattle.markdown_blocks.specs.events.Events.{Event, starts, leaf, ends, LeafBlock, IsEventsOf}

-- What stands in a container or in the page, in order: leaf blocks, and containers, with how many bytes of the page stand before
-- the marker, and with what stands in them.
pub data Nodes : Type 0 where
  nothing : Nodes
  leaf_then : LeafBlock → Nodes → Nodes
  container_then : Container → ℕ → Nodes → Nodes → Nodes

-- their events, in order
abbrev pub flatten : Nodes → List Event
flatten nothing = []
flatten (leaf_then block later) = leaf block ∷ flatten later
flatten (container_then container offset inner later) = starts container offset ∷ flatten inner ++ ends ∷ flatten later

-- how many lines of the page stand before what follows a leaf block, and before what follows nodes that so many stand before
abbrev pub next_line : LeafBlock → ℕ
next_line block = block.line + block.lines

abbrev pub lines_passed : ℕ → Nodes → ℕ
lines_passed line nothing = line
lines_passed line (leaf_then block later) = lines_passed (next_line block) later
lines_passed line (container_then container offset inner later) = lines_passed (lines_passed line inner) later

abbrev pub begins_blank : Nodes → Bool
begins_blank (leaf_then block later) = is_blank_kind block.kind
begins_blank nodes = false

-- A block in a container or in the page: the container that it is, if it is no leaf block; the lines before it, and those before
-- what follows its last; whether a blank line stands between two blocks directly in it; whether it is followed by a blank line,
-- or is an item or a definition that ends with one; and the lists in it.
pub record Child : Type 0 where
  pub container : Option Container
  pub line : ℕ
  pub end : ℕ
  pub is_parted : Bool
  pub is_blank : Bool
  pub inside : List ListBlock

-- the last of the blocks is followed by a blank line, or ends with one; and where it ends
abbrev pub ends_blank : Bool → List Child → Bool
ends_blank blank [] = blank
ends_blank blank (child ∷ later) = ends_blank child.is_blank later

abbrev pub last_end : ℕ → List Child → ℕ
last_end end [] = end
last_end end (child ∷ later) = last_end child.end later

-- both are items, of one bullet or delimiter
abbrev pub are_alike : Option Container → Option Container → Bool
are_alike (Some (Item one)) (Some (Item other)) = one.delimiter == other.delimiter
are_alike one other = false

-- a blank line stands between two of the blocks that follow each other and are in no list together
abbrev pub are_parted : List Child → Bool
are_parted (child ∷ next ∷ later) =
    (child.is_blank && not (are_alike child.container next.container)) || are_parted (next ∷ later)
are_parted others = false

-- A list is loose if a blank line stands between two of its items, or between two blocks directly in one of them.
abbrev pub are_loose : List Child → Bool
are_loose (item ∷ next ∷ later) = (item.is_parted || item.is_blank) || are_loose (next ∷ later)
are_loose (item ∷ []) = item.is_parted
are_loose [] = false

-- the list of these items, in so many containers: it starts as the first of them does
abbrev pub list_from : ℕ → Child → List Child → Option Container → Option ListBlock
list_from depth first more (Some (Item item)) = Some (record {
  delimiter = item.delimiter;
  is_loose = are_loose (first ∷ more);
  start = item.start;
  depth = depth;
  line = first.line;
  end = last_end first.end more;
})
list_from depth first more container = None

abbrev pub list_of : ℕ → List Child → Option ListBlock
list_of depth [] = None
list_of depth (first ∷ more) = list_from depth first more first.container

-- the block is one more item of their list
abbrev pub goes_on : List Child → Child → Bool
goes_on [] child = false
goes_on (first ∷ more) child = are_alike first.container child.container

-- The lists of blocks and in them, each where it ends, where these items stand before the blocks: items that follow each other,
-- of one bullet or delimiter, are a list.
abbrev pub lists_among : ℕ → List Child → List Child → List ListBlock
lists_among depth items [] = option_to_list (list_of depth items)
lists_among depth items (child ∷ later) =
    (if goes_on items child then [] else option_to_list (list_of depth items)) ++ child.inside
    ++ lists_among depth (if goes_on items child then items ++ child ∷ [] else child ∷ []) later

-- An item or a definition ends with its last block, and may end with a blank line; to a block quote each of its lines
-- belongs.
abbrev pub end_of : Container → ℕ → ℕ → List Child → ℕ
end_of Quote line passed content = passed
end_of (Item item) line passed content = last_end line content
end_of Footnote line passed content = last_end line content
end_of (TermDefinition definition) line passed content = last_end line content

abbrev pub ends_blank_line : Container → List Child → Bool
ends_blank_line Quote content = false
ends_blank_line (Item item) content = ends_blank false content
ends_blank_line Footnote content = ends_blank false content
ends_blank_line (TermDefinition definition) content = ends_blank false content

-- the child that is a leaf block, or that is a container with this content
abbrev pub leaf_child : LeafBlock → ℕ → Bool → Child
leaf_child block line blank = record {
  container = None;
  line = line;
  end = next_line block;
  is_parted = false;
  is_blank = blank;
  inside = [];
}

abbrev pub container_child : Container → ℕ → ℕ → ℕ → Bool → List Child → Child
container_child container depth line passed blank content = record {
  container = Some container;
  line = line;
  end = end_of container line passed content;
  is_parted = are_parted content;
  is_blank = ends_blank_line container content || blank;
  inside = lists_among depth [] content;
}

abbrev pub child_unless : Bool → Child → List Child → List Child
child_unless true child later = later
child_unless false child later = child ∷ later

-- The blocks in a container or in the page: in so many containers, with so many lines of the page before them. What stands first
-- may be blank: in an item or a definition it is the rest of the marker's line, and no blank line; else nothing stands
-- before it.
abbrev pub children : Bool → ℕ → ℕ → Nodes → List Child
children is_first depth line nothing = []
children is_first depth line (leaf_then block later) =
    child_unless (is_blank_kind block.kind && not is_first) (leaf_child block line (begins_blank later))
    (children false depth (next_line block) later)
children is_first depth line (container_then container offset inner later) =
    container_child container (suc depth) line (lines_passed line inner) (begins_blank later) (children true (suc depth) line inner)
    ∷ children false depth (lines_passed line inner) later

-- the lists of a page, each where it ends
abbrev pub lists_of : Nodes → List ListBlock
lists_of nodes = lists_among 0 [] (children true 0 0 nodes)

abbrev pub AreListsOf : Extensions → List ℕ → List ListBlock → Type 0
AreListsOf asked page lists = (nodes : Nodes) × IsEventsOf asked page (flatten nodes) × (lists ≡ lists_of nodes)
