-- Where the containers of a page end, and the lists that their items are in. (CommonMark 0.31.2, chapter 5)
use Rattle.std.specs.Prelude.{ℕ, Bool, true, false, not, ◌||◌, ◌==◌, List, [], ◌∷◌, ◌++◌, Option, Some, None, if◌then◌else◌}
use Rattle.markdown_blocks.specs.declared.containers.Container.{Container}
use Rattle.markdown_blocks.specs.declared.containers.Container.TheVariants.{Quote, Item}
use Rattle.markdown_blocks.specs.declared.containers.ListItem.{ListItem}
pub use Rattle.markdown_blocks.specs.events.Events.{block_end}
use Rattle.markdown_blocks.specs.blocks.Pages.{is_blank_kind}
use Rattle.markdown_blocks.specs.lists.Lists.{Nodes, nothing, leaf_then, container_then, begins_blank, children, are_parted, ends_blank_line}
use Rattle.markdown_events.specs.declared.page.levels.ItemList.{ItemList}
use Rattle.markdown_events.specs.declared.page.spans.Span.{Span}

-- ---- where they end

-- how many stand before the first of the nodes
abbrev pub first_offset : Nodes → ℕ
first_offset nothing = 0
first_offset (leaf_then block later) = block.offset
first_offset (container_then container offset inner later) = offset

-- where the last of the blocks ends, blank lines too, if this is where the one before them does
abbrev pub lines_end : ℕ → Nodes → ℕ
lines_end end nothing = end
lines_end end (leaf_then block later) = lines_end (block_end block) later
lines_end end (container_then container offset inner later) = lines_end (lines_end 0 inner) later

-- To a block quote each of its lines belongs (5.1). Any other container ends with its last block that is not blank.
abbrev pub end_of : Container → ℕ → ℕ → ℕ
end_of Quote lines last = lines
end_of container lines last = last

-- Where the last of the blocks ends that is not blank, if this is where the one before them does. A container without such a block ends
-- where the rest of its line begins.
abbrev pub last_end : ℕ → Nodes → ℕ
last_end end nothing = end
last_end end (leaf_then block later) = last_end (if is_blank_kind block.kind then end else block_end block) later
last_end end (container_then container offset inner later) =
    last_end (end_of container (lines_end 0 inner) (last_end (first_offset inner) inner)) later

abbrev pub container_end : Container → Nodes → ℕ
container_end container inner = end_of container (lines_end 0 inner) (last_end (first_offset inner) inner)

-- ---- the lists of items (5.3)

-- a blank line stands between two of the blocks directly in a container
abbrev pub is_parted : Nodes → Bool
is_parted inner = are_parted (children true 0 0 inner)

-- an item is followed by a blank line, or ends with one
abbrev pub is_set_off : ListItem → Nodes → Nodes → Bool
is_set_off item inner later = ends_blank_line (Item item) (children true 0 0 inner) || begins_blank later

-- the list of this item alone
abbrev pub list_alone : ListItem → Nodes → ItemList
list_alone item inner = record {
  delimiter = item.delimiter;
  is_loose = is_parted inner;
  to = container_end (Item item) inner;
}

-- the item is one of the list before which it stands
abbrev pub is_alike : ListItem → Option ItemList → Bool
is_alike item None = false
is_alike item (Some list) = item.delimiter == list.delimiter

-- the list that begins with this item, set off from what follows or not, where that begins with this list
abbrev pub list_with : ListItem → Nodes → Bool → Option ItemList → ItemList
list_with item inner set_off None = list_alone item inner
list_with item inner set_off (Some list) =
    if item.delimiter == list.delimiter
    then record list { is_loose = list.is_loose || (is_parted inner || set_off) }
    else list_alone item inner

-- The list that nodes begin with, blank lines aside: items that follow each other, of one bullet or delimiter. It is one of the lists that
-- `Lists` has of the page, and each of those is such a list: `front_list_is_listed` and `listed_is_front_list`.
abbrev pub front_list : Nodes → Option ItemList
front_list nothing = None
front_list (leaf_then block later) = if is_blank_kind block.kind then front_list later else None
front_list (container_then (Item item) offset inner later) =
    Some (list_with item inner (is_set_off item inner later) (front_list later))
front_list (container_then container offset inner later) = None

-- ---- what is known of each container where it begins

-- Where the container ends. Of an item also whether the list of this item and those after it is loose, where that list ends, and
-- whether the item is its last.
abbrev pub item_span : ListItem → Nodes → Nodes → Span
item_span item inner later =
    let list = list_with item inner (is_set_off item inner later) (front_list later) in record {
      to = container_end (Item item) inner;
      is_loose = list.is_loose;
      list_to = list.to;
      is_last = not (is_alike item (front_list later));
    }

abbrev pub span_of : Container → Nodes → Nodes → Span
span_of (Item item) inner later = item_span item inner later
span_of container inner later = record { to = container_end container inner; is_loose = false; list_to = 0; is_last = false }

-- the spans of the containers among nodes and in them, in the order in which they begin
abbrev pub spans : Nodes → List Span
spans nothing = []
spans (leaf_then block later) = spans later
spans (container_then container offset inner later) = span_of container inner later ∷ spans inner ++ spans later
