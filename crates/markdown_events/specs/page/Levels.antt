-- What is known of blocks where a page is read from its end. (CommonMark 0.31.2, section 5.3)
use Rattle.std.specs.Prelude.{ℕ, Bool, true, false, not, ◌&&◌, ◌||◌, ◌≡◌, List, [], ◌∷◌, ◌++◌, map, Option, Some, None, is_some, unwrap_or, if◌then◌else◌}
use Rattle.markdown_blocks.specs.declared.containers.Container.{Container}
use Rattle.markdown_blocks.specs.declared.containers.Container.TheVariants.{Item}
use Rattle.markdown_blocks.specs.events.Events.{Event, ends}
use Rattle.markdown_blocks.specs.blocks.Pages.{is_blank_kind}
use Rattle.markdown_blocks.specs.lists.Lists.{Nodes, nothing, leaf_then, container_then, flatten}
use Rattle.markdown_blocks.specs.lists.Lists.{begins_blank, children, are_parted, ends_blank, ends_blank_line}
use Rattle.markdown_events.specs.declared.page.levels.ContainerContent.{ContainerContent}
use Rattle.markdown_events.specs.declared.page.levels.ItemList.{ItemList}
use Rattle.markdown_events.specs.declared.page.levels.LastBlock.{LastBlock}
use Rattle.markdown_events.specs.declared.page.levels.Level.{Level}
use Rattle.markdown_events.specs.declared.page.spans.Span.{Span}
use Rattle.markdown_events.specs.page.Spans.{first_offset, block_end, last_end, lines_end, container_end}
use Rattle.markdown_events.specs.page.Spans.{is_parted, is_alike, front_list, spans}

-- ---- all blocks in a container

abbrev pub content_of : Nodes → ContainerContent
content_of nodes = record {
  to = last_end (first_offset nodes) nodes;
  lines_to = lines_end 0 nodes;
  is_parted = is_parted nodes;
  ends_blank = ends_blank false (children true 0 0 nodes);
}

-- the container is followed by a blank line, or ends with one
abbrev pub is_followed : Container → Nodes → Nodes → Bool
is_followed container inner later = ends_blank_line container (children true 0 0 inner) || begins_blank later

-- ---- the last blocks in a container, of which none is the first

-- the last of blocks before which another block or a blank line stands
abbrev pub last_with : Bool → Option LastBlock → LastBlock → Option LastBlock
last_with true last before = last
last_with false last before = Some (unwrap_or last before)

abbrev pub last_of : Nodes → Option LastBlock
last_of nothing = None
last_of (leaf_then block later) =
    last_with (is_blank_kind block.kind) (last_of later) (record { to = block_end block; is_blank = begins_blank later })
last_of (container_then container offset inner later) =
    last_with false (last_of later) (record { to = container_end container inner; is_blank = is_followed container inner later })

abbrev pub begins_blank_twice : Nodes → Bool
begins_blank_twice (leaf_then block later) = is_blank_kind block.kind && begins_blank later
begins_blank_twice nodes = false

abbrev pub level_of : Nodes → Level
level_of nodes = record {
  offset = first_offset nodes;
  lines_to = lines_end 0 nodes;
  last = last_of nodes;
  is_parted = are_parted (children false 0 0 nodes);
  begins_blank = begins_blank nodes;
  begins_blank_twice = begins_blank_twice nodes;
  list = front_list nodes;
}

-- ---- one more block

-- the container is one more item of the list before which it stands
abbrev pub goes_on : Container → Option ItemList → Bool
goes_on (Item item) list = is_alike item list
goes_on container list = false

-- blocks before which a block begins here, one more item of their list or not, that begins this list or none
abbrev pub with_block : ℕ → LastBlock → Bool → Option ItemList → Level → Level
with_block offset block more list later = record {
  offset = offset;
  lines_to = later.lines_to;
  last = Some (unwrap_or later.last block);
  is_parted = (is_some later.last && (block.is_blank && not more)) || later.is_parted;
  begins_blank = false;
  begins_blank_twice = false;
  list = list;
}

-- blocks before which a block ends here, blank or not
abbrev pub ended_at : ℕ → Level → Level
ended_at to later = record later { lines_to = if later.begins_blank || is_some later.last then later.lines_to else to }

-- ---- a page that is read from its end

-- the events of the blocks of containers of which some have not begun: those of the innermost, and after its end those of the others
abbrev pub flatten_open : Nodes → List Nodes → List Event
flatten_open nodes [] = flatten nodes
flatten_open nodes (later ∷ outer) = flatten nodes ++ ends ∷ flatten_open later outer

abbrev pub spans_open : Nodes → List Nodes → List Span
spans_open nodes [] = spans nodes
spans_open nodes (later ∷ outer) = spans nodes ++ spans_open later outer

-- what is known of the blocks, innermost first, and the spans of the containers that have begun
pub record Known : Type 0 where
  pub levels : List Level
  pub spans : List Span

-- This is known where these events are read.
abbrev pub IsKnownOf : List Event → Known → Type 0
IsKnownOf events known = (nodes : Nodes) → (outer : List Nodes) → events ≡ flatten_open nodes outer
    → (known.levels ≡ map level_of (nodes ∷ outer)) × (known.spans ≡ spans_open nodes outer)
