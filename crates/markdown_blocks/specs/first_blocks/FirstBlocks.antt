-- The leaf blocks of a page that are the first block of a container. (CommonMark 0.31.2, chapter 5)
use Rattle.std.specs.Prelude.{List, [], ◌++◌, Option, Some, None, if◌then◌else◌}
use Rattle.std.specs.Option.{option_to_list}
use Rattle.markdown_blocks.specs.declared.containers.Container.{Container}
use Rattle.markdown_blocks.specs.declared.first_blocks.FirstBlock.{FirstBlock}
use Rattle.markdown_blocks.specs.events.Events.{LeafBlock, seen_leaf}
use Rattle.markdown_blocks.specs.blocks.Pages.{is_blank_kind}
use Rattle.markdown_blocks.specs.lists.Lists.{Nodes, nothing, leaf_then, container_then}

-- a container, and the leaf block that is the first block in it
pub record First : Type 0 where
  pub container : Container
  pub block : LeafBlock

-- The first block of this container, in which these nodes stand, if it is a leaf block. Blank lines are no block.
abbrev pub first_in : Container → Nodes → Option First
first_in container nothing = None
first_in container (leaf_then block later) =
    if is_blank_kind block.kind then first_in container later else Some (record { container = container; block = block })
first_in container (container_then other offset inner later) = None

-- the first blocks of the containers among nodes and in them, in order
abbrev pub firsts_of : Nodes → List First
firsts_of nothing = []
firsts_of (leaf_then block later) = firsts_of later
firsts_of (container_then container offset inner later) =
    option_to_list (first_in container inner) ++ firsts_of inner ++ firsts_of later

-- what a first block of the library says
abbrev pub seen_first : FirstBlock → First
seen_first f = record { container = f.container; block = seen_leaf f.leaf }
