-- Task list items. (GitHub Flavored Markdown 0.29, section 5.3)
use Rattle.std.specs.Prelude.{ℕ, Bool, false, not, ◌&&◌, ◌||◌, ◌==◌, List, ◌∷◌, ◌≡◌, Option, None, if◌then◌else◌}
use Rattle.std.specs.List.{filter_map}
use Rattle.std.specs.Option.{option_map}
use Rattle.markdown_scanners_tree.specs.Ascii.{space}
use Rattle.markdown_scanners_tree.specs.line.ItemRules.{start_of}
use Rattle.markdown_scanners_tree.specs.line.Outcome.{task_outcome}
use Rattle.markdown_blocks.specs.blank_lines.BlankLines.{is_blank}
use Rattle.markdown_blocks.specs.declared.blocks.BlockKind.{BlockKind}
use Rattle.markdown_blocks.specs.declared.blocks.BlockKind.TheVariants.{Paragraph}
use Rattle.markdown_values.specs.declared.values.extensions.Extensions.{Extensions}
use Rattle.markdown_blocks.specs.declared.containers.Container.{Container}
use Rattle.markdown_blocks.specs.declared.containers.Container.TheVariants.{Item}
use Rattle.markdown_blocks.specs.declared.first_blocks.Task.{Task}
use Rattle.markdown_blocks.specs.events.Events.{LeafBlock, IsEventsOf}
use Rattle.markdown_blocks.specs.first_blocks.FirstBlocks.{First, firsts_of}
use Rattle.markdown_blocks.specs.lists.Lists.{Nodes, flatten}

-- A space or the letter x stands in the brackets: "either a whitespace character or the letter x in either lowercase or uppercase". Where
-- cmark-gfm, GitHub's own, finds other white space there, it is text.
abbrev pub is_box : ℕ → Bool
is_box b = b == space || b == 120 || b == 88

-- The line goes on after the marker: "at least one whitespace character before any other content".
abbrev pub is_task_text : List ℕ → Bool
is_task_text (bracket ∷ box ∷ closing ∷ rest) = is_box box && not (is_blank rest)
is_task_text text = false

-- The marker that the scanner finds at the front of a block's text: whether it is checked, how many bytes of the page stand before the
-- text, and how many bytes of it are the marker.
abbrev pub scanned_task : LeafBlock → Option Task
scanned_task block =
    let found = task_outcome (start_of block.text) in
    option_map (λ checked. record { is_checked = checked; offset = block.offset; len = found.state.offset }) found.answer

-- the task list marker that a block's text begins with, where its line goes on after it
abbrev pub task_of : LeafBlock → Option Task
task_of block = if is_task_text block.text then scanned_task block else None

-- a task list item is a list item whose first block is a paragraph that begins with a task list marker
abbrev pub task_in : Container → BlockKind → LeafBlock → Option Task
task_in (Item item) Paragraph block = task_of block
task_in container kind block = None

abbrev pub task_at : First → Option Task
task_at first = task_in first.container first.block.kind first.block

-- the task list markers of a page, in order
abbrev pub tasks_of : Nodes → List Task
tasks_of nodes = filter_map task_at (firsts_of nodes)

abbrev pub AreTasksOf : Extensions → List ℕ → List Task → Type 0
AreTasksOf asked page tasks = (nodes : Nodes) × IsEventsOf asked page (flatten nodes) × (tasks ≡ tasks_of nodes)
