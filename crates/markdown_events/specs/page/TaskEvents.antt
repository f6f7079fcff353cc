-- The events of a block that may begin with a task list marker. (GitHub Flavored Markdown 0.29, section 5.3, task list items)
use Rattle.std.specs.Prelude.{ℕ, ◌+◌, ◌≡◌, Bool, true, List, ◌∷◌, drop, map, Option, Some, None}
use Rattle.std.specs.List.{prefix_len}
use Rattle.markdown_values.specs.values.Events.{task_list_marker}
use Rattle.markdown_scanners_tree.specs.Bytes.{is_white_space}
use Rattle.markdown_blocks.specs.content.Content.{Placed}
use Rattle.markdown_blocks.specs.declared.containers.Container.{Container}
use Rattle.markdown_blocks.specs.declared.first_blocks.Task.{Task}
use Rattle.markdown_blocks.specs.events.Events.{LeafBlock}
use Rattle.markdown_blocks.specs.first_blocks.Tasks.{task_in}
use Rattle.markdown_events.specs.InlineEvents.{RangedEvent, ranged, AreInlineEvents, EventSetting}
use Rattle.markdown_events.specs.page.LeafEvents.{Place, AreLeafEvents, IsContentOf, in_paragraph, placed}

-- The task list marker that a block begins with, where they are asked for and the block is the first of this container: "a task list
-- item is a list item where the first block in it is a paragraph which begins with a task list item marker".
abbrev pub task_here : Bool → Option Container → LeafBlock → Option Task
task_here true (Some container) block = task_in container block.kind block
task_here asked waiting block = None

-- a content after so many bytes
abbrev pub after : ℕ → Placed → Placed
after count content = record { text = drop count content.text; offsets = drop count content.offsets; is_lent = content.is_lent }

-- how many bytes of a text are its marker, which has so many, and "at least one whitespace character before any other content"
abbrev pub marker_end : ℕ → List ℕ → ℕ
marker_end len text = len + prefix_len is_white_space (drop len text)

abbrev pub after_marker : Task → Placed → Placed
after_marker task content = after (marker_end task.len content.text) content

-- where a marker stands in the page
abbrev pub marker_event : Task → RangedEvent
marker_event task = ranged (task_list_marker task.is_checked) task.offset (task.offset + task.len)

-- These are the events of a paragraph with this marker: the marker, and the inlines of the rest of its content.
pub record AreTaskEvents (page : List ℕ) (setting : EventSetting) (here : Place) (block : LeafBlock) (task : Task) (events : List RangedEvent) : Type 0 where
  pub content : Placed
  pub inlines : List RangedEvent
  pub is_content : IsContentOf page here block content
  pub are_inlines : AreInlineEvents (after_marker task content).text setting inlines
  pub are_events : events
      ≡ in_paragraph here.is_tight block (marker_event task ∷ map (placed block.start (after_marker task content).offsets) inlines)

-- the events of a leaf block, which begins with this marker or with none
abbrev pub AreEventsWith : Option Task → List ℕ → EventSetting → Place → LeafBlock → List RangedEvent → Type 0
AreEventsWith (Some task) page setting here block events = AreTaskEvents page setting here block task events
AreEventsWith None page setting here block events = AreLeafEvents page setting here block events

-- These are the events of a leaf block, which is the first of this container or of none.
abbrev pub AreBlockEvents : List ℕ → EventSetting → Place → Option Container → LeafBlock → List RangedEvent → Type 0
AreBlockEvents page setting here waiting block events =
    AreEventsWith (task_here setting.asked.tasks waiting block) page setting here block events
