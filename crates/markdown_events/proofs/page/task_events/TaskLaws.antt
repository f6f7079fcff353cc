-- The laws of leaf blocks hold where they may begin with a task list marker.
use Rattle.std.proofs.Common.{ℕ, List, ◌∷◌, ◌≡◌, ◌∙◌, Option, Some, None, ap, map, sym, subst}
use Rattle.markdown_blocks.proofs.ForCallers.{one_content}
use Rattle.markdown_blocks.specs.content.Content.{Placed}
use Rattle.markdown_blocks.specs.declared.containers.Container.{Container}
use Rattle.markdown_blocks.specs.declared.first_blocks.Task.{Task}
use Rattle.markdown_blocks.specs.events.Events.{LeafBlock}
use Rattle.markdown_events.specs.EventLaws.{AreBalanced}
use Rattle.markdown_events.specs.InlineEvents.{AreInlineEvents, EventSetting, RangedEvent}
use Rattle.markdown_events.specs.page.LeafEvents.{Place, in_paragraph}
use Rattle.markdown_events.specs.page.Places.{lines_in_page, placed}
use Rattle.markdown_events.specs.page.TaskEvents.{AreBlockEvents, AreEventsWith, AreTaskEvents, after_marker, marker_event, task_here}
use Rattle.markdown_events.proofs.inline_events.Unique.{one_list_of_inline_events}
use Rattle.markdown_events.proofs.page.NestLemmas.{Stand, alone_balance, inlines_stand}
use Rattle.markdown_events.proofs.page.leaf_events.BalanceLemmas.{leaf_events_stand, paragraph_stands}
use Rattle.markdown_events.proofs.page.leaf_events.OneLeaf.{one_list_of_leaf_events}

module _ (page : List ℕ) (setting : EventSetting) (here : Place) (block : LeafBlock) where
  one_task : (task : Task) (events events' : List RangedEvent) → AreTaskEvents page setting here block task events
      → AreTaskEvents page setting here block task events' → events ≡ events'
  one_task task events events' is is' =
      let shown = λ (c : Placed) (es : List RangedEvent). in_paragraph here.is_tight block
      (marker_event task ∷ map (placed block.start (after_marker task c).offsets) es) in
      let same = one_content block.kind here.containers here.kept (lines_in_page page block) is.content is'.content is.is_content is'.is_content in
      let inlines = one_list_of_inline_events (after_marker task is'.content).text setting is.inlines is'.inlines
      (subst (λ (c : Placed). AreInlineEvents (after_marker task c).text setting is.inlines) same is.are_inlines) is'.are_inlines in
      is.are_events ∙ (ap (λ (c : Placed). shown c is.inlines) same ∙ (ap (shown is'.content) inlines ∙ sym is'.are_events))

  one_with : (task : Option Task) (events events' : List RangedEvent) → AreEventsWith task page setting here block events
      → AreEventsWith task page setting here block events' → events ≡ events'
  one_with None events events' is is' = one_list_of_leaf_events page setting here block events events' is is'
  one_with (Some task) events events' is is' = one_task task events events' is is'

  task_stands : (task : Task) (events : List RangedEvent) → AreTaskEvents page setting here block task events → Stand events
  task_stands task events is =
      let left = after_marker task is.content in
      paragraph_stands page setting here block here.is_tight events (marker_event task ∷ map (placed block.start left.offsets) is.inlines)
      (λ elements rest outside. inlines_stand block.start left.offsets left.text setting is.inlines is.are_inlines elements rest) is.are_events

  stands_with : (task : Option Task) (events : List RangedEvent) → AreEventsWith task page setting here block events → Stand events
  stands_with None events is = leaf_events_stand page setting here block events is
  stands_with (Some task) events is = task_stands task events is

-- a leaf block of a page has one list of events where it stands
pub one_list_of_block_events : (page : List ℕ) (setting : EventSetting) (here : Place) (waiting : Option Container) (block : LeafBlock)
    → (events events' : List RangedEvent) → AreBlockEvents page setting here waiting block events
    → AreBlockEvents page setting here waiting block events' → events ≡ events'
one_list_of_block_events page setting here waiting block events events' is is' =
    one_with page setting here block (task_here setting.asked.tasks waiting block) events events' is is'

-- they stand outside of tables
pub block_events_stand : (page : List ℕ) (setting : EventSetting) (here : Place) (waiting : Option Container) (block : LeafBlock)
    → (events : List RangedEvent) → AreBlockEvents page setting here waiting block events → Stand events
block_events_stand page setting here waiting block events is =
    stands_with page setting here block (task_here setting.asked.tasks waiting block) events is

-- starts and ends balance
pub block_events_balance : (page : List ℕ) (setting : EventSetting) (here : Place) (waiting : Option Container) (block : LeafBlock)
    → (events : List RangedEvent) → AreBlockEvents page setting here waiting block events → AreBalanced events
block_events_balance page setting here waiting block events is =
    alone_balance events (block_events_stand page setting here waiting block events is)
