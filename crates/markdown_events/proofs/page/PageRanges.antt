-- The ranges of the events of a page rise, and what an element holds lies within its range.
use Rattle.std.proofs.Common.{ℕ, suc, ◌≤◌, ◌≡◌, ◌≢◌, Bool, List, [], ◌∷◌, ◌++◌, None, length, refl, arith}
use Rattle.markdown_blocks.specs.byte_order_mark.ByteOrderMark.{text_start}
use Rattle.markdown_blocks.specs.containers.Containers.{past_first_line}
use Rattle.markdown_blocks.specs.declared.blocks.BlockKind.{BlockKind}
use Rattle.markdown_blocks.specs.declared.blocks.BlockKind.TheVariants.{Blank, Break, Heading, Setext, Indented, Fenced, Html, Paragraph, Definition, Table}
use Rattle.markdown_blocks.specs.declared.containers.Container.{Container}
use Rattle.markdown_blocks.specs.events.Events.{IsEventsOf, LeafBlock}
use Rattle.markdown_blocks.specs.laws.Order.{ContentsStand, HoldSome, HoldsContent, HoldsText, NodesStand, content_from, passed_after}
use Rattle.markdown_blocks.specs.link_definitions.LinkDefinitions.{first_of}
use Rattle.markdown_blocks.specs.lists.Lists.{Nodes, nothing, leaf_then, container_then, flatten}
use Rattle.markdown_blocks.proofs.ForCallers.{HasInlines, containers_hold_some, content_sizes, page_contents_stand, page_nodes_stand}
use Rattle.markdown_events.specs.EventLaws.{AreWithin}
use Rattle.markdown_events.specs.InlineEvents.{EventSetting, RangedEvent}
use Rattle.markdown_events.specs.Targets.{Targets, or_else}
use Rattle.markdown_values.specs.declared.values.extensions.Extensions.{Extensions}
use Rattle.markdown_events.specs.page.LeafEvents.{Place}
use Rattle.markdown_events.specs.page.PageEvents.{AreNodeEvents, ArePageEvents, ArePageEventsWith, event_setting, outermost}
use Rattle.markdown_events.specs.page.Settings.{built}
use Rattle.markdown_events.specs.page.Places.{lines_in_page}
use Rattle.markdown_events.specs.page.References.{page_room}
use Rattle.markdown_events.specs.page.Spans.{block_end}
use Rattle.markdown_events.proofs.page.NodeRanges.{AreSome, LeafRises, Stand, page_events_rise}
use Rattle.markdown_events.proofs.page.leaf_events.LineRanges.{ContentAfter}
use Rattle.markdown_events.proofs.page.task_events.TaskRanges.{block_rises}

-- ---- contents

-- a content begins after what has passed, and that of inlines with the text
from_passed : (kind : BlockKind) (passed offset : ℕ) → passed ≤ offset → passed ≤ content_from kind passed offset
from_passed Indented passed offset low = omega arith
from_passed (Html kind) passed offset low = omega arith
from_passed Blank passed offset low = low
from_passed Break passed offset low = low
from_passed (Heading level) passed offset low = low
from_passed (Setext level) passed offset low = low
from_passed (Fenced count byte) passed offset low = low
from_passed (Table columns) passed offset low = low
from_passed Definition passed offset low = low
from_passed Paragraph passed offset low = low

from_text : (kind : BlockKind) (passed offset : ℕ) → HasInlines kind → content_from kind passed offset ≡ offset
from_text (Heading level) passed offset has = refl
from_text (Setext level) passed offset has = refl
from_text Paragraph passed offset has = refl
from_text Indented passed offset has = absurd has
from_text (Html kind) passed offset has = absurd has
from_text Blank passed offset has = absurd has
from_text Break passed offset has = absurd has
from_text (Fenced count byte) passed offset has = absurd has
from_text (Table columns) passed offset has = absurd has
from_text Definition passed offset has = absurd has

module _ (page : List ℕ) (outer : List Container) (kept passed : ℕ) (block : LeafBlock) (stands : HoldsContent page outer kept passed block)
    (is_tight : Bool) where
  content_after : (from : ℕ) → from ≤ content_from block.kind passed block.offset
      → ContentAfter from page (record { containers = outer; kept = kept; is_tight = is_tight }) block
  content_after from low content is offset inside =
      let each = content_sizes block.kind outer kept (lines_in_page page block) content is in
      omega (arith, low, stands content is offset (omega (arith, inside, each)))

-- ---- nodes

some_inside : (inner : Nodes) → inner ≢ nothing → AreSome inner
some_inside nothing some = absurd (some refl)
some_inside (leaf_then block later) some = tt
some_inside (container_then container offset inner later) some = tt

module _ (page : List ℕ) (setting : EventSetting) where
  leaf_stands : (outer : List Container) (kept passed : ℕ) (block : LeafBlock) → passed ≤ block.offset → block.offset ≤ block_end block
      → HoldsContent page outer kept passed block → HoldsText page outer kept block → LeafRises page setting passed outer kept block
  leaf_stands outer kept passed block own ends_after stands holds s is_tight waiting events are =
      let here : Place = record { containers = outer; kept = kept; is_tight = is_tight } in
      block_rises page s here passed block own ends_after
      (content_after page outer kept passed block stands is_tight passed (from_passed block.kind passed block.offset own))
      (λ has. content_after page outer kept passed block stands is_tight block.offset (omega (arith, from_text block.kind passed block.offset has)))
      holds waiting events are

  nodes_stand : (nodes : Nodes) (outer : List Container) (kept passed : ℕ) → NodesStand passed nodes → HoldSome nodes
      → ContentsStand page outer kept passed nodes → Stand page setting outer kept passed nodes
  nodes_stand nothing outer kept passed stand some contents = tt
  nodes_stand (leaf_then block later) outer kept passed stand some contents = (
    stand.0,
    stand.1,
    leaf_stands outer kept passed block stand.0 stand.1 contents.0 contents.1,
    nodes_stand later outer (length outer) (block_end block) stand.2 some contents.2,
  )
  nodes_stand (container_then container offset inner later) outer kept passed stand some contents = (
    stand.0,
    some_inside inner some.0,
    nodes_stand inner (outer ++ past_first_line container ∷ []) kept (suc offset) stand.1 some.1 contents.0,
    nodes_stand later outer (length outer) (passed_after (suc offset) inner) stand.2 some.2 contents.1,
  )

-- ---- the page

module _ (page : List ℕ) (setting : Extensions) where
  -- wherever labels lead
  tree_within : (targets : Targets) (nodes : Nodes) (events : List RangedEvent) → IsEventsOf (built setting) page (flatten nodes)
      → AreNodeEvents page (event_setting setting targets) (page_room page) outermost None None nodes events → AreWithin page events
  tree_within targets nodes events are_blocks are_events =
      let read_with = event_setting setting targets in
      let asked = built setting in
      let found = page_nodes_stand asked page nodes are_blocks in
      let stand = nodes_stand page read_with nodes [] 0 (text_start page) found.0 (containers_hold_some asked page nodes are_blocks)
      (page_contents_stand asked page nodes are_blocks) in
      page_events_rise page read_with (text_start page) (page_room page) nodes events stand (omega (arith, found.1)) are_events

  -- Ranges rise, and what an element holds lies within its range.
  pub page_events_within : (events : List RangedEvent) → ArePageEvents page setting events → AreWithin page events
  page_events_within events are = tree_within (λ label. first_of label are.named) are.nodes events are.are_blocks are.are_events

  -- also where labels that the page does not define lead as these say
  pub page_events_with_within : (more : Targets) (events : List RangedEvent) → ArePageEventsWith page setting more events
      → AreWithin page events
  page_events_with_within more events are =
      tree_within (or_else (λ label. first_of label are.named) more) are.nodes events are.are_blocks are.are_events
