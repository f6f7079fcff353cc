-- The ranges of the events of a page that is UTF-8 begin and end at its character boundaries.
use Rattle.std.proofs.Common.{ℕ, suc, List, [], ◌∷◌, ◌++◌, length, Option, Some, None, sym, subst, append-nil, append_assoc}
use Rattle.std.specs.Str.{IsUtf8}
use Rattle.markdown_blocks.specs.byte_order_mark.ByteOrderMark.{text_start}
use Rattle.markdown_blocks.specs.containers.Containers.{past_first_line}
use Rattle.markdown_blocks.specs.declared.containers.Container.{Container}
use Rattle.markdown_blocks.specs.events.Events.{Event, IsEventsOf, block_end, ends, leaf}
use Rattle.markdown_blocks.specs.first_blocks.Waiting.{waiting_next}
use Rattle.markdown_blocks.specs.laws.Characters.{AreCutOut}
use Rattle.markdown_blocks.specs.laws.FirstTexts.{FirstsBeginPlain}
use Rattle.markdown_blocks.specs.laws.Order.{ContentsStand, passed_after}
use Rattle.markdown_blocks.specs.link_definitions.LinkDefinitions.{first_of}
use Rattle.markdown_blocks.specs.lists.Lists.{Nodes, nothing, leaf_then, container_then, flatten}
use Rattle.markdown_blocks.proofs.ForCallers.{page_contents_stand, page_cut_out, page_firsts_begin_plain}
use Rattle.markdown_events.specs.EventLaws.{AreAtBoundaries}
use Rattle.markdown_events.specs.InlineEvents.{EventSetting, RangedEvent}
use Rattle.markdown_events.specs.Targets.{Targets, or_else}
use Rattle.markdown_values.specs.declared.values.extensions.Extensions.{Extensions}
use Rattle.markdown_events.specs.page.PageEvents.{AreNodeEvents, ArePageEvents, ArePageEventsWith, event_setting, outermost}
use Rattle.markdown_events.specs.page.References.{page_room}
use Rattle.markdown_events.specs.page.Settings.{built}
use Rattle.markdown_events.proofs.page.NodeCuts.{NodesAt, nodes_at}
use Rattle.markdown_events.proofs.page.task_events.TaskCuts.{block_at}

module _ (page : List ℕ) (setting : EventSetting) where
  -- nodes whose events are cut out, and after them other events
  cut_nodes : (nodes : Nodes) (outer : List Container) (kept passed : ℕ) (waiting : Option Container) (rest : List Event)
      → ContentsStand page outer kept passed nodes → AreCutOut page (flatten nodes ++ rest) → FirstsBeginPlain waiting (flatten nodes ++ rest)
      → NodesAt page setting outer kept waiting nodes × (AreCutOut page rest × ((then : Option Container) × FirstsBeginPlain then rest))
  cut_nodes nothing outer kept passed waiting rest stand cut plain = (tt, (cut, (waiting, plain)))
  cut_nodes (leaf_then block later) outer kept passed waiting rest stand cut plain =
      let more = cut_nodes later outer (length outer) (block_end block) (waiting_next waiting (leaf block)) rest stand.2 cut.1 plain.1 in (
        (
          cut.0,
          λ s is_tight events are. block_at page s (record { containers = outer; kept = kept; is_tight = is_tight }) block waiting cut.0 stand.1 plain.0
              events are,
          more.0,
        ),
        more.1,
      )
  cut_nodes (container_then container offset inner later) outer kept passed waiting rest stand cut plain =
      let parted = append_assoc (flatten inner) (ends ∷ flatten later) rest in
      let held = cut_nodes inner (outer ++ past_first_line container ∷ []) kept (suc offset) (Some container) (ends ∷ (flatten later ++ rest)) stand.0
      (subst (AreCutOut page) parted cut.1) (subst (FirstsBeginPlain (Some container)) parted plain) in
      let more = cut_nodes later outer (length outer) (passed_after (suc offset) inner) None rest stand.1 held.1.0 held.1.1.1 in
      ((cut.0, held.0, more.0), more.1)

-- ---- the page

module _ (page : List ℕ) (setting : Extensions) (utf8 : IsUtf8 page) where
  -- wherever labels lead
  tree_at_boundaries : (targets : Targets) (nodes : Nodes) (events : List RangedEvent) → IsEventsOf (built setting) page (flatten nodes)
      → AreNodeEvents page (event_setting setting targets) (page_room page) outermost None None nodes events → AreAtBoundaries page events
  tree_at_boundaries targets nodes events are_blocks are_events =
      let read_with = event_setting setting targets in
      let asked = built setting in
      let all = sym (append-nil (flatten nodes)) in
      let at = cut_nodes page read_with nodes [] 0 (text_start page) None [] (page_contents_stand asked page nodes are_blocks)
      (subst (AreCutOut page) all (page_cut_out asked page (flatten nodes) are_blocks utf8))
      (subst (FirstsBeginPlain None) all (page_firsts_begin_plain asked page (flatten nodes) are_blocks)) in
      nodes_at page read_with utf8 nodes (page_room page) outermost None None events at.0 tt are_events

  -- Each range begins and ends at a character boundary of the page.
  pub page_events_at_boundaries : (events : List RangedEvent) → ArePageEvents page setting events → AreAtBoundaries page events
  page_events_at_boundaries events are =
      tree_at_boundaries (λ label. first_of label are.named) are.nodes events are.are_blocks are.are_events

  -- also where labels that the page does not define lead as these say
  pub page_events_with_at_boundaries : (more : Targets) (events : List RangedEvent) → ArePageEventsWith page setting more events
      → AreAtBoundaries page events
  page_events_with_at_boundaries more events are =
      tree_at_boundaries (or_else (λ label. first_of label are.named) more) are.nodes events are.are_blocks are.are_events
