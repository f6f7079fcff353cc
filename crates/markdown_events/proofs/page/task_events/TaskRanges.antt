-- The ranges of a leaf block's events rise, where it may begin with a task list marker.
use Rattle.std.proofs.Common.{ℕ, zero, suc, ◌+◌, ◌<◌, ◌≤◌, ◌≡◌, Bool, true, false, List, [], ◌∷◌, length, map, take, drop, Option, Some}
use Rattle.std.proofs.Common.{None, refl, sym, subst, arith}
use Rattle.std.specs.Prelude.{slice_index}
use Rattle.std.proofs.lemmas.List.{length-drop, length-take}
use Rattle.markdown_blocks.specs.declared.blocks.BlockKind.{BlockKind}
use Rattle.markdown_blocks.specs.declared.blocks.BlockKind.TheVariants.{Blank, Break, Heading, Setext, Indented, Fenced, Html, Paragraph, Definition, Table}
use Rattle.markdown_blocks.specs.declared.containers.Container.{Container}
use Rattle.markdown_blocks.specs.declared.containers.Container.TheVariants.{Quote, Item, Footnote, TermDefinition}
use Rattle.markdown_blocks.specs.declared.first_blocks.Task.{Task}
use Rattle.markdown_blocks.specs.events.Events.{LeafBlock}
use Rattle.markdown_blocks.specs.first_blocks.Tasks.{task_in}
use Rattle.markdown_blocks.specs.laws.Order.{HoldsText}
use Rattle.markdown_blocks.proofs.ForCallers.{HasInlines, RiseStrictly, content_bytes, content_sizes, inlines_strictly, task_within}
use Rattle.markdown_events.specs.InlineEvents.{EventSetting, RangedEvent}
use Rattle.markdown_events.specs.page.LeafEvents.{Place, lines_in_page, placed}
use Rattle.markdown_events.specs.page.Spans.{block_end}
use Rattle.markdown_events.specs.page.TaskEvents.{AreBlockEvents, AreEventsWith, AreTaskEvents, after_marker, marker_end, marker_event, task_here}
use Rattle.markdown_events.proofs.inline_events.Filled.{RiseFilled}
use Rattle.markdown_events.proofs.inline_events.Laws.{events_balance, events_filled}
use Rattle.markdown_events.proofs.page.leaf_events.LeafRanges.{RiseTo, leaf_rises, paragraph_rises}
use Rattle.markdown_events.proofs.page.leaf_events.LineRanges.{ContentAfter}
use Rattle.markdown_events.proofs.page.leaf_events.TextRanges.{placed_rise}
use Rattle.markdown_events.proofs.page.task_events.RestLemmas.{offset_further}

-- ---- offsets

later_strictly : (count from : ℕ) (offsets : List ℕ) → RiseStrictly from offsets → RiseStrictly from (drop count offsets)
later_strictly zero from offsets rise = rise
later_strictly (suc count) from [] rise = tt
later_strictly (suc count) from (offset ∷ offsets) rise =
    earlier from (suc offset) (drop count offsets) (omega (arith, rise.0)) (later_strictly count (suc offset) offsets rise.1)
  where
    earlier : (from to : ℕ) (offsets : List ℕ) → from ≤ to → RiseStrictly to offsets → RiseStrictly from offsets
    earlier from to [] less rise = tt
    earlier from to (offset ∷ offsets) less rise = (omega (arith, less, rise.0), rise.1)

counted_from : (offsets : List ℕ) (from i : ℕ) → RiseStrictly from offsets → i < length offsets → from + i ≤ slice_index offsets i
counted_from [] from i rise inside = absurd (omega (arith, inside))
counted_from (offset ∷ offsets) from zero rise inside = omega (arith, rise.0)
counted_from (offset ∷ offsets) from (suc i) rise inside =
    omega (arith, rise.0, counted_from offsets (suc offset) i rise.1 (omega (arith, inside)))

-- each offset is as many further as there are before it
counted : (offsets : List ℕ) (i : ℕ) → RiseStrictly 0 offsets → i < length offsets → slice_index offsets 0 + i ≤ slice_index offsets i
counted [] i rise inside = absurd (omega (arith, inside))
counted (offset ∷ offsets) i rise inside = counted_from (offset ∷ offsets) offset i (omega arith, rise.1) inside

-- ---- a paragraph with a marker

module _ (page : List ℕ) (setting : EventSetting) (here : Place) (block : LeafBlock) (passed : ℕ) (own : passed ≤ block.offset)
    (ends_after : block.offset ≤ block_end block) where
  module _ (task : Task) (has : HasInlines block.kind) (after : ContentAfter block.offset page here block) (at : task.offset ≡ block.offset)
      (fits : block.offset + task.len ≤ block_end block) (events : List RangedEvent) (is : AreTaskEvents page setting here block task events) where
    abbrev count : ℕ
    count = marker_end task.len is.content.text

    abbrev offsets : List ℕ
    offsets = is.content.offsets

    each : length offsets ≡ length is.content.text
    each = content_sizes block.kind here.containers here.kept (lines_in_page page block) is.content is.is_content

    strict : RiseStrictly 0 offsets
    strict = inlines_strictly block.kind here.containers here.kept (lines_in_page page block) is.content has is.is_content

    inside : (i : ℕ) → i < length (drop count offsets) → count + i < length offsets
    inside i low = omega (arith, low, length-drop count offsets)

    within : (i : ℕ) → i < length (drop count offsets) → block.start + slice_index (drop count offsets) i + 1 ≤ block_end block
    within i low =
        let few = length-take block.bytes (drop block.start page) in
        let there = content_bytes block.kind here.containers here.kept (take block.bytes (drop block.start page)) is.content is.is_content (count + i)
        (omega (arith, inside i low, each)) in
        omega (arith, offset_further offsets count i, there.0, few)

    -- what follows the marker stands after it
    first : (i : ℕ) → i < length (drop count offsets) → task.offset + task.len ≤ block.start + slice_index (drop count offsets) i
    first i low =
        let begins = after is.content is.is_content 0 (omega (arith, inside i low, each)) in
        omega (arith, at, begins, offset_further offsets count i, counted offsets (count + i) strict (inside i low))

    rises : RiseTo block.offset block (marker_event task ∷ map (placed block.start (after_marker task is.content).offsets) is.inlines)
    rises = λ from to ends rest low enough gives. (
      record { begins = omega (arith, low, at); in_order = omega arith; ends = omega (arith, at, fits, enough) },
      placed_rise block.start (drop count offsets) (later_strictly count 0 offsets strict) (block_end block) within to ends rest enough gives is.inlines
          (task.offset + task.len) (omega (arith, at, fits)) first
          (events_balance (after_marker task is.content).text setting is.inlines is.are_inlines)
          (subst (λ n. RiseFilled (n ∷ []) 0 is.inlines)
          (let sizes : length (drop count is.content.text) ≡ length (drop count offsets) =
          omega (arith, each, length-drop count offsets, length-drop count is.content.text) in sizes)
          (events_filled (after_marker task is.content).text setting is.inlines is.are_inlines)),
    )

    marked_rises : RiseTo passed block events
    marked_rises =
        subst (RiseTo passed block) (sym is.are_events)
        (paragraph_rises page setting here block passed own ends_after here.is_tight _ rises)

-- ---- a leaf block

-- what is known of the marker of a block
pub record IsMarker (block : LeafBlock) (task : Task) : Type 0 where
  pub inlines : HasInlines block.kind
  pub offset : task.offset ≡ block.offset
  pub len : task.len ≤ length block.text

marker_in : (container : Container) (kind : BlockKind) (block : LeafBlock) (task : Task) → block.kind ≡ kind → task_in container kind block ≡ Some task
    → IsMarker block task
marker_in (Item one) Paragraph block task kind is =
    let found = task_within block task is in
    record { inlines = subst HasInlines (sym kind) tt; offset = found.0; len = found.1 }
marker_in (Item one) Blank block task kind is = absurd (cc)
marker_in (Item one) Break block task kind is = absurd (cc)
marker_in (Item one) Definition block task kind is = absurd (cc)
marker_in (Item one) (Heading level) block task kind is = absurd (cc)
marker_in (Item one) (Setext level) block task kind is = absurd (cc)
marker_in (Item one) Indented block task kind is = absurd (cc)
marker_in (Item one) (Fenced count byte) block task kind is = absurd (cc)
marker_in (Item one) (Html html) block task kind is = absurd (cc)
marker_in (Item one) (Table columns) block task kind is = absurd (cc)
marker_in Quote kind block task same is = absurd (cc)
marker_in Footnote kind block task same is = absurd (cc)
marker_in (TermDefinition one) kind block task same is = absurd (cc)

pub marker_here : (asked : Bool) (waiting : Option Container) (block : LeafBlock) (task : Task) → task_here asked waiting block ≡ Some task
    → IsMarker block task
marker_here true (Some container) block task is = marker_in container block.kind block task refl is
marker_here true None block task is = absurd (cc)
marker_here false (Some container) block task is = absurd (cc)
marker_here false None block task is = absurd (cc)

-- The events of a leaf block rise: where its content stands after what has passed, and that of inlines from the block's own text on.
pub block_rises : (page : List ℕ) (setting : EventSetting) (here : Place) (passed : ℕ) (block : LeafBlock) → passed ≤ block.offset
    → block.offset ≤ block_end block → ContentAfter passed page here block → (HasInlines block.kind → ContentAfter block.offset page here block)
    → HoldsText page here.containers here.kept block → (waiting : Option Container) (events : List RangedEvent)
    → AreBlockEvents page setting here waiting block events → RiseTo passed block events
block_rises page setting here passed block own ends_after after own_after holds waiting events are =
    by (task_here setting.asked.tasks waiting block) refl are
  where
    by : (task : Option Task) → task_here setting.asked.tasks waiting block ≡ task → AreEventsWith task page setting here block events
        → RiseTo passed block events
    by None none is = leaf_rises page setting here passed block own ends_after after own_after holds events is
    by (Some task) found is =
        let marker = marker_here setting.asked.tasks waiting block task found in
        marked_rises page setting here block passed own ends_after task marker.inlines (own_after marker.inlines) marker.offset
        (omega (arith, marker.len, holds.within)) events is
