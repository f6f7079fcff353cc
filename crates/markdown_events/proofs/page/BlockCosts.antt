-- What the events of a leaf block cost, where each event has a cost: so much for each byte of its lines, and so much for each cell.
use Rattle.std.proofs.Common.{ℕ, Bool, true, false, ◌+◌, ◌-◌, ◌*◌, ◌<◌, ◌≤◌, ◌≡◌, ◌⊎◌, List, [], ◌∷◌, ◌++◌, length, map, take, drop, Option, Some, None}
use Rattle.std.proofs.Common.{ap, refl, sym, subst, arith, inl, inr, length-append}
use Rattle.std.specs.Prelude.{◌==◌, not}
use Rattle.std.specs.List.{concat, prefix_len, suffix_len}
use Rattle.std.proofs.Math.Nat.{mul-le-mul_left, mul-le-mul_right}
use Rattle.std.proofs.lemmas.List.{length-drop, length-take}
use Rattle.markdown_values.specs.declared.values.Alignment.{Alignment}
use Rattle.markdown_values.specs.declared.values.HeadingLevel.{HeadingLevel}
use Rattle.markdown_values.specs.values.Events.{EventView, end, html, rule, start, task_list_marker, text}
use Rattle.markdown_values.specs.values.Tags.{TagView, code_block, html_block, paragraph, table, table_cell}
use Rattle.markdown_scanners_tree.specs.Bytes.{is_line_ending, is_space_or_tab, line_head}
use Rattle.markdown_scanners_tree.specs.scanners.TextLines.{lines_of}
use Rattle.markdown_scanners_tree.proofs.ForCallers.{lines_joined}
use Rattle.markdown_blocks.specs.content.Content.{Placed}
use Rattle.markdown_blocks.specs.declared.blocks.BlockKind.{BlockKind}
use Rattle.markdown_blocks.specs.declared.blocks.BlockKind.TheVariants.{Blank, Break, Heading, Setext, Indented, Fenced, Html, Paragraph, Definition, Table}
use Rattle.markdown_blocks.specs.declared.containers.Container.{Container}
use Rattle.markdown_blocks.specs.declared.first_blocks.Task.{Task}
use Rattle.markdown_blocks.specs.events.Events.{LeafBlock}
use Rattle.markdown_blocks.specs.info.Info.{after_fence, info_of, without_end, without_front}
use Rattle.markdown_blocks.specs.laws.Sizes.{HasBytes}
use Rattle.markdown_blocks.proofs.ForCallers.{HasInlines, content_few, inlines_few}
use Rattle.markdown_events.specs.InlineEvents.{EventSetting, RangedEvent}
use Rattle.markdown_events.specs.TagEnds.{tag_end}
use Rattle.markdown_events.specs.declared.page.reading.Room.{Room}
use Rattle.markdown_events.specs.page.LeafEvents.{AreLeafEventsOf, AreLineEvents, AreTextEvents, Place, in_paragraph, line_events, lines_offset, placed}
use Rattle.markdown_events.specs.page.LeafEvents.{plain_heading}
use Rattle.markdown_events.specs.page.Places.{element, lines_in_page}
use Rattle.markdown_events.specs.page.References.{AreEventsInRoom, begun_cells}
use Rattle.markdown_events.specs.page.Spans.{block_end}
use Rattle.markdown_events.specs.page.TableEvents.{row_tag}
use Rattle.markdown_events.specs.page.TaskEvents.{AreBlockEvents, AreEventsWith, after_marker, marker_end, marker_event, task_here}
use Rattle.markdown_events.proofs.MeaningSizes.{meaning_few}
use Rattle.markdown_events.proofs.inline_events.Costs.{Cost, IsInlineCost, inlines_cost, total, total_both}
use Rattle.markdown_events.proofs.page.RoomLemmas.{in_room}
use Rattle.markdown_events.proofs.page.table_events.CellCounts.{AreFilled, lines_filled}
use Rattle.markdown_events.proofs.page.table_events.TableCosts.{table_cost, total_element, total_placed}
use Rattle.markdown_events.proofs.page.task_events.TaskRanges.{marker_here}

-- Each byte of a block pays so much for what it holds, and so much of that where it is a byte of code or HTML, or of an info string; each
-- row costs so much, each cell, and each block.
pub record IsBlockCost (cost : Cost) (byte tail edge held line info row cell block : ℕ) : Type 0 where
  pub inlines : IsInlineCost cost byte tail edge
  pub of_text : (words : List ℕ) → 0 < length words → cost (text words) ≤ line * length words
  pub of_html : (words : List ℕ) → 0 < length words → cost (html words) ≤ line * length words
  pub of_rule : cost rule ≤ block
  pub of_paragraph : cost (start paragraph) + cost (end (tag_end {A = List ℕ} paragraph)) ≤ block
  pub of_heading : (level : HeadingLevel) → cost (start (plain_heading level)) + cost (end (tag_end (plain_heading level))) ≤ block
  pub of_code : cost (start (code_block None)) + cost (end (tag_end {A = List ℕ} (code_block None))) ≤ block
  pub of_fenced : (words source : List ℕ) → 5 * length words ≤ 6 * length source
      → cost (start (code_block (Some words))) + cost (end (tag_end (code_block (Some words)))) ≤ block + info * length source
  pub of_html_block : cost (start html_block) + cost (end (tag_end {A = List ℕ} html_block)) ≤ block
  pub of_table : (alignments : List Alignment) → cost (start (table alignments)) + cost (end (tag_end {A = List ℕ} (table alignments))) ≤ block
  pub of_row : (is_head : Bool) → cost (start (row_tag is_head)) + cost (end (tag_end (row_tag is_head))) ≤ row
  pub of_cell : cost (start table_cell) + cost (end (tag_end {A = List ℕ} table_cell)) ≤ cell
  pub marker_paid : (checked : Bool)
      → cost (start paragraph) + cost (end (tag_end {A = List ℕ} paragraph)) + cost (task_list_marker checked) + byte ≤ block + held
  pub rows_paid : row + byte ≤ held
  pub lines_paid : 3 * line + info ≤ held

-- what is known of a leaf block
pub record IsSized (block : LeafBlock) : Type 0 where
  pub bytes : HasBytes block
  pub within : length block.text ≤ block.bytes

-- ---- texts

info_few : (byte : ℕ) (words : List ℕ) → length (info_of byte words) ≤ length words
info_few byte words =
    let after = after_fence byte words in
    let head = line_head after in
    let front = without_front head in
    omega (
      arith,
      length-drop (prefix_len (λ b. b == byte) words) words,
      length-take (prefix_len (λ b. not (is_line_ending b)) after) after,
      length-drop (prefix_len is_space_or_tab head) head,
      length-take (length front - suffix_len is_space_or_tab front) front,
    )

module _ (cost : Cost) (byte tail edge held line info row cell block : ℕ) (is : IsBlockCost cost byte tail edge held line info row cell block) where
  lines_cost : (event : List ℕ → EventView (List ℕ)) → ((words : List ℕ) → 0 < length words → cost (event words) ≤ line * length words) → (from : ℕ)
      → (lines : List (List ℕ)) → AreFilled lines → total cost (line_events event from lines) ≤ line * length (concat lines)
  lines_cost event of_line from [] all = omega arith
  lines_cost event of_line from (words ∷ lines) all =
      omega (
        arith,
        of_line words (omega (arith, all.0)),
        ap (λ n. line * n) (length-append words (concat lines)),
        lines_cost event of_line (from + length words) lines all.1,
      )

  module _ (page : List ℕ) (setting : EventSetting) (here : Place) (leaf : LeafBlock) (sized : IsSized leaf) (some : 0 < leaf.bytes)
      (events : List RangedEvent) where
    abbrev lines : List ℕ
    lines = take leaf.bytes (drop leaf.start page)

    few : length lines ≤ leaf.bytes
    few = omega (arith, length-take leaf.bytes (drop leaf.start page))

    -- so much for the block, and so much for each of its bytes
    abbrev Paid : List RangedEvent → Type 0
    Paid es = total cost es ≤ block + held * leaf.bytes + cell * begun_cells es

    -- what is less
    paid_by : (es : List RangedEvent) (n : ℕ) → total cost es ≤ block + n * leaf.bytes → n ≤ held → Paid es
    paid_by es n low most = omega (arith, low, mul-le-mul_right leaf.bytes most)

    byte_held : byte ≤ held
    byte_held = omega (arith, is.rows_paid)

    texts_cost : (inner : List RangedEvent) → HasInlines leaf.kind → AreTextEvents page setting here leaf inner
        → total cost inner ≤ byte * leaf.bytes
    texts_cost inner has are =
        omega (
          arith,
          ap (total cost) are.are_events,
          total_placed cost leaf.start are.content.offsets are.inlines,
          inlines_cost cost byte tail edge is.inlines are.content.text setting are.inlines are.are_inlines,
          mul-le-mul_left byte (inlines_few leaf.kind here.containers here.kept lines are.content has are.is_content),
          mul-le-mul_left byte few,
        )

    code_cost : (event : List ℕ → EventView (List ℕ)) → ((words : List ℕ) → 0 < length words → cost (event words) ≤ line * length words)
        → (inner : List RangedEvent) → AreLineEvents page here leaf event inner → total cost inner ≤ 3 * line * leaf.bytes
    code_cost event of_line inner are =
        let words = are.content.text in
        omega (
          arith,
          ap (total cost) are.are_events,
          total_placed cost leaf.start are.content.offsets (line_events event 0 (lines_of words)),
          lines_cost event of_line 0 (lines_of words) (lines_filled words),
          ap (λ n. line * n) (ap length (lines_joined words)),
          mul-le-mul_left line (content_few leaf.kind here.containers here.kept lines are.content are.is_content),
          mul-le-mul_left line few,
        )

    enclosed_cost : (tag : TagView (List ℕ)) (from to n : ℕ) (inner : List RangedEvent) → events ≡ element tag from to inner
        → cost (start tag) + cost (end (tag_end tag)) + total cost inner ≤ block + n * leaf.bytes → n ≤ held → Paid events
    enclosed_cost tag from to n inner all low most =
        paid_by events n (omega (arith, ap (total cost) all, total_element cost tag from to inner, low)) most

    -- as a paragraph, or without its tags
    paragraph_cost : (is_tight : Bool) (inner : List RangedEvent)
        → total cost (in_paragraph is_tight leaf inner)
        ≤ cost (start paragraph) + cost (end (tag_end {A = List ℕ} paragraph)) + total cost inner
    paragraph_cost true inner = omega arith
    paragraph_cost false inner = omega (arith, total_element cost paragraph leaf.offset (block_end leaf) inner)

    kind_cost : (kind : BlockKind) → leaf.kind ≡ kind → AreLeafEventsOf kind page setting here leaf events → Paid events
    kind_cost Blank same none = omega (arith, ap (total cost) none)
    kind_cost Definition same none = omega (arith, ap (total cost) none)
    kind_cost Break same one = omega (arith, ap (total cost) one, is.of_rule)
    kind_cost (Heading level) same (inner, are, all) =
        let few = texts_cost inner (subst HasInlines (sym same) tt) are in
        enclosed_cost (plain_heading level) leaf.offset (block_end leaf) byte inner all (omega (arith, is.of_heading level, few)) byte_held
    kind_cost (Setext level) same (inner, are, all) =
        let few = texts_cost inner (subst HasInlines (sym same) tt) are in
        enclosed_cost (plain_heading level) leaf.offset (block_end leaf) byte inner all (omega (arith, is.of_heading level, few)) byte_held
    kind_cost Paragraph same (inner, are, all) =
        let few = texts_cost inner (subst HasInlines (sym same) tt) are in
        paid_by events byte (omega (arith, ap (total cost) all, paragraph_cost here.is_tight inner, is.of_paragraph, few)) byte_held
    kind_cost Indented same (inner, are, all) =
        enclosed_cost (code_block None) (lines_offset leaf inner) (block_end leaf) (3 * line) inner all
        (omega (arith, is.of_code, code_cost text is.of_text inner are)) (omega (arith, is.lines_paid))
    kind_cost (Fenced count fence) same (inner, words, are, means, all) =
        let source = info_of fence leaf.text in
        let short : length source ≤ leaf.bytes = omega (arith, info_few fence leaf.text, sized.within) in
        enclosed_cost (code_block (Some words)) (lines_offset leaf inner) (block_end leaf) (3 * line + info) inner all
        (omega (
          arith,
          is.of_fenced words source (meaning_few source words means),
          mul-le-mul_left info short,
          code_cost text is.of_text inner are,
        )) is.lines_paid
    kind_cost (Html kind) same (inner, are, all) =
        enclosed_cost html_block (lines_offset leaf inner) (block_end leaf) (3 * line) inner all
        (omega (arith, is.of_html_block, code_cost html is.of_html inner are)) (omega (arith, is.lines_paid))
    kind_cost (Table columns) same are =
        let paid = table_cost cost byte tail edge row cell is.inlines is.of_cell is.of_row setting page here leaf columns block events is.of_table are in
        omega (arith, paid, mul-le-mul_right leaf.bytes is.rows_paid)

    with_cost : (asked : Bool) (waiting : Option Container) (task : Option Task) → task_here asked waiting leaf ≡ task
        → AreEventsWith task page setting here leaf events → Paid events
    with_cost asked waiting None none are = kind_cost leaf.kind refl are
    with_cost asked waiting (Some task) found are =
        let has = (marker_here asked waiting leaf task found).inlines in
        let content = are.content in
        let after = after_marker task content in
        let short : length after.text ≤ leaf.bytes =
        omega (
          arith,
          length-drop (marker_end task.len content.text) content.text,
          inlines_few leaf.kind here.containers here.kept lines content has are.is_content,
          few,
        ) in
        let split : held ≡ byte + (held - byte) = omega (arith, byte_held) in
        let first : 1 ≤ leaf.bytes = omega (arith, some) in
        omega (
          arith,
          ap (total cost) are.are_events,
          paragraph_cost here.is_tight (marker_event task ∷ map (placed leaf.start after.offsets) are.inlines),
          total_placed cost leaf.start after.offsets are.inlines,
          inlines_cost cost byte tail edge is.inlines after.text setting are.inlines are.are_inlines,
          mul-le-mul_left byte short,
          mul-le-mul_left (held - byte) first,
          ap (λ n. n * leaf.bytes) split,
          is.marker_paid task.is_checked,
        )

  -- a link reference definition has no events
  none_of_definition : (page : List ℕ) (setting : EventSetting) (here : Place) (leaf : LeafBlock) (events : List RangedEvent) (asked : Bool)
      (waiting : Option Container) (task : Option Task) → leaf.kind ≡ Definition → task_here asked waiting leaf ≡ task
      → AreEventsWith task page setting here leaf events → events ≡ []
  none_of_definition page setting here leaf events asked waiting None same none are =
      subst (λ (k : BlockKind). AreLeafEventsOf k page setting here leaf events) same are
  none_of_definition page setting here leaf events asked waiting (Some task) same found are =
      let has : HasInlines Definition = subst HasInlines same (marker_here asked waiting leaf task found).inlines in
      absurd has

  setting_cost : (page : List ℕ) (setting : EventSetting) (here : Place) (waiting : Option Container) (leaf : LeafBlock) (events : List RangedEvent)
      → IsSized leaf → AreBlockEvents page setting here waiting leaf events
      → total cost events ≤ (block + held) * leaf.bytes + cell * begun_cells events
  setting_cost page setting here waiting leaf events sized are = by sized.bytes
    where
      by : HasBytes leaf → total cost events ≤ (block + held) * leaf.bytes + cell * begun_cells events
      by (inl same) =
          omega (
            arith,
            ap (total cost) (none_of_definition page setting here leaf events setting.asked.tasks waiting
                (task_here setting.asked.tasks waiting leaf) same refl are),
          )
      by (inr some) =
          let first : 1 ≤ leaf.bytes = omega (arith, some) in
          omega (
            arith,
            with_cost page setting here leaf sized some events setting.asked.tasks waiting (task_here setting.asked.tasks waiting leaf) refl are,
            mul-le-mul_left block first,
          )

  -- The events of a leaf block cost so much for each of its bytes, and for each cell.
  pub block_cost : (page : List ℕ) (setting : EventSetting) (room : Room) (here : Place) (waiting : Option Container) (leaf : LeafBlock)
      (events : List RangedEvent) → IsSized leaf → AreEventsInRoom page setting room here waiting leaf events
      → total cost events ≤ (block + held) * leaf.bytes + cell * begun_cells events
  block_cost page setting room here waiting leaf events sized are =
      in_room page setting room here waiting leaf events (λ s given. setting_cost page s here waiting leaf events sized given) are
