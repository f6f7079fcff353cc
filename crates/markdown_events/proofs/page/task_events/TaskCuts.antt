-- The ranges of a leaf block's events begin and end at character boundaries, where it may begin with a task list marker.
use Rattle.std.proofs.Common.{ℕ, zero, suc, ◌+◌, ◌-◌, ◌^◌, ◌<◌, ◌≤◌, ◌≡◌, Bool, true, false, List, length, take, drop, get_or, Option, Some}
use Rattle.std.proofs.Common.{None, inl, inr, refl, sym, ap, subst, arith}
use Rattle.std.specs.Prelude.{slice_index}
use Rattle.std.specs.List.{prefix_len}
use Rattle.std.specs.Str.{IsUtf8, IsCharBoundary}
use Rattle.std.proofs.lemmas.Bool.Decides.{leb_tells, nat_tests}
use Rattle.std.proofs.lemmas.List.{drop_all, get_or-drop, length-drop}
use Rattle.std.proofs.lemmas.List.Sums.{prefix_len_passes}
use Rattle.std.proofs.lemmas.Str.{IsCharBoundary-from_rest, IsUtf8-drop, IsUtf8-nil}
use Rattle.markdown_scanners_tree.specs.Bytes.{is_space_or_tab, is_white_space}
use Rattle.markdown_scanners_tree.proofs.ForCallers.{cut_after_ascii}
use Rattle.markdown_blocks.specs.content.Content.{IsContent, Placed}
use Rattle.markdown_blocks.specs.declared.blocks.BlockKind.{BlockKind}
use Rattle.markdown_blocks.specs.declared.blocks.BlockKind.TheVariants.{Blank, Break, Heading, Setext, Indented, Fenced, Html, Paragraph, Definition, Table}
use Rattle.markdown_blocks.specs.declared.containers.Container.{Container}
use Rattle.markdown_blocks.specs.declared.containers.Container.TheVariants.{Quote, Item, Footnote, TermDefinition}
use Rattle.markdown_blocks.specs.declared.first_blocks.Task.{Task}
use Rattle.markdown_blocks.specs.events.Events.{LeafBlock, block_end}
use Rattle.markdown_blocks.specs.first_blocks.Tasks.{task_in, task_of}
use Rattle.markdown_blocks.specs.laws.Characters.{IsCutOut}
use Rattle.markdown_blocks.specs.laws.FirstTexts.{BeginsPlain}
use Rattle.markdown_blocks.specs.laws.Order.{HoldsText}
use Rattle.markdown_blocks.proofs.ForCallers.{content_sizes, content_utf8, task_bracket, task_within}
use Rattle.markdown_events.specs.EventLaws.{AreAtBoundaries}
use Rattle.markdown_events.specs.InlineEvents.{EventSetting, RangedEvent}
use Rattle.markdown_events.specs.page.InPage.{HasMarker, IsInPage}
use Rattle.markdown_events.specs.page.LeafEvents.{Place, lines_in_page}
use Rattle.markdown_events.specs.page.TaskEvents.{AreBlockEvents, AreEventsWith, AreTaskEvents, after, after_marker, marker_end, task_here}
use Rattle.markdown_events.proofs.inline_events.Boundaries.{events_at_boundaries}
use Rattle.markdown_events.proofs.page.leaf_events.LeafCuts.{leaf_at, paragraph_at}
use Rattle.markdown_events.proofs.page.leaf_events.PlacedCuts.{PlacesCut, content_offsets, placed_at}
use Rattle.markdown_events.proofs.page.task_events.RestLemmas.{offset_further}

-- ---- what stands after the front of a content

-- where the content may be cut after so many bytes, the page may be cut where what stands after them may
rest_offsets : (page : List ℕ) (before count : ℕ) (content : Placed) → IsCharBoundary page before → length content.offsets ≡ length content.text
    → PlacesCut page before content → PlacesCut page before (after count content)
rest_offsets page before count content begins each cut = record {
  starts = λ offset at. elim (leb_tells count (length content.text)) [
    | inl within ↦ subst (λ n. IsCharBoundary page (before + n)) (sym (offset_further content.offsets count offset))
        (cut.starts (count + offset) (IsCharBoundary-from_rest content.text count offset within.1 at))
    | inr past ↦
        (let none : slice_index (drop count content.offsets) offset ≡ 0 =
        ap (λ (l : List ℕ). slice_index l offset) (drop_all count content.offsets (omega (arith, past.1, each))) in
        let same : before ≡ before + slice_index (drop count content.offsets) offset = omega (arith, none) in
        subst (IsCharBoundary page) same begins)
  ];
  ends = λ offset low at.
      let size = length-drop count content.text in
      let further : count + (offset + 1) ≡ count + offset + 1 = omega arith in
      subst (λ n. IsCharBoundary page (before + n + 1)) (sym (offset_further content.offsets count offset))
      (cut.ends (count + offset) (omega (arith, low, size))
      (subst (IsCharBoundary content.text) further (IsCharBoundary-from_rest content.text count (offset + 1) (omega (arith, low, size)) at)));
}

white_low : (b : ℕ) → is_white_space b ≡ true → b < 128
white_low b is = grind (arith, nat_tests)

-- the byte before what stands after a marker is ASCII, where the last of the marker's is
marker_low : (text : List ℕ) (len : ℕ) → 1 ≤ len → (len ≤ length text → get_or text (len - 1) 0 < 128) → marker_end len text ≤ length text
    → get_or text (marker_end len text - 1) 0 < 128
marker_low text len some low within = by (prefix_len is_white_space (drop len text)) refl
  where
    by : (n : ℕ) → prefix_len is_white_space (drop len text) ≡ n → get_or text (len + prefix_len is_white_space (drop len text) - 1) 0 < 128
    by zero none =
        let same : len + prefix_len is_white_space (drop len text) - 1 ≡ len - 1 = omega (arith, none) in
        subst (λ k. get_or text k 0 < 128) (sym same) (low (omega (arith, within)))
    by (suc n) is =
        let passes = prefix_len_passes is_white_space (drop len text) n 0 (omega (arith, is)) in
        let byte = get_or-drop len text n 0 in
        let same : len + prefix_len is_white_space (drop len text) - 1 ≡ len + n = omega (arith, is) in
        subst (λ k. get_or text k 0 < 128) (sym same) (omega (arith, byte, white_low (get_or (drop len text) n 0) passes))

-- what stands after a marker is UTF-8
rest_utf8 : (text : List ℕ) (len : ℕ) → IsUtf8 text → 1 ≤ len → (len ≤ length text → get_or text (len - 1) 0 < 128)
    → IsUtf8 (drop (marker_end len text) text)
rest_utf8 text len utf8 some low = elim (leb_tells (marker_end len text) (length text)) [
  | inl within ↦ IsUtf8-drop text (marker_end len text) utf8
      (cut_after_ascii text (marker_end len text) utf8 within.1 (omega (arith, some)) (marker_low text len some low within.1))
  | inr past ↦ subst IsUtf8 (sym (drop_all (marker_end len text) text (omega (arith, past.1)))) IsUtf8-nil
]

-- ---- a paragraph with a marker

-- what its content has after the marker is UTF-8
pub marked_utf8 : (page : List ℕ) (outer : List Container) (kept : ℕ) (block : LeafBlock) (task : Task) → HasMarker page outer kept block task
    → (content : Placed) → IsContent block.kind outer kept (lines_in_page page block) content
    → IsUtf8 (drop (marker_end task.len content.text) content.text)
marked_utf8 page outer kept block task has content is =
    let utf8 = content_utf8 block.kind outer kept (take block.bytes (drop block.start page)) content is has.cut_out.lines in
    let bracket = task_bracket block task has.found in
    let stands = task_within block task has.found in
    let some = bracket.0 in
    rest_utf8 content.text task.len utf8 some
    (λ within. omega (
      arith,
      bracket.1,
      has.text.front has.paragraph has.plain content is (task.len - 1) (omega (arith, within, some)) (omega (arith, stands.1, some)),
    ))

-- it ends where the page can still count
pub marker_fits : (page : List ℕ) (outer : List Container) (kept : ℕ) (block : LeafBlock) (task : Task) → HasMarker page outer kept block task
    → block_end block < 2 ^ 64 → task.offset + task.len < 2 ^ 64
marker_fits page outer kept block task has ends =
    let stands = task_within block task has.found in
    omega (arith, stands.0, stands.1, has.text.within, ends)

module _ (page : List ℕ) (setting : EventSetting) (here : Place) (block : LeafBlock) (cut : IsCutOut page block)
    (holds : HoldsText page here.containers here.kept block) where
  -- whose text begins with neither a space nor a tab
  marked_at : (task : Task) → block.kind ≡ Paragraph → prefix_len is_space_or_tab block.text ≡ 0 → task_of block ≡ Some task
      → (events : List RangedEvent) → AreTaskEvents page setting here block task events → AreAtBoundaries page events
  marked_at task paragraph plain found events is =
      let content = is.content in
      let offsets = content_offsets page block cut block.kind here.containers here.kept content is.is_content in
      let each = content_sizes block.kind here.containers here.kept (lines_in_page page block) content is.is_content in
      let utf8 = content_utf8 block.kind here.containers here.kept (take block.bytes (drop block.start page)) content is.is_content cut.lines in
      let bracket = task_bracket block task found in
      let some = bracket.0 in
      let stands = task_within block task found in
      let own_cut : IsCharBoundary block.text task.len =
      cut_after_ascii block.text task.len cut.text stands.1 (omega (arith, some)) (omega (arith, bracket.1)) in
      let low : task.len ≤ length content.text → get_or content.text (task.len - 1) 0 < 128 =
      λ within. omega (
        arith,
        bracket.1,
        holds.front paragraph plain content is.is_content (task.len - 1) (omega (arith, within, some))
            (omega (arith, stands.1, some)),
      ) in
      let rest = events_at_boundaries (after_marker task content).text setting is.inlines (rest_utf8 content.text task.len utf8 some low) is.are_inlines in
      let inner = placed_at page block.start (after_marker task content)
      (rest_offsets page block.start (marker_end task.len content.text) content cut.begins each offsets) is.inlines rest in
      let begins : IsCharBoundary page task.offset = subst (IsCharBoundary page) (sym stands.0) cut.offset in
      let ends : IsCharBoundary page (task.offset + task.len) =
      subst (λ n. IsCharBoundary page (n + task.len)) (sym stands.0) (cut.in_text task.len own_cut) in
      subst (AreAtBoundaries page) (sym is.are_events)
      (paragraph_at page setting here block cut here.is_tight _ ((begins, ends), inner))

-- ---- a leaf block

-- what is known of a block that begins with a marker
record IsMarked (waiting : Option Container) (block : LeafBlock) (task : Task) : Type 0 where
  paragraph : block.kind ≡ Paragraph
  found : task_of block ≡ Some task
  plain : BeginsPlain waiting block → prefix_len is_space_or_tab block.text ≡ 0

marked_in : (container : Container) (kind : BlockKind) (block : LeafBlock) (task : Task) → block.kind ≡ kind → task_in container kind block ≡ Some task
    → IsMarked (Some container) block task
marked_in (Item one) Paragraph block task kind is = record { paragraph = kind; found = is; plain = λ begins. begins kind }
marked_in (Item one) Blank block task kind is = absurd (cc)
marked_in (Item one) Break block task kind is = absurd (cc)
marked_in (Item one) Definition block task kind is = absurd (cc)
marked_in (Item one) (Heading level) block task kind is = absurd (cc)
marked_in (Item one) (Setext level) block task kind is = absurd (cc)
marked_in (Item one) Indented block task kind is = absurd (cc)
marked_in (Item one) (Fenced count byte) block task kind is = absurd (cc)
marked_in (Item one) (Html html) block task kind is = absurd (cc)
marked_in (Item one) (Table columns) block task kind is = absurd (cc)
marked_in Quote kind block task same is = absurd (cc)
marked_in Footnote kind block task same is = absurd (cc)
marked_in (TermDefinition one) kind block task same is = absurd (cc)

marked_here : (asked : Bool) (waiting : Option Container) (block : LeafBlock) (task : Task) → task_here asked waiting block ≡ Some task
    → IsMarked waiting block task
marked_here true (Some container) block task is = marked_in container block.kind block task refl is
marked_here true None block task is = absurd (cc)
marked_here false (Some container) block task is = absurd (cc)
marked_here false None block task is = absurd (cc)

-- a block that stands in the page, and begins with a marker
pub has_marker : (page : List ℕ) (outer : List Container) (kept : ℕ) (asked : Bool) (waiting : Option Container) (block : LeafBlock) (task : Task)
    → IsInPage page outer kept waiting block → task_here asked waiting block ≡ Some task → HasMarker page outer kept block task
has_marker page outer kept asked waiting block task is found =
    let marked = marked_here asked waiting block task found in record {
      cut_out = is.cut_out;
      text = is.text;
      paragraph = marked.paragraph;
      plain = marked.plain is.plain;
      found = marked.found;
    }

-- The events of a leaf block begin and end at character boundaries of the page.
pub block_at : (page : List ℕ) (setting : EventSetting) (here : Place) (block : LeafBlock) (waiting : Option Container) → IsCutOut page block
    → HoldsText page here.containers here.kept block → BeginsPlain waiting block → (events : List RangedEvent)
    → AreBlockEvents page setting here waiting block events → AreAtBoundaries page events
block_at page setting here block waiting cut holds plain events are = by (task_here setting.asked.tasks waiting block) refl are
  where
    by : (task : Option Task) → task_here setting.asked.tasks waiting block ≡ task → AreEventsWith task page setting here block events
        → AreAtBoundaries page events
    by None none is = leaf_at page setting here block cut events is
    by (Some task) found is =
        let marked = marked_here setting.asked.tasks waiting block task found in
        marked_at page setting here block cut holds task marked.paragraph (marked.plain plain) marked.found events is
