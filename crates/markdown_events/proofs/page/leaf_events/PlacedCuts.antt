-- What begins and ends at boundaries of a content does so on the page.
use Rattle.std.proofs.Common.{ℕ, ◌+◌, ◌-◌, ◌<◌, ◌≤◌, ◌≡◌, ◌∙◌, Bool, true, false, List, [], ◌∷◌, length, drop, map, min, take, inl, inr, refl, sym, ap, subst}
use Rattle.std.proofs.Common.{arith, if◌then◌else◌}
use Rattle.std.specs.Prelude.{nat_lt, slice_index}
use Rattle.std.specs.Str.{IsUtf8, IsCharBoundary}
use Rattle.std.specs.declared.ops.Range.{Range}
use Rattle.std.proofs.lemmas.Bool.{ltb-true}
use Rattle.std.proofs.lemmas.Bool.Decides.{leb_tells}
use Rattle.std.proofs.lemmas.List.{drop-drop, get_or_past}
use Rattle.std.proofs.lemmas.Str.{IsCharBoundary-from_drop, IsCharBoundary-from_rest, IsUtf8-drop}
use Rattle.markdown_values.specs.values.Events.{EventView}
use Rattle.markdown_values.specs.values.Tags.{TagView}
use Rattle.markdown_scanners_tree.specs.scanners.TextLines.{lines_of}
use Rattle.markdown_scanners_tree.specs.scanners.reference_definitions.ReferenceDefinition.{IsCutAt}
use Rattle.markdown_blocks.specs.content.Content.{IsContent, Placed}
use Rattle.markdown_blocks.specs.declared.blocks.BlockKind.{BlockKind}
use Rattle.markdown_blocks.specs.declared.containers.Container.{Container}
use Rattle.markdown_blocks.specs.events.Events.{LeafBlock}
use Rattle.markdown_blocks.specs.laws.Characters.{IsCutOut}
use Rattle.markdown_blocks.proofs.ForCallers.{content_bytes, content_cuts, content_ends, content_sizes, cut_of_part, line_cut}
use Rattle.markdown_blocks.proofs.taken.LineCuts.{first_after}
use Rattle.markdown_events.specs.EventLaws.{AreAtBoundaries}
use Rattle.markdown_events.specs.InlineEvents.{RangedEvent}
use Rattle.markdown_events.specs.page.LeafEvents.{enclosed_lines, line_events, lines_offset}
use Rattle.markdown_events.specs.page.Places.{element, page_range, placed}
use Rattle.markdown_events.specs.page.Spans.{block_end}
use Rattle.markdown_events.proofs.inline_events.Boundaries.{both_at}

-- the page may be cut before and after the offset of a byte where the content may be
pub record PlacesCut (page : List ℕ) (before : ℕ) (content : Placed) : Type 0 where
  pub starts : (offset : ℕ) → IsCharBoundary content.text offset → IsCharBoundary page (before + slice_index content.offsets offset)
  pub ends : (offset : ℕ) → offset < length content.text → IsCharBoundary content.text (offset + 1)
      → IsCharBoundary page (before + slice_index content.offsets offset + 1)

module _ (page : List ℕ) (before : ℕ) (content : Placed) (cut : PlacesCut page before content) where
  range_cut : (range : Range ℕ) → IsCutAt content.text range → IsCutAt page (page_range before content.offsets range)
  range_cut range at = (cut.starts range.start at.0, by (nat_lt range.start range.end) (λ is. ltb-true range.start range.end is))
    where
      by : (some : Bool) → (some ≡ true → range.start < range.end)
          → IsCharBoundary page (if some then before + slice_index content.offsets (range.end - 1) + 1 else before + slice_index content.offsets range.start)
      by false less = cut.starts range.start at.0
      by true less =
          let own = less refl in
          let within = at.1.0 in
          let same : range.end ≡ range.end - 1 + 1 = omega (arith, own) in
          cut.ends (range.end - 1) (omega (arith, own, within)) (subst (IsCharBoundary content.text) same at.1)

  -- of events
  pub placed_at : (events : List RangedEvent) → AreAtBoundaries content.text events
      → AreAtBoundaries page (map (placed before content.offsets) events)
  placed_at [] at = tt
  placed_at (event ∷ later) at = (range_cut event.1 at.0, placed_at later at.1)

-- an element that begins and ends at boundaries
pub element_at : (page : List ℕ) (tag : TagView (List ℕ)) (from to : ℕ) (inner : List RangedEvent) → IsCharBoundary page from → IsCharBoundary page to
    → AreAtBoundaries page inner → AreAtBoundaries page (element tag from to inner)
element_at page tag from to inner begins ends at = ((begins, ends), both_at page inner _ at ((begins, ends), tt))

-- ---- lines

-- each line of a text begins and ends at boundaries
pub lines_at : (text : List ℕ) (event : List ℕ → EventView (List ℕ)) (lines : List (List ℕ)) (from : ℕ) → from ≤ length text → IsUtf8 (drop from text)
    → lines_of (drop from text) ≡ lines → AreAtBoundaries text (line_events event from lines)
lines_at text event [] from within utf8 is = tt
lines_at text event (line ∷ lines) from within utf8 is =
    let cut = line_cut (drop from text) line lines is utf8 in
    let ends = IsCharBoundary-from_rest text from (length line) within cut in
    let rest : drop (length line) (drop from text) ≡ drop (from + length line) text = drop-drop (length line) from text in (
      (IsCharBoundary-from_drop text from within utf8, ends),
      lines_at text event lines (from + length line) ends.0 (subst IsUtf8 rest (IsUtf8-drop (drop from text) (length line) utf8 cut))
          (ap lines_of (sym rest) ∙ first_after (drop from text) line lines is),
    )

min_cut : (page : List ℕ) (a b : ℕ) → IsCharBoundary page a → IsCharBoundary page b → IsCharBoundary page (min a b)
min_cut page a b first second = elim (leb_tells a b) [
  | inl less ↦ (let same : a ≡ min a b = omega (arith, less.1) in subst (IsCharBoundary page) same first)
  | inr more ↦ (let same : b ≡ min a b = omega (arith, more.1) in subst (IsCharBoundary page) same second)
]

-- ---- blocks

module _ (page : List ℕ) (block : LeafBlock) (cut : IsCutOut page block) where
  abbrev lines : List ℕ
  lines = take block.bytes (drop block.start page)

  -- a boundary of the lines of a block is one of the page
  pub in_page : (offset : ℕ) → IsCharBoundary lines offset → IsCharBoundary page (block.start + offset)
  in_page offset at = cut_of_part page block.start block.bytes offset cut.ends at

  pub content_offsets : (kind : BlockKind) (outer : List Container) (kept : ℕ) (content : Placed) → IsContent kind outer kept (lines_of lines) content
      → PlacesCut page block.start content
  content_offsets kind outer kept content is = record {
    starts = λ offset at. elim (leb_tells (length content.text) offset) [
      | inl past ↦
          (let sizes = content_sizes kind outer kept (lines_of lines) content is in
          let none : slice_index content.offsets offset ≡ 0 = get_or_past content.offsets offset 0 (omega (arith, past.1, sizes)) in
          let same : block.start ≡ block.start + slice_index content.offsets offset = omega (arith, none) in
          subst (IsCharBoundary page) same cut.begins)
      | inr inside ↦
          in_page (slice_index content.offsets offset)
          ((content_cuts lines content (content_bytes kind outer kept lines content is) offset inside.1).0 at)
    ];
    ends = λ offset inside at.
        let there = in_page (slice_index content.offsets offset + 1) (content_ends kind outer kept lines content is cut.lines offset inside at) in
        let same : block.start + (slice_index content.offsets offset + 1) ≡ block.start + slice_index content.offsets offset + 1 = omega arith in
        subst (IsCharBoundary page) same there;
  }

  lines_begin : (inner : List RangedEvent) → AreAtBoundaries page inner → IsCharBoundary page (lines_offset block inner)
  lines_begin [] at = cut.offset
  lines_begin (first ∷ later) at = min_cut page block.offset first.1.start cut.offset at.0.0

  pub enclosed_lines_at : (tag : TagView (List ℕ)) (inner : List RangedEvent) → AreAtBoundaries page inner
      → AreAtBoundaries page (enclosed_lines tag block inner)
  enclosed_lines_at tag inner at = element_at page tag (lines_offset block inner) (block_end block) inner (lines_begin inner at) cut.ends at
