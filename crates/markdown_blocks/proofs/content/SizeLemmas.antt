-- How many bytes a content has: as many as its lines at most, where no tab is cut, and three for each of theirs, where some are.
use Rattle.std.proofs.Common.{ℕ, suc, ◌+◌, ◌*◌, ◌<◌, ◌≤◌, ◌≡◌, List, [], ◌∷◌, ◌++◌, length, take, ap, sym, subst, arith, inl, inr, length-append, refl}
use Rattle.std.specs.Prelude.{⊤, slice_index}
use Rattle.std.specs.List.{AllByRecursion, flat_map}
use Rattle.std.proofs.lemmas.Bool.Decides.{leb_tells}
use Rattle.std.proofs.lemmas.List.{length-take}
use Rattle.markdown_scanners_tree.specs.line.State.{LineState, space_within}
use Rattle.markdown_scanners_tree.specs.scanners.TextLines.{lines_of}
use Rattle.markdown_scanners_tree.proofs.ForCallers.{lines_joined}
use Rattle.markdown_blocks.specs.content.Content.{IsContent, Placed, content_len, joined, text_of}
use Rattle.markdown_blocks.specs.content.Parts.{AreParts, ArePartsAt, Part, first_offset, later_offset, later_parts, moved, part_at, text_offset, written}
use Rattle.markdown_blocks.specs.content.Parts.{AreInner}
use Rattle.markdown_blocks.specs.declared.blocks.BlockKind.{BlockKind}
use Rattle.markdown_blocks.specs.declared.blocks.BlockKind.TheVariants.{Blank, Break, Heading, Setext, Indented}
use Rattle.markdown_blocks.specs.declared.blocks.BlockKind.TheVariants.{Fenced, Html, Table, Definition, Paragraph}
use Rattle.markdown_blocks.specs.declared.containers.Container.{Container}
use Rattle.markdown_blocks.proofs.content.ByteLemmas.{IsPartIn, StandAfter, content_bytes, content_sizes, parts_after, parts_in, text_size}
use Rattle.markdown_blocks.proofs.content.EndingLemmas.{all_both, lines_well, written_all}
use Rattle.markdown_blocks.proofs.content.PastLemmas.{HasInlines, RiseStrictly, inlines_strictly}
use Rattle.markdown_blocks.proofs.content.ReachedLemmas.{Reached}
use Rattle.markdown_blocks.proofs.content.ReachedPlaces.{first_reached, later_reached, text_reached}

-- ---- columns

-- three columns at most stand in place of a byte
abbrev HasFew : Part → Type 0
HasFew p = p.columns ≤ 3

written_few : (kind : BlockKind) (p : Part) → HasFew p → AllByRecursion HasFew (written kind p)
written_few kind p few = written_all HasFew kind p few (λ returns. (few, omega arith))

later_few : (kind : BlockKind) (outer : List Container) (indent before : ℕ) (lines : List (List ℕ))
    → AllByRecursion HasFew (later_parts kind outer indent before lines)
later_few kind outer indent before [] = tt
later_few kind outer indent before (line ∷ lines) =
    let s = text_offset kind indent (later_offset kind outer line) in
    let r = text_reached line kind indent (later_offset kind outer line) (later_reached line kind outer) in
    all_both HasFew (written kind (moved before (part_at s))) (later_parts kind outer indent (before + length line) lines)
    (written_few kind (moved before (part_at s)) (omega (arith, r.few)))
    (later_few kind outer indent (before + length line) lines)

module _ (line : List ℕ) (later : List (List ℕ)) (outer : List Container) where
  none_few : (parts : List Part) → parts ≡ [] → AllByRecursion HasFew parts
  none_few parts none = subst (AllByRecursion HasFew) (sym none) tt

  text_few : (kind : BlockKind) (s : LineState) → Reached line s → (parts : List Part)
      → (inner : List (List ℕ)) × AreInner kind outer later inner
      × (parts ≡ written kind (part_at (text_offset kind 0 s)) ++ later_parts kind outer 0 (length line) inner) → AllByRecursion HasFew parts
  text_few kind s r parts (inner, are, is) =
      let there = text_reached line kind 0 s r in
      subst (AllByRecursion HasFew) (sym is)
      (all_both HasFew (written kind (part_at (text_offset kind 0 s))) (later_parts kind outer 0 (length line) inner)
      (written_few kind (part_at (text_offset kind 0 s)) (omega (arith, there.few))) (later_few kind outer 0 (length line) inner))

  first_few : (kind : BlockKind) (s : LineState) → Reached line s → (parts : List Part) → ArePartsAt kind outer s (length line) later parts
      → AllByRecursion HasFew parts
  first_few Blank s r parts none = none_few parts none
  first_few Break s r parts none = none_few parts none
  first_few (Table columns) s r parts none = none_few parts none
  first_few (Heading level) s r parts is = subst (AllByRecursion HasFew) (sym is) (omega arith, tt)
  first_few (Fenced count byte) s r parts (inner, are, is) =
      subst (AllByRecursion HasFew) (sym is) (later_few (Fenced count byte) outer (space_within 4 s) (length line) inner)
  first_few (Setext level) s r parts are = text_few (Setext level) s r parts are
  first_few Indented s r parts are = text_few Indented s r parts are
  first_few (Html kind) s r parts are = text_few (Html kind) s r parts are
  first_few Definition s r parts are = text_few Definition s r parts are
  first_few Paragraph s r parts are = text_few Paragraph s r parts are

parts_few : (kind : BlockKind) (outer : List Container) (kept : ℕ) (lines : List (List ℕ)) (parts : List Part)
    → AreParts kind outer kept lines parts → AllByRecursion HasFew parts
parts_few kind outer kept [] parts none = subst (AllByRecursion HasFew) (sym none) tt
parts_few kind outer kept (line ∷ later) parts are =
    first_few line later outer kind (first_offset kept outer line) (first_reached line kept outer) parts are

-- ---- bytes

-- parts that stand one after another in the lines
parts_size : (lines : List ℕ) (from : ℕ) (parts : List Part) → from ≤ length lines → StandAfter from parts → AllByRecursion (IsPartIn lines) parts
    → AllByRecursion HasFew parts → length (flat_map text_of parts) + 3 * from ≤ 3 * length lines
parts_size lines from [] low after inside few = omega (arith, low)
parts_size lines from (p ∷ parts) low after inside few =
    let there = inside.0.0.0 in
    let rest = parts_size lines (p.offset + length p.bytes) parts there after.3 inside.1 few.1 in
    let size = length-append (text_of p) (flat_map text_of parts) in
    elim (leb_tells 1 p.columns) [
      | inl some ↦ (let past = after.1 (omega (arith, some.1)) in omega (arith, size, text_size p, few.0, past, rest))
      | inr none ↦ omega (arith, size, text_size p, none.1, after.0, rest)
    ]

-- A content has three bytes at most for each byte of its lines.
pub content_few : (kind : BlockKind) (outer : List Container) (kept : ℕ) (lines : List ℕ) (content : Placed)
    → IsContent kind outer kept (lines_of lines) content → length content.text ≤ 3 * length lines
content_few kind outer kept lines content is =
    let n = content_len kind (joined is.parts).text in
    let text = flat_map text_of is.parts in
    let size : length content.text ≡ length (take n text) = ap (λ (c : Placed). length c.text) is.is_content in
    let all = parts_in kind outer kept lines (lines_of lines) (sym (lines_joined lines)) (lines_well lines) is.parts is.are_parts in
    omega (
      arith,
      size,
      length-take n text,
      parts_size lines 0 is.parts (omega arith) (parts_after kind outer kept (lines_of lines) is.parts is.are_parts) all
          (parts_few kind outer kept (lines_of lines) is.parts is.are_parts),
    )

-- offsets that rise are no more than there are below their limit
strictly_few : (offsets : List ℕ) (from limit : ℕ) → from ≤ limit → RiseStrictly from offsets
    → ((i : ℕ) → i < length offsets → slice_index offsets i < limit) → length offsets + from ≤ limit
strictly_few [] from limit low rise below = omega (arith, low)
strictly_few (offset ∷ offsets) from limit low rise below =
    let here : offset < limit = below 0 (omega arith) in
    let rest = strictly_few offsets (suc offset) limit (omega (arith, here)) rise.1 (λ i inside. below (suc i) (omega (arith, inside))) in
    omega (arith, rise.0, rest)

-- A content of inlines has as many bytes as its lines at most.
pub inlines_few : (kind : BlockKind) (outer : List Container) (kept : ℕ) (lines : List ℕ) (content : Placed) → HasInlines kind
    → IsContent kind outer kept (lines_of lines) content → length content.text ≤ length lines
inlines_few kind outer kept lines content has is =
    let each = content_sizes kind outer kept (lines_of lines) content is in
    let stand = content_bytes kind outer kept lines content is in
    omega (
      arith,
      each,
      strictly_few content.offsets 0 (length lines) (omega arith) (inlines_strictly kind outer kept (lines_of lines) content has is)
          (λ i inside. (stand i (omega (arith, inside, each))).0),
    )
