-- The content of lines that are UTF-8 is UTF-8: it is cut next to bytes of ASCII.
use Rattle.std.proofs.Common.{ℕ, zero, suc, ◌+◌, ◌-◌, ◌<◌, ◌≤◌, ◌≡◌, ◌⊎◌, List, [], ◌∷◌, ◌++◌, length, take, drop, get_or, inl, inr, replicate}
use Rattle.std.proofs.Common.{refl, sym, subst, arith}
use Rattle.std.specs.Prelude.{◌↔◌, slice_index}
use Rattle.std.specs.List.{AllByRecursion, flat_map}
use Rattle.std.specs.Str.{IsUtf8, IsCharBoundary}
use Rattle.std.proofs.lemmas.List.{take_all}
use Rattle.std.proofs.lemmas.Str.{IsCharBoundary-start, IsUtf8-append, IsUtf8-drop, IsUtf8-from_ascii, IsUtf8-nil}
use Rattle.markdown_scanners_tree.specs.Ascii.{carriage_return, line_feed, number_sign, space, tab}
use Rattle.markdown_scanners_tree.specs.Bytes.{line_head}
use Rattle.markdown_scanners_tree.specs.line.Outcome.{after_all_space}
use Rattle.markdown_scanners_tree.specs.line.State.{LineState, after_space, space_within, unscanned}
use Rattle.markdown_scanners_tree.specs.scanners.TextLines.{lines_of}
use Rattle.markdown_scanners_tree.proofs.ForCallers.{cut_after_ascii}
use Rattle.markdown_blocks.specs.content.Bytes.{AreBytesOf}
use Rattle.markdown_blocks.specs.content.Content.{IsContent, Placed, content_len, joined, text_of}
use Rattle.markdown_blocks.specs.content.Parts.{AreInner, AreParts, ArePartsAt, Part, first_offset}
use Rattle.markdown_blocks.specs.content.Parts.{heading_part, later_parts, later_offset, moved, part_at, text_offset, written}
use Rattle.markdown_blocks.specs.declared.blocks.BlockKind.{BlockKind}
use Rattle.markdown_blocks.specs.declared.blocks.BlockKind.TheVariants.{Blank, Break, Heading, Setext, Indented}
use Rattle.markdown_blocks.specs.declared.blocks.BlockKind.TheVariants.{Fenced, Html, Table, Definition, Paragraph}
use Rattle.markdown_blocks.specs.declared.containers.Container.{Container}
use Rattle.markdown_blocks.specs.info.Info.{after_fence, without_end, without_front}
use Rattle.markdown_blocks.proofs.content.AsciiCuts.{closing_utf8, end_utf8, fence_utf8, front_utf8, head_utf8, words_utf8}
use Rattle.markdown_blocks.proofs.content.ByteLemmas.{inner_first}
use Rattle.markdown_blocks.proofs.content.EndingLemmas.{all_both, all_first, written_all}
use Rattle.markdown_blocks.proofs.content.ReachedLemmas.{Reached, after_all, after_some}
use Rattle.markdown_blocks.proofs.content.ReachedPlaces.{first_reached, later_reached, text_reached}
use Rattle.markdown_blocks.proofs.taken.LineCuts.{lines_utf8}

filler_ascii : (filler : ℕ) → filler < 128 → (n i : ℕ) → get_or (replicate n filler) i 0 < 128
filler_ascii filler low zero i = omega arith
filler_ascii filler low (suc n) zero = low
filler_ascii filler low (suc n) (suc i) = filler_ascii filler low n i

-- ---- parts of a line

module _ (line : List ℕ) (utf8 : IsUtf8 line) where
  -- where an offset is reached the line may be cut
  offset_cut : (s : LineState) → Reached line s → IsCharBoundary line s.offset
  offset_cut s r = by s.offset r.within r.after_ascii
    where
      by : (n : ℕ) → n ≤ length line → (0 < n → get_or line (n - 1) 0 < 128) → IsCharBoundary line n
      by zero within low = IsCharBoundary-start line utf8
      by (suc n) within low = cut_after_ascii line (suc n) utf8 within (omega arith) (low (omega arith))

  pub rest_utf8 : (s : LineState) → Reached line s → IsUtf8 (unscanned s)
  rest_utf8 s r = subst (λ (l : List ℕ). IsUtf8 (drop s.offset l)) (sym r.of_line) (IsUtf8-drop line s.offset utf8 (offset_cut s r))

  heading_utf8 : (s : LineState) → Reached line s → IsUtf8 (heading_part s).bytes
  heading_utf8 s r =
      let text = unscanned (after_all_space (after_space 4 s)) in
      let after = without_front (after_fence number_sign text) in
      let whole = rest_utf8 (after_all_space (after_space 4 s)) (after_all line (after_space 4 s) (after_some line s r 4)) in
      closing_utf8 (without_end (line_head after))
      (end_utf8 (line_head after) (head_utf8 after (front_utf8 (after_fence number_sign text) (fence_utf8 number_sign (omega arith) text whole))))

-- a byte of ASCII fills each part, and its bytes are UTF-8
abbrev pub IsUtf8Part : Part → Type 0
IsUtf8Part p = (p.filler < 128) × IsUtf8 p.bytes

abbrev pub AreUtf8 : List Part → Type 0
AreUtf8 parts = AllByRecursion IsUtf8Part parts

written_are : (kind : BlockKind) (p : Part) → IsUtf8Part p → AreUtf8 (written kind p)
written_are kind p is = written_all IsUtf8Part kind p is (λ returns. ((is.0, head_utf8 p.bytes is.1), (omega arith, IsUtf8-nil)))

later_are : (kind : BlockKind) (outer : List Container) (indent before : ℕ) (lines : List (List ℕ)) → AllByRecursion IsUtf8 lines
    → AreUtf8 (later_parts kind outer indent before lines)
later_are kind outer indent before [] all = tt
later_are kind outer indent before (line ∷ lines) all =
    let s = text_offset kind indent (later_offset kind outer line) in
    let r = text_reached line kind indent (later_offset kind outer line) (later_reached line kind outer) in
    all_both IsUtf8Part (written kind (moved before (part_at s))) (later_parts kind outer indent (before + length line) lines)
    (written_are kind (moved before (part_at s)) (omega arith, rest_utf8 line all.0 s r))
    (later_are kind outer indent (before + length line) lines all.1)

-- ---- the parts of a block

module _ (line : List ℕ) (later : List (List ℕ)) (outer : List Container) (utf8 : IsUtf8 line) (all : AllByRecursion IsUtf8 later) where
  inner_are : (kind : BlockKind) (indent : ℕ) (inner : List (List ℕ)) → AreInner kind outer later inner
      → AreUtf8 (later_parts kind outer indent (length line) inner)
  inner_are kind indent inner are =
      let front = inner_first kind outer later inner are in
      later_are kind outer indent (length line) inner (all_first IsUtf8 inner front.0 (subst (AllByRecursion IsUtf8) front.1 all))

  text_are : (kind : BlockKind) (s : LineState) → Reached line s → (parts : List Part)
      → (inner : List (List ℕ)) × AreInner kind outer later inner
      × (parts ≡ written kind (part_at (text_offset kind 0 s)) ++ later_parts kind outer 0 (length line) inner) → AreUtf8 parts
  text_are kind s r parts (inner, are, is) =
      let p = part_at (text_offset kind 0 s) in
      subst AreUtf8 (sym is)
      (all_both IsUtf8Part (written kind p) (later_parts kind outer 0 (length line) inner)
      (written_are kind p (omega arith, rest_utf8 line utf8 (text_offset kind 0 s) (text_reached line kind 0 s r))) (inner_are kind 0 inner are))

  none_are : (parts : List Part) → parts ≡ [] → AreUtf8 parts
  none_are parts none = subst AreUtf8 (sym none) tt

  parts_are : (kind : BlockKind) (s : LineState) → Reached line s → (parts : List Part) → ArePartsAt kind outer s (length line) later parts
      → AreUtf8 parts
  parts_are Blank s r parts none = none_are parts none
  parts_are Break s r parts none = none_are parts none
  parts_are (Table columns) s r parts none = none_are parts none
  parts_are (Heading level) s r parts is = subst AreUtf8 (sym is) ((omega arith, heading_utf8 line utf8 s r), tt)
  parts_are (Fenced count byte) s r parts (inner, are, is) =
      subst AreUtf8 (sym is) (inner_are (Fenced count byte) (space_within 4 s) inner are)
  parts_are (Setext level) s r parts are = text_are (Setext level) s r parts are
  parts_are Indented s r parts are = text_are Indented s r parts are
  parts_are (Html kind) s r parts are = text_are (Html kind) s r parts are
  parts_are Definition s r parts are = text_are Definition s r parts are
  parts_are Paragraph s r parts are = text_are Paragraph s r parts are

pub block_parts_are : (kind : BlockKind) (outer : List Container) (kept : ℕ) (lines : List (List ℕ)) (parts : List Part) → AllByRecursion IsUtf8 lines
    → AreParts kind outer kept lines parts → AreUtf8 parts
block_parts_are kind outer kept [] parts all none = subst AreUtf8 (sym none) tt
block_parts_are kind outer kept (line ∷ later) parts all are =
    parts_are line later outer all.0 all.1 kind (first_offset kept outer line) (first_reached line kept outer) parts are

-- ---- the content

text_utf8 : (p : Part) → IsUtf8Part p → IsUtf8 (text_of p)
text_utf8 p is =
    let columns = replicate p.columns p.filler in
    IsUtf8-append columns p.bytes (IsUtf8-from_ascii columns (filler_ascii p.filler is.0 p.columns)) is.1

pub joined_utf8 : (parts : List Part) → AreUtf8 parts → IsUtf8 (flat_map text_of parts)
joined_utf8 [] all = IsUtf8-nil
joined_utf8 (p ∷ parts) all = IsUtf8-append (text_of p) (flat_map text_of parts) (text_utf8 p all.0) (joined_utf8 parts all.1)

code_utf8 : (text : List ℕ) → IsUtf8 text → IsUtf8 (take (length text) text)
code_utf8 text utf8 = subst IsUtf8 (sym (take_all (length text) text (omega arith))) utf8

front_is : (kind : BlockKind) (text : List ℕ) → IsUtf8 text → IsUtf8 (take (content_len kind text) text)
front_is Indented text utf8 = code_utf8 text utf8
front_is (Fenced count byte) text utf8 = code_utf8 text utf8
front_is (Html kind) text utf8 = code_utf8 text utf8
front_is Blank text utf8 = words_utf8 text utf8
front_is Break text utf8 = words_utf8 text utf8
front_is (Heading level) text utf8 = words_utf8 text utf8
front_is (Setext level) text utf8 = words_utf8 text utf8
front_is (Table columns) text utf8 = words_utf8 text utf8
front_is Definition text utf8 = words_utf8 text utf8
front_is Paragraph text utf8 = words_utf8 text utf8

-- the content of lines that are UTF-8
pub content_utf8 : (kind : BlockKind) (outer : List Container) (kept : ℕ) (lines : List ℕ) (content : Placed)
    → IsContent kind outer kept (lines_of lines) content → IsUtf8 lines → IsUtf8 content.text
content_utf8 kind outer kept lines content is utf8 =
    subst (λ (c : Placed). IsUtf8 c.text) (sym is.is_content)
    (front_is kind (joined is.parts).text
    (joined_utf8 is.parts (block_parts_are kind outer kept (lines_of lines) is.parts (lines_utf8 (lines_of lines) lines refl utf8) is.are_parts)))

-- A content may be cut before one of its bytes exactly where the lines may be cut before that byte's offset.
pub content_cuts : (lines : List ℕ) (content : Placed) → AreBytesOf lines content → (offset : ℕ) → offset < length content.text
    → IsCharBoundary content.text offset ↔ IsCharBoundary lines (slice_index content.offsets offset)
content_cuts lines content bytes offset inside = by (slice_index content.offsets offset) (bytes offset inside).0 (bytes offset inside).1
  where
    ascii : (source : ℕ) → source < length lines → slice_index content.text offset < 128 → slice_index lines source < 128
        → IsCharBoundary content.text offset ↔ IsCharBoundary lines source
    ascii source within one other = (
      λ cut. (omega (arith, within), λ low high. absurd (omega (arith, other, high))),
      λ cut. (omega (arith, inside), λ low high. absurd (omega (arith, one, high))),
    )

    by : (source : ℕ) → source < length lines
        → (slice_index content.text offset ≡ slice_index lines source)
        ⊎ (((slice_index content.text offset ≡ space) × (slice_index lines source ≡ tab))
        ⊎ ((slice_index content.text offset ≡ line_feed) × (slice_index lines source ≡ carriage_return)))
        → IsCharBoundary content.text offset ↔ IsCharBoundary lines source
    by source within (inl same) = (
      λ cut. (omega (arith, within), λ low high. subst (λ b. 192 ≤ b) same (cut.1 inside (subst (λ b. 128 ≤ b) (sym same) high))),
      λ cut. (omega (arith, inside), λ low high. subst (λ b. 192 ≤ b) (sym same) (cut.1 within (subst (λ b. 128 ≤ b) same high))),
    )
    by source within (inr (inl (one, other))) = ascii source within (omega (arith, one)) (omega (arith, other))
    by source within (inr (inr (one, other))) = ascii source within (omega (arith, one)) (omega (arith, other))
