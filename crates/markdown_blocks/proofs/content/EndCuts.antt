-- Where a content may be cut after one of its bytes, the lines may be cut after that byte's offset.
use Rattle.std.proofs.Common.{ℕ, ◌+◌, ◌-◌, ◌<◌, ◌≤◌, ◌≡◌, List, [], ◌∷◌, ◌++◌, length, take, drop, get_or, inl, inr, replicate}
use Rattle.std.proofs.Common.{refl, sym, ap, ◌∙◌, subst, arith}
use Rattle.std.specs.Prelude.{slice_index}
use Rattle.std.specs.List.{AllByRecursion, flat_map, range_with_len}
use Rattle.std.specs.Str.{IsUtf8, IsCharBoundary}
use Rattle.std.proofs.lemmas.Bool.Decides.{leb_tells, nat_tests}
use Rattle.std.proofs.lemmas.List.{get_or-append_right, get_or-drop, get_or-replicate, get_or-take, get_or_append_left}
use Rattle.std.proofs.lemmas.List.{length-append, length-replicate, length-take, take-take}
use Rattle.std.proofs.lemmas.List.FromFn.{get_or-range_with_len}
use Rattle.std.proofs.lemmas.Str.{IsCharBoundary-after_ascii, IsCharBoundary-from_rest, IsCharBoundary-from_take}
use Rattle.std.proofs.lemmas.Str.{IsCharBoundary-start, IsUtf8-drop, IsUtf8-take}
use Rattle.markdown_scanners_tree.specs.scanners.TextLines.{lines_of}
use Rattle.markdown_scanners_tree.proofs.ForCallers.{lines_joined}
use Rattle.markdown_blocks.specs.content.Content.{IsContent, Placed, content_len, joined, offsets_of, text_of}
use Rattle.markdown_blocks.specs.content.Parts.{Part}
use Rattle.markdown_blocks.specs.content.Seen.{IsIn}
use Rattle.markdown_blocks.specs.declared.blocks.BlockKind.{BlockKind}
use Rattle.markdown_blocks.specs.declared.containers.Container.{Container}
use Rattle.markdown_blocks.proofs.content.ByteLemmas.{IsFillerOf, IsPartIn, parts_in, offsets_size, text_size}
use Rattle.markdown_blocks.proofs.content.EndingLemmas.{lines_well}
use Rattle.markdown_blocks.proofs.content.CutMoves.{cut_of_first}
pub use Rattle.markdown_blocks.proofs.content.cell.EscapeLemmas.{cell_bytes}
use Rattle.markdown_blocks.proofs.content.Utf8Lemmas.{AreUtf8, IsUtf8Part, block_parts_are, content_utf8, joined_utf8}
use Rattle.markdown_blocks.proofs.taken.LineCuts.{lines_utf8}

-- where two texts may be cut together, so may the first or the second
pub cut_in_first : (xs ys : List ℕ) (i : ℕ) → i ≤ length xs → IsCharBoundary (xs ++ ys) i → IsCharBoundary xs i
cut_in_first xs ys i within cut = (
  within,
  λ low high.
      let same = get_or_append_left xs ys 0 i low in
      subst (λ b. 192 ≤ b) same (cut.1 (omega (arith, low, length-append xs ys)) (subst (λ b. 128 ≤ b) (sym same) high)),
)

pub cut_in_second : (xs ys : List ℕ) (n i : ℕ) → length xs ≡ n → n ≤ i → IsCharBoundary (xs ++ ys) i → IsCharBoundary ys (i - n)
cut_in_second xs ys n i size far cut =
    let within = cut.0 in (
      omega (arith, within, size, far, length-append xs ys),
      λ low high.
          let same = get_or-append_right xs ys n i 0 size far in
          subst (λ b. 192 ≤ b) same (cut.1 (omega (arith, low, size, far, length-append xs ys)) (subst (λ b. 128 ≤ b) (sym same) high)),
    )

-- a byte in place of which columns stand is ASCII
filled_low : (byte filler : ℕ) → IsFillerOf byte filler → byte < 128
filled_low byte filler (inl (spaced, tabbed)) = omega (arith, tabbed)
filled_low byte filler (inr (feed, ends)) = grind (arith, nat_tests)

module _ (lines : List ℕ) (utf8 : IsUtf8 lines) where
  -- bytes that are UTF-8 and stand in the lines
  bytes_cut : (p : Part) → IsIn lines p → IsUtf8 p.bytes → (j : ℕ) → j < length p.bytes → IsCharBoundary p.bytes (j + 1)
      → IsCharBoundary lines (p.offset + (j + 1))
  bytes_cut p is own j low cut =
      let inside = is.0 in
      let rest = drop (p.offset + length p.bytes) lines in
      let first : get_or lines p.offset 0 ≡ get_or p.bytes 0 0 =
      ap (λ n. get_or lines n 0) (let same : p.offset ≡ p.offset + 0 = omega arith in same) ∙ sym (get_or-drop p.offset lines 0 0)
      ∙ ap (λ (t : List ℕ). get_or t 0 0) is.1 ∙ get_or_append_left p.bytes rest 0 0 (omega (arith, low)) in
      let start = IsCharBoundary-start p.bytes own in
      let begins : IsCharBoundary lines p.offset = (
        omega (arith, inside),
        λ within high. subst (λ b. 192 ≤ b) (sym first) (start.1 (omega (arith, low)) (subst (λ b. 128 ≤ b) first high)),
      ) in
      let whole = sym is.1 in
      IsCharBoundary-from_rest lines p.offset (j + 1) (omega (arith, inside))
      (subst (λ (t : List ℕ). IsCharBoundary t (j + 1)) whole
      (cut_of_first p.bytes rest (j + 1) (subst IsUtf8 is.1 (IsUtf8-drop lines p.offset utf8 begins)) own cut))

  -- a part, which may have columns of a tab before its bytes
  part_cut : (p : Part) → IsPartIn lines p → IsUtf8Part p → (i : ℕ) → i < length (text_of p) → IsCharBoundary (text_of p) (i + 1)
      → IsCharBoundary lines (get_or (offsets_of p) i 0 + 1)
  part_cut p is own i low cut =
      let size = text_size p in
      let spaces = length-replicate p.columns p.filler in
      elim (leb_tells p.columns i) [
        | inl far ↦ (let j = i - p.columns in
            let fits : j < length p.bytes = omega (arith, low, size, far.1) in
            let offset : get_or (offsets_of p) i 0 ≡ p.offset + j =
            get_or-append_right (replicate p.columns (p.offset - 1)) (range_with_len p.offset (length p.bytes)) p.columns i 0
            (length-replicate p.columns (p.offset - 1)) far.1 ∙ get_or-range_with_len p.offset (length p.bytes) j 0 fits in
            let at : i + 1 - p.columns ≡ j + 1 = omega (arith, far.1) in
            let inner = subst (IsCharBoundary p.bytes) at
            (cut_in_second (replicate p.columns p.filler) p.bytes p.columns (i + 1) spaces (omega (arith, far.1)) cut) in
            let end : p.offset + (j + 1) ≡ get_or (offsets_of p) i 0 + 1 = omega (arith, offset) in
            subst (IsCharBoundary lines) end (bytes_cut p is.0 own.1 j fits inner))
        | inr near ↦ (let after = is.1 (omega (arith, near.1)) in
            let before = after.0 in
            let inside = is.0.0 in
            let offset : get_or (offsets_of p) i 0 ≡ p.offset - 1 =
            get_or_append_left (replicate p.columns (p.offset - 1)) (range_with_len p.offset (length p.bytes)) 0 i
            (omega (arith, near.1, length-replicate p.columns (p.offset - 1)))
            ∙ get_or-replicate p.columns i (p.offset - 1) 0 near.1 in
            subst (λ n. IsCharBoundary lines (n + 1)) (sym offset)
            (IsCharBoundary-after_ascii lines (p.offset - 1) utf8 (omega (arith, before, inside)) (filled_low _ _ after.1)))
      ]

  parts_cut : (parts : List Part) → AllByRecursion (IsPartIn lines) parts → AreUtf8 parts → (i : ℕ) → i < length (flat_map text_of parts)
      → IsCharBoundary (flat_map text_of parts) (i + 1) → IsCharBoundary lines (get_or (flat_map offsets_of parts) i 0 + 1)
  parts_cut [] all own i low cut = absurd (omega (arith, low))
  parts_cut (p ∷ parts) all own i low cut =
      let n = length (text_of p) in
      let texts = flat_map text_of parts in
      let offsets = flat_map offsets_of parts in
      let sizes = length-append (text_of p) texts in
      elim (leb_tells n i) [
        | inl far ↦ (let at : i + 1 - n ≡ i - n + 1 = omega (arith, far.1) in
            let later = parts_cut parts all.1 own.1 (i - n) (omega (arith, low, sizes, far.1))
            (subst (IsCharBoundary texts) at (cut_in_second (text_of p) texts n (i + 1) refl (omega (arith, far.1)) cut)) in
            subst (λ k. IsCharBoundary lines (k + 1)) (sym (get_or-append_right (offsets_of p) offsets n i 0 (offsets_size p) far.1)) later)
        | inr near ↦ (let here = part_cut p all.0 own.0 i near.1 (cut_in_first (text_of p) texts (i + 1) (omega (arith, near.1)) cut) in
            subst (λ k. IsCharBoundary lines (k + 1)) (sym (get_or_append_left (offsets_of p) offsets 0 i (omega (arith, near.1, offsets_size p)))) here)
      ]

-- Where the content of lines that are UTF-8 may be cut after one of its bytes, so may the lines after that byte's offset.
pub content_ends : (kind : BlockKind) (outer : List Container) (kept : ℕ) (lines : List ℕ) (content : Placed)
    → IsContent kind outer kept (lines_of lines) content → IsUtf8 lines → (offset : ℕ) → offset < length content.text
    → IsCharBoundary content.text (offset + 1) → IsCharBoundary lines (slice_index content.offsets offset + 1)
content_ends kind outer kept lines content is utf8 offset low cut =
    let n = content_len kind (joined is.parts).text in
    let text = flat_map text_of is.parts in
    let offsets = flat_map offsets_of is.parts in
    let text_is : content.text ≡ take n text = ap (λ (c : Placed). c.text) is.is_content in
    let few = length-take n text in
    let inside : offset < length (take n text) = omega (arith, low, ap length text_is) in
    let in_front : offset < n = omega (arith, inside, few) in
    let own = block_parts_are kind outer kept (lines_of lines) is.parts (lines_utf8 (lines_of lines) lines refl utf8) is.are_parts in
    let front : take (offset + 1) content.text ≡ take (offset + 1) text =
    ap (take (offset + 1)) text_is ∙ take-take (offset + 1) n text (omega (arith, in_front)) in
    let joined_cut : IsCharBoundary text (offset + 1) =
    IsCharBoundary-from_take text (offset + 1) (joined_utf8 is.parts own) (omega (arith, inside, few))
    (subst IsUtf8 front (IsUtf8-take content.text (offset + 1) (content_utf8 kind outer kept lines content is utf8) cut)) in
    let all = parts_in kind outer kept lines (lines_of lines) (sym (lines_joined lines)) (lines_well lines) is.parts is.are_parts in
    let here = parts_cut lines utf8 is.parts all own offset (omega (arith, inside, few)) joined_cut in
    subst (λ (c : Placed). IsCharBoundary lines (get_or c.offsets offset 0 + 1)) (sym is.is_content)
    (subst (λ k. IsCharBoundary lines (k + 1)) (sym (get_or-take n offsets offset 0 in_front)) here)
