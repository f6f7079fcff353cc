-- The bytes of a content stand in the lines at their places.
use Rattle.std.proofs.Common.{ℕ, zero, suc, true, ◌==◌, ◌⊎◌, ◌+◌, ◌-◌, ◌<◌, ◌≤◌, ◌≡◌, List, [], ◌∷◌, ◌++◌, length, take, drop, get_or, replicate}
use Rattle.std.proofs.Common.{refl, sym, ap, ◌∙◌, subst, inl, inr, arith, append_assoc, append-nil, length-append}
use Rattle.std.specs.Prelude.{⊤}
use Rattle.std.specs.List.{AllByRecursion, concat, flat_map, range_with_len}
use Rattle.std.proofs.lemmas.Bool.{cases_Bool, eqb-true}
use Rattle.std.proofs.lemmas.Bool.Decides.{leb_tells}
use Rattle.std.proofs.lemmas.List.{drop-append-le, drop-drop, drop_all, get_or-append_right}
use Rattle.std.proofs.lemmas.List.{get_or-drop, get_or-replicate, get_or-take, get_or_append_left}
use Rattle.std.proofs.lemmas.List.{length-drop, length-replicate, length-take}
use Rattle.std.proofs.lemmas.List.Folds.{concat-append}
use Rattle.std.proofs.lemmas.List.FromFn.{get_or-range_with_len, length-range_with_len}
use Rattle.std.proofs.Math.Seq.{drop-append_seam}
use Rattle.markdown_scanners_tree.specs.Ascii.{carriage_return, line_feed, number_sign, space, tab}
use Rattle.markdown_scanners_tree.specs.Bytes.{is_line_ending, line_head}
use Rattle.markdown_scanners_tree.specs.line.Outcome.{after_all_space}
use Rattle.markdown_scanners_tree.specs.line.State.{LineState, after_space, space_within, unscanned}
use Rattle.markdown_scanners_tree.specs.scanners.TextLines.{lines_of}
use Rattle.markdown_scanners_tree.proofs.ForCallers.{lines_joined}
use Rattle.markdown_blocks.specs.content.Bytes.{AreBytesOf, IsByteAt}
use Rattle.markdown_blocks.specs.content.Content.{IsContent, Placed, content_len, joined, offsets_of, text_of}
use Rattle.markdown_blocks.specs.content.Parts.{AreInner, AreParts, ArePartsAt, Part, first_offset}
use Rattle.markdown_blocks.specs.content.Parts.{ended, ending_of, has_return, heading_part, later_parts, later_offset, moved, part_at, text_offset, written}
use Rattle.markdown_blocks.specs.content.Seen.{IsIn}
use Rattle.markdown_blocks.specs.declared.blocks.BlockKind.{BlockKind}
use Rattle.markdown_blocks.specs.declared.blocks.BlockKind.TheVariants.{Blank, Break, Heading, Setext, Indented}
use Rattle.markdown_blocks.specs.declared.blocks.BlockKind.TheVariants.{Fenced, Html, Table, Definition, Paragraph}
use Rattle.markdown_blocks.specs.declared.containers.Container.{Container}
use Rattle.markdown_blocks.specs.info.Info.{after_fence, without_front}
use Rattle.markdown_blocks.proofs.content.EndingLemmas.{EndsWell, all_both, all_first, ending_inside, head_inside, head_less, lines_well}
use Rattle.markdown_blocks.proofs.content.EndingLemmas.{well_drop, written_all}
use Rattle.markdown_blocks.proofs.content.ReachedLemmas.{Reached, after_all, after_some}
use Rattle.markdown_blocks.proofs.content.ReachedPlaces.{first_reached, later_reached, text_reached}
use Rattle.markdown_blocks.proofs.content.parts.HeadingLemmas.{heading_in, heading_is}

-- columns of this filler may stand in place of this byte
abbrev pub IsFillerOf : ℕ → ℕ → Type 0
IsFillerOf byte filler = ((filler ≡ space) × (byte ≡ tab)) ⊎ ((filler ≡ line_feed) × (is_line_ending byte ≡ true))

-- a part's bytes stand in the lines at its offset, and directly before them the byte that its columns replace, if it has any
abbrev pub IsPartIn : List ℕ → Part → Type 0
IsPartIn lines p = IsIn lines p × (0 < p.columns → (0 < p.offset) × IsFillerOf (get_or lines (p.offset - 1) 0) p.filler)

-- what is left of a line
pub left_in : (line : List ℕ) (s : LineState) → Reached line s → IsPartIn line (part_at s)
left_in line s r =
    let size : length (unscanned s) ≡ length line - s.offset = length-drop s.offset s.bytes ∙ ap (λ l. length l - s.offset) r.of_line in
    let inside = r.within in
    let end : length line ≤ s.offset + length (unscanned s) = omega (arith, size) in (
      (
        omega (arith, size, inside),
        ap (drop s.offset) (sym r.of_line) ∙ sym (append-nil (unscanned s))
            ∙ ap (λ t. unscanned s ++ t) (sym (drop_all (s.offset + length (unscanned s)) line end)),
      ),
      λ some. ((r.after_tab some).0, inl (refl, (r.after_tab some).1)),
    )

-- what stands in a line stands in the text, before whose line so many bytes stand
pub moved_in : (text line rest : List ℕ) (before : ℕ) → before ≤ length text → drop before text ≡ line ++ rest → (p : Part) → IsPartIn line p
    → IsPartIn text (moved before p)
moved_in text line rest before within stands p is =
    let e = p.offset + length p.bytes in
    let inside = is.0.0 in
    let size : length text - before ≡ length line + length rest = sym (length-drop before text) ∙ ap length stands ∙ length-append line rest in
    let low : p.offset ≤ length line = omega (arith, inside) in
    let at : before + p.offset + length p.bytes ≡ before + e = omega arith in (
      (
        omega (arith, inside, size, within),
        sym (drop-drop p.offset before text) ∙ ap (drop p.offset) stands ∙ drop-append-le p.offset line rest low ∙ ap (λ t. t ++ rest) is.0.1
            ∙ append_assoc p.bytes (drop e line) rest
            ∙ ap (λ t. p.bytes ++ t) (sym (drop-append-le e line rest inside) ∙ ap (drop e) (sym stands) ∙ drop-drop e before text
            ∙ ap (λ n. drop n text) (sym at)),
      ),
      λ some.
          let there = is.1 some in
          let after = there.0 in
          let offset : before + p.offset - 1 ≡ before + (p.offset - 1) = omega (arith, after) in (
            omega (arith, after),
            subst (λ b. IsFillerOf b p.filler) (sym (ap (λ n. get_or text n 0) offset ∙ sym (get_or-drop before text (p.offset - 1) 0)
                ∙ ap (λ t. get_or t (p.offset - 1) 0) stands ∙ get_or_append_left line rest 0 (p.offset - 1) (omega (arith, after, low)))) there.1,
          ),
    )

pub first_in : (text line rest : List ℕ) → text ≡ line ++ rest → (p : Part) → IsPartIn line p → IsPartIn text p
first_in text line rest stands p is =
    let at : 0 + p.offset ≡ p.offset = omega arith in
    subst (λ n. IsPartIn text (record { columns = p.columns; filler = p.filler; offset = n; bytes = p.bytes })) at
    (moved_in text line rest 0 (omega arith) stands p is)

-- what is written of a part that stands in the lines and ends as one of them
pub written_in : (lines : List ℕ) (kind : BlockKind) (p : Part) → IsPartIn lines p → EndsWell p.bytes → AllByRecursion (IsPartIn lines) (written kind p)
written_in lines kind p is well = written_all (IsPartIn lines) kind p is (λ returns.
    let few = head_less p.bytes returns in
    let n = length p.bytes in
    let last : get_or lines (p.offset + n - 1) 0 ≡ get_or p.bytes (n - 1) 0 =
    ap (λ k. get_or lines k 0) (omega (arith, few)) ∙ sym (get_or-drop p.offset lines (n - 1) 0) ∙ ap (λ t. get_or t (n - 1) 0) is.0.1
    ∙ get_or_append_left p.bytes (drop (p.offset + n) lines) 0 (n - 1) (omega (arith, few)) in (
      (head_inside lines p is.0, is.1),
      (
        ending_inside lines p is.0,
        λ some. (omega (arith, few), inr (refl, subst (λ b. is_line_ending b ≡ true) (sym last) (well returns))),
      ),
    ))

-- the rest of a line ends as it does
rest_well : (line : List ℕ) (s : LineState) → Reached line s → EndsWell line → EndsWell (unscanned s)
rest_well line s r well = subst (λ (l : List ℕ). EndsWell (drop s.offset l)) (sym r.of_line) (well_drop s.offset line well)

-- the parts of lines that stand in the text
later_in : (kind : BlockKind) (outer : List Container) (indent before : ℕ) (lines : List (List ℕ)) (rest text : List ℕ) → before ≤ length text
    → drop before text ≡ concat lines ++ rest → AllByRecursion EndsWell lines
    → AllByRecursion (IsPartIn text) (later_parts kind outer indent before lines)
later_in kind outer indent before [] rest text within stands well = tt
later_in kind outer indent before (line ∷ lines) rest text within stands well =
    let here : drop before text ≡ line ++ (concat lines ++ rest) = stands ∙ append_assoc line (concat lines) rest in
    let size : length text - before ≡ length line + length (concat lines ++ rest) =
    sym (length-drop before text) ∙ ap length here ∙ length-append line (concat lines ++ rest) in
    let later : drop (before + length line) text ≡ concat lines ++ rest =
    sym (drop-drop (length line) before text) ∙ ap (drop (length line)) here ∙ drop-append_seam line (concat lines ++ rest) in
    let s = text_offset kind indent (later_offset kind outer line) in
    let r = text_reached line kind indent (later_offset kind outer line) (later_reached line kind outer) in
    all_both (IsPartIn text) (written kind (moved before (part_at s))) (later_parts kind outer indent (before + length line) lines)
    (written_in text kind (moved before (part_at s)) (moved_in text line (concat lines ++ rest) before within here (part_at s) (left_in line s r))
    (rest_well line s r well.0))
    (later_in kind outer indent (before + length line) lines rest text (omega (arith, within, size)) later well.1)

-- the lines that are content are the first of the later ones
pub inner_first : (kind : BlockKind) (outer : List Container) (later inner : List (List ℕ)) → AreInner kind outer later inner
    → (rest : List (List ℕ)) × (later ≡ inner ++ rest)
inner_first kind outer later inner (inl (last, is, out)) = (last ∷ [], is)
inner_first kind outer later inner (inr (is, none)) = ([], sym is ∙ sym (append-nil inner))

module _ (text line : List ℕ) (later : List (List ℕ)) (stands : text ≡ line ++ concat later) (outer : List Container) (own : EndsWell line)
    (well : AllByRecursion EndsWell later) where
  inner_in : (kind : BlockKind) (indent : ℕ) (inner : List (List ℕ)) → AreInner kind outer later inner
      → AllByRecursion (IsPartIn text) (later_parts kind outer indent (length line) inner)
  inner_in kind indent inner are =
      let front = inner_first kind outer later inner are in
      let rest : drop (length line) text ≡ concat inner ++ concat front.0 =
      ap (drop (length line)) stands ∙ drop-append_seam line (concat later) ∙ ap concat front.1 ∙ concat-append inner front.0 in
      let size = ap length stands ∙ length-append line (concat later) in
      later_in kind outer indent (length line) inner (concat front.0) text (omega (arith, size)) rest
      (all_first EndsWell inner front.0 (subst (AllByRecursion EndsWell) front.1 well))

  text_in : (kind : BlockKind) (s : LineState) → Reached line s → (parts : List Part)
      → (inner : List (List ℕ)) × AreInner kind outer later inner
      × (parts ≡ written kind (part_at (text_offset kind 0 s)) ++ later_parts kind outer 0 (length line) inner)
      → AllByRecursion (IsPartIn text) parts
  text_in kind s r parts (inner, are, is) =
      let p = part_at (text_offset kind 0 s) in
      let reached = text_reached line kind 0 s r in
      subst (AllByRecursion (IsPartIn text)) (sym is)
      (all_both (IsPartIn text) (written kind p) (later_parts kind outer 0 (length line) inner)
      (written_in text kind p (first_in text line (concat later) stands p (left_in line _ reached)) (rest_well line _ reached own))
      (inner_in kind 0 inner are))

  none_in : (parts : List Part) → parts ≡ [] → AllByRecursion (IsPartIn text) parts
  none_in parts none = subst (AllByRecursion (IsPartIn text)) (sym none) tt

  heading_there : (s : LineState) → Reached line s → IsPartIn line (heading_part s)
  heading_there s r =
      let t = after_all_space (after_space 4 s) in
      let there = after_all line (after_space 4 s) (after_some line s r 4) in
      let after = without_front (after_fence number_sign (unscanned t)) in (
        subst (IsIn line) (heading_is s line (unscanned t) _ after _ 0 r.of_line refl refl refl refl)
            (heading_in s line (unscanned t) _ after _ t.offset r.of_line refl refl refl refl (ap (drop t.offset) there.of_line) there.within),
        λ some. absurd (omega (arith, some)),
      )

  at_first : (kind : BlockKind) (s : LineState) → Reached line s → (parts : List Part) → ArePartsAt kind outer s (length line) later parts
      → AllByRecursion (IsPartIn text) parts
  at_first Blank s r parts none = none_in parts none
  at_first Break s r parts none = none_in parts none
  at_first (Table columns) s r parts none = none_in parts none
  at_first (Heading level) s r parts is =
      subst (AllByRecursion (IsPartIn text)) (sym is) (first_in text line (concat later) stands (heading_part s) (heading_there s r), tt)
  at_first (Fenced count byte) s r parts (inner, are, is) =
      subst (AllByRecursion (IsPartIn text)) (sym is) (inner_in (Fenced count byte) (space_within 4 s) inner are)
  at_first (Setext level) s r parts are = text_in (Setext level) s r parts are
  at_first Indented s r parts are = text_in Indented s r parts are
  at_first (Html kind) s r parts are = text_in (Html kind) s r parts are
  at_first Definition s r parts are = text_in Definition s r parts are
  at_first Paragraph s r parts are = text_in Paragraph s r parts are

pub parts_in : (kind : BlockKind) (outer : List Container) (kept : ℕ) (text : List ℕ) (lines : List (List ℕ)) → text ≡ concat lines
    → AllByRecursion EndsWell lines → (parts : List Part) → AreParts kind outer kept lines parts → AllByRecursion (IsPartIn text) parts
parts_in kind outer kept text [] stands well parts none = subst (AllByRecursion (IsPartIn text)) (sym none) tt
parts_in kind outer kept text (line ∷ later) stands well parts are =
    at_first text line later stands outer well.0 well.1 kind (first_offset kept outer line) (first_reached line kept outer) parts are

-- how many bytes a part has, and as many offsets
pub text_size : (p : Part) → length (text_of p) ≡ p.columns + length p.bytes
text_size p = length-append (replicate p.columns p.filler) p.bytes ∙ ap (λ n. n + length p.bytes) (length-replicate p.columns p.filler)

pub offsets_size : (p : Part) → length (offsets_of p) ≡ length (text_of p)
offsets_size p =
    length-append (replicate p.columns (p.offset - 1)) (range_with_len p.offset (length p.bytes))
    ∙ ap (λ n. n + length (range_with_len p.offset (length p.bytes))) (length-replicate p.columns (p.offset - 1))
    ∙ ap (λ n. p.columns + n) (length-range_with_len p.offset (length p.bytes)) ∙ sym (text_size p)

-- a column is its byte where it stands, or written in place of that
filled_byte : (b filler there byte : ℕ) → b ≡ filler → there ≡ byte → IsFillerOf byte filler
    → (b ≡ there) ⊎ (((b ≡ space) × (there ≡ tab)) ⊎ ((b ≡ line_feed) × (there ≡ carriage_return)))
filled_byte b filler there byte is at (inl (spaced, tabbed)) = inr (inl (is ∙ spaced, at ∙ tabbed))
filled_byte b filler there byte is at (inr (feed, ends)) = elim (cases_Bool (byte == line_feed)) [
  | inl same ↦ inl (is ∙ feed ∙ sym (at ∙ eqb-true byte line_feed same))
  | inr other ↦ (let returns : (byte == carriage_return) ≡ true = rw other at ends in
      inr (inr (is ∙ feed, at ∙ eqb-true byte carriage_return returns)))
]

-- the bytes of a part
byte_in : (lines : List ℕ) (p : Part) → IsPartIn lines p → (i : ℕ) → i < length (text_of p)
    → IsByteAt lines (get_or (text_of p) i 0) (get_or (offsets_of p) i 0)
byte_in lines p is i low =
    let size = text_size p in
    let inside = is.0.0 in
    elim (leb_tells p.columns i) [
      | inl far ↦ (let j = i - p.columns in
          let fits : j < length p.bytes = omega (arith, low, size, far.1) in
          let byte : get_or (text_of p) i 0 ≡ get_or p.bytes j 0 =
          get_or-append_right (replicate p.columns p.filler) p.bytes p.columns i 0 (length-replicate p.columns p.filler) far.1 in
          let offset : get_or (offsets_of p) i 0 ≡ p.offset + j =
          get_or-append_right (replicate p.columns (p.offset - 1)) (range_with_len p.offset (length p.bytes)) p.columns i 0
          (length-replicate p.columns (p.offset - 1)) far.1 ∙ get_or-range_with_len p.offset (length p.bytes) j 0 fits in
          let there : get_or lines (p.offset + j) 0 ≡ get_or p.bytes j 0 =
          sym (get_or-drop p.offset lines j 0) ∙ ap (λ t. get_or t j 0) is.0.1
          ∙ get_or_append_left p.bytes (drop (p.offset + length p.bytes) lines) 0 j fits in (
            omega (arith, offset, fits, inside),
            inl (byte ∙ sym there ∙ ap (λ n. get_or lines n 0) (sym offset)),
          ))
      | inr near ↦ (let after = is.1 (omega (arith, near.1)) in
          let before = after.0 in
          let byte : get_or (text_of p) i 0 ≡ p.filler =
          get_or_append_left (replicate p.columns p.filler) p.bytes 0 i (omega (arith, near.1, length-replicate p.columns p.filler))
          ∙ get_or-replicate p.columns i p.filler 0 near.1 in
          let offset : get_or (offsets_of p) i 0 ≡ p.offset - 1 =
          get_or_append_left (replicate p.columns (p.offset - 1)) (range_with_len p.offset (length p.bytes)) 0 i
          (omega (arith, near.1, length-replicate p.columns (p.offset - 1)))
          ∙ get_or-replicate p.columns i (p.offset - 1) 0 near.1 in (
            omega (arith, offset, before, inside),
            filled_byte _ _ _ _ byte (ap (λ n. get_or lines n 0) offset) after.1,
          ))
    ]

bytes_in : (lines : List ℕ) (parts : List Part) → AllByRecursion (IsPartIn lines) parts → (i : ℕ) → i < length (flat_map text_of parts)
    → IsByteAt lines (get_or (flat_map text_of parts) i 0) (get_or (flat_map offsets_of parts) i 0)
bytes_in lines [] all i low = absurd (omega (arith, low))
bytes_in lines (p ∷ parts) all i low =
    let n = length (text_of p) in
    let texts = flat_map text_of parts in
    let offsets = flat_map offsets_of parts in
    let sizes = length-append (text_of p) texts in
    elim (leb_tells n i) [
      | inl far ↦ (let later = bytes_in lines parts all.1 (i - n) (omega (arith, low, sizes, far.1)) in
          subst (λ b. IsByteAt lines b (get_or (offsets_of p ++ offsets) i 0)) (sym (get_or-append_right (text_of p) texts n i 0 refl far.1))
          (subst (IsByteAt lines (get_or texts (i - n) 0)) (sym (get_or-append_right (offsets_of p) offsets n i 0 (offsets_size p) far.1)) later))
      | inr near ↦ (let here = byte_in lines p all.0 i near.1 in
          subst (λ b. IsByteAt lines b (get_or (offsets_of p ++ offsets) i 0)) (sym (get_or_append_left (text_of p) texts 0 i near.1))
          (subst (IsByteAt lines (get_or (text_of p) i 0)) (sym (get_or_append_left (offsets_of p) offsets 0 i (omega (arith, near.1, offsets_size p)))) here))
    ]

-- each byte of a content stands in the lines at its offset
pub content_bytes : (kind : BlockKind) (outer : List Container) (kept : ℕ) (lines : List ℕ) (content : Placed)
    → IsContent kind outer kept (lines_of lines) content → AreBytesOf lines content
content_bytes kind outer kept lines content is offset low =
    let n = content_len kind (joined is.parts).text in
    let text = flat_map text_of is.parts in
    let offsets = flat_map offsets_of is.parts in
    let size : length content.text ≡ length (take n text) = ap (λ (c : Placed). length c.text) is.is_content in
    let few = length-take n text in
    let in_front : offset < n = omega (arith, low, size, few) in
    let all = parts_in kind outer kept lines (lines_of lines) (sym (lines_joined lines)) (lines_well lines) is.parts is.are_parts in
    let here = bytes_in lines is.parts all offset (omega (arith, low, size, few)) in
    subst (λ (c : Placed). IsByteAt lines (get_or c.text offset 0) (get_or c.offsets offset 0)) (sym is.is_content)
    (subst (λ b. IsByteAt lines b (get_or (take n offsets) offset 0)) (sym (get_or-take n text offset 0 in_front))
    (subst (IsByteAt lines (get_or text offset 0)) (sym (get_or-take n offsets offset 0 in_front)) here))

parts_size : (parts : List Part) → length (flat_map offsets_of parts) ≡ length (flat_map text_of parts)
parts_size [] = refl
parts_size (p ∷ parts) =
    length-append (offsets_of p) (flat_map offsets_of parts) ∙ ap (λ n. n + length (flat_map offsets_of parts)) (offsets_size p)
    ∙ ap (λ n. length (text_of p) + n) (parts_size parts) ∙ sym (length-append (text_of p) (flat_map text_of parts))

-- a content has as many offsets as bytes
pub content_sizes : (kind : BlockKind) (outer : List Container) (kept : ℕ) (lines : List (List ℕ)) (content : Placed)
    → IsContent kind outer kept lines content → length content.offsets ≡ length content.text
content_sizes kind outer kept lines content is =
    let n = content_len kind (joined is.parts).text in
    let text = flat_map text_of is.parts in
    let offsets = flat_map offsets_of is.parts in
    let size : length content.text ≡ length (take n text) = ap (λ (c : Placed). length c.text) is.is_content in
    let sized : length content.offsets ≡ length (take n offsets) = ap (λ (c : Placed). length c.offsets) is.is_content in
    omega (arith, size, sized, length-take n text, length-take n offsets, parts_size is.parts)

-- ---- the offsets don't fall

-- no offset stands before this one, nor before the one that it follows
abbrev pub DoNotFall : ℕ → List ℕ → Type 0
DoNotFall from [] = ⊤
DoNotFall from (offset ∷ offsets) = (from ≤ offset) × DoNotFall offset offsets

-- each part stands after the one before it, and where columns are no spaces, there is one at most
abbrev pub StandAfter : ℕ → List Part → Type 0
StandAfter from [] = ⊤
StandAfter from (p ∷ parts) =
    (from ≤ p.offset) × (0 < p.columns → from < p.offset) × ((p.filler ≡ space) ⊎ (p.columns ≤ 1))
    × StandAfter (p.offset + length p.bytes) parts

earlier_offsets : (from to : ℕ) (offsets : List ℕ) → from ≤ to → DoNotFall to offsets → DoNotFall from offsets
earlier_offsets from to [] less rise = tt
earlier_offsets from to (offset ∷ offsets) less rise = (omega (arith, less, rise.0), rise.1)

run_rises : (n offset : ℕ) (rest : List ℕ) → DoNotFall (offset + n) rest → DoNotFall offset (range_with_len offset n ++ rest)
run_rises zero offset rest rise = earlier_offsets offset (offset + 0) rest (omega arith) rise
run_rises (suc n) offset rest rise = (
  omega arith,
  earlier_offsets offset (offset + 1) _ (omega arith)
      (run_rises n (offset + 1) rest (subst (λ k. DoNotFall k rest) (omega arith) rise)),
)

same_rise : (n offset : ℕ) (rest : List ℕ) → DoNotFall offset rest → DoNotFall offset (replicate n offset ++ rest)
same_rise zero offset rest rise = rise
same_rise (suc n) offset rest rise = (omega arith, same_rise n offset rest rise)

part_rises : (from : ℕ) (p : Part) (rest : List ℕ) → from ≤ p.offset → (0 < p.columns → from < p.offset)
    → DoNotFall (p.offset + length p.bytes) rest → DoNotFall from (offsets_of p ++ rest)
part_rises from p rest low after rise =
    let run = run_rises (length p.bytes) p.offset rest rise in
    subst (DoNotFall from) (sym (append_assoc (replicate p.columns (p.offset - 1)) (range_with_len p.offset (length p.bytes)) rest))
    (elim (leb_tells 1 p.columns) [
      | inl some ↦ earlier_offsets from (p.offset - 1) _ (omega (arith, after (omega (arith, some.1))))
          (same_rise p.columns (p.offset - 1) _ (earlier_offsets (p.offset - 1) p.offset _ (omega arith) run))
      | inr none ↦ (let zero_columns : p.columns ≡ 0 = omega (arith, none.1) in
          subst (λ n. DoNotFall from (replicate n (p.offset - 1) ++ (range_with_len p.offset (length p.bytes) ++ rest))) (sym zero_columns)
          (earlier_offsets from p.offset _ low run))
    ])

pub parts_rise : (from : ℕ) (parts : List Part) → StandAfter from parts → DoNotFall from (flat_map offsets_of parts)
parts_rise from [] after = tt
parts_rise from (p ∷ parts) after =
    part_rises from p (flat_map offsets_of parts) after.0 after.1 (parts_rise (p.offset + length p.bytes) parts after.3)

pub front_rises : (n from : ℕ) (offsets : List ℕ) → DoNotFall from offsets → DoNotFall from (take n offsets)
front_rises zero from offsets rise = tt
front_rises (suc n) from [] rise = tt
front_rises (suc n) from (offset ∷ offsets) rise = (rise.0, front_rises n offset offsets rise.1)

pub earlier_parts : (from to : ℕ) (parts : List Part) → from ≤ to → StandAfter to parts → StandAfter from parts
earlier_parts from to [] less after = tt
earlier_parts from to (p ∷ parts) less after = (omega (arith, less, after.0), λ some. omega (arith, less, after.1 some), after.2, after.3)

-- what is written of a part stands where the part does
module _ (p : Part) (from : ℕ) (rest : List Part) (low : from ≤ p.offset) (after : 0 < p.columns → from < p.offset) (spaces : p.filler ≡ space)
    (more : StandAfter (p.offset + length p.bytes) rest) where
  ended_stands : StandAfter from (ended p ++ rest)
  ended_stands = elim (cases_Bool (has_return p.bytes)) [
    | inl returns ↦ (let few = head_less p.bytes returns in
        let end : p.offset + length p.bytes ≡ p.offset + length p.bytes + 0 = omega arith in
        let feed : StandAfter (p.offset + length (line_head p.bytes)) (ending_of p ∷ rest) =
        (omega (arith, few), (λ some. omega (arith, few)), inr (omega arith), subst (λ n. StandAfter n rest) end more) in
        rw returns (low, after, inl spaces, feed))
    | inr none ↦ rw none (low, after, inl spaces, more)
  ]

  pub written_stands : (kind : BlockKind) → StandAfter from (written kind p ++ rest)
  written_stands Blank = (low, after, inl spaces, more)
  written_stands Break = (low, after, inl spaces, more)
  written_stands (Heading level) = (low, after, inl spaces, more)
  written_stands (Setext level) = (low, after, inl spaces, more)
  written_stands (Table columns) = (low, after, inl spaces, more)
  written_stands Definition = (low, after, inl spaces, more)
  written_stands Paragraph = (low, after, inl spaces, more)
  written_stands Indented = ended_stands
  written_stands (Fenced count byte) = ended_stands
  written_stands (Html kind) = ended_stands

pub later_after : (kind : BlockKind) (outer : List Container) (indent before : ℕ) (lines : List (List ℕ))
    → StandAfter before (later_parts kind outer indent before lines)
later_after kind outer indent before [] = tt
later_after kind outer indent before (line ∷ lines) =
    let s = text_offset kind indent (later_offset kind outer line) in
    let there = left_in line s (text_reached line kind indent (later_offset kind outer line) (later_reached line kind outer)) in
    written_stands (moved before (part_at s)) before (later_parts kind outer indent (before + length line) lines) (omega arith)
    (λ some. omega (arith, (there.1 some).0)) refl
    (earlier_parts _ (before + length line) (later_parts kind outer indent (before + length line) lines) (omega (arith, there.0.0))
    (later_after kind outer indent (before + length line) lines)) kind

module _ (line : List ℕ) (later : List (List ℕ)) (outer : List Container) where
  none_after : (parts : List Part) → parts ≡ [] → StandAfter 0 parts
  none_after parts none = subst (StandAfter 0) (sym none) tt

  text_after : (kind : BlockKind) (s : LineState) → Reached line s → (parts : List Part)
      → (inner : List (List ℕ)) × AreInner kind outer later inner
      × (parts ≡ written kind (part_at (text_offset kind 0 s)) ++ later_parts kind outer 0 (length line) inner) → StandAfter 0 parts
  text_after kind s r parts (inner, are, is) =
      let there = left_in line _ (text_reached line kind 0 s r) in
      subst (StandAfter 0) (sym is)
      (written_stands (part_at (text_offset kind 0 s)) 0 (later_parts kind outer 0 (length line) inner) (omega arith) (λ some. (there.1 some).0) refl
      (earlier_parts _ (length line) (later_parts kind outer 0 (length line) inner) there.0.0 (later_after kind outer 0 (length line) inner)) kind)

  first_after : (kind : BlockKind) (s : LineState) → Reached line s → (parts : List Part) → ArePartsAt kind outer s (length line) later parts
      → StandAfter 0 parts
  first_after Blank s r parts none = none_after parts none
  first_after Break s r parts none = none_after parts none
  first_after (Table columns) s r parts none = none_after parts none
  first_after (Heading level) s r parts is = subst (StandAfter 0) (sym is) (omega arith, λ some. absurd (omega (arith, some)), inl refl, tt)
  first_after (Fenced count byte) s r parts (inner, are, is) =
      subst (StandAfter 0) (sym is) (earlier_parts 0 (length line) _ (omega arith)
      (later_after (Fenced count byte) outer (space_within 4 s) (length line) inner))
  first_after (Setext level) s r parts are = text_after (Setext level) s r parts are
  first_after Indented s r parts are = text_after Indented s r parts are
  first_after (Html kind) s r parts are = text_after (Html kind) s r parts are
  first_after Definition s r parts are = text_after Definition s r parts are
  first_after Paragraph s r parts are = text_after Paragraph s r parts are

pub parts_after : (kind : BlockKind) (outer : List Container) (kept : ℕ) (lines : List (List ℕ)) (parts : List Part)
    → AreParts kind outer kept lines parts → StandAfter 0 parts
parts_after kind outer kept [] parts none = subst (StandAfter 0) (sym none) tt
parts_after kind outer kept (line ∷ later) parts are =
    first_after line later outer kind (first_offset kept outer line) (first_reached line kept outer) parts are

-- the offsets of a content don't fall
pub content_rises : (kind : BlockKind) (outer : List Container) (kept : ℕ) (lines : List (List ℕ)) (content : Placed)
    → IsContent kind outer kept lines content → DoNotFall 0 content.offsets
content_rises kind outer kept lines content is =
    subst (λ (c : Placed). DoNotFall 0 c.offsets) (sym is.is_content)
    (front_rises _ 0 (flat_map offsets_of is.parts) (parts_rise 0 is.parts (parts_after kind outer kept lines is.parts is.are_parts)))
