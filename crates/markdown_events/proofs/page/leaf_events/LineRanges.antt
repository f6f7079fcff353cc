-- The ranges of the events of lines of code and HTML rise on the page.
use Rattle.std.proofs.Common.{ℕ, zero, suc, ◌+◌, ◌-◌, ◌<◌, ◌≤◌, ◌≡◌, Bool, true, false, List, [], ◌∷◌, ◌++◌, length, drop, map, take}
use Rattle.std.proofs.Common.{ap, ◌∙◌, refl, sym, subst, inl, inr, arith, get_or, length-append}
use Rattle.std.specs.Prelude.{⊤, slice_index}
use Rattle.std.specs.List.{concat}
use Rattle.std.specs.declared.ops.Range.{Range}
use Rattle.std.proofs.lemmas.Bool.{lt-ltb}
use Rattle.std.proofs.lemmas.Bool.{cases_Bool}
use Rattle.std.proofs.lemmas.List.{drop-drop, get_or-drop, get_or_append_left, length-take}
use Rattle.std.proofs.Math.Seq.{drop-append_seam}
use Rattle.markdown_values.specs.values.Tags.{TagView}
use Rattle.markdown_scanners_tree.specs.Ascii.{space}
use Rattle.markdown_scanners_tree.specs.scanners.TextLines.{ends_line, lines_of, with_first}
use Rattle.markdown_scanners_tree.proofs.ForCallers.{lines_joined}
use Rattle.markdown_blocks.specs.content.Content.{Placed}
use Rattle.markdown_blocks.specs.events.Events.{LeafBlock}
use Rattle.markdown_blocks.proofs.ForCallers.{DoNotFall, RisePast, content_bytes, content_past, content_rises, content_sizes, offsets_past}
use Rattle.markdown_events.specs.EventLaws.{LiesIn, RiseIn}
use Rattle.markdown_events.specs.InlineEvents.{RangedEvent}
use Rattle.markdown_events.specs.page.LeafContent.{line_event}
use Rattle.markdown_events.specs.page.LeafEvents.{AreLineEvents, IsContentOf, Place, enclosed_lines, line_events, lines_in_page, lines_offset}
use Rattle.markdown_events.specs.page.Places.{page_range, placed}
use Rattle.markdown_events.specs.page.Spans.{block_end}
use Rattle.markdown_events.proofs.inline_events.Rise.{rise_from}
use Rattle.markdown_events.proofs.page.NodeRanges.{element_rises}
use Rattle.markdown_events.proofs.page.leaf_content.PlaceLemmas.{offsets_rise}

-- ---- lines

-- each of the lines has a byte, and each but the last ends with one that is no space
abbrev AreEnded : List (List ℕ) → Type 0
AreEnded [] = ⊤
AreEnded (line ∷ []) = 0 < length line
AreEnded (line ∷ next ∷ later) = (0 < length line) × (¬ (get_or line (length line - 1) 0 ≡ space)) × AreEnded (next ∷ later)

ended_first : (b : ℕ) (lines : List (List ℕ)) → AreEnded lines → AreEnded (with_first b lines)
ended_first b [] ended = omega arith
ended_first b (line ∷ []) ended = omega arith
ended_first b (line ∷ next ∷ later) ended = (omega arith, by (length line) ended.0 ended.1, ended.2)
  where
    by : (n : ℕ) → 0 < n → ¬ (get_or line (n - 1) 0 ≡ space) → ¬ (get_or (b ∷ line) (suc n - 1) 0 ≡ space)
    by zero some other = absurd (omega (arith, some))
    by (suc n) some other =
        let here : suc n - 1 ≡ n = omega arith in
        let next : suc (suc n) - 1 ≡ suc n = omega arith in
        λ same. other (ap (λ k. get_or line k 0) here ∙ (sym (ap (λ k. get_or (b ∷ line) k 0) next) ∙ same))

ended_alone : (b : ℕ) (bs : List ℕ) (lines : List (List ℕ)) → ends_line (b ∷ bs) ≡ true → AreEnded lines → AreEnded ((b ∷ []) ∷ lines)
ended_alone b bs [] ends ended = omega arith
ended_alone b bs (next ∷ later) ends ended = (omega arith, λ same. other same ends, ended)
  where
    other : b ≡ space → ends_line (b ∷ bs) ≡ true → ⊥
    other same ends = let none : ends_line (space ∷ bs) ≡ true = subst (λ c. ends_line (c ∷ bs) ≡ true) same ends in cc

pub lines_ended : (text : List ℕ) → AreEnded (lines_of text)
lines_ended [] = tt
lines_ended (b ∷ bs) = elim (cases_Bool (ends_line (b ∷ bs))) [
  | inl ends ↦ rw ends (ended_alone b bs (lines_of bs) ends (lines_ended bs))
  | inr goes ↦ rw goes (ended_first b (lines_of bs) (lines_ended bs))
]

-- ---- events

line_rises : (is_html : Bool) (line : List ℕ) (range : Range ℕ) (from to : ℕ) (ends : List ℕ) (later : List RangedEvent) → LiesIn from to range
    → RiseIn (to ∷ ends) range.end later → RiseIn (to ∷ ends) from ((line_event is_html line, range) ∷ later)
line_rises true line range from to ends later lies rise = (lies, rise)
line_rises false line range from to ends later lies rise = (lies, rise)

module _ (before : ℕ) (content : Placed) (each : length content.offsets ≡ length content.text) (past : RisePast 0 content.text content.offsets)
    (falls : DoNotFall 0 content.offsets) where
  abbrev source : ℕ → ℕ
  source offset = slice_index content.offsets offset

  -- the range of a line
  line_range : (offset len : ℕ) → 0 < len → page_range before content.offsets (record { start = offset; end = offset + len })
      ≡ record { start = before + source offset; end = before + source (offset + len - 1) + 1 }
  line_range offset len some = rw (lt-ltb offset (offset + len) (omega (arith, some))) refl

  module _ (is_html : Bool) (limit : ℕ) (within : (offset : ℕ) → offset < length content.text → before + source offset + 1 ≤ limit)
      (to : ℕ) (ends : List ℕ) (rest : List RangedEvent) (fits : limit ≤ to) (gives : RiseIn (to ∷ ends) limit rest) where
    lines_rise : (lines : List (List ℕ)) (offset from : ℕ) → AreEnded lines → drop offset content.text ≡ concat lines
        → offset + length (concat lines) ≡ length content.text → from ≤ limit → (offset < length content.text → from ≤ before + source offset)
        → RiseIn (to ∷ ends) from (map (placed before content.offsets) (line_events (line_event is_html) offset lines) ++ rest)
    lines_rise [] offset from ended joined counted low first = rise_from (to ∷ ends) from limit rest low gives
    lines_rise (line ∷ lines) offset from ended joined counted low first =
        let some = line_some line lines ended in
        let sizes = length-append line (concat lines) in
        let inside : offset + length line ≤ length content.text = omega (arith, counted, sizes) in
        let last = within (offset + length line - 1) (omega (arith, some, inside)) in
        let begins = first (omega (arith, some, inside)) in
        let ordered = offsets_rise 0 content.offsets offset (offset + length line - 1) falls (omega (arith, some)) (omega (arith, some, inside, each)) in
        let is = line_range offset (length line) some in
        let there : drop (offset + length line) content.text ≡ concat lines =
        sym (drop-drop (length line) offset content.text) ∙ ap (drop (length line)) joined ∙ drop-append_seam line (concat lines) in
        let later = lines_rise lines (offset + length line) (before + source (offset + length line - 1) + 1) (later_ended line lines ended) there
        (omega (arith, counted, sizes)) last (next_first line lines ended some joined counted) in
        line_rises is_html line (page_range before content.offsets (record { start = offset; end = offset + length line })) from to ends _
        (subst (LiesIn from to) (sym is) (record { begins = begins; in_order = omega (arith, ordered); ends = omega (arith, last, fits) }))
        (subst (λ (range : Range ℕ). RiseIn (to ∷ ends) range.end
        (map (placed before content.offsets) (line_events (line_event is_html) (offset + length line) lines) ++ rest)) (sym is) later)
      where
        line_some : (line : List ℕ) (lines : List (List ℕ)) → AreEnded (line ∷ lines) → 0 < length line
        line_some line [] ended = ended
        line_some line (next ∷ later) ended = ended.0

        later_ended : (line : List ℕ) (lines : List (List ℕ)) → AreEnded (line ∷ lines) → AreEnded lines
        later_ended line [] ended = tt
        later_ended line (next ∷ later) ended = ended.2

        -- the next line stands after the last byte of this one
        next_first : (line : List ℕ) (lines : List (List ℕ)) → AreEnded (line ∷ lines) → 0 < length line → drop offset content.text ≡ concat (line ∷ lines)
            → offset + length (concat (line ∷ lines)) ≡ length content.text → offset + length line < length content.text
            → before + source (offset + length line - 1) + 1 ≤ before + source (offset + length line)
        next_first line [] ended some joined counted more =
            absurd (omega (arith, counted, more, length-append line []))
        next_first line (next ∷ later) ended some joined counted more =
            let at : offset + length line - 1 ≡ offset + (length line - 1) = omega (arith, some) in
            let byte : slice_index content.text (offset + length line - 1) ≡ get_or line (length line - 1) 0 =
            ap (λ n. get_or content.text n 0) at ∙ sym (get_or-drop offset content.text (length line - 1) 0)
            ∙ ap (λ (t : List ℕ). get_or t (length line - 1) 0) joined
            ∙ get_or_append_left line (concat (next ∷ later)) 0 (length line - 1) (omega (arith, some)) in
            let strict = offsets_past content.text content.offsets 0 (offset + length line - 1) (offset + length line) past each
            (omega (arith, some)) (omega (arith, more, each)) (λ same. ended.1 (sym byte ∙ same)) in
            omega (arith, strict)

-- ---- blocks

-- each byte of the content of a block stands here, after so many bytes of the page
abbrev pub ContentAfter : ℕ → List ℕ → Place → LeafBlock → Type 0
ContentAfter passed page here block = (content : Placed) → IsContentOf page here block content → (offset : ℕ) → offset < length content.text
    → passed ≤ block.start + slice_index content.offsets offset

module _ (page : List ℕ) (here : Place) (block : LeafBlock) (passed : ℕ) (own : passed ≤ block.offset) (ends_after : block.offset ≤ block_end block)
    (after : ContentAfter passed page here block) where
  lines_before : (lines : List RangedEvent) → lines_offset block lines ≤ block_end block
  lines_before [] = ends_after
  lines_before (first ∷ later) = omega (arith, ends_after)

  -- its lines rise up to its end
  inner_rises : (is_html : Bool) (lines : List RangedEvent) → AreLineEvents page here block (line_event is_html) lines
      → (from to : ℕ) (ends : List ℕ) (rest : List RangedEvent) → from ≤ lines_offset block lines → block_end block ≤ to
      → RiseIn (to ∷ ends) (block_end block) rest → RiseIn (to ∷ ends) from (lines ++ rest)
  inner_rises is_html lines are from to ends rest low fits gives =
      let content = are.content in
      let kind = block.kind in
      let outer = here.containers in
      let text = take block.bytes (drop block.start page) in
      let each = content_sizes kind outer here.kept (lines_in_page page block) content are.is_content in
      let past = content_past kind outer here.kept (lines_in_page page block) content are.is_content in
      let falls = content_rises kind outer here.kept (lines_in_page page block) content are.is_content in
      let stands = content_bytes kind outer here.kept text content are.is_content in
      let few : length text ≤ block.bytes = omega (arith, length-take block.bytes (drop block.start page)) in
      let begin = lines_first content are.are_events in
      let in_block = lines_before lines in
      subst (λ (es : List RangedEvent). RiseIn (to ∷ ends) from (es ++ rest)) (sym are.are_events)
      (lines_rise block.start content each past falls is_html (block_end block)
      (λ offset inside. let there = stands offset inside in omega (arith, there.0, few)) to ends rest fits gives
      (lines_of content.text) 0 from (lines_ended content.text) (sym (lines_joined content.text)) (omega (arith, ap length (lines_joined content.text)))
      (omega (arith, low, in_block)) (λ some. omega (arith, low, begin some)))
    where
      -- the first begins by its content
      lines_first : (content : Placed) → lines ≡ map (placed block.start content.offsets) (line_events (line_event is_html) 0 (lines_of content.text))
          → 0 < length content.text → lines_offset block lines ≤ block.start + slice_index content.offsets 0
      lines_first content is some = subst (λ (all : List RangedEvent). lines_offset block all ≤ block.start + slice_index content.offsets 0) (sym is)
          (by (lines_of content.text) (lines_joined content.text))
        where
          by : (all : List (List ℕ)) → concat all ≡ content.text
              → lines_offset block (map (placed block.start content.offsets) (line_events (line_event is_html) 0 all))
              ≤ block.start + slice_index content.offsets 0
          by [] joined = absurd (omega (arith, some, ap length joined))
          by (line ∷ later) joined = omega arith

  -- they begin after what has passed
  lines_passed : (is_html : Bool) (lines : List RangedEvent) → AreLineEvents page here block (line_event is_html) lines → passed ≤ lines_offset block lines
  lines_passed is_html lines are =
      subst (λ (all : List RangedEvent). passed ≤ lines_offset block all) (sym are.are_events)
      (by (lines_of are.content.text) (lines_joined are.content.text) (lines_ended are.content.text))
    where
      by : (all : List (List ℕ)) → concat all ≡ are.content.text → AreEnded all
          → passed ≤ lines_offset block (map (placed block.start are.content.offsets) (line_events (line_event is_html) 0 all))
      by [] joined ended = own
      by (line ∷ []) joined ended =
          let there = after are.content are.is_content 0 (omega (arith, ended, ap length joined, length-append line [])) in omega (arith, own, there)
      by (line ∷ next ∷ later) joined ended =
          let there = after are.content are.is_content 0
          (omega (arith, ended.0, ap length joined, length-append line (concat (next ∷ later)))) in
          omega (arith, own, there)

  -- the whole block rises
  pub enclosed_rises : (tag : TagView (List ℕ)) (is_html : Bool) (lines : List RangedEvent) → AreLineEvents page here block (line_event is_html) lines
      → (from to : ℕ) (ends : List ℕ) (rest : List RangedEvent) → from ≤ passed → block_end block ≤ to → RiseIn (to ∷ ends) (block_end block) rest
      → RiseIn (to ∷ ends) from (enclosed_lines tag block lines ++ rest)
  enclosed_rises tag is_html lines are from to ends rest low fits gives =
      let begins = lines_passed is_html lines are in
      element_rises tag (lines_offset block lines) (block_end block) from to ends lines rest (omega (arith, low, begins)) (lines_before lines) fits
      (λ more closed. inner_rises is_html lines are (lines_offset block lines) (block_end block) (to ∷ ends) more (omega arith) (omega arith) closed)
      gives
