-- The content of the leaf blocks of a page stands after the markers of their containers.
use Rattle.std.proofs.Common.{ℕ, zero, suc, ◌+◌, ◌-◌, ◌<◌, ◌≤◌, ◌≡◌, ◌≢◌, ◌∙◌, ◌==◌, List, [], ◌∷◌, ◌++◌}
use Rattle.std.proofs.Common.{length, take, drop, map, Bool, IsTrue, true, false}
use Rattle.std.proofs.Common.{inl, inr, refl, ap, arith, subst, sym, append_assoc, append-nil, replicate}
use Rattle.std.specs.Prelude.{⊤, slice_index}
use Rattle.std.specs.List.{concat, flat_map, prefix_len}
use Rattle.std.proofs.lemmas.List.{length-append, length-drop, length-map, length-take, map-append, take-append-drop, take-take, take_all}
use Rattle.std.proofs.Math.Seq.{take-append_seam}
use Rattle.markdown_scanners_tree.specs.Ascii.{number_sign}
use Rattle.markdown_scanners_tree.specs.Bytes.{is_space_or_tab}
use Rattle.markdown_scanners_tree.specs.declared.scanners.reference_definitions.ReferenceDefinition.{ReferenceDefinition}
use Rattle.markdown_scanners_tree.specs.line.ItemRules.{start_of}
use Rattle.markdown_scanners_tree.specs.line.Outcome.{after_all_space}
use Rattle.markdown_scanners_tree.specs.line.State.{LineState, after_space, space_within, unscanned}
use Rattle.markdown_scanners_tree.specs.scanners.TextLines.{lines_of}
use Rattle.markdown_scanners_tree.proofs.ForCallers.{all_space_forward}
use Rattle.markdown_blocks.specs.byte_order_mark.ByteOrderMark.{text_start}
use Rattle.markdown_blocks.specs.blank_lines.BlankLines.{is_blank}
use Rattle.markdown_blocks.specs.blocks.Leaves.{IsBlank, IsLeaf, IsLeafAfter}
use Rattle.markdown_blocks.specs.blocks.Pages.{AreOpened, IsPiece, OpensAfter, Piece, AreBlocks, is_paragraph_kind, kept_by, lines_in, opened_by, outer_of, root}
use Rattle.markdown_blocks.specs.containers.Containers.{Between, Opens, OpenContainers, Rest, after_marker, asked_between, match_line, marker_start}
use Rattle.markdown_blocks.specs.containers.Containers.{rest_at, rest_in, past_first_line, without_terms}
use Rattle.markdown_blocks.specs.content.Content.{IsContent, Placed, offsets_of}
use Rattle.markdown_blocks.specs.content.Parts.{AreInner, ArePartsAt, Part as LinePart, after_markers, first_offset, heading_part, later_parts, part_at, written}
use Rattle.markdown_blocks.specs.content.Parts.{text_offset}
use Rattle.markdown_blocks.specs.declared.blocks.BlockKind.{BlockKind}
use Rattle.markdown_blocks.specs.declared.blocks.BlockKind.TheVariants.{Blank, Break, Heading, Setext, Indented}
use Rattle.markdown_blocks.specs.declared.blocks.BlockKind.TheVariants.{Fenced, Html, Table, Definition, Paragraph}
use Rattle.markdown_values.specs.declared.values.extensions.Extensions.{Extensions}
use Rattle.markdown_blocks.specs.declared.containers.Container.{Container}
use Rattle.markdown_blocks.specs.definitions.Content.{content_in}
use Rattle.markdown_blocks.specs.definitions.Definitions.{IsDefinition}
use Rattle.markdown_blocks.specs.events.Events.{AreEvents, AreLeaves, Event, IsEventsOf, LeafBlock, Part, block_end, ends, first_of}
use Rattle.markdown_blocks.specs.events.Events.{first_rest, later_lines, leaf, leaf_of, lines_taken, open_after, part_of}
use Rattle.markdown_blocks.specs.events.Events.{piece_content, started, starts}
use Rattle.markdown_blocks.specs.info.Info.{after_fence, without_front}
use Rattle.markdown_blocks.specs.laws.Order.{ContentsStand, HoldsContent, HoldsText, content_from, passed_after}
use Rattle.markdown_blocks.specs.lists.Lists.{Nodes, nothing, leaf_then, container_then, flatten}
use Rattle.markdown_blocks.proofs.blocks.AfterLemmas.{paragraph_leaf}
use Rattle.markdown_blocks.proofs.containers.ContainerLemmas.{begun_by_all}
use Rattle.markdown_blocks.proofs.content.ByteLemmas.{DoNotFall, StandAfter, earlier_parts, front_rises, later_after, parts_rise, written_stands}
use Rattle.markdown_blocks.proofs.content.ReachedLemmas.{Reached, after_all, after_some}
use Rattle.markdown_blocks.proofs.content.ReachedPlaces.{begun_reached, after_reached, text_reached}
use Rattle.markdown_blocks.proofs.content.parts.PlaceLemmas.{marks-some}
use Rattle.markdown_blocks.proofs.definitions.DefinitionLemmas.{no_text}
use Rattle.markdown_blocks.proofs.events.EventLemmas.{kept_fewer}
use Rattle.markdown_blocks.proofs.laws.FurtherPlaces.{IsFurther, begun_further, further_space}
use Rattle.markdown_blocks.proofs.laws.OrderLaw.{cons_first, first_kept, parted, some_kept, some_taken}
use Rattle.markdown_blocks.proofs.laws.SettledLemmas.{AreSettled, FrontSettled, all_settled, blank_after, both_settled, filled, front_both, kept_settled}
use Rattle.markdown_blocks.proofs.laws.SettledLemmas.{last_settled, opened_front, opened_settled, settled_on}
use Rattle.markdown_blocks.proofs.laws.TextLaw.{IsAfter, block_lines, text_holds}
use Rattle.markdown_blocks.proofs.lists.PageLemmas.{regroup}
use Rattle.markdown_blocks.proofs.taken.LineCuts.{page_after}

-- ---- the content of a block whose first line has this offset after the containers

module _ (line : List ℕ) (later : List (List ℕ)) (outer : List Container) (low : ℕ) (s : LineState) (r : Reached line s) (f : IsFurther low s) where
  all_left : (t : LineState) → Reached line t → t.offset + length (unscanned t) ≡ length line
  all_left t there =
      let inside = there.within in
      omega (arith, inside, length-drop t.offset t.bytes, ap (λ (l : List ℕ). length l) there.of_line)

  text_from : (kind : BlockKind) (from : ℕ) → IsFurther from (text_offset kind 0 s) → (parts : List LinePart)
      → (inner : List (List ℕ)) × AreInner kind outer later inner
      × (parts ≡ written kind (part_at (text_offset kind 0 s)) ++ later_parts kind outer 0 (length line) inner) → StandAfter from parts
  text_from kind from g parts (inner, are, is) =
      subst (StandAfter from) (sym is)
      (written_stands (part_at (text_offset kind 0 s)) from (later_parts kind outer 0 (length line) inner) g.0 g.1 refl
      (earlier_parts _ (length line) (later_parts kind outer 0 (length line) inner)
      (omega (arith, all_left (text_offset kind 0 s) (text_reached line kind 0 s r))) (later_after kind outer 0 (length line) inner)) kind)

  abbrev text : ℕ
  text = (after_space 4 s).offset

  words_further : IsFurther text (after_all_space (after_space 4 s))
  words_further = (omega (arith, all_space_forward (after_space 4 s)), λ some. absurd (omega (arith, some)))

  none_from : (from : ℕ) (parts : List LinePart) → parts ≡ [] → StandAfter from parts
  none_from from parts none = subst (StandAfter from) (sym none) tt

  heading_from : text ≤ (heading_part s).offset
  heading_from =
      let t = after_all_space (after_space 4 s) in
      let there = after_all line (after_space 4 s) (after_some line s r 4) in
      let marked = after_fence number_sign (unscanned t) in
      let inside = there.within in
      omega (
        arith,
        inside,
        all_space_forward (after_space 4 s),
        length-drop t.offset t.bytes,
        shorter number_sign (unscanned t),
        shorter_front marked,
        ap (λ (l : List ℕ). length l) r.of_line,
      )
    where
      shorter : (byte : ℕ) (bytes : List ℕ) → length (after_fence byte bytes) ≤ length bytes
      shorter byte bytes = omega (arith, length-drop (prefix_len (λ b. b == byte) bytes) bytes)

      shorter_front : (bytes : List ℕ) → length (without_front bytes) ≤ length bytes
      shorter_front bytes = omega (arith, length-drop (prefix_len is_space_or_tab bytes) bytes)

  parts_from : (kind : BlockKind) (parts : List LinePart) → ArePartsAt kind outer s (length line) later parts
      → StandAfter (content_from kind low text) parts
  parts_from Blank parts none = none_from text parts none
  parts_from Break parts none = none_from text parts none
  parts_from (Table columns) parts none = none_from text parts none
  parts_from (Heading level) parts is = subst (StandAfter text) (sym is) (heading_from, λ some. absurd (omega (arith, some)), inl refl, tt)
  parts_from (Fenced count byte) parts (inner, are, is) =
      let there = after_some line s r 4 in
      subst (StandAfter text) (sym is) (earlier_parts text (length line) _ there.within
      (later_after (Fenced count byte) outer (space_within 4 s) (length line) inner))
  parts_from (Setext level) parts are = text_from (Setext level) text words_further parts are
  parts_from Definition parts are = text_from Definition text words_further parts are
  parts_from Paragraph parts are = text_from Paragraph text words_further parts are
  parts_from Indented parts are = text_from Indented low (further_space low s f 4) parts are
  parts_from (Html kind) parts are = text_from (Html kind) low f parts are

content_after : (kind : BlockKind) (outer : List Container) (kept : ℕ) (line : List ℕ) (later : List (List ℕ)) (content : Placed) (s : LineState) (low : ℕ)
    → first_offset kept outer line ≡ s → Reached line s → IsFurther low s → IsContent kind outer kept (line ∷ later) content
    → DoNotFall (content_from kind low (after_space 4 s).offset) content.offsets
content_after kind outer kept line later content s low first r f is =
    let from = content_from kind low (after_space 4 s).offset in
    let parts = subst (λ z. ArePartsAt kind outer z (length line) later is.parts) first is.are_parts in
    subst (λ (c : Placed). DoNotFall from c.offsets) (sym is.is_content)
    (front_rises _ from (flat_map offsets_of is.parts) (parts_rise from is.parts (parts_from line later outer low s r f kind is.parts parts)))

offset_after : (from : ℕ) (offsets : List ℕ) (i : ℕ) → DoNotFall from offsets → i < length offsets → from ≤ slice_index offsets i
offset_after from [] i rise inside = absurd (omega (arith, inside))
offset_after from (offset ∷ offsets) zero rise inside = rise.0
offset_after from (offset ∷ offsets) (suc i) rise inside =
    omega (arith, rise.0, offset_after offset offsets i rise.1 (omega (arith, inside)))

from_moved : (kind : BlockKind) (passed offset start low text at : ℕ) → passed ≤ start + low → offset ≤ start + text → content_from kind low text ≤ at
    → content_from kind passed offset ≤ start + at
from_moved Indented passed offset start low text at first second is = omega (arith, first, is)
from_moved (Html kind) passed offset start low text at first second is = omega (arith, first, is)
from_moved Blank passed offset start low text at first second is = omega (arith, second, is)
from_moved Break passed offset start low text at first second is = omega (arith, second, is)
from_moved (Heading level) passed offset start low text at first second is = omega (arith, second, is)
from_moved (Setext level) passed offset start low text at first second is = omega (arith, second, is)
from_moved (Fenced count byte) passed offset start low text at first second is = omega (arith, second, is)
from_moved (Table columns) passed offset start low text at first second is = omega (arith, second, is)
from_moved Definition passed offset start low text at first second is = omega (arith, second, is)
from_moved Paragraph passed offset start low text at first second is = omega (arith, second, is)

-- ---- leaf blocks

module _ (page : List ℕ) where
  leaf_holds : (kind : BlockKind) (outer : List Container) (kept : ℕ) (part : Part) (others : List (List ℕ)) (passed : ℕ) → part.lines ≢ []
      → lines_of (drop part.start page) ≡ part.lines ++ others
      → IsAfter outer kept (first_of part.lines) part.start part.words passed → HoldsContent page outer kept passed (leaf_of kind part)
  leaf_holds kind outer kept part others passed some stands b content is offset inside =
      let first = first_of part.lines in
      let s = b.position in
      let r = b.reached in
      let far = b.far in
      let begun = b.begun in
      let low = passed - part.start in
      let lines = block_lines page part.start part.lines others stands ∙ cons_first part.lines some in
      let there = after_some first s r 4 in
      let within = there.within in
      let size : length (rest_at s).text ≡ length first - (after_space 4 s).offset =
      length-drop (after_space 4 s).offset (after_space 4 s).bytes ∙ ap (λ (l : List ℕ). length l - (after_space 4 s).offset) there.of_line in
      let words = ap (λ (w : Rest). length w.text) b.is_rest in
      let rise = content_after kind outer kept first (drop 1 part.lines) content s low b.is_first r
      (omega (arith, far), λ some. omega (arith, begun, b.pending some))
      (subst (λ ls. IsContent kind outer kept ls content) lines is) in
      from_moved kind passed (leaf_of kind part).offset part.start low (after_space 4 s).offset (slice_index content.offsets offset)
      (omega arith) (omega (arith, words, size, within)) (offset_after _ content.offsets offset rise inside)

  abbrev Holds : List Container → ℕ → ℕ → LeafBlock → Type 0
  Holds outer kept passed block = HoldsContent page outer kept passed block × HoldsText page outer kept block

  holds : (kind : BlockKind) (outer : List Container) (kept : ℕ) (part : Part) (others : List (List ℕ)) (passed : ℕ) → part.lines ≢ []
      → lines_of (drop part.start page) ≡ part.lines ++ others
      → IsAfter outer kept (first_of part.lines) part.start part.words passed → Holds outer kept passed (leaf_of kind part)
  holds kind outer kept part others passed some stands b =
      (leaf_holds kind outer kept part others passed some stands b, text_holds page kind outer kept part others passed some stands b)

  -- the same of each leaf block among events
  abbrev EventsHold : List Container → ℕ → ℕ → List Event → Type 0
  EventsHold outer kept passed [] = ⊤
  EventsHold outer kept passed (starts container source ∷ later) = EventsHold (outer ++ past_first_line container ∷ []) kept (suc source) later
  EventsHold outer kept passed (leaf block ∷ later) =
      Holds outer kept passed block × EventsHold outer (length outer) (block_end block) later
  EventsHold outer kept passed (ends ∷ later) = EventsHold (take (length outer - 1) outer) (length outer - 1) passed later

  -- a later line, in containers of which more than the first line is read
  later_is_after : (tree outer : List Container) (line : List ℕ) (start : ℕ) → tree ≡ outer
      → IsAfter tree (length tree) line start (rest_in outer line) start
  later_is_after tree outer line start same =
      let r = after_reached line outer in record {
        position = (match_line outer line).state;
        is_first = ap (λ n. after_markers n (match_line (take (length tree) tree) line).state) (zero_left (length tree))
            ∙ ap (λ cs. (match_line cs line).state) (take_all (length tree) tree (omega arith) ∙ same);
        reached = r;
        begun = omega arith;
        far = omega arith;
        pending = λ some. omega (arith, (r.after_tab some).0);
        is_rest = refl;
      }
    where
      zero_left : (n : ℕ) → n - n ≡ 0
      zero_left n = omega arith

  rest_after : (tree outer : List Container) (lines : List (List ℕ)) (start : ℕ) → tree ≡ outer → lines ≢ []
      → IsAfter tree (length tree) (first_of lines) start (first_rest outer lines) start
  rest_after tree outer [] start same some = absurd (some refl)
  rest_after tree outer (line ∷ lines) start same some = later_is_after tree outer line start same

  leaves_hold : (tree outer : List Container) (kind : BlockKind) (leaves : List LeafBlock) (kept : ℕ) (part : Part) (content : List ℕ)
      (others : List (List ℕ)) (passed : ℕ) (rest : List Event) → AreLeaves outer kind part content leaves
      → ((definition : ReferenceDefinition) → IsDefinition content definition → tree ≡ outer)
      → lines_of (drop part.start page) ≡ part.lines ++ others
      → (part.lines ≢ [] → IsAfter tree kept (first_of part.lines) part.start part.words passed)
      → (part.lines ≡ [] → (kept ≡ length tree) × (passed ≡ part.start))
      → EventsHold tree (length tree) (part.start + length (concat part.lines)) rest
      → EventsHold tree kept passed (map leaf leaves ++ rest)
  leaves_hold tree outer kind [] kept part content others passed rest none same stands match_line at hold =
      let end : part.start + length (concat part.lines) ≡ part.start = omega (arith, ap (λ (ls : List (List ℕ)). length (concat ls)) none) in
      let there = at none in
      subst (λ n. EventsHold tree n passed rest) (sym there.0)
      (subst (λ n. EventsHold tree (length tree) n rest) (sym there.1) (subst (λ n. EventsHold tree (length tree) n rest) end hold))
  leaves_hold tree outer kind (block ∷ more) kept part content others passed rest (some, inl (definition, is, first, later)) same stands match_line at hold =
      let n = lines_taken content definition in
      let count = some_taken content definition is in
      let front = record part { lines = take n part.lines } in
      let start = part.start + length (concat (take n part.lines)) in
      let left : lines_of (drop part.start page) ≡ take n part.lines ++ (drop n part.lines ++ others) =
      stands ∙ ap (λ ls. ls ++ others) (sym (take-append-drop n part.lines)) ∙ append_assoc (take n part.lines) (drop n part.lines) others in
      let alike = same definition is in
      let end : part.start + length (concat part.lines) ≡ start + length (concat (drop n part.lines)) = omega (arith, parted n part.lines) in
      subst (λ b. EventsHold tree kept passed (leaf b ∷ map leaf more ++ rest)) (sym first) (
        holds Definition tree kept front (drop n part.lines ++ others) passed (some_kept n part.lines count some) left
            (subst (λ l. IsAfter tree kept l part.start part.words passed) (sym (first_kept n part.lines count)) (match_line some)),
        leaves_hold tree outer kind more (length tree) (later_lines outer n part) (drop definition.len content) others start rest later
            (λ d found. alike) (page_after page part.start (take n part.lines) (drop n part.lines ++ others) left)
            (λ more_lines. rest_after tree outer (drop n part.lines) start alike more_lines) (λ none. (refl, refl))
            (subst (λ e. EventsHold tree (length tree) e rest) end hold),
      )
  leaves_hold tree outer kind (block ∷ more) kept part content others passed rest (some, inr (none, only, last)) same stands match_line at hold =
      subst (λ b. EventsHold tree kept passed (leaf b ∷ map leaf more ++ rest)) (sym only) (
        holds kind tree kept part others passed some stands (match_line some),
        subst (λ (m : List LeafBlock). EventsHold tree (length tree) (part.start + length (concat part.lines)) (map leaf m ++ rest)) (sym last) hold,
      )

  -- ---- the containers that it begins, and those that end before it

  ends_hold : (count : ℕ) (tree : List Container) (kept passed : ℕ) (rest : List Event) → kept ≡ length tree
      → EventsHold (take (length tree - count) tree) (length tree - count) passed rest → EventsHold tree kept passed (replicate count ends ++ rest)
  ends_hold zero tree kept passed rest all hold =
      let none : length tree - 0 ≡ length tree = omega arith in
      subst (λ n. EventsHold tree n passed rest) (sym all) (subst (λ cs. EventsHold cs (length tree) passed rest) (take_all (length tree) tree (omega arith))
      (subst (λ n. EventsHold (take n tree) n passed rest) none hold))
  ends_hold (suc count) tree kept passed rest all hold =
      let fewer = take (length tree - 1) tree in
      let size : length tree - 1 ≡ length fewer = omega (arith, length-take (length tree - 1) tree) in
      let less : length tree - suc count ≡ length fewer - count = omega (arith, size) in
      let again : take (length tree - suc count) tree ≡ take (length fewer - count) fewer =
      sym (take-take (length tree - suc count) (length tree - 1) tree (omega arith)) ∙ ap (λ n. take n fewer) less in
      ends_hold count fewer (length tree - 1) passed rest size
      (subst (λ n. EventsHold (take (length fewer - count) fewer) n passed rest) less
      (subst (λ cs. EventsHold cs (length tree - suc count) passed rest) again hold))

  started_hold : (kept line : ℕ) (first : List ℕ) (last : LineState) (rest : List Event) (asked : Extensions) (containers : List Container)
      (s : LineState) (tree : List Container) (passed : ℕ) → Reached first s → line ≤ passed → passed ≤ line + s.offset
      → (0 < s.pending → passed < line + s.offset) → Opens asked s containers last
      → ((from : ℕ) → line ≤ from → from ≤ line + last.offset → (0 < last.pending → from < line + last.offset) → Reached first last
      → EventsHold (tree ++ map past_first_line containers) kept from rest)
      → EventsHold tree kept passed (started line s containers ++ rest)
  started_hold kept line first last rest asked [] s tree passed r begun low pending opens hold =
      subst (λ cs. EventsHold cs kept passed rest) (append-nil tree)
      (hold passed begun (subst (λ (z : LineState). passed ≤ line + z.offset) (sym opens.1) low)
      (subst (λ (z : LineState). 0 < z.pending → passed < line + z.offset) (sym opens.1) pending) (subst (Reached first) (sym opens.1) r))
  started_hold kept line first last rest asked (c ∷ inner) s tree passed r begun low pending (next, begins, opens) hold =
      let all = begun_by_all asked s (c, next) begins in
      let after : next ≡ after_marker s = rw (after_marker, all) refl in
      let further = begun_further s next c all in
      let there = begun_reached first s next c r all in
      subst (λ z. EventsHold (tree ++ past_first_line c ∷ []) kept (suc (line + marker_start s)) (started line z inner ++ rest)) after
      (started_hold kept line first last rest (without_terms asked) inner next (tree ++ past_first_line c ∷ []) (suc (line + marker_start s)) there
      (omega arith) (omega (arith, further.0)) (λ some. omega (arith, further.1 some)) opens
      (λ from a b p reached. subst (λ cs. EventsHold cs kept from rest) (sym (append_assoc tree (past_first_line c ∷ []) (map past_first_line inner)))
      (hold from a b p reached)))

  started_after : (header : Bool) (kept line : ℕ) (first : List ℕ) (last : LineState) (rest : List Event) (asked : Extensions) (containers : List Container)
      (s : LineState) (tree : List Container) (passed : ℕ) → Reached first s → line ≤ passed → passed ≤ line + s.offset
      → (0 < s.pending → passed < line + s.offset) → OpensAfter header asked s containers last
      → ((from : ℕ) → line ≤ from → from ≤ line + last.offset → (0 < last.pending → from < line + last.offset) → Reached first last
      → EventsHold (tree ++ map past_first_line containers) kept from rest)
      → EventsHold tree kept passed (started line s containers ++ rest)
  started_after false kept line first last rest asked containers s tree passed r begun low pending opens hold =
      started_hold kept line first last rest asked containers s tree passed r begun low pending opens hold
  started_after true kept line first last rest asked containers s tree passed r begun low pending opens hold =
      subst (λ cs. EventsHold tree kept passed (started line s cs ++ rest)) (sym opens.0)
      (subst (λ cs. EventsHold cs kept passed rest) (append-nil tree)
      (subst (λ cs. EventsHold (tree ++ map past_first_line cs) kept passed rest) opens.0
      (hold passed begun (subst (λ (z : LineState). passed ≤ line + z.offset) (sym opens.1) low)
      (subst (λ (z : LineState). 0 < z.pending → passed < line + z.offset) (sym opens.1) pending) (subst (Reached first) (sym opens.1) r))))

opens_marked : (asked : Extensions) (s last : LineState) (containers : List Container) → Opens asked s containers last
    → after_markers (length containers) s ≡ last
opens_marked asked s last [] opens = sym opens.1
opens_marked asked s last (c ∷ inner) (next, begins, opens) =
    marks-some (length inner) s next c (begun_by_all asked s (c, next) begins) ∙ opens_marked (without_terms asked) next last inner opens

-- a block whose content begins with a definition does not begin with a blank line
not_blank : (kind : BlockKind) (outer : OpenContainers) (containers : List Container) (words : Rest) (later rest : List (List ℕ)) (d : ReferenceDefinition)
    → IsLeaf outer kind words later rest → IsDefinition (content_in kind containers words.text later) d → ¬ IsBlank words
not_blank Paragraph outer containers words later rest d is found = is.0.0
not_blank (Setext level) outer containers words later rest d is found = is.0.0
not_blank Definition outer containers words later rest d is found = is.0.0
not_blank Blank outer containers words later rest d is found = absurd (no_text d found)
not_blank Break outer containers words later rest d is found = absurd (no_text d found)
not_blank (Heading level) outer containers words later rest d is found = absurd (no_text d found)
not_blank Indented outer containers words later rest d is found = absurd (no_text d found)
not_blank (Fenced count byte) outer containers words later rest d is found = absurd (no_text d found)
not_blank (Html kind) outer containers words later rest d is found = absurd (no_text d found)
not_blank (Table columns) outer containers words later rest d is found = absurd (no_text d found)

paragraph_of : (kind : BlockKind) → is_paragraph_kind kind ≡ true → kind ≡ Paragraph
paragraph_of Paragraph h = refl
paragraph_of Blank h = cc
paragraph_of Break h = cc
paragraph_of (Heading level) h = cc
paragraph_of (Setext level) h = cc
paragraph_of Indented h = cc
paragraph_of (Fenced count byte) h = cc
paragraph_of (Html html) h = cc
paragraph_of (Table columns) h = cc
paragraph_of Definition h = cc

take_taken : {A : Type 0} (n : ℕ) (xs : List A) → take (length (take n xs)) xs ≡ take n xs
take_taken zero xs = refl
take_taken (suc n) [] = refl
take_taken (suc n) (x ∷ xs) = ap (λ ys. x ∷ ys) (take_taken n xs)

take_map : (n : ℕ) (outer : List Container) → take n (map past_first_line outer) ≡ map past_first_line (take n outer)
take_map zero outer = refl
take_map (suc n) [] = refl
take_map (suc n) (c ∷ outer) = ap (λ cs. past_first_line c ∷ cs) (take_map n outer)

-- ---- pieces

-- how many containers the first line of a block goes on with
count_by : Bool → Between → List ℕ → ℕ
count_by true before line = length before.containers
count_by false before line = (match_line before.containers line).kept

kept_alike : (header : Bool) (before : Between) (line : List ℕ)
    → map past_first_line (kept_by header before line) ≡ map past_first_line (take (count_by header before line) before.containers)
unfolding count_by
kept_alike true before line = ap (map past_first_line) (sym (take_all (length before.containers) before.containers (omega arith)))
kept_alike false before line = last_settled (take (match_line before.containers line).kept before.containers)

kept_sizes : (header : Bool) (before : Between) (line : List ℕ)
    → length (kept_by header before line) ≡ length (take (count_by header before line) before.containers)
unfolding count_by
kept_sizes true before line = ap length (sym (take_all (length before.containers) before.containers (omega arith)))
kept_sizes false before line = kept_fewer (take (match_line before.containers line).kept before.containers)

-- after a paragraph more than the first line of each container is read
abbrev SettledAfter : Between → Type 0
SettledAfter before = IsTrue before.paragraph → AreSettled before.containers

-- the offset after the containers in the first line
position_by : (header : Bool) (before : Between) (piece : Piece) → (IsTrue header → AreSettled before.containers)
    → (o : AreOpened before header piece.first piece.kept piece.begun piece.words)
    → after_markers (length piece.begun) (match_line (map past_first_line piece.kept) piece.first).state ≡ o.position
position_by true before piece settled o =
    ap (λ cs. after_markers (length cs) (match_line (map past_first_line piece.kept) piece.first).state) o.begins.0
    ∙ ap (λ cs. (match_line (map past_first_line cs) piece.first).state) o.goes_on
    ∙ ap (λ cs. (match_line cs piece.first).state) (all_settled before.containers (settled refl)) ∙ sym o.begins.1
position_by false before piece settled o =
    let first = piece.first in
    ap (λ cs. after_markers (length piece.begun) (match_line cs first).state)
    (ap (map past_first_line) o.goes_on ∙ last_settled (take (match_line before.containers first).kept before.containers))
    ∙ ap (after_markers (length piece.begun)) (settled_on (is_blank first) before.containers (start_of first))
    ∙ opens_marked (asked_between before first) (match_line before.containers first).state o.position piece.begun o.begins

-- where the rest of the line is not blank, more than the first line of each container is read
filled_settled : (before : Between) (piece : Piece) → FrontSettled before.containers
    → (o : AreOpened before false piece.first piece.kept piece.begun piece.words) → ¬ IsBlank piece.words → AreSettled (piece.kept ++ piece.begun)
filled_settled before piece front o some =
    let full : is_blank (unscanned o.position) ≡ false =
    filled (is_blank (unscanned o.position))
    (λ blank. some (subst (λ (w : Rest). is_blank w.text ≡ true) (sym o.is_rest) (blank_after 4 o.position blank))) in
    let kept = subst AreSettled (sym o.goes_on) (kept_settled (match_line before.containers piece.first).kept before.containers front) in
    let begun = opened_settled (asked_between before piece.first) (match_line before.containers piece.first).state o.position piece.begun
    o.begins full in
    both_settled piece.kept piece.begun kept begun

front_by : (header : Bool) (before : Between) (piece : Piece) → FrontSettled before.containers
    → AreOpened before header piece.first piece.kept piece.begun piece.words → FrontSettled (piece.kept ++ piece.begun)
front_by true before piece front o =
    subst FrontSettled (sym (ap (λ cs. cs ++ piece.begun) o.goes_on ∙ ap (λ cs. before.containers ++ cs) o.begins.0 ∙ append-nil before.containers)) front
front_by false before piece front o =
    front_both piece.kept piece.begun
    (subst AreSettled (sym o.goes_on) (kept_settled (match_line before.containers piece.first).kept before.containers front))
    (opened_front (asked_between before piece.first) (match_line before.containers piece.first).state o.position piece.begun o.begins)

-- a block that has a definition begins a block
defined_leaf : (header : Bool) (kind : BlockKind) (outer : OpenContainers) (containers : List Container) (words : Rest) (later rest : List (List ℕ))
    (d : ReferenceDefinition) → IsLeafAfter header outer kind words later rest → IsDefinition (content_in kind containers words.text later) d
    → (header ≡ false) × (¬ IsBlank words)
defined_leaf false kind outer containers words later rest d is found = (refl, not_blank kind outer containers words later rest d is found)
defined_leaf true (Table columns) outer containers words later rest d is found = absurd (no_text d found)
defined_leaf true Blank outer containers words later rest d is found = absurd is
defined_leaf true Break outer containers words later rest d is found = absurd is
defined_leaf true (Heading level) outer containers words later rest d is found = absurd is
defined_leaf true (Setext level) outer containers words later rest d is found = absurd is
defined_leaf true Indented outer containers words later rest d is found = absurd is
defined_leaf true (Fenced count byte) outer containers words later rest d is found = absurd is
defined_leaf true (Html html) outer containers words later rest d is found = absurd is
defined_leaf true Definition outer containers words later rest d is found = absurd is
defined_leaf true Paragraph outer containers words later rest d is found = absurd is

module _ (page : List ℕ) (before : Between) (piece : Piece) (front : FrontSettled before.containers) (settled : SettledAfter before)
    (rest : List (List ℕ)) (is : IsPiece before piece rest) where
  count : ℕ
  count = count_by piece.header before piece.first

  kept_is : map past_first_line piece.kept ≡ map past_first_line (take count before.containers)
  unfolding count
  kept_is = ap (map past_first_line) is.opened.goes_on ∙ kept_alike piece.header before piece.first

  size : length piece.kept ≡ length (take count before.containers)
  unfolding count
  size = ap length is.opened.goes_on ∙ kept_sizes piece.header before piece.first

  -- the containers that are left where those have ended that its first line does not go on with
  left_open : take (length (map past_first_line before.containers) - (length before.containers - length piece.kept)) (map past_first_line before.containers)
      ≡ map past_first_line piece.kept
  left_open =
      let few : length piece.kept ≤ length before.containers = omega (arith, size, length-take count before.containers) in
      let number : length (map past_first_line before.containers) - (length before.containers - length piece.kept)
      ≡ length (take count before.containers) = omega (arith, few, size, length-map before.containers past_first_line) in
      ap (λ n. take n (map past_first_line before.containers)) number ∙ take_map (length (take count before.containers)) before.containers
      ∙ ap (map past_first_line) (take_taken count before.containers) ∙ sym kept_is

  number_open : length (map past_first_line before.containers) - (length before.containers - length piece.kept) ≡ length piece.kept
  number_open = omega (arith, size, length-take count before.containers, length-map before.containers past_first_line)

  abbrev tree : List Container
  tree = map past_first_line piece.kept ++ map past_first_line piece.begun

  -- the offset after them in its first line
  position_after : first_offset (length piece.kept) tree piece.first ≡ is.opened.position
  position_after =
      let first = piece.first in
      let begun : length tree - length piece.kept ≡ length piece.begun =
      omega (arith, length-append (map past_first_line piece.kept) (map past_first_line piece.begun), length-map piece.kept past_first_line, length-map piece.begun past_first_line) in
      let kept : take (length piece.kept) tree ≡ map past_first_line piece.kept =
      ap (λ n. take n tree) (sym (length-map piece.kept past_first_line)) ∙ take-append_seam (map past_first_line piece.kept) (map past_first_line piece.begun) in
      ap (λ n. after_markers n (match_line (take (length piece.kept) tree) first).state) begun
      ∙ ap (λ cs. after_markers (length piece.begun) (match_line cs first).state) kept
      ∙ position_by piece.header before piece (λ t. settled (is.is_header.0 t).0) is.opened

  -- where a definition is parted from it, more than the first line of each of its containers is read
  same_containers : (d : ReferenceDefinition) → IsDefinition (piece_content piece) d → tree ≡ piece.kept ++ piece.begun
  same_containers d found =
      let some = defined_leaf piece.header piece.kind (outer_of before piece) (piece.kept ++ piece.begun) piece.words piece.later rest d is.leaf found in
      let opened = subst (λ h. AreOpened before h piece.first piece.kept piece.begun piece.words) some.0 is.opened in
      sym (map-append past_first_line piece.kept piece.begun)
      ∙ all_settled (piece.kept ++ piece.begun) (filled_settled before piece front opened some.1)

  next_front : FrontSettled (piece.kept ++ piece.begun)
  next_front = front_by piece.header before piece front is.opened

  next_settled : SettledAfter (opened_by before piece)
  next_settled = λ paragraph.
      let kind = paragraph_of piece.kind paragraph in
      let plain = paragraph_leaf piece.header (outer_of before piece) piece.kind piece.words piece.later rest kind is.leaf in
      let opened = subst (λ h. AreOpened before h piece.first piece.kept piece.begun piece.words) plain.0 is.opened in
      filled_settled before piece front opened plain.1.0.0

module _ (page : List ℕ) (rest : List Event) (any : (tree : List Container) (kept passed : ℕ) → EventsHold page tree kept passed rest) where
  pieces_hold : (pieces : List Piece) (before : Between) (line start : ℕ) (events : List Event) → FrontSettled before.containers
      → SettledAfter before → AreBlocks before pieces [] → AreEvents before.containers line start pieces events → lines_of (drop start page) ≡ lines_in pieces
      → EventsHold page (map past_first_line before.containers) (length (map past_first_line before.containers)) start (events ++ rest)
  pieces_hold [] before line start events front settled each are stands =
      subst (λ (es : List Event). EventsHold page (map past_first_line before.containers) (length (map past_first_line before.containers)) start (es ++ rest)) (sym are)
      (any (map past_first_line before.containers) (length (map past_first_line before.containers)) start)
  pieces_hold (piece ∷ later) before line start events front settled each (leaves, more, are, is, after) stands =
      let outer = map past_first_line before.containers in
      let lines = piece.first ∷ piece.later in
      let opened = each.0.opened in
      let s = (match_line before.containers piece.first).state in
      let r = after_reached piece.first before.containers in
      let inside = tree page before piece front settled _ each.0 in
      let next = pieces_hold later (opened_by before piece) _ (start + length (concat lines)) more (next_front page before piece front settled _ each.0)
      (next_settled page before piece front settled _ each.0) each.1 after (page_after page start lines (lines_in later) stands) in
      let joined : map past_first_line (piece.kept ++ piece.begun) ≡ inside = map-append past_first_line piece.kept piece.begun in
      let then = subst (λ cs. EventsHold page cs (length cs) (start + length (concat lines)) (more ++ rest)) joined next in
      let gone = replicate (length before.containers - length piece.kept) ends in
      let own : List Event = map leaf leaves ++ (more ++ rest) in
      let begins : List Event = started start s piece.begun ++ own in
      subst (λ (es : List Event). EventsHold page outer (length outer) start (es ++ rest)) (sym is)
      (subst (EventsHold page outer (length outer) start) (sym (regroup gone (started start s piece.begun) (map leaf leaves) more rest))
      (ends_hold page (length before.containers - length piece.kept) outer (length outer) start begins refl
      (subst (λ cs. EventsHold page cs (length outer - (length before.containers - length piece.kept)) start begins)
      (sym (left_open page before piece front settled _ each.0))
      (subst (λ n. EventsHold page (map past_first_line piece.kept) n start begins) (sym (number_open page before piece front settled _ each.0))
      (started_after page piece.header (length piece.kept) start piece.first opened.position own (asked_between before piece.first) piece.begun s (map past_first_line piece.kept)
      start r (omega arith) (omega arith) (λ some. omega (arith, (r.after_tab some).0)) opened.begins
      (λ from begun far pending reached. leaves_hold page inside (piece.kept ++ piece.begun) piece.kind leaves (length piece.kept)
      (part_of line start piece) (piece_content piece) (lines_in later) from (more ++ rest) are (same_containers page before piece front settled _ each.0) stands
      (λ some. record {
        position = opened.position;
        is_first = position_after page before piece front settled _ each.0;
        reached = reached;
        begun = begun;
        far = far;
        pending = pending;
        is_rest = opened.is_rest;
      }) (λ none. cc) then))))))

ends_any : (page : List ℕ) (count : ℕ) (outer : List Container) (kept passed : ℕ) → EventsHold page outer kept passed (replicate count ends)
ends_any page zero outer kept passed = tt
ends_any page (suc count) outer kept passed = ends_any page count (take (length outer - 1) outer) (length outer - 1) passed

-- ---- what stands in a container

one_less : (outer : List Container) (c : Container) → length (outer ++ c ∷ []) - 1 ≡ length outer
one_less outer c = omega (arith, length-append outer (c ∷ []))

outer_again : (outer : List Container) (c : Container) → take (length (outer ++ c ∷ []) - 1) (outer ++ c ∷ []) ≡ outer
outer_again outer c = ap (λ n. take n (outer ++ c ∷ [])) (one_less outer c) ∙ take-append_seam outer (c ∷ [])

nodes_hold : (page : List ℕ) (nodes : Nodes) (outer : List Container) (kept passed : ℕ) (rest : List Event)
    → EventsHold page outer kept passed (flatten nodes ++ rest)
    → ContentsStand page outer kept passed nodes × ((then : ℕ) × EventsHold page outer then (passed_after passed nodes) rest)
nodes_hold page nothing outer kept passed rest hold = (tt, (kept, hold))
nodes_hold page (leaf_then block later) outer kept passed rest hold =
    let more = nodes_hold page later outer (length outer) (block_end block) rest hold.1 in
    ((hold.0.0, hold.0.1, more.0), more.1)
nodes_hold page (container_then container offset inner later) outer kept passed rest hold =
    let within = outer ++ past_first_line container ∷ [] in
    let held = nodes_hold page inner within kept (suc offset) (ends ∷ (flatten later ++ rest))
    (subst (EventsHold page within kept (suc offset)) (append_assoc (flatten inner) (ends ∷ flatten later) rest) hold) in
    let end = passed_after (suc offset) inner in
    let after = subst (λ cs. EventsHold page cs (length within - 1) end (flatten later ++ rest)) (outer_again outer (past_first_line container)) held.1.1 in
    let more = nodes_hold page later outer (length outer) end rest
    (subst (λ n. EventsHold page outer n end (flatten later ++ rest)) (one_less outer (past_first_line container)) after) in
    ((held.0, more.0), more.1)

-- The contents of the leaf blocks of a page stand there in order.
pub page_contents_stand : (asked : Extensions) (page : List ℕ) (nodes : Nodes) → IsEventsOf asked page (flatten nodes)
    → ContentsStand page [] 0 (text_start page) nodes
page_contents_stand asked page nodes (pieces, blocks, is_page, are, is) =
    let count = open_after 0 pieces in
    let start = text_start page in
    let all = pieces_hold page (replicate count ends) (ends_any page count) pieces (root asked) 0 start blocks tt (λ t. cc) is_page.each are (sym is_page.joined) in
    (nodes_hold page nodes [] 0 start [] (subst (EventsHold page [] 0 start) (sym is ∙ sym (append-nil (flatten nodes))) all)).0
