-- The text of the leaf blocks of a page stands in their lines.
use Rattle.std.proofs.Common.{ℕ, ◌+◌, ◌-◌, ◌<◌, ◌≤◌, ◌≡◌, ◌≢◌, ◌∙◌, List, [], ◌∷◌, ◌++◌, length, take, drop, get_or, inr, refl, ap, arith, subst, sym}
use Rattle.std.specs.Prelude.{slice_index}
use Rattle.std.specs.List.{concat, flat_map, prefix_len}
use Rattle.std.proofs.lemmas.List.{get_or-take, get_or_append_left, length-append, length-drop, length-take}
use Rattle.std.proofs.lemmas.List.Folds.{concat-append}
use Rattle.markdown_scanners_tree.specs.Bytes.{is_space_or_tab}
use Rattle.markdown_scanners_tree.specs.line.Outcome.{after_all_space}
use Rattle.markdown_scanners_tree.specs.line.State.{LineState, after_space, unscanned}
use Rattle.markdown_scanners_tree.specs.scanners.TextLines.{lines_of}
use Rattle.markdown_scanners_tree.proofs.ForCallers.{lines_joined}
use Rattle.markdown_blocks.specs.containers.Containers.{Rest, rest_at}
use Rattle.markdown_blocks.specs.content.Content.{IsContent, Placed, content_len, joined, text_of}
use Rattle.markdown_blocks.specs.content.Parts.{AreParts, ArePartsAt, first_offset, later_parts, one_part, part_at}
use Rattle.markdown_blocks.specs.declared.blocks.BlockKind.{BlockKind}
use Rattle.markdown_blocks.specs.declared.blocks.BlockKind.TheVariants.{Paragraph}
use Rattle.markdown_blocks.specs.declared.containers.Container.{Container}
use Rattle.markdown_blocks.specs.events.Events.{Part, first_of, leaf_of}
use Rattle.markdown_blocks.specs.laws.Order.{HoldsText}
use Rattle.markdown_blocks.specs.rows.Rows.{TextAt, rows_of}
use Rattle.markdown_blocks.proofs.content.ReachedLemmas.{Reached, after_some}
use Rattle.markdown_blocks.proofs.laws.OrderLaw.{cons_first, first_shorter}
use Rattle.markdown_blocks.proofs.taken.FrontLemmas.{front_lines}
use Rattle.markdown_blocks.proofs.taken.LineCuts.{lines_after}

-- the lines of a block are those of its bytes
pub block_lines : (page : List ℕ) (start : ℕ) (lines rest : List (List ℕ)) → lines_of (drop start page) ≡ lines ++ rest
    → lines_of (take (length (concat lines)) (drop start page)) ≡ lines
block_lines page start lines rest is =
    let sizes : length (drop start page) ≡ length (concat lines) + length (concat rest) =
    ap length (sym (lines_joined (drop start page)) ∙ ap concat is ∙ concat-append lines rest) ∙ length-append (concat lines) (concat rest) in
    front_lines (drop start page) (length (concat lines)) lines (omega (arith, sizes))
    (is ∙ ap (λ ls. lines ++ ls) (sym (lines_after lines (drop start page) rest is)))

-- The offset after the containers in the first line of a block, with what the line has there, where so many bytes of the page stand
-- before the line, and so many are passed.
pub record IsAfter (outer : List Container) (kept : ℕ) (line : List ℕ) (start : ℕ) (words : Rest) (passed : ℕ) : Type 0 where
  pub position : LineState
  pub is_first : first_offset kept outer line ≡ position
  pub reached : Reached line position
  pub begun : start ≤ passed
  pub far : passed ≤ start + position.offset
  pub pending : 0 < position.pending → passed < start + position.offset
  pub is_rest : words ≡ rest_at position

-- the content of a paragraph whose text begins with neither a space nor a tab begins with that text
paragraph_front : (outer : List Container) (kept : ℕ) (line : List ℕ) (later : List (List ℕ)) (s : LineState) (words : Rest)
    → first_offset kept outer line ≡ s → words ≡ rest_at s → prefix_len is_space_or_tab words.text ≡ 0 → (content : Placed)
    → IsContent Paragraph outer kept (line ∷ later) content → (offset : ℕ) → offset < length content.text → offset < length words.text
    → slice_index content.text offset ≡ slice_index words.text offset
paragraph_front outer kept line later s words first is_rest plain content is offset low inside =
    let parts = subst (λ z. ArePartsAt Paragraph outer z (length line) later is.parts) first is.are_parts in
    let t = after_space 4 s in
    let text = ap (λ (w : Rest). w.text) is_rest in
    let none : prefix_len is_space_or_tab (unscanned t) ≡ 0 = ap (prefix_len is_space_or_tab) (sym text) ∙ plain in
    let source : t.offset + prefix_len is_space_or_tab (unscanned t) ≡ t.offset = omega (arith, none) in
    let own : unscanned (after_all_space t) ≡ words.text = ap (λ n. drop n t.bytes) source ∙ sym text in
    let more = flat_map text_of (later_parts Paragraph outer 0 (length line) parts.0) in
    let joined_is : (joined is.parts).text ≡ words.text ++ more = ap (flat_map text_of) parts.2 ∙ ap (λ l. l ++ more) own in
    let n = content_len Paragraph (joined is.parts).text in
    let content_text : content.text ≡ take n (words.text ++ more) =
    ap (λ (c : Placed). c.text) is.is_content ∙ ap (take n) joined_is in
    let short = length-take n (words.text ++ more) in
    let below : offset < n = omega (arith, low, ap length content_text, short) in
    ap (λ l. get_or l offset 0) content_text ∙ get_or-take n (words.text ++ more) offset 0 below ∙ get_or_append_left words.text more 0 offset inside

-- the content of a paragraph of one line whose text begins so is in one part
paragraph_line : (outer : List Container) (kept : ℕ) (line : List ℕ) (s : LineState) (words : Rest) → first_offset kept outer line ≡ s
    → words ≡ rest_at s → prefix_len is_space_or_tab words.text ≡ 0 → (offset : ℕ) → offset ≡ (after_space 4 s).offset
    → AreParts Paragraph outer kept (line ∷ []) (one_part offset words.text)
paragraph_line outer kept line s words first is_rest plain offset at =
    let t = after_space 4 s in
    let text = ap (λ (w : Rest). w.text) is_rest in
    let none : prefix_len is_space_or_tab (unscanned t) ≡ 0 = ap (prefix_len is_space_or_tab) (sym text) ∙ plain in
    let further : t.offset + prefix_len is_space_or_tab (unscanned t) ≡ t.offset = omega (arith, none) in
    let own : unscanned (after_all_space t) ≡ words.text = ap (λ n. drop n t.bytes) further ∙ sym text in
    let there : (after_all_space t).offset ≡ offset = further ∙ sym at in
    let parts : part_at (after_all_space t) ∷ [] ≡ one_part offset words.text =
    ap (λ n. one_part n (unscanned (after_all_space t))) there ∙ ap (one_part offset) own in
    subst (λ z. ArePartsAt Paragraph outer z (length line) [] (one_part offset words.text)) (sym first)
    ([], inr (refl, λ before last is left. left), sym parts)

no_more : (lines : List (List ℕ)) → length lines ≡ 1 → drop 1 lines ≡ []
no_more [] one = absurd (omega (arith, one))
no_more (line ∷ []) one = refl
no_more (line ∷ (more ∷ lines)) one = absurd (omega (arith, one))

-- the text of a block and of its first row
pub text_holds : (page : List ℕ) (kind : BlockKind) (outer : List Container) (kept : ℕ) (part : Part) (others : List (List ℕ)) (passed : ℕ) → part.lines ≢ []
    → lines_of (drop part.start page) ≡ part.lines ++ others
    → IsAfter outer kept (first_of part.lines) part.start part.words passed → HoldsText page outer kept (leaf_of kind part)
text_holds page kind outer kept part others passed some stands b =
    let first = first_of part.lines in
    let s = b.position in
    let lines = block_lines page part.start part.lines others stands ∙ cons_first part.lines some in
    let there = after_some first s b.reached 4 in
    let inside = there.within in
    let size : length (rest_at s).text ≡ length first - (after_space 4 s).offset =
    length-drop (after_space 4 s).offset (after_space 4 s).bytes ∙ ap (λ (l : List ℕ). length l - (after_space 4 s).offset) there.of_line in
    let words = ap (λ (w : Rest). length w.text) b.is_rest in
    record {
      within = omega (arith, words, size, inside, first_shorter part.lines);
      row = λ row later is.
          (let rows = ap (rows_of kept outer) (sym lines) ∙ is in
          let source : 0 + (after_space 4 (first_offset kept outer first)).offset ≡ row.offset = ap offset_of_first rows in
          omega (arith, source, ap (λ (z : LineState). (after_space 4 z).offset) b.is_first, words, size, inside));
      front = λ paragraph plain content is.
          paragraph_front outer kept first (drop 1 part.lines) s part.words b.is_first b.is_rest plain content
          (subst (λ k. IsContent k outer kept (first ∷ drop 1 part.lines) content) paragraph
          (subst (λ ls. IsContent kind outer kept ls content) lines is));
      line = λ paragraph plain one.
          (let offset = (leaf_of kind part).offset - part.start in
          let only : lines_of (take (length (concat part.lines)) (drop part.start page)) ≡ first ∷ [] =
          lines ∙ ap (λ ls. first ∷ ls) (no_more part.lines one) in
          subst (λ ls. AreParts kind outer kept ls (one_part offset part.words.text)) (sym only)
          (subst (λ k. AreParts k outer kept (first ∷ []) (one_part offset part.words.text)) (sym paragraph)
          (paragraph_line outer kept first s part.words b.is_first b.is_rest plain offset (omega (arith, words, size, inside)))));
    }
  where
    offset_of_first : List TextAt → ℕ
    offset_of_first [] = 0
    offset_of_first (row ∷ later) = row.offset
