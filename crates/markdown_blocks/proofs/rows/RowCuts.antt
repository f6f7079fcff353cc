-- The rows of a table in lines that are UTF-8 are UTF-8, and the lines may be cut where they may.
use Rattle.std.proofs.Common.{ℕ, ◌+◌, ◌≡◌, List, [], ◌∷◌, ◌++◌, length, drop, refl, sym, ap, ◌∙◌, subst, arith}
use Rattle.std.specs.List.{AllByRecursion, concat}
use Rattle.std.specs.Str.{IsUtf8, IsCharBoundary}
use Rattle.std.proofs.lemmas.List.{drop-drop}
use Rattle.std.proofs.lemmas.Str.{IsCharBoundary-end, IsCharBoundary-from_rest, IsCharBoundary-start, IsUtf8-drop}
use Rattle.std.proofs.Math.Seq.{drop-append_seam}
use Rattle.markdown_scanners_tree.specs.line.State.{LineState, after_space}
use Rattle.markdown_scanners_tree.specs.scanners.TextLines.{lines_of}
use Rattle.markdown_scanners_tree.proofs.ForCallers.{lines_joined}
use Rattle.markdown_blocks.specs.containers.Containers.{match_line}
use Rattle.markdown_blocks.specs.content.Parts.{first_offset}
use Rattle.markdown_blocks.specs.declared.blocks.BlockKind.TheVariants.{Paragraph}
use Rattle.markdown_blocks.specs.declared.containers.Container.{Container}
use Rattle.markdown_blocks.specs.rows.Rows.{TextAt, body_rows, later_rows, row_at, rows_of}
use Rattle.markdown_blocks.proofs.content.CutMoves.{cut_of_first}
use Rattle.markdown_blocks.proofs.content.ReachedLemmas.{Reached, after_some}
use Rattle.markdown_blocks.proofs.content.ReachedPlaces.{first_reached, later_reached}
use Rattle.markdown_blocks.proofs.content.Utf8Lemmas.{rest_utf8}
use Rattle.markdown_blocks.proofs.taken.LineCuts.{lines_utf8}

-- the text of a row is UTF-8, and the lines may be cut where it may
pub record IsRowCut (lines : List ℕ) (row : TextAt) : Type 0 where
  pub utf8 : IsUtf8 row.text
  pub cuts : (offset : ℕ) → IsCharBoundary row.text offset → IsCharBoundary lines (row.offset + offset)

module _ (text : List ℕ) (utf8 : IsUtf8 text) where
  -- what is left of a line, before which so many bytes stand
  row_cut : (before : ℕ) (line rest : List ℕ) → IsCharBoundary text before → drop before text ≡ line ++ rest → IsUtf8 line → (s : LineState)
      → Reached line s → IsRowCut text (row_at before s)
  row_cut before line rest begins stands own s r =
      let t = after_space 4 s in
      let there = after_some line s r 4 in
      let inside = there.within in
      let left : drop t.offset t.bytes ≡ drop t.offset line = ap (drop t.offset) there.of_line in record {
        utf8 = rest_utf8 line own t there;
        cuts = λ offset cut.
            let in_line : IsCharBoundary line (t.offset + offset) =
            IsCharBoundary-from_rest line t.offset offset inside (subst (λ (l : List ℕ). IsCharBoundary l offset) left cut) in
            let whole : IsUtf8 (line ++ rest) = subst IsUtf8 stands (IsUtf8-drop text before utf8 begins) in
            let in_rest : IsCharBoundary (drop before text) (t.offset + offset) =
            subst (λ (l : List ℕ). IsCharBoundary l (t.offset + offset)) (sym stands) (cut_of_first line rest (t.offset + offset) whole own in_line) in
            let at : before + (t.offset + offset) ≡ before + t.offset + offset = omega arith in
            subst (IsCharBoundary text) at (IsCharBoundary-from_rest text before (t.offset + offset) begins.0 in_rest);
      }

  -- the next line
  next_cut : (before : ℕ) (line rest : List ℕ) → IsCharBoundary text before → drop before text ≡ line ++ rest → IsUtf8 line
      → IsCharBoundary text (before + length line) × (drop (before + length line) text ≡ rest)
  next_cut before line rest begins stands own =
      let whole : IsUtf8 (line ++ rest) = subst IsUtf8 stands (IsUtf8-drop text before utf8 begins) in (
        IsCharBoundary-from_rest text before (length line) begins.0 (subst (λ (l : List ℕ). IsCharBoundary l (length line)) (sym stands)
            (cut_of_first line rest (length line) whole own (IsCharBoundary-end line))),
        sym (drop-drop (length line) before text) ∙ ap (drop (length line)) stands ∙ drop-append_seam line rest,
      )

  later_cut : (outer : List Container) (before : ℕ) (lines : List (List ℕ)) → IsCharBoundary text before → drop before text ≡ concat lines
      → AllByRecursion IsUtf8 lines → AllByRecursion (IsRowCut text) (later_rows outer before lines)
  later_cut outer before [] begins stands all = tt
  later_cut outer before (line ∷ lines) begins stands all =
      let next = next_cut before line (concat lines) begins stands all.0 in (
        row_cut before line (concat lines) begins stands all.0 (match_line outer line).state (later_reached line Paragraph outer),
        later_cut outer (before + length line) lines next.0 next.1 all.1,
      )

  body_cut : (outer : List Container) (before : ℕ) (lines : List (List ℕ)) → IsCharBoundary text before → drop before text ≡ concat lines
      → AllByRecursion IsUtf8 lines → AllByRecursion (IsRowCut text) (body_rows outer before lines)
  body_cut outer before [] begins stands all = tt
  body_cut outer before (line ∷ lines) begins stands all =
      let next = next_cut before line (concat lines) begins stands all.0 in
      later_cut outer (before + length line) lines next.0 next.1 all.1

  all_cut : (kept : ℕ) (outer : List Container) (lines : List (List ℕ)) → text ≡ concat lines → AllByRecursion IsUtf8 lines
      → AllByRecursion (IsRowCut text) (rows_of kept outer lines)
  all_cut kept outer [] stands all = tt
  all_cut kept outer (line ∷ lines) stands all =
      let begins = IsCharBoundary-start text utf8 in
      let next = next_cut 0 line (concat lines) begins stands all.0 in
      let at : 0 + length line ≡ length line = omega arith in (
        row_cut 0 line (concat lines) begins stands all.0 (first_offset kept outer line) (first_reached line kept outer),
        body_cut outer (length line) lines (subst (IsCharBoundary text) at next.0)
            (subst (λ n. drop n text ≡ concat lines) at next.1) all.1,
      )

-- the rows of a table
pub rows_cut : (kept : ℕ) (outer : List Container) (text : List ℕ) → IsUtf8 text
    → AllByRecursion (IsRowCut text) (rows_of kept outer (lines_of text))
rows_cut kept outer text utf8 =
    all_cut text utf8 kept outer (lines_of text) (sym (lines_joined text)) (lines_utf8 (lines_of text) text refl utf8)
