-- The later lines of a block that are content.
use Rattle.std.proofs.Common.{ℕ, ◌+◌, ◌-◌, ◌≤◌, ◌≡◌, List, [], ◌∷◌, ◌++◌, length, take, drop, refl, sym, ap, ◌∙◌, subst, inl, inr, arith}
use Rattle.std.proofs.Common.{append_assoc, append-nil, length-append}
use Rattle.std.proofs.Math.Seq.{take-append_seam}
use Rattle.std.proofs.lemmas.List.{drop_all, length-drop, same_from_push, take_all}
use Rattle.markdown_scanners_tree.specs.scanners.TextLines.{lines_of}
use Rattle.markdown_blocks.specs.content.Parts.{AreInner, IsLeftOut}
use Rattle.markdown_blocks.specs.declared.blocks.BlockKind.{BlockKind}
use Rattle.markdown_blocks.specs.declared.containers.Container.{Container}
use Rattle.markdown_blocks.specs.declared.taken.Extent.{Extent}
use Rattle.markdown_blocks.specs.taken.Lines.{IsNext}
use Rattle.markdown_blocks.proofs.whole.WholeLemmas.{some_lines}
use Rattle.markdown_blocks.proofs.block_events.PartLemmas.{lines_few}

no_push : (ls : List (List ℕ)) (l : List ℕ) → [] ≡ ls ++ l ∷ [] → ⊥
no_push [] l is = cc
no_push (x ∷ ls) l is = cc

-- whether lines are left
pub none_left : (text : List ℕ) (n : ℕ) → n ≡ length text → lines_of (drop n text) ≡ []
none_left text n all = ap lines_of (drop_all n text (omega (arith, all)))

pub all_read : (text : List ℕ) (n : ℕ) → n ≤ length text → lines_of (drop n text) ≡ [] → n ≡ length text
all_read text n within none =
    let size = ap length (some_lines (drop n text) none) in
    omega (arith, size, length-drop n text, within)

module _ (kind : BlockKind) (outer : List Container) (text : List ℕ) (first : Extent) where
  -- the lines that are read after the first; where none is left, the last of them is content
  pub record Read (read : Extent) : Type 0 where
    pub before : List (List ℕ)
    pub parts : lines_of (drop first.bytes text) ≡ before ++ lines_of (drop read.bytes text)
    pub counted : read.lines ≡ first.lines + length before
    pub last : lines_of (drop read.bytes text) ≡ [] → (ls : List (List ℕ)) (l : List ℕ) → before ≡ ls ++ l ∷ [] → ¬ IsLeftOut kind outer l

  pub read-none : Read first
  read-none = record { before = []; parts = refl; counted = omega arith; last = λ none ls l is. absurd (no_push ls l is) }

  pub read-more : (read more : Extent) (line : List ℕ) → Read read → IsNext text read line more
      → (more.bytes ≡ length text → ¬ IsLeftOut kind outer line) → Read more
  read-more read more line r n stays = record {
    before = r.before ++ line ∷ [];
    parts = r.parts ∙ ap (λ ls. r.before ++ ls) n.parts ∙ sym (append_assoc r.before (line ∷ []) (lines_of (drop more.bytes text)));
    counted = omega (arith, n.counted, r.counted, length-append r.before (line ∷ []));
    last = λ none ls l is.
        subst (λ x. ¬ IsLeftOut kind outer x) (same_from_push r.before ls line l is).1 (stays (all_read text more.bytes n.within none));
  }

  front : (read : Extent) → (r : Read read) → take (read.lines - first.lines) (lines_of (drop first.bytes text)) ≡ r.before
  front read r =
      let size : read.lines - first.lines ≡ length r.before = omega (arith, r.counted) in
      ap (λ n. take n (lines_of (drop first.bytes text))) size ∙ ap (take (length r.before)) r.parts
      ∙ take-append_seam r.before (lines_of (drop read.bytes text))

  -- no line is left
  pub all_inner : (read : Extent) → Read read → lines_of (drop read.bytes text) ≡ []
      → AreInner kind outer (lines_of (drop first.bytes text)) (take (read.lines - first.lines) (lines_of (drop first.bytes text)))
  all_inner read r none =
      let all : lines_of (drop first.bytes text) ≡ r.before = r.parts ∙ ap (λ ls. r.before ++ ls) none ∙ append-nil r.before in
      inr (front read r ∙ sym all, λ ls l is. r.last none ls l (sym all ∙ is))

  -- the last line is left out
  pub but_last : (read more : Extent) (line : List ℕ) → Read read → IsNext text read line more → more.bytes ≡ length text → IsLeftOut kind outer line
      → AreInner kind outer (lines_of (drop first.bytes text)) (take (read.lines - first.lines) (lines_of (drop first.bytes text)))
  but_last read more line r n all out =
      let parts : lines_of (drop first.bytes text) ≡ r.before ++ line ∷ [] =
      r.parts ∙ ap (λ ls. r.before ++ ls) (n.parts ∙ ap (λ ls. line ∷ ls) (none_left text more.bytes all)) in
      inl (line, parts ∙ ap (λ ls. ls ++ line ∷ []) (sym (front read r)), out)

-- of a block of which no line is left out, all lines are content, and so are at most as many as there are bytes
pub none_left_out : (kind : BlockKind) (outer : List Container) (text : List ℕ) (first : Extent) (count : ℕ) → length text ≤ count
    → ((last : List ℕ) → ¬ IsLeftOut kind outer last)
    → AreInner kind outer (lines_of (drop first.bytes text)) (take (count - first.lines) (lines_of (drop first.bytes text)))
none_left_out kind outer text first count room none =
    let rest = drop first.bytes text in
    inr (
      take_all (count - first.lines) (lines_of rest) (omega (arith, lines_few rest, length-drop first.bytes text, room, first.few)),
      λ ls l is. none l,
    )
