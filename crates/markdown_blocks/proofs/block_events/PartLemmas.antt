-- The lines of a block, taken from the front by its leaf blocks, and the markers in its first line.
use Rattle.std.proofs.Common.{ℕ, suc, zero, Bool, true, false, List, [], ◌∷◌, ◌++◌, ◌+◌, ◌<◌}
use Rattle.std.proofs.Common.{◌≤◌, ◌≡◌, ◌≢◌, ◌⊎◌, inl, inr, Option, Some, None, length, take, drop}
use Rattle.std.proofs.Common.{refl, sym, ap, ◌∙◌, subst, arith, length-append, append-nil}
use Rattle.std.specs.Prelude.{IfSome, IfNone}
use Rattle.std.specs.List.{concat}
use Rattle.std.proofs.Math.Seq.{take-append_seam}
use Rattle.std.proofs.lemmas.List.{append_cancel_left, drop_all, take-append-drop, take_all, length-drop}
use Rattle.markdown_scanners_tree.specs.line.State.{LineState, space_within, after_space}
use Rattle.markdown_scanners_tree.specs.scanners.TextLines.{ends_line, with_first, lines_of}
use Rattle.markdown_blocks.proofs.taken.TakenLemmas.{lines_bytes}
use Rattle.markdown_blocks.specs.containers.Containers.{all_containers, begun_after, begun_at, after_marker}
use Rattle.markdown_blocks.specs.declared.containers.Container.{Container}
use Rattle.markdown_blocks.specs.declared.taken.Extent.{Extent}
use Rattle.markdown_blocks.specs.events.Events.{first_of}
use Rattle.markdown_blocks.specs.taken.Lines.{IsTaken}

-- a marker is passed where one stands, and the space before it else
pub marker_passed : (s t next : LineState) (indent : ℕ) (found : Option Container) → indent ≡ space_within 4 s → t ≡ after_space 4 s
    → IfSome found (λ c. begun_after all_containers indent t ≡ Some (c, next)) → IfNone found (begun_after all_containers indent t ≡ None)
    → IfNone found (next ≡ t)
    → next ≡ after_marker s
marker_passed s t next indent (Some c) columns state found none same =
    let here : begun_at all_containers s ≡ Some (c, next) =
    subst (λ n. begun_after all_containers n (after_space 4 s) ≡ Some (c, next)) columns
    (subst (λ z. begun_after all_containers indent z ≡ Some (c, next)) state found) in
    rw (after_marker, here) refl
marker_passed s t next indent None columns state found none same =
    let here : begun_at all_containers s ≡ None =
    subst (λ n. begun_after all_containers n (after_space 4 s) ≡ None) columns (subst (λ z. begun_after all_containers indent z ≡ None) state none) in
    rw (after_marker, here) (same ∙ state)

-- the lines that are taken are the first ones, so many or all
pub taken_front : (text : List ℕ) (taken : Extent) (lines : List (List ℕ)) (count : ℕ) → IsTaken text taken lines → length lines ≤ count
    → (¬ (length lines < count)) ⊎ (lines_of (drop taken.bytes text) ≡ []) → IsTaken text taken (take count (lines_of text))
taken_front text taken lines count h few done = subst (IsTaken text taken) (sym (same done)) h
  where
    same : (¬ (length lines < count)) ⊎ (lines_of (drop taken.bytes text) ≡ []) → take count (lines_of text) ≡ lines
    same (inl full) =
        let size : count ≡ length lines = omega (arith, full, few) in
        ap (take count) h.parts ∙ ap (λ n. take n (lines ++ lines_of (drop taken.bytes text))) size ∙ take-append_seam lines (lines_of (drop taken.bytes text))
    same (inr none) =
        ap (take count) (h.parts ∙ ap (λ ls. lines ++ ls) none ∙ append-nil lines) ∙ take_all count lines few

-- all lines are taken where there are no more
pub all_taken : (text : List ℕ) (count : ℕ) (taken : Extent) → taken.bytes ≡ length text → taken.lines ≡ length (lines_of text)
    → length (lines_of text) ≤ count → IsTaken text taken (take count (lines_of text))
all_taken text count taken bytes lines few = record {
  within = omega (arith, bytes);
  parts = sym (ap (λ ls. ls ++ lines_of (drop taken.bytes text)) all
      ∙ ap (λ t. lines_of text ++ lines_of t) (drop_all taken.bytes text (omega (arith, bytes))) ∙ append-nil (lines_of text));
  counted = lines ∙ sym (ap length all);
}
  where
    all : take count (lines_of text) ≡ lines_of text
    all = take_all count (lines_of text) few

-- the first lines of a text, and its rest
pub record Front (text : List ℕ) (count : ℕ) (taken : Extent) (rest : List ℕ) : Type 0 where
  pub lines_are : lines_of rest ≡ drop count (lines_of text)
  pub counted : taken.lines ≡ length (take count (lines_of text))
  pub bytes_are : taken.bytes ≡ length (concat (take count (lines_of text)))
  pub lines_left : length (lines_of text) ≡ taken.lines + length (lines_of rest)
  pub bytes_left : length text ≡ taken.bytes + length rest

pub front_is : (text : List ℕ) (count : ℕ) (taken : Extent) (rest : List ℕ) → rest ≡ drop taken.bytes text
    → IsTaken text taken (take count (lines_of text)) → Front text count taken rest
front_is text count taken rest is h =
    let first = take count (lines_of text) in
    let parts : lines_of text ≡ first ++ lines_of rest = h.parts ∙ ap (λ t. first ++ lines_of t) (sym is) in
    record {
      lines_are = append_cancel_left first (lines_of rest) (drop count (lines_of text)) (sym parts ∙ sym (take-append-drop count (lines_of text)));
      counted = h.counted;
      bytes_are = lines_bytes text taken.bytes first h.within h.parts;
      lines_left = ap length parts ∙ length-append first (lines_of rest) ∙ ap (λ n. n + length (lines_of rest)) (sym h.counted);
      bytes_left = omega (arith, h.within, ap length is, length-drop taken.bytes text);
    }

-- each line has a byte
pub lines_few : (text : List ℕ) → length (lines_of text) ≤ length text
lines_few [] = omega arith
lines_few (b ∷ bs) = by (ends_line (b ∷ bs)) refl (lines_few bs)
  where
    one_more : (lines : List (List ℕ)) → length (with_first b lines) ≤ suc (length lines)
    one_more [] = omega arith
    one_more (l ∷ lines) = omega arith

    by : (ends : Bool) → ends_line (b ∷ bs) ≡ ends → length (lines_of bs) ≤ length bs → length (lines_of (b ∷ bs)) ≤ length (b ∷ bs)
    by true is few = rw is (omega (arith, few))
    by false is few = rw is (omega (arith, few, one_more (lines_of bs)))

-- lines that have a byte are some
pub some_taken : (text : List ℕ) (taken : Extent) (lines : List (List ℕ)) → IsTaken text taken lines → 0 < taken.bytes → 0 < taken.lines
some_taken text taken [] h some = absurd (omega (arith, some, lines_bytes text taken.bytes [] h.within h.parts))
some_taken text taken (l ∷ lines) h some = omega (arith, h.counted)

pub fewer_lines : (n : ℕ) (lines : List (List ℕ)) → 0 < n → lines ≢ [] → length (drop n lines) < length lines
fewer_lines n [] some there = absurd (there refl)
fewer_lines n (l ∷ lines) some there = omega (arith, some, length-drop n (l ∷ lines))

-- the first of the lines is the first of those that are taken, if any are
pub first_taken : (count : ℕ) (lines : List (List ℕ)) → 0 < count → first_of (take count lines) ≡ first_of lines
first_taken zero lines some = absurd (omega (arith, some))
first_taken (suc count) [] some = refl
first_taken (suc count) (l ∷ lines) some = refl
