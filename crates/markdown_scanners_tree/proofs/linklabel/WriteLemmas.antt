-- What the second pass over a label has written after each step, and all of it at the closing
-- bracket.
use Rattle.std.proofs.Common.{ℕ, suc, Bool, true, false, ◌==◌, List, [], ◌∷◌, ◌++◌, ◌≡◌, ◌≤◌, ◌<◌, ◌+◌, ◌-◌, Some, None, Result, Ok, Err, is_ok, OnOk}
use Rattle.std.proofs.Common.{sym, ◌∙◌, ap, subst, cond, arith, append_assoc, drop, take, get_or, length, length-drop, eqb-true}
use Rattle.std.proofs.Math.Seq.{take-suc}
use Rattle.std.proofs.lemmas.Bool.{and_parts}
use Rattle.std.proofs.lemmas.List.{get_or-drop}
use Rattle.std.specs.Str.{IsUtf8, IsCharBoundary}
use Rattle.markdown_scanners_tree.specs.Kept.{KeptByte, in_line, kept_line}
use Rattle.markdown_scanners_tree.specs.linklabel.Label.{Label, IsLabel, Bracketed, label_between, is_label_content, in_cell, joined_words, is_plain}
use Rattle.markdown_scanners_tree.specs.linklabel.private.NextPart.{IsBracket, IsEnding, IsSpace, IsWord}
use Rattle.markdown_scanners_tree.specs.linklabel.private.Pass.{starts_dropped}
use Rattle.markdown_scanners_tree.proofs.linklabel.CellText.{space_of}
use Rattle.markdown_scanners_tree.proofs.linklabel.SourceSteps.{IsAt, from_closing, cut_after, same_take}
use Rattle.markdown_scanners_tree.proofs.linklabel.SeenBytes.{Written, Written-word, Written-space, Written-ending, all_written}

pub text_of_label : (t : Bool) (b : Bracketed) (label : Label) → label_between t (Some b) ≡ Some label
    → label.text ≡ joined_words (in_cell t b.content)
text_of_label t b label e = by (is_label_content b.content) e
  where
    by : (v : Bool)
        → cond v
        (Some (record { len = b.close + 1; text = joined_words (in_cell t b.content); plain = is_plain t b.content }))
        None ≡ Some label → label.text ≡ joined_words (in_cell t b.content)
    by true h = cc
    by false h = cc

-- at the closing bracket all of the label is written
pub label_written : (a : List ℕ → ℕ → Type 0) (source : List ℕ) (t escaped : Bool) (seen : List KeptByte) (ix : ℕ)
    (rest : List ℕ) (w r : Bool) (pushed : List ℕ)
    → IsAt a source escaped seen ix rest → IsBracket escaped rest 93 → Written t seen ix rest w r pushed
    → (label : Label) → IsLabel a source t label → label.text ≡ pushed
label_written a source t escaped seen ix rest w r pushed here o s label l =
    text_of_label t (record { content = seen; close = ix }) label
    (from_closing a source escaped seen ix rest here o t label l)
    ∙ all_written t seen ix o.1.0 w r pushed (subst (λ z. Written t seen ix z w r pushed) o.1.1 s)

same_get : (xs : List ℕ) (m n : ℕ) → m ≡ n → get_or xs m 0 ≡ get_or xs n 0
same_get xs m n e = ap (λ k. get_or xs k 0) e

-- a part of the text up to an offset, and up to the next one
pub slice_more : (text : List ℕ) (mark ix b : ℕ) (bs : List ℕ) → mark ≤ ix → drop ix text ≡ b ∷ bs
    → take (ix + 1 - mark) (drop mark text) ≡ take (ix - mark) (drop mark text) ++ b ∷ []
slice_more text mark ix b bs h e =
    let inside : ix - mark < length (drop mark text) =
    omega (arith, length-drop mark text, length-drop ix text, ap length e, h) in
    let here : get_or (drop mark text) (ix - mark) 0 ≡ b = get_or-drop mark text (ix - mark) 0
    ∙ same_get text (mark + (ix - mark)) (ix + 0) (omega (arith, h)) ∙ sym (get_or-drop ix text 0 0)
    ∙ ap (λ l. get_or l 0 0) e in
    same_take (drop mark text) (ix + 1 - mark) (suc (ix - mark)) (omega (arith, h))
    ∙ take-suc (drop mark text) (ix - mark) 0 inside ∙ ap (λ x. take (ix - mark) (drop mark text) ++ x ∷ []) here

pub no_slice : (text : List ℕ) (mark ix : ℕ) → mark ≡ ix → take (ix - mark) (drop mark text) ≡ []
no_slice text mark ix e = same_take (drop mark text) (ix - mark) 0 (omega (arith, e))

-- a byte of a word, and the space before it
pub word_written : (old pushed out new slice slice' more : List ℕ) → old ++ pushed ≡ out ++ slice
    → new ++ slice' ≡ (out ++ slice) ++ more → old ++ (pushed ++ more) ≡ new ++ slice'
word_written old pushed out new slice slice' more e f =
    sym (append_assoc old pushed more) ∙ ap (λ z. z ++ more) e ∙ sym f

pub appended : {E : Type 0} (old out slice new pushed text : List ℕ) (r : Result (Unit {0}) E)
    → old ++ pushed ≡ out ++ slice → new ≡ cond (is_ok r) (out ++ slice) out → text ≡ pushed
    → OnOk r (new ≡ old ++ text)
appended old out slice new pushed text (Ok x) e n f = n ∙ sym e ∙ ap (λ z. old ++ z) (sym f)
appended old out slice new pushed text (Err x) e n f = tt

-- a dropped backslash is a character of one byte
pub cut_after_dropped : (t : Bool) (source : List ℕ) (ix b : ℕ) (bs : List ℕ) → IsUtf8 source → drop ix source ≡ b ∷ bs
    → starts_dropped t (drop ix source) ≡ true → IsCharBoundary source (ix + 1)
cut_after_dropped t source ix b bs u e h =
    let backslash : b ≡ 92 =
    eqb-true b 92 (and_parts (b == 92) _ (and_parts t _ (ap (starts_dropped t) (sym e) ∙ h)).1).0 in
    cut_after source ix b bs u e (rw backslash (omega arith))

-- what stands next, written or passed over
module _ (t : Bool) (seen : List KeptByte) (ix jx : ℕ) (rest rest' : List ℕ) (w r : Bool) (pushed : List ℕ) where
  pub ending_written : (len : ℕ) → IsEnding rest len → Written t seen ix rest w r pushed
      → Written t (seen ++ kept_line ix rest) jx rest' w true pushed
  ending_written len h s =
      subst (λ z. Written t (seen ++ kept_line ix z) jx rest' w true pushed) (sym h.parts)
      (Written-ending t seen ix h.byte jx h.others rest' w r pushed h.ends
      (subst (λ z. Written t seen ix z w r pushed) h.parts s))

module _ (t : Bool) (seen : List KeptByte) (ix : ℕ) (rest rest' : List ℕ) (w r : Bool) (pushed : List ℕ) where
  pub space_written : (b : ℕ) (h : IsSpace rest b) → rest' ≡ h.others → Written t seen ix rest w r pushed
      → Written t (seen ++ in_line b ix ∷ []) (ix + 1) rest' w true pushed
  space_written b h e s =
      subst (λ z. Written t (seen ++ in_line b ix ∷ []) (ix + 1) z w true pushed) (sym e)
      (Written-space t seen ix b h.others w r pushed h.white (subst (λ z. Written t seen ix z w r pushed) h.parts s))

  pub word_follows : (escaped : Bool) (b : ℕ) (escapes : Bool) (h : IsWord escaped rest b escapes) → rest' ≡ h.others
      → Written t seen ix rest w r pushed
      → Written t (seen ++ in_line b ix ∷ []) (ix + 1) rest' true false
      (pushed ++ (space_of w r ++ cond (starts_dropped t rest) [] (b ∷ [])))
  word_follows escaped b escapes h e s =
      subst (λ x. x) (λ i. Written t (seen ++ in_line b ix ∷ []) (ix + 1) (sym e i) true false
      (pushed ++ (space_of w r ++ cond (starts_dropped t (sym h.parts i)) [] (b ∷ []))))
      (Written-word t seen ix b h.others w r pushed h.not_white (subst (λ z. Written t seen ix z w r pushed) h.parts s))
