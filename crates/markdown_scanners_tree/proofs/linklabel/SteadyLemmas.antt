-- What the conditions of a label's handler come to after line endings.
use Rattle.std.proofs.Common.{ℕ, zero, suc, Bool, true, false, ◌||◌, ◌==◌, ◌≡◌, ◌+◌, ◌<◌, ◌≤◌, ◌∙◌, cond, List, [], ◌∷◌, length, take, drop, get_or}
use Rattle.std.proofs.Common.{refl, sym, ap, subst, arith, Option, Some, None}
use Rattle.std.specs.Fn.{Shared}
use Rattle.std.specs.Str.{IsUtf8, IsCharBoundary}
use Rattle.std.proofs.lemmas.List.{get_or-drop, get_or-take}
use Rattle.std.proofs.lemmas.Str.{IsUtf8-drop, IsCharBoundary-from_rest, IsCharBoundary-after_ascii}
use denote.Ref.{Bor}
use Rattle.markdown_scanners_tree.specs.Ascii.{line_feed, carriage_return}
use Rattle.markdown_scanners_tree.specs.Bytes.{begins_with, line_ending}
use Rattle.markdown_scanners_tree.specs.Handler.{IsAfterLineEnding, IsSteadyAtChars, IsSteadyAtAscii, Skips}
use Rattle.markdown_scanners_tree.specs.Kept.{line_len}
use Rattle.markdown_scanners_tree.specs.linklabel.private.NextPart.{IsEnding}
use Rattle.markdown_scanners_tree.specs.linklabel.private.Steady.{IsSteadyAfterLines, EndsAtChars}
use Rattle.markdown_scanners_tree.proofs.HandlerLemmas.{last_ascii}
use Rattle.markdown_scanners_tree.proofs.linklabel.SourceSteps.{cut_after_ending}

-- by the byte, and whether LF follows
ending_by : (lf cr next : Bool) (n taken : ℕ) → 0 < taken
    → cond lf (Some 1) (cond cr (cond next (Some 2) (Some 1)) None) ≡ Some taken
    → ((lf || cr) ≡ true) × (taken ≡ cond lf 1 (cond cr (cond next 2 1) n))
ending_by true cr next n taken some e = (let t : 1 ≡ taken = cc in (refl, sym t))
ending_by false true true n taken some e = (let t : 2 ≡ taken = cc in (refl, sym t))
ending_by false true false n taken some e = (let t : 1 ≡ taken = cc in (refl, sym t))
ending_by false false next n taken some e = cc

ending_there : (rest : List ℕ) (taken : ℕ) → 0 < taken → line_ending rest ≡ Some taken → IsEnding rest taken
ending_there [] taken some e = absurd (let none : 0 ≡ taken = cc in omega (arith, none, some))
ending_there (b ∷ bs) taken some e =
    let by = ending_by (b == line_feed) (b == carriage_return) (begins_with (λ c. c == line_feed) bs) (suc (line_len bs))
    taken some e in
    record { byte = b; others = bs; parts = refl; ends = by.0; takes = by.1 }

-- what follows a line ending of a text is a text
pub text_after_line : (text rest : List ℕ) → IsUtf8 text → IsAfterLineEnding text rest → IsUtf8 rest
text_after_line text rest utf8 after =
    let cut = cut_after_ending text after.offset after.taken utf8
    (ending_there (drop after.offset text) after.taken after.some after.ending) in
    subst IsUtf8 (sym after.follows) (IsUtf8-drop text (after.offset + after.taken) utf8 cut)

module _ {F : Type 0} (g : Shared F (Bor (List ℕ) × Unit {0}) (Option ℕ)) (f : F) where
  pub steady_in_text : (text : List ℕ) → IsUtf8 text → IsSteadyAtChars g f → IsSteadyAfterLines g f text
  steady_in_text text utf8 steady = record {
    one_answer = λ rest a b after x y. steady.one_answer rest a b (text_after_line text rest utf8 after) x y;
    inside = λ rest skip after skips. there rest skip (text_after_line text rest utf8 after) skips;
  }
    where
      there : (rest : List ℕ) (skip : ℕ) → IsUtf8 rest → Skips g f rest skip → skip ≤ length rest
      there rest zero u skips = omega arith
      there rest (suc skip) u skips = (steady.inside rest (suc skip) u skips (omega arith)).0

  pub ends_in_text : (text : List ℕ) → IsUtf8 text → IsSteadyAtChars g f → EndsAtChars g f text text
  ends_in_text text utf8 steady = record { at = λ offset skip cut skips fits. by offset skip cut skips }
    where
      by : (offset skip : ℕ) → IsCharBoundary text offset → Skips g f (drop offset text) skip
          → IsCharBoundary text (offset + skip)
      by offset zero cut skips = subst (IsCharBoundary text) (omega arith) cut
      by offset (suc skip) cut skips =
          IsCharBoundary-from_rest text offset (suc skip) cut.0
          (steady.inside (drop offset text) (suc skip) (IsUtf8-drop text offset utf8 cut) skips (omega arith))

  pub steady_at_ascii_after : (bytes : List ℕ) → IsSteadyAtAscii g f → IsSteadyAfterLines g f bytes
  steady_at_ascii_after bytes steady = record {
    one_answer = λ rest a b after x y. steady.one_answer rest a b x y;
    inside = λ rest skip after skips. (steady.inside rest skip skips).0;
  }

  pub ends_in_front : (bytes text : List ℕ) → IsUtf8 text → text ≡ take (length text) bytes → IsSteadyAtAscii g f
      → EndsAtChars g f bytes text
  ends_in_front bytes text utf8 front steady = record { at = λ offset skip cut skips fits. by offset skip cut skips fits }
    where
      by : (offset skip : ℕ) → IsCharBoundary text offset → Skips g f (drop offset bytes) skip → offset + skip ≤ length text
          → IsCharBoundary text (offset + skip)
      by offset zero cut skips fits = subst (IsCharBoundary text) (omega arith) cut
      by offset (suc k) cut skips fits =
          let is = steady.inside (drop offset bytes) (suc k) skips in
          let last = last_ascii (drop offset bytes) k (omega (arith, is.0)) is.1 in
          let same : get_or text (offset + k) 0 ≡ get_or (drop offset bytes) k 0 =
          ap (λ z. get_or z (offset + k) 0) front ∙ get_or-take (length text) bytes (offset + k) 0 (omega (arith, fits))
          ∙ sym (get_or-drop offset bytes k 0) in
          subst (IsCharBoundary text) (omega arith)
          (IsCharBoundary-after_ascii text (offset + k) utf8 (omega (arith, fits)) (subst (λ b. b < 128) (sym same) last))
