-- Past the bytes of a word, or past white space, that are read at once: where the scan is then, and
-- what is written of the label's text.
use Rattle.std.proofs.Common.{ℕ, zero, suc, Bool, true, false, List, [], ◌∷◌, ◌++◌, ◌≡◌, ◌≤◌, ◌<◌, ◌+◌, ◌-◌, refl}
use Rattle.std.proofs.Common.{sym, ◌∙◌, ap, subst, cond, arith, drop, take, get_or, length, add-zero, append_assoc, append-nil, take-add}
use Rattle.std.proofs.lemmas.Bool.Decides.{nat_tests}
use Rattle.std.proofs.lemmas.List.{drop-drop, drop_more, take_more}
use Rattle.markdown_scanners_tree.specs.Bytes.{is_line_ending, is_white_space, is_white_space_in_line}
use Rattle.markdown_scanners_tree.specs.Kept.{KeptByte, in_line}
use Rattle.markdown_scanners_tree.specs.linklabel.private.Pass.{starts_dropped}
use Rattle.markdown_scanners_tree.specs.linklabel.private.NextPart.{IsSpace}
use Rattle.markdown_scanners_tree.specs.linklabel.private.Run.{IsRun, none, more}
use Rattle.markdown_scanners_tree.proofs.linklabel.SourceSteps.{IsAt, after_space, after_word, byte_at, byte_rest, same_take}
use Rattle.markdown_scanners_tree.proofs.linklabel.SeenBytes.{Written}
use Rattle.markdown_scanners_tree.proofs.linklabel.WriteLemmas.{space_written, word_follows}

take_next : (xs : List ℕ) (n b : ℕ) (bs : List ℕ) → drop n xs ≡ b ∷ bs → take (n + 1) xs ≡ take n xs ++ b ∷ []
take_next xs n b bs e = (let at = byte_at xs n b bs e in
    take_more xs n 0 at.0 ∙ ap (λ x. take n xs ++ x ∷ []) at.1)

-- a part of the text up to an offset, and the bytes after it
pub slice_run : (text : List ℕ) (mark ix jx len : ℕ) → mark ≤ ix → jx ≡ ix + len
    → take (ix - mark) (drop mark text) ++ take len (drop ix text) ≡ take (jx - mark) (drop mark text)
slice_run text mark ix jx len h e =
    let offset : mark + (ix - mark) ≡ ix = omega (arith, h) in
    let size : (ix - mark) + len ≡ jx - mark = omega (arith, h, e) in
    ap (λ z. take (ix - mark) (drop mark text) ++ take len z)
    (sym (drop-drop (ix - mark) mark text ∙ ap (λ n. drop n text) offset))
    ∙ sym (take-add (ix - mark) len (drop mark text)) ∙ same_take (drop mark text) ((ix - mark) + len) (jx - mark) size

-- the state after a run
pub record IsPast (a : List ℕ → ℕ → Type 0) (source : List ℕ) (t : Bool) (ix : ℕ) (rest pushed : List ℕ) (len : ℕ)
    (escapes : Bool) : Type 0 where
  pub seen : List KeptByte
  pub at : IsAt a source escapes seen (ix + len) (drop len rest)
  pub written : Written t seen (ix + len) (drop len rest) true false (pushed ++ take len rest)

module _ (a : List ℕ → ℕ → Type 0) (source : List ℕ) (t escaped : Bool) (seen : List KeptByte) (ix : ℕ)
    (rest pushed : List ℕ) (here : IsAt a source escaped seen ix rest)
    (written : Written t seen ix rest true false pushed) where
  pub past_run : (len : ℕ) (escapes : Bool) → IsRun t escaped rest len escapes
      → IsPast a source t ix rest pushed len escapes
  past_run len escapes none = record {
    seen = seen;
    at = subst (λ n. IsAt a source escaped seen n rest) (sym (add-zero ix)) here;
    written = subst (λ z. z) (λ i. Written t seen (sym (add-zero ix) i) rest true false (sym (append-nil pushed) i))
        written;
  }
  past_run len escapes (more n byte before after r k) =
      let p = past_run n before r in
      let next = byte_rest rest n byte k.word.others k.word.parts in
      let offset : (ix + n) + 1 ≡ ix + (n + 1) = omega arith in
      let text : (pushed ++ take n rest) ++ cond (starts_dropped t (drop n rest)) [] (byte ∷ [])
      ≡ pushed ++ take (n + 1) rest =
      ap (λ v. (pushed ++ take n rest) ++ cond v [] (byte ∷ [])) k.kept ∙ append_assoc pushed (take n rest) (byte ∷ [])
      ∙ ap (λ z. pushed ++ z) (sym (take_next rest n byte k.word.others k.word.parts)) in record {
        seen = p.seen ++ in_line byte (ix + n) ∷ [];
        at = subst (λ m. IsAt a source after (p.seen ++ in_line byte (ix + n) ∷ []) m (drop (n + 1) rest)) offset
            (after_word _ _ _ _ _ _ p.at _ _ _ k.word next);
        written = subst (λ z. z) (λ i. Written t (p.seen ++ in_line byte (ix + n) ∷ []) (offset i) (drop (n + 1) rest)
            true false (text i)) (word_follows _ _ _ _ _ _ _ _ _ _ _ k.word next p.written);
      }

-- ---- past white space

in_line_white : (b : ℕ) → is_white_space_in_line b ≡ true → is_white_space b ≡ true
in_line_white b white = grind (arith, nat_tests, white)

in_line_stays : (b : ℕ) → is_white_space_in_line b ≡ true → is_line_ending b ≡ false
in_line_stays b white = grind (arith, nat_tests, white)

-- whether the scan is in a run of white space, past so many bytes of it
abbrev pub run_after : Bool → ℕ → Bool
run_after in_run zero = in_run
run_after in_run (suc n) = true

pub record IsPastSpaces (a : List ℕ → ℕ → Type 0) (source : List ℕ) (t escaped : Bool) (ix : ℕ) (rest pushed : List ℕ)
    (has_word in_run : Bool) (n : ℕ) : Type 0 where
  pub seen : List KeptByte
  pub at : IsAt a source escaped seen (ix + n) (drop n rest)
  pub written : Written t seen (ix + n) (drop n rest) has_word (run_after in_run n) pushed

module _ (a : List ℕ → ℕ → Type 0) (source : List ℕ) (t escaped : Bool) (seen : List KeptByte) (ix : ℕ)
    (rest pushed : List ℕ) (w r : Bool) (here : IsAt a source escaped seen ix rest)
    (written : Written t seen ix rest w r pushed) where
  pub past_spaces : (n : ℕ) → n ≤ length rest
      → ((k : ℕ) → k < n → is_white_space_in_line (get_or rest k 0) ≡ true)
      → IsPastSpaces a source t escaped ix rest pushed w r n
  past_spaces zero fits white = record {
    seen = seen;
    at = subst (λ n. IsAt a source escaped seen n rest) (sym (add-zero ix)) here;
    written = subst (λ n. Written t seen n rest w r pushed) (sym (add-zero ix)) written;
  }
  past_spaces (suc n) fits white =
      let p = past_spaces n (omega (arith, fits)) (λ k below. white k (omega (arith, below))) in
      let b = get_or rest n 0 in
      let is : is_white_space_in_line b ≡ true = white n (omega arith) in
      let o : IsSpace (drop n rest) b = record {
        others = drop (n + 1) rest;
        parts = drop_more rest n 0 (omega (arith, fits));
        white = in_line_white b is;
        no_ending = in_line_stays b is;
      } in
      let offset : (ix + n) + 1 ≡ ix + suc n = omega arith in
      let next : n + 1 ≡ suc n = omega arith in
      let later : drop (n + 1) rest ≡ drop (suc n) rest = ap (λ m. drop m rest) next in record {
        seen = p.seen ++ in_line b (ix + n) ∷ [];
        at = subst (λ z. z) (λ i. IsAt a source escaped (p.seen ++ in_line b (ix + n) ∷ []) (offset i) (later i))
            (after_space _ _ _ _ _ _ p.at _ _ o refl);
        written = subst (λ z. z) (λ i. Written t (p.seen ++ in_line b (ix + n) ∷ []) (offset i) (later i) w true pushed)
            (space_written _ _ _ _ _ _ _ _ _ o refl p.written);
      }
