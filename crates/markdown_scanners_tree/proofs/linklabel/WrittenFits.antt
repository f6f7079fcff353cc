-- What was written of a label is no longer than the label.
use Rattle.std.proofs.Common.{ℕ, Bool, true, false, ◌&&◌, ◌==◌, List, [], ◌∷◌, ◌++◌, ◌≡◌, ◌≤◌, ◌+◌, Option, Some, None}
use Rattle.std.proofs.Common.{refl, sym, ◌∙◌, ap, cond, arith, drop, length, length-append, true≢false, eqb-true}
use Rattle.markdown_scanners_tree.specs.Bytes.{is_line_ending, is_punctuation}
use Rattle.markdown_scanners_tree.specs.Kept.{KeptByte, in_line, kept_head, line_len, kept_from, AreSkips}
use Rattle.markdown_scanners_tree.specs.linklabel.Label.{Label, IsLabel, kept_units, Bracketed, preceded, bracketed, label_between, pipe_at, in_cell}
use Rattle.markdown_scanners_tree.proofs.KeptStep.{kept_from-in_line}
use Rattle.markdown_scanners_tree.proofs.linklabel.CellText.{Follows, follows_byte, gap_of_line}
use Rattle.markdown_scanners_tree.proofs.linklabel.SourceSteps.{IsAt}
use Rattle.markdown_scanners_tree.proofs.linklabel.SeenBytes.{Written, ending_no_pipe}
use Rattle.markdown_scanners_tree.proofs.linklabel.KeptTextSteps.{bracketed_after}
use Rattle.markdown_scanners_tree.proofs.linklabel.JoinedWords.{text_from, joined_words-from}
use Rattle.markdown_scanners_tree.proofs.linklabel.WriteLemmas.{text_of_label}

-- a kept text begins with a pipe where its source does
kept_follows : (a : List ℕ → ℕ → Type 0) (ix : ℕ) (rest skips : List ℕ) → AreSkips a rest skips
    → Follows ix rest (kept_from ix rest skips)
kept_follows a ix [] [] s = refl
kept_follows a ix [] (k ∷ ks) s = absurd (true≢false (sym s.0))
kept_follows a ix (b ∷ bs) skips s = by (is_line_ending b) refl skips
  where
    by : (v : Bool) → is_line_ending b ≡ v → (skips : List ℕ) → Follows ix (b ∷ bs) (kept_from ix (b ∷ bs) skips)
    by true h [] = ap (pipe_at ix) (ap (λ v. cond v [] (in_line b ix ∷ kept_head (ix + 1) bs)) h)
        ∙ sym (ending_no_pipe b h)
    by true h (k ∷ ks) =
        (gap_of_line false false false ix b bs
        (kept_from (ix + (line_len (b ∷ bs) + k)) (drop (line_len (b ∷ bs) + k) (b ∷ bs)) ks) h).starts
        ∙ sym (ending_no_pipe b h)
    by false h skips = ap (pipe_at ix) (kept_from-in_line ix b bs skips h)
        ∙ follows_byte ix b bs (kept_from (ix + 1) bs skips)

closing_no_pipe : (k : KeptByte) (ix : ℕ) → (k.byte == 93) ≡ true → (k.byte == 124 && k.offset == ix) ≡ false
closing_no_pipe k ix e = ap (λ b. b == 124 && k.offset == ix) (eqb-true k.byte 93 e)

-- and so does what stands before the bracket
content_first : (e : Bool) (ix : ℕ) (kept : List KeptByte) (b : Bracketed) → bracketed_after e kept ≡ Some b
    → pipe_at ix b.content ≡ pipe_at ix kept
content_first true ix [] b h = cc
content_first true ix (k ∷ ks) b h = by (bracketed (kept_units ks)) h
  where
    by : (o : Option Bracketed) → preceded (k ∷ []) o ≡ Some b → pipe_at ix b.content ≡ (k.byte == 124 && k.offset == ix)
    by None g = cc
    by (Some o) g = (let c : k ∷ o.content ≡ b.content = cc in ap (pipe_at ix) (sym c))
content_first false ix [] b h = cc
content_first false ix (k ∷ []) b h = one (k.byte == 93) refl (k.byte == 91) h
  where
    one : (x : Bool) → (k.byte == 93) ≡ x → (y : Bool)
        → cond x (Some (record { content = []; close = k.offset })) (cond y None None) ≡ Some b
        → pipe_at ix b.content ≡ (k.byte == 124 && k.offset == ix)
    one true e y g = (let c : [] ≡ b.content = cc in ap (pipe_at ix) (sym c) ∙ sym (closing_no_pipe k ix e))
    one false e true g = cc
    one false e false g = cc
content_first false ix (k ∷ l ∷ ks) b h = by (k.byte == 92 && is_punctuation l.byte) h
  where
    more : (o : Option Bracketed) (others : List KeptByte) → preceded (k ∷ others) o ≡ Some b
        → pipe_at ix b.content ≡ (k.byte == 124 && k.offset == ix)
    more None others g = cc
    more (Some o) others g = (let c : k ∷ (others ++ o.content) ≡ b.content = cc in ap (pipe_at ix) (sym c))

    one : (o : Option Bracketed) (x : Bool) → (k.byte == 93) ≡ x → (y : Bool)
        → cond x (Some (record { content = []; close = k.offset })) (cond y None (preceded (k ∷ []) o)) ≡ Some b
        → pipe_at ix b.content ≡ (k.byte == 124 && k.offset == ix)
    one o true e y g = (let c : [] ≡ b.content = cc in ap (pipe_at ix) (sym c) ∙ sym (closing_no_pipe k ix e))
    one o false e true g = cc
    one o false e false g = more o [] g

    by : (v : Bool) → bracketed (cond v ((k ∷ l ∷ []) ∷ kept_units ks) ((k ∷ []) ∷ kept_units (l ∷ ks))) ≡ Some b
        → pipe_at ix b.content ≡ (k.byte == 124 && k.offset == ix)
    by true g = more (bracketed (kept_units ks)) (l ∷ []) g
    by false g = one (bracketed (kept_units (l ∷ ks))) (k.byte == 93) refl (k.byte == 91) g

-- what was written is a prefix of the label's text
pub pushed_fits : (a : List ℕ → ℕ → Type 0) (source : List ℕ) (t e : Bool) (seen : List KeptByte) (ix : ℕ)
    (rest : List ℕ) (w r : Bool) (pushed : List ℕ)
    → IsAt a source e seen ix rest → Written t seen ix rest w r pushed → (label : Label) → IsLabel a source t label
    → length pushed ≤ length label.text
pushed_fits a source t e seen ix rest w r pushed here s label l =
    (let g = here.ahead t label l in
    by (bracketed_after e (kept_from ix rest g.skips))
    (λ b h. content_first e ix (kept_from ix rest g.skips) b h ∙ kept_follows a ix rest g.skips g.answered) g.label_is)
  where
    by : (o : Option Bracketed) → ((b : Bracketed) → o ≡ Some b → Follows ix rest b.content)
        → label_between t (preceded seen o) ≡ Some label → length pushed ≤ length label.text
    by None f g = cc
    by (Some b) f g =
        let text : label.text ≡ pushed ++ text_from w r (in_cell t b.content) =
        text_of_label t (record { content = seen ++ b.content; close = b.close }) label g
        ∙ joined_words-from (in_cell t (seen ++ b.content)) ∙ s.left b.content (f b refl) in
        omega (arith, ap length text ∙ length-append pushed (text_from w r (in_cell t b.content)))
