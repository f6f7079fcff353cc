-- Where a label ends, and that its text is shorter.
use Rattle.std.proofs.Common.{ℕ, ◌+◌, ◌≤◌, ◌<◌, ◌≡◌, ◌==◌, ◌&&◌, Bool, true, false, List, [], ◌∷◌, ◌++◌, Option, Some}
use Rattle.std.proofs.Common.{None, length, inl, inr, refl, sym, ap, subst, ◌∙◌, append_assoc, if◌then◌else◌, arith}
use Rattle.std.proofs.lemmas.Bool.{cases_Bool}
use Rattle.markdown_scanners_tree.specs.Bytes.{is_punctuation}
use Rattle.markdown_scanners_tree.specs.Ascii.{left_bracket, right_bracket, backslash}
use Rattle.markdown_scanners_tree.specs.Kept.{KeptByte, kept_from, kept_text}
use Rattle.markdown_scanners_tree.specs.linklabel.Label.{Label, IsLabel, Bracketed, preceded, bracketed, kept_units, label_between, is_label_content}
use Rattle.markdown_scanners_tree.specs.linklabel.Label.{is_white, in_cell, pipe_at, without_pipe_backslashes}
use Rattle.markdown_scanners_tree.proofs.RisingBytes.{Rises, kept_rises}
use Rattle.markdown_scanners_tree.proofs.linklabel.JoinedWords.{text_from, joined_words-from}
use Rattle.markdown_scanners_tree.proofs.linklabel.KeptTextSteps.{bracketed_after}
use Rattle.markdown_scanners_tree.proofs.linklabel.SourceSteps.{IsAt}
use Rattle.markdown_scanners_tree.proofs.linklabel.WriteLemmas.{text_of_label}

-- each byte of the content writes one at most, and a space is written for white space
text_fits : (has_word in_run : Bool) (ks : List KeptByte)
    → length (text_from has_word in_run ks) ≤ length ks + (if has_word && in_run then 1 else 0)
text_fits has_word in_run [] = omega arith
text_fits false false (k ∷ ks) = elim (cases_Bool (is_white k)) [
  | inl white ↦ rw white (omega (arith, text_fits false true ks))
  | inr dark ↦ rw dark (omega (arith, text_fits true false ks))
]
text_fits false true (k ∷ ks) = elim (cases_Bool (is_white k)) [
  | inl white ↦ rw white (omega (arith, text_fits false true ks))
  | inr dark ↦ rw dark (omega (arith, text_fits true false ks))
]
text_fits true false (k ∷ ks) = elim (cases_Bool (is_white k)) [
  | inl white ↦ rw white (omega (arith, text_fits true true ks))
  | inr dark ↦ rw dark (omega (arith, text_fits true false ks))
]
text_fits true true (k ∷ ks) = elim (cases_Bool (is_white k)) [
  | inl white ↦ rw white (omega (arith, text_fits true true ks))
  | inr dark ↦ rw dark (omega (arith, text_fits true false ks))
]

pipes_fit : (ks : List KeptByte) → length (without_pipe_backslashes ks) ≤ length ks
pipes_fit [] = omega arith
pipes_fit (k ∷ ks) = elim (cases_Bool (k.byte == backslash && pipe_at (k.offset + 1) ks)) [
  | inl dropped ↦ rw dropped (omega (arith, pipes_fit ks))
  | inr stays ↦ rw stays (omega (arith, pipes_fit ks))
]

cell_fits : (t : Bool) (ks : List KeptByte) → length (in_cell t ks) ≤ length ks
cell_fits true ks = pipes_fit ks
cell_fits false ks = omega arith

-- the content, and the bracket after it
record IsSplit (ks : List KeptByte) (b : Bracketed) : Type 0 where
  close : KeptByte
  after : List KeptByte
  parts : ks ≡ b.content ++ close ∷ after
  offset : close.offset ≡ b.close

-- what stands before brackets that are found
split_after : (front ks : List KeptByte) (found : Option Bracketed) (b : Bracketed) → preceded front found ≡ Some b
    → ((c : Bracketed) → found ≡ Some c → IsSplit ks c) → IsSplit (front ++ ks) b
split_after front ks None b h split = cc
split_after front ks (Some c) b h split =
    let s = split c refl in
    let content : front ++ c.content ≡ b.content = cc in
    let close : c.close ≡ b.close = cc in
    record {
      close = s.close;
      after = s.after;
      parts = ap (λ zs. front ++ zs) s.parts ∙ sym (append_assoc front c.content (s.close ∷ s.after))
          ∙ ap (λ zs. zs ++ s.close ∷ s.after) content;
      offset = s.offset ∙ close;
    }

split_byte : (k : KeptByte) (ks : List KeptByte) (units : List (List KeptByte)) (b : Bracketed)
    → bracketed ((k ∷ []) ∷ units) ≡ Some b → ((c : Bracketed) → bracketed units ≡ Some c → IsSplit ks c) → IsSplit (k ∷ ks) b
split_byte k ks units b h split = elim (cases_Bool (k.byte == right_bracket)) [
  | inl closes ↦
      (let found = rw closes at h in
      let content : [] ≡ b.content = cc in
      let close : k.offset ≡ b.close = cc in
      record { close = k; after = ks; parts = ap (λ zs. zs ++ k ∷ ks) content; offset = close })
  | inr unclosed ↦ elim (cases_Bool (k.byte == left_bracket)) [
    | inl opens ↦ absurd (let found = rw (unclosed, opens) at h in cc)
    | inr unopened ↦ split_after (k ∷ []) ks (bracketed units) b (rw (unclosed, unopened) at h) split
  ]
]

split_at_bracket : (ks : List KeptByte) (b : Bracketed) → bracketed (kept_units ks) ≡ Some b → IsSplit ks b
split_at_bracket [] b h = cc
split_at_bracket (k ∷ []) b h = split_byte k [] [] b h (λ c none. cc)
split_at_bracket (k ∷ l ∷ ks) b h = elim (cases_Bool (k.byte == backslash && is_punctuation l.byte)) [
  | inl escapes ↦
      split_after (k ∷ l ∷ []) ks (bracketed (kept_units ks)) b (rw escapes at h) (λ c found. split_at_bracket ks c found)
  | inr single ↦
      split_byte k (l ∷ ks) (kept_units (l ∷ ks)) b (rw single at h) (λ c found. split_at_bracket (l ∷ ks) c found)
]

-- kept bytes stand one after the other
rises_to : (offset : ℕ) (ks : List KeptByte) (k : KeptByte) (after : List KeptByte) → Rises offset (ks ++ k ∷ after)
    → offset + length ks ≤ k.offset
rises_to offset [] k after rises = omega (arith, rises.0)
rises_to offset (c ∷ ks) k after rises = omega (arith, rises.0, rises_to (c.offset + 1) ks k after rises.1)

-- ---- where a label ends

-- a label ends after its bracket, and its content is one of a label
made : (t : Bool) (b : Bracketed) (label : Label) → label_between t (Some b) ≡ Some label
    → (is_label_content b.content ≡ true) × (label.len ≡ b.close + 1)
made t b label h = elim (cases_Bool (is_label_content b.content)) [
  | inl is ↦ (let e = rw is at h in let n : b.close + 1 ≡ label.len = cc in (is, sym n))
  | inr other ↦ absurd (let e = rw other at h in cc)
]

close_of : (t : Bool) (seen : List KeptByte) (found : Option Bracketed) (label : Label) (low : ℕ)
    → label_between t (preceded seen found) ≡ Some label → ((b : Bracketed) → found ≡ Some b → low ≤ b.close)
    → low < label.len
close_of t seen None label low h f = cc
close_of t seen (Some b) label low h f =
    omega (arith, (made t (record { content = seen ++ b.content; close = b.close }) label h).1, f b refl)

-- a bracket that is found stands there or later
close_there : (escaped : Bool) (offset : ℕ) (ks : List KeptByte) (b : Bracketed) → Rises offset ks
    → bracketed_after escaped ks ≡ Some b → offset ≤ b.close
close_there false offset ks b rises h =
    let split = split_at_bracket ks b h in
    omega (arith, rises_to offset b.content split.close split.after (subst (Rises offset) split.parts rises), split.offset)
close_there true offset [] b rises h = cc
close_there true offset (k ∷ ks) b rises h = by (bracketed (kept_units ks)) h (λ c e. close_there false (k.offset + 1) ks c rises.1 e)
  where
    by : (found : Option Bracketed) → preceded (k ∷ []) found ≡ Some b
        → ((c : Bracketed) → found ≡ Some c → k.offset + 1 ≤ c.close) → offset ≤ b.close
    by None g f = cc
    by (Some c) g f = (let close : c.close ≡ b.close = cc in omega (arith, f c refl, close, rises.0))

-- what has been read of a label ends before it does
pub before_end : (a : List ℕ → ℕ → Type 0) (source : List ℕ) (escaped : Bool) (seen : List KeptByte) (ix : ℕ) (rest : List ℕ)
    → IsAt a source escaped seen ix rest → (t : Bool) (label : Label) → IsLabel a source t label → ix < label.len
before_end a source escaped seen ix rest here t label is =
    let g = here.ahead t label is in
    let ks = kept_from ix rest g.skips in
    close_of t seen (bracketed_after escaped ks) label ix g.label_is
    (λ b found. close_there escaped ix ks b (kept_rises ix rest g.skips) found)

-- ---- how long its text is

-- the text of a label is shorter than the label
pub label_room : (answers : List ℕ → ℕ → Type 0) (source : List ℕ) (t : Bool) (label : Label) → IsLabel answers source t label
    → length label.text < label.len
label_room answers source t label is = by (bracketed (kept_units kept)) refl is.label_is
  where
    kept : List KeptByte
    kept = kept_text source is.skips

    by : (found : Option Bracketed) → bracketed (kept_units kept) ≡ found → label_between t found ≡ Some label
        → length label.text < label.len
    by None e h = cc
    by (Some b) e h =
        let split = split_at_bracket kept b e in
        let rises = rises_to 0 b.content split.close split.after (subst (Rises 0) split.parts (kept_rises 0 source is.skips)) in
        let text : label.text ≡ text_from false false (in_cell t b.content) =
        text_of_label t b label h ∙ joined_words-from (in_cell t b.content) in
        omega (
          arith,
          ap length text,
          text_fits false false (in_cell t b.content),
          cell_fits t b.content,
          rises,
          split.offset,
          (made t b label h).1,
        )
