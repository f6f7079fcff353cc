-- A text that is the front of bytes has their bytes, up to its end.
use Rattle.std.proofs.Common.{ℕ, suc, Bool, true, false, ◌||◌, ◌==◌, List, ◌∷◌, ◌≡◌, ◌≤◌, ◌<◌, ◌+◌, ◌-◌, cond, refl, sym, ◌∙◌}
use Rattle.std.proofs.Common.{ap, subst, arith, drop, take, get_or, length}
use Rattle.std.specs.Str.{IsCharBoundary, IsUtf8}
use Rattle.std.proofs.lemmas.Bool.Decides.{nat_tests}
use Rattle.std.proofs.lemmas.List.{drop_more, drop-take, get_or-drop, get_or-take, length-take, take-take}
use Rattle.std.proofs.lemmas.Str.{IsCharBoundary-before_ascii, IsCharBoundary-after_ascii}
use Rattle.markdown_scanners_tree.specs.Bytes.{is_line_ending, is_white_space_in_line}
use Rattle.markdown_scanners_tree.specs.Kept.{line_len}
use Rattle.markdown_scanners_tree.specs.linklabel.private.NextPart.{IsEnding}
use Rattle.markdown_scanners_tree.specs.linklabel.private.Pass.{starts_dropped}
use Rattle.markdown_scanners_tree.proofs.linklabel.SourceSteps.{byte_at}

-- by the byte, where the next one is the same
same_line_len : (b c : ℕ) (cs ds : List ℕ) → is_line_ending b ≡ true
    → line_len (b ∷ c ∷ ds) ≡ line_len (b ∷ c ∷ cs)
same_line_len b c cs ds ends = by (b == 10) (b == 13) ends
  where
    by : (lf cr : Bool) → (lf || cr) ≡ true
        → cond lf 1 (cond cr (cond (c == 10) 2 1) (suc (line_len (c ∷ ds))))
        ≡ cond lf 1 (cond cr (cond (c == 10) 2 1) (suc (line_len (c ∷ cs))))
    by true cr h = refl
    by false true h = refl
    by false false h = cc

white_ascii : (b : ℕ) → is_white_space_in_line b ≡ true → b < 128
white_ascii b white = grind (arith, nat_tests, white)

module _ (text bytes : List ℕ) (front : text ≡ take (length text) bytes) where
  pub front_fits : length text ≤ length bytes
  front_fits = omega (arith, ap length front, length-take (length text) bytes)

  same_byte : (ix : ℕ) → ix < length text → get_or text ix 0 ≡ get_or bytes ix 0
  same_byte ix inside = ap (λ z. get_or z ix 0) front ∙ get_or-take (length text) bytes ix 0 inside

  -- the byte at an offset
  pub front_byte : (ix b : ℕ) (bs : List ℕ) → drop ix bytes ≡ b ∷ bs → ix < length text
      → drop ix text ≡ b ∷ drop (ix + 1) text
  front_byte ix b bs parts inside = drop_more text ix 0 inside
      ∙ ap (λ c. c ∷ drop (ix + 1) text) (same_byte ix inside ∙ (byte_at bytes ix b bs parts).1)

  -- before an ASCII byte the text may be cut
  pub front_cut : (ix b : ℕ) (bs : List ℕ) → drop ix bytes ≡ b ∷ bs → ix < length text → b < 128
      → IsCharBoundary text ix
  front_cut ix b bs parts inside ascii =
      let same : get_or text ix 0 ≡ b = same_byte ix inside ∙ (byte_at bytes ix b bs parts).1 in
      IsCharBoundary-before_ascii text ix inside (rw same ascii)

  -- a run of white space may be cut off the text at both its ends
  pub white_cuts : IsUtf8 text → (end n : ℕ) → 0 < n → end + n ≤ length text
      → ((k : ℕ) → k < n → is_white_space_in_line (get_or (drop end bytes) k 0) ≡ true)
      → IsCharBoundary text end × IsCharBoundary text (end + n)
  white_cuts utf8 end n some fits white =
      let byte : (k : ℕ) → k < n → get_or text (end + k) 0 < 128 = λ k below.
      (let is = white_ascii (get_or (drop end bytes) k 0) (white k below) in
      let same = get_or-drop end bytes k 0 ∙ sym (same_byte (end + k) (omega (arith, fits, below))) in
      subst (λ b. b < 128) same is) in
      let first : end + 0 ≡ end = omega arith in
      let last : end + (n - 1) + 1 ≡ end + n = omega (arith, some) in (
        subst (IsCharBoundary text) first (IsCharBoundary-before_ascii text (end + 0) (omega (arith, fits, some)) (byte 0 some)),
        subst (IsCharBoundary text) last
            (IsCharBoundary-after_ascii text (end + (n - 1)) utf8 (omega (arith, fits, some)) (byte (n - 1) (omega (arith, some)))),
      )

  -- the bytes between two offsets
  pub front_slice : (m n : ℕ) → m + n ≤ length text → take n (drop m text) ≡ take n (drop m bytes)
  front_slice m n fits =
      let size : length text ≡ m + (length text - m) = omega (arith, fits) in
      ap (λ z. take n (drop m z)) front
      ∙ ap (λ k. take n (drop m (take k bytes))) size
      ∙ ap (take n) (drop-take m (length text - m) bytes)
      ∙ take-take n (length text - m) (drop m bytes) (omega (arith, fits))

  module _ (ix : ℕ) (inside : ix + 1 < length text) where
    abbrev b : ℕ
    b = get_or bytes ix 0

    abbrev c : ℕ
    c = get_or bytes (ix + 1) 0

    text_parts : drop ix text ≡ b ∷ c ∷ drop (ix + 1 + 1) text
    text_parts = drop_more text ix 0 (omega (arith, inside))
        ∙ (λ i. same_byte ix (omega (arith, inside)) i ∷ drop_more text (ix + 1) 0 inside i)
        ∙ ap (λ d. b ∷ d ∷ drop (ix + 1 + 1) text) (same_byte (ix + 1) inside)

    bytes_parts : drop ix bytes ≡ b ∷ c ∷ drop (ix + 1 + 1) bytes
    bytes_parts = drop_more bytes ix 0 (omega (arith, inside, front_fits))
        ∙ ap (λ d. b ∷ d) (drop_more bytes (ix + 1) 0 (omega (arith, inside, front_fits)))

    -- a backslash that a cell drops
    pub front_dropped : (t : Bool) → starts_dropped t (drop ix text) ≡ starts_dropped t (drop ix bytes)
    front_dropped t = ap (starts_dropped t) text_parts ∙ sym (ap (starts_dropped t) bytes_parts)

    -- a line ending
    pub front_ending : (len : ℕ) → IsEnding (drop ix bytes) len → IsEnding (drop ix text) len
    front_ending len h =
        let first : h.byte ≡ b = sym (byte_at bytes ix h.byte h.others h.parts).1 in
        let ends : is_line_ending b ≡ true = ap is_line_ending (sym first) ∙ h.ends in
        record {
          byte = b;
          others = c ∷ drop (ix + 1 + 1) text;
          parts = text_parts;
          ends = ends;
          takes = h.takes ∙ ap line_len bytes_parts
              ∙ same_line_len b c (drop (ix + 1 + 1) text) (drop (ix + 1 + 1) bytes) ends ∙ ap line_len (sym text_parts);
        }
