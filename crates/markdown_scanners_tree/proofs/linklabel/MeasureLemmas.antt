-- What the first pass over a label has found at the closing bracket.
use Rattle.std.proofs.Common.{ℕ, Bool, true, false, ◌&&◌, ◌==◌, not, nat_le, List, [], ◌∷◌, ◌++◌, ◌≡◌, ◌+◌, ◌-◌, ◌≤◌, ◌<◌, Some, refl, sym, ◌∙◌, ap}
use Rattle.std.proofs.Common.{subst, arith, inl, inr}
use Rattle.std.proofs.Common.{drop, take, get_or, length, length-append, length-drop, true≢false}
use Rattle.std.proofs.Math.Bool.{and-false, not-not}
use Rattle.std.proofs.Math.Seq.{take-append_seam}
use Rattle.std.proofs.lemmas.Bool.{cases_Bool, and_parts, eqb-true}
use Rattle.std.proofs.lemmas.Bool.Decides.{nat_tests}
use Rattle.std.proofs.lemmas.List.{drop-drop, drop_more}
use Rattle.markdown_scanners_tree.specs.Ascii.{right_bracket}
use Rattle.markdown_scanners_tree.specs.Bytes.{begins_with, is_line_ending, is_white_space, is_punctuation}
use Rattle.markdown_scanners_tree.specs.Kept.{KeptByte, bytes_of, in_line, kept_line, line_len}
use Rattle.markdown_scanners_tree.specs.linklabel.Answer.{without_first_space, without_last_space}
use Rattle.markdown_scanners_tree.specs.linklabel.Label.{Label, IsLabel, label_between, is_label_content, in_cell, joined_words, is_plain}
use Rattle.markdown_scanners_tree.specs.linklabel.private.NextPart.{IsBracket, IsEnding, IsSpace, IsWord}
use Rattle.markdown_scanners_tree.specs.linklabel.private.Pass.{IsMeasure, due_len, starts_dropped, backslash_len, spaces_len}
use Rattle.markdown_scanners_tree.specs.linklabel.private.Pass.{tally_past_backslash, tally_past_ending, tally_past_space, tally_past_spaces, tally_past_word}
use Rattle.markdown_scanners_tree.specs.linklabel.private.Run.{is_ordinary}
use Rattle.markdown_scanners_tree.specs.declared.linklabel.tally.Tally.{Tally}
use Rattle.markdown_scanners_tree.proofs.linklabel.Facts.{Facts, facts_past_ending, facts_past_space, facts_past_word}
use Rattle.markdown_scanners_tree.proofs.linklabel.Facts.{Tells, tells_ending, tells_space, tells_word, tells_length}
use Rattle.markdown_scanners_tree.proofs.linklabel.SourceSteps.{IsAt, IsOnlySkip, at_closing, from_closing, none_at_closing, byte_at}
use Rattle.markdown_scanners_tree.proofs.linklabel.SourceSteps.{after_word, after_space, after_ending, byte_rest, byte_fits, ending_fits, given_word}
use Rattle.markdown_scanners_tree.proofs.linklabel.SourceSteps.{given_space, given_ending}
use Rattle.markdown_scanners_tree.proofs.linklabel.SeenBytes.{Seen, content_of_seen, plain_of_seen, length_of_seen, stands_in_source}

-- what holds at an offset of the source, where this tally was kept of the bytes before it
pub record IsTallied (a : List ℕ → ℕ → Type 0) (t : Bool) (source : List ℕ) (size : ℕ) (escaped : Bool) (ix : ℕ)
    (y : Tally) : Type 0 where
  pub within : ix ≤ size
  pub skipped_fits : y.skipped ≤ ix
  pub left_out_fits : y.left_out ≤ ix
  pub facts : Facts
  pub tells : Tells y ix facts
  pub seen : List KeptByte
  pub at : IsAt a source escaped seen ix (drop ix source)
  pub given : Seen t source seen ix (drop ix source) facts

is_not : (v : Bool) → not v ≡ true → v ≡ false
is_not v h = sym (not-not v) ∙ ap not h

punctuation_dark : (b : ℕ) → is_punctuation b ≡ true → is_white_space b ≡ false
punctuation_dark b h = grind (arith, nat_tests, h)

same_some : (x y : Label) → Some x ≡ Some y → x ≡ y
same_some x y e = cc

-- a prefix is what was read up to the offset where the rest begins
prefix_taken : (source front rest : List ℕ) (ix : ℕ) → source ≡ front ++ rest → drop ix source ≡ rest
    → ix ≤ length source → front ≡ take ix source
prefix_taken source front rest ix e d h =
    let n : length front ≡ ix =
    omega (arith, ap length e ∙ length-append front rest, length-drop ix source, ap length d) in
    sym (ap (λ n. take n source) (sym n) ∙ ap (take (length front)) e ∙ take-append_seam front rest)

module _ (a : List ℕ → ℕ → Type 0) (source : List ℕ) (t escaped : Bool) (seen : List KeptByte) (ix : ℕ) (y : Facts)
    (here : IsAt a source escaped seen ix (drop ix source)) (bracket : IsBracket escaped (drop ix source) right_bracket)
    (given : Seen t source seen ix (drop ix source) y) where
  at_bracket : Seen t source seen ix (right_bracket ∷ bracket.1.0) y
  at_bracket = subst (λ r. Seen t source seen ix r y) bracket.1.1 given

  content : is_label_content seen ≡ (nat_le y.characters 999 && y.has_word)
  content = content_of_seen t source seen ix (93 ∷ bracket.1.0) y at_bracket

  measured : ix ≤ length source → y.has_word ≡ true → y.characters ≤ 999
      → IsMeasure a source t (record { close = ix; length = y.length; is_plain = y.is_spaced && not y.is_rewritten })
  measured within word few =
      let tested : nat_le y.characters 999 ≡ true = grind (arith, nat_tests, few) in
      let is_content : is_label_content seen ≡ true = content ∙ (λ i. tested i && word i) in
      let made : label_between t (Some (record { content = seen; close = ix }))
      ≡ Some (record { len = ix + 1; text = joined_words (in_cell t seen); plain = is_plain t seen }) =
      rw is_content refl in record {
        label = record { len = ix + 1; text = joined_words (in_cell t seen); plain = is_plain t seen };
        is_label = at_closing a source escaped seen ix (drop ix source) here bracket t _ made;
        only = λ other l. same_some _ _
            (sym (from_closing a source escaped seen ix (drop ix source) here bracket t other l) ∙ made);
        len_is = refl;
        length_is = length_of_seen t source seen ix bracket.1.0 y at_bracket;
        plain_is = plain_of_seen t source seen ix bracket.1.0 y at_bracket;
        stands =
            λ h. (let s = stands_in_source t source seen ix bracket.1.0 y at_bracket h in
            s.1 ∙ ap (λ z. without_last_space (without_first_space z))
            (prefix_taken source (bytes_of seen) (93 ∷ bracket.1.0) ix s.0 bracket.1.1 within));
        inside = (byte_at source ix 93 bracket.1.0 bracket.1.1).0;
        closes = (byte_at source ix 93 bracket.1.0 bracket.1.1).1;
      }

  pub measured_by : (tally : Tally) → Tells tally ix y → ix ≤ length source → tally.has_word ≡ true
      → ix - tally.skipped ≤ 999 → IsMeasure a source t
      (record { close = ix; length = ix - (tally.left_out + due_len tally.in_run); is_plain = tally.is_plain })
  measured_by tally h within word few =
      let has_word : y.has_word ≡ true = sym h.word_is ∙ word in
      subst (λ x. x) (λ i. IsMeasure a source t
      (record { close = ix; length = sym (tells_length tally ix y h has_word).1 i; is_plain = sym h.plain_is i }))
      (measured within has_word (omega (arith, few, h.characters_are)))

  pub not_measured : (nat_le y.characters 999 && y.has_word) ≡ false → (label : Label) → IsLabel a source t label → ⊥
  not_measured lacks label l =
      none_at_closing a source escaped seen ix (drop ix source) here bracket (content ∙ lacks) t label l

-- ---- the steps of the pass

pub starts : (source : List ℕ) (ix b : ℕ) → ix < length source → get_or source ix 0 ≡ b
    → drop ix source ≡ b ∷ drop (ix + 1) source
starts source ix b inside is = drop_more source ix 0 inside ∙ ap (λ c. c ∷ drop (ix + 1) source) is

module _ (a : List ℕ → ℕ → Type 0) (t : Bool) (source : List ℕ) where
  -- past a byte of a word
  past_byte : (escaped : Bool) (ix : ℕ) (y : Tally) (b : ℕ) (escapes drops : Bool)
      → IsTallied a t source (length source) escaped ix y → IsWord escaped (drop ix source) b escapes
      → starts_dropped t (drop ix source) ≡ drops
      → IsTallied a t source (length source) escapes (ix + 1) (tally_past_word y b drops)
  past_byte escaped ix y b escapes drops here o same =
      let next = byte_rest source ix b o.others o.parts in
      let tells = tells_word _ _ _ here.tells b (starts_dropped t (drop ix source)) in
      subst (λ d. IsTallied a t source (length source) escapes (ix + 1) (tally_past_word y b d)) same (record {
        within = byte_fits source ix b o.others o.parts;
        skipped_fits = omega (arith, tells.characters_are);
        left_out_fits = omega (arith, tells.length_is);
        facts = facts_past_word here.facts b (starts_dropped t (drop ix source));
        tells = tells;
        seen = here.seen ++ in_line b ix ∷ [];
        at = after_word _ _ _ _ _ _ here.at _ _ _ o next;
        given = given_word _ _ _ _ _ _ _ here.given _ _ _ o next;
      })

  module _ (ix : ℕ) (y : Tally) (b : ℕ) (here : IsTallied a t source (length source) false ix y)
      (inside : ix < length source) (is : get_or source ix 0 ≡ b) where
    abbrev bs : List ℕ
    bs = drop (ix + 1) source

    parts : drop ix source ≡ b ∷ bs
    parts = starts source ix b inside is

    pub past_ordinary : is_ordinary b ≡ true → IsTallied a t source (length source) false (ix + 1) (tally_past_word y b false)
    past_ordinary ordinary =
        let white = and_parts (not (is_white_space b)) _ ordinary in
        let opening = and_parts (not (b == 91)) _ white.1 in
        let slash = and_parts (not (b == 92)) _ opening.1 in
        let no_slash : (b == 92) ≡ false = is_not (b == 92) slash.0 in
        past_byte false ix y b false false here (record {
          others = bs;
          parts = parts;
          not_white = is_not (is_white_space b) white.0;
          no_close = λ plain. is_not (b == 93) slash.1;
          no_open = λ plain. is_not (b == 91) opening.0;
          escapes_is = rw no_slash refl;
        }) (ap (starts_dropped t) parts ∙ ap (λ v. t && (v && begins_with (λ c. c == 124) bs)) no_slash ∙ and-false t)

    pub past_slash : b ≡ 92 → IsTallied a t source (length source) false (ix + backslash_len (drop ix source))
        (tally_past_backslash t y (drop ix source))
    past_slash slash =
        let e : drop ix source ≡ 92 ∷ bs = parts ∙ ap (λ c. c ∷ bs) slash in
        let escapes = begins_with is_punctuation bs in
        let first = past_byte false ix y 92 escapes (starts_dropped t (drop ix source)) here (record {
          others = bs;
          parts = e;
          not_white = refl;
          no_close = λ plain. refl;
          no_open = λ plain. refl;
          escapes_is = refl;
        }) refl in
        let following : drop 1 (drop ix source) ≡ bs = ap (drop 1) e in
        elim (cases_Bool escapes) [
          | inl does ↦ rw (following, does) (second bs refl does (rw does at first))
          | inr not ↦ rw (following, not) (rw not at first)
        ]
      where
        second : (rest : List ℕ) → drop (ix + 1) source ≡ rest → begins_with is_punctuation rest ≡ true
            → IsTallied a t source (length source) true (ix + 1) (tally_past_word y 92 (starts_dropped t (drop ix source)))
            → IsTallied a t source (length source) false (ix + 2)
            (tally_past_word (tally_past_word y 92 (starts_dropped t (drop ix source))) (get_or (drop ix source) 1 0)
            (starts_dropped t (drop (ix + 1) source)))
        second [] same none after = cc
        second (c ∷ cs) same does after =
            let byte : get_or (drop ix source) 1 0 ≡ c =
            ap (λ z. get_or z 1 0) parts ∙ ap (λ z. get_or z 0 0) same in
            let offset : ix + 1 + 1 ≡ ix + 2 = omega arith in
            subst (λ z. z) (λ i. IsTallied a t source (length source) false (offset i)
            (tally_past_word (tally_past_word y 92 (starts_dropped t (drop ix source))) (sym byte i)
            (starts_dropped t (drop (ix + 1) source))))
            (past_byte true (ix + 1) _ c false _ after (record {
              others = cs;
              parts = same;
              not_white = punctuation_dark c does;
              no_close = λ plain. absurd (true≢false plain);
              no_open = λ plain. absurd (true≢false plain);
              escapes_is = refl;
            }) refl)

    pub past_white : is_white_space b ≡ true → is_line_ending b ≡ false
        → IsTallied a t source (length source) false (ix + 1) (tally_past_space y b)
    past_white white plain =
        let o : IsSpace (drop ix source) b = record { others = bs; parts = parts; white = white; no_ending = plain } in
        record {
          within = byte_fits source ix b bs parts;
          skipped_fits = omega (arith, here.skipped_fits);
          left_out_fits = omega (arith, here.left_out_fits);
          facts = facts_past_space here.facts b;
          tells = tells_space _ _ _ here.tells b;
          seen = here.seen ++ in_line b ix ∷ [];
          at = after_space _ _ _ _ _ _ here.at _ _ o refl;
          given = given_space _ _ _ _ _ _ _ here.given _ o refl;
        }

    module _ (ends : is_line_ending b ≡ true) where
      pub ending_here : (len : ℕ) → len ≡ line_len (drop ix source) → IsEnding (drop ix source) len
      ending_here len is_len = record { byte = b; others = bs; parts = parts; ends = ends; takes = is_len }

      pub past_line : (len skip : ℕ) → len ≡ line_len (drop ix source) → (y.in_run && y.has_ending) ≡ false
          → IsOnlySkip a (drop len (drop ix source)) skip → ix + len + skip ≤ length source
          → IsTallied a t source (length source) false (ix + (len + skip)) (tally_past_ending y len skip)
      past_line len skip is_len first only within =
          let o = ending_here len is_len in
          let jx = ix + (len + skip) in
          record {
            within = omega (arith, within);
            skipped_fits = omega (arith, here.skipped_fits);
            left_out_fits = omega (arith, here.left_out_fits);
            facts = facts_past_ending here.facts len;
            tells = tells_ending _ _ _ here.tells len skip jx refl (ending_fits source ix len o).1;
            seen = here.seen ++ kept_line ix (drop ix source);
            at = subst (IsAt _ _ _ _ jx) (drop-drop (len + skip) ix source) (after_ending _ _ _ _ _ _ here.at _ o _ only);
            given = given_ending _ _ _ _ _ _ _ here.given jx _ o (sym here.tells.ending_is ∙ first);
          }

  -- past a space, and one more where it stands after it
  module _ (ix : ℕ) (y : Tally) (here : IsTallied a t source (length source) false ix y)
      (inside : ix < length source) (is : get_or source ix 0 ≡ 32) where
    first : IsTallied a t source (length source) false (ix + 1) (tally_past_space y 32)
    first = past_white ix y 32 here inside is refl refl

    second : (rest : List ℕ) → drop (ix + 1) source ≡ rest → begins_with (λ b. b == 32) rest ≡ true
        → IsTallied a t source (length source) false (ix + 2) (tally_past_space (tally_past_space y 32) 32)
    second [] same does = cc
    second (c ∷ cs) same does =
        let at = byte_at source (ix + 1) c cs same in
        let offset : ix + 1 + 1 ≡ ix + 2 = omega arith in
        subst (λ k. IsTallied a t source (length source) false k (tally_past_space (tally_past_space y 32) 32)) offset
        (past_white (ix + 1) (tally_past_space y 32) 32 first at.0 (at.1 ∙ eqb-true c 32 does) refl refl)

    pub past_some_spaces : IsTallied a t source (length source) false (ix + spaces_len (drop (ix + 1) source))
        (tally_past_spaces y (drop (ix + 1) source))
    past_some_spaces = elim (cases_Bool (begins_with (λ b. b == 32) (drop (ix + 1) source))) [
      | inl does ↦ rw does (second (drop (ix + 1) source) refl does)
      | inr not ↦ rw not first
    ]
