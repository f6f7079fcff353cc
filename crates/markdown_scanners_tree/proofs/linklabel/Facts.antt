-- The facts of the bytes of a label that were seen, after each byte and each line ending; and how a tally tells them.
use Rattle.std.proofs.Common.{ℕ, Bool, true, false, ◌||◌, ◌&&◌, ◌==◌, not, ◌≡◌, ◌≤◌, ◌+◌, ◌-◌, refl, sym, ◌∙◌, ap, cond, arith}
use Rattle.markdown_scanners_tree.specs.Ascii.{space}
use Rattle.markdown_scanners_tree.specs.Bytes.{is_between}
use Rattle.markdown_scanners_tree.specs.linklabel.private.Pass.{begun, continued, due_len, space_len, gap_len}
use Rattle.markdown_scanners_tree.specs.linklabel.private.Pass.{tally_after_words, tally_past_ending, tally_past_space, tally_past_word}
use Rattle.markdown_scanners_tree.specs.declared.linklabel.tally.Tally.{Tally}

-- How many characters the bytes are, how long a text their words make, whether there is a word, whether a run of white
-- space ends them and whether a line ending is in it, whether each run is one space, and whether a backslash was dropped.
pub record Facts : Type 0 where
  pub characters : ℕ
  pub length : ℕ
  pub has_word : Bool
  pub in_run : Bool
  pub has_ending : Bool
  pub is_spaced : Bool
  pub is_rewritten : Bool

-- before anything was read
abbrev pub no_facts : Facts
no_facts = record {
  characters = 0;
  length = 0;
  has_word = false;
  in_run = false;
  has_ending = false;
  is_spaced = true;
  is_rewritten = false;
}

-- after a line ending of this many bytes
abbrev pub facts_past_ending : Facts → ℕ → Facts
facts_past_ending y len = record y {
  characters = y.characters + len;
  in_run = true;
  has_ending = true;
  is_spaced = false;
}

-- after a byte of white space that ends no line
abbrev pub facts_past_space : Facts → ℕ → Facts
facts_past_space y byte = record y {
  characters = y.characters + 1;
  in_run = true;
  is_spaced = y.is_spaced && (byte == space && not y.in_run);
}

-- after a byte of a word, which is or is not dropped
abbrev pub facts_past_word : Facts → ℕ → Bool → Facts
facts_past_word y byte dropped = record y {
  characters = y.characters + begun byte;
  length = y.length + space_len y.has_word y.in_run + cond dropped 0 1;
  has_word = true;
  in_run = false;
  has_ending = false;
  is_rewritten = y.is_rewritten || dropped;
}

-- the tally of so many bytes tells these facts
pub record Tells (y : Tally) (ix : ℕ) (f : Facts) : Type 0 where
  pub characters_are : f.characters + y.skipped ≡ ix
  pub length_is : f.length + space_len f.has_word f.in_run + y.left_out ≡ ix
  pub word_is : y.has_word ≡ f.has_word
  pub run_is : y.in_run ≡ f.in_run
  pub ending_is : (y.in_run && y.has_ending) ≡ f.has_ending
  pub plain_is : y.is_plain ≡ (f.is_spaced && not f.is_rewritten)

pub tells_none : Tells (tally_after_words 0 0) 0 no_facts
tells_none = record {
  characters_are = refl;
  length_is = refl;
  word_is = refl;
  run_is = refl;
  ending_is = refl;
  plain_is = refl;
}

-- white space after a word adds a space to the text
gap_adds : (word run : Bool) → space_len word true ≡ space_len word run + gap_len word run
gap_adds true true = refl
gap_adds true false = refl
gap_adds false true = refl
gap_adds false false = refl

gap_small : (word run : Bool) → gap_len word run ≤ 1
gap_small true true = omega arith
gap_small true false = omega arith
gap_small false run = omega arith

-- a byte begins a character, or goes on with one
begins_or_not : (b : ℕ) → begun b + continued b ≡ 1
begins_or_not b = by (is_between 128 191 b)
  where
    by : (v : Bool) → cond (not v) 1 0 + cond v 1 0 ≡ 1
    by true = refl
    by false = refl

kept_or_not : (d : Bool) → cond d 0 1 + due_len d ≡ 1
kept_or_not true = refl
kept_or_not false = refl

plain_space : (spaced rewritten one : Bool) → ((spaced && not rewritten) && one) ≡ ((spaced && one) && not rewritten)
plain_space true true true = refl
plain_space true true false = refl
plain_space true false true = refl
plain_space true false false = refl
plain_space false rewritten one = refl

plain_word : (spaced rewritten dropped : Bool)
    → ((spaced && not rewritten) && not dropped) ≡ (spaced && not (rewritten || dropped))
plain_word true true dropped = refl
plain_word true false dropped = refl
plain_word false rewritten dropped = refl

module _ (y : Tally) (ix : ℕ) (f : Facts) (h : Tells y ix f) where
  same_gap : gap_len y.has_word y.in_run ≡ gap_len f.has_word f.in_run
  same_gap = λ i. gap_len (h.word_is i) (h.run_is i)

  pub tells_ending : (len skip jx : ℕ) → jx ≡ ix + (len + skip) → 1 ≤ len
      → Tells (tally_past_ending y len skip) jx (facts_past_ending f len)
  tells_ending len skip jx offset some = record {
    characters_are = omega (arith, h.characters_are, offset);
    length_is =
        omega (
          arith,
          h.length_is,
          offset,
          some,
          gap_adds f.has_word f.in_run,
          same_gap,
          gap_small f.has_word f.in_run,
        );
    word_is = h.word_is;
    run_is = refl;
    ending_is = refl;
    plain_is = refl;
  }

  pub tells_space : (b : ℕ) → Tells (tally_past_space y b) (ix + 1) (facts_past_space f b)
  tells_space b = record {
    characters_are = omega (arith, h.characters_are);
    length_is = omega (arith, h.length_is, gap_adds f.has_word f.in_run, same_gap, gap_small f.has_word f.in_run);
    word_is = h.word_is;
    run_is = refl;
    ending_is = h.ending_is;
    plain_is = (λ i. h.plain_is i && (b == space && not (h.run_is i)))
        ∙ plain_space f.is_spaced f.is_rewritten (b == space && not f.in_run);
  }

  pub tells_word : (b : ℕ) (d : Bool) → Tells (tally_past_word y b d) (ix + 1) (facts_past_word f b d)
  tells_word b d = record {
    characters_are = omega (arith, h.characters_are, begins_or_not b);
    length_is = omega (arith, h.length_is, kept_or_not d);
    word_is = refl;
    run_is = refl;
    ending_is = refl;
    plain_is = ap (λ v. v && not d) h.plain_is ∙ plain_word f.is_spaced f.is_rewritten d;
  }

  -- at the closing bracket
  pub tells_length : f.has_word ≡ true → (y.left_out + due_len y.in_run ≤ ix)
      × (ix - (y.left_out + due_len y.in_run) ≡ f.length)
  tells_length word =
      let due : due_len y.in_run ≡ space_len f.has_word f.in_run = λ i. due_len (sym word i && h.run_is i) in
      (omega (arith, h.length_is, due), omega (arith, h.length_is, due))
