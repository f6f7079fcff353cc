-- Words with one space between, as the first pass has them that reads byte by byte.
use Rattle.std.proofs.Common.{ℕ, Bool, true, false, ◌||◌, ◌&&◌, not, List, [], ◌∷◌, ◌≡◌, ◌==◌, ◌+◌, ◌≤◌, ◌<◌, refl, sym, ◌∙◌, ap, subst, arith}
use Rattle.std.proofs.Common.{cond, drop, take, take-add, get_or, length}
use Rattle.std.proofs.lemmas.Bool.{and_parts, eqb-true, lt-ltb}
use Rattle.std.proofs.lemmas.Bool.Decides.{nat_tests}
use Rattle.std.proofs.lemmas.List.{drop_more, take_more}
use Rattle.std.proofs.lemmas.List.Sums.{sum_by-append, sum_by-cons}
use Rattle.std.specs.List.{sum_by}
use Rattle.markdown_scanners_tree.specs.Ascii.{backslash, right_bracket, vertical_line}
use Rattle.markdown_scanners_tree.specs.Bytes.{begins_with, is_between, is_punctuation}
use Rattle.markdown_scanners_tree.specs.linklabel.private.NextPart.{IsBracket}
use Rattle.markdown_scanners_tree.specs.linklabel.private.Pass.{IsMeasure, continued, backslash_len, starts_dropped}
use Rattle.markdown_scanners_tree.specs.linklabel.private.Pass.{tally_after_words, tally_past_backslash, tally_past_word}
use Rattle.markdown_scanners_tree.specs.linklabel.private.Run.{is_ordinary}
use Rattle.markdown_scanners_tree.specs.linklabel.private.Words.{AreWords, is_kept_escape, joins_words, stays_escaped, none, byte, gap, escape}
use Rattle.markdown_scanners_tree.specs.declared.linklabel.tally.Tally.{Tally}
use Rattle.markdown_scanners_tree.proofs.linklabel.Facts.{no_facts, tells_none}
use Rattle.markdown_scanners_tree.proofs.linklabel.MeasureLemmas.{IsTallied, measured_by, past_ordinary, past_slash, past_white}
use Rattle.markdown_scanners_tree.proofs.linklabel.SeenBytes.{Seen-none}
use Rattle.markdown_scanners_tree.proofs.linklabel.SourceSteps.{at_start, byte_at, byte_rest}

pub bracket_first : (bracket : ℕ) (rest : List ℕ) → begins_with (λ b. b == bracket) rest ≡ true
    → (others : List ℕ) × (rest ≡ bracket ∷ others)
bracket_first bracket [] is = cc
bracket_first bracket (b ∷ bs) is = (bs, ap (λ c. c ∷ bs) (eqb-true b bracket is))

-- words of which one more space joins a word
pub joined_here : (t : Bool) (source : List ℕ) (n : ℕ) → AreWords t source n → 0 < n
    → joins_words (drop n source) ≡ true → (n + 2 ≤ length source) × AreWords t source (n + 2)
joined_here t source n words some joins = by (drop n source) refl joins
  where
    by : (rest : List ℕ) → drop n source ≡ rest → joins_words rest ≡ true
        → (n + 2 ≤ length source) × AreWords t source (n + 2)
    by [] e j = cc
    by (b ∷ []) e j = cc
    by (b ∷ c ∷ cs) e j =
        let parts = and_parts (b == 32) (is_ordinary c) j in
        let first = byte_at source n b (c ∷ cs) e in
        let second = byte_at source (n + 1) c cs (byte_rest source n b (c ∷ cs) e) in
        let fits : n + 2 ≤ length source = omega (arith, second.0) in
        (fits, gap n words some fits (first.1 ∙ eqb-true b 32 parts.0) (ap is_ordinary second.1 ∙ parts.1))

-- words that an escape follows
pub escaped_here : (t : Bool) (source : List ℕ) (n : ℕ) → AreWords t source n
    → is_kept_escape t (drop n source) ≡ true → (n + 2 ≤ length source) × AreWords t source (n + 2)
escaped_here t source n words escapes = by (drop n source) refl escapes
  where
    by : (rest : List ℕ) → drop n source ≡ rest → is_kept_escape t rest ≡ true
        → (n + 2 ≤ length source) × AreWords t source (n + 2)
    by [] e j = cc
    by (b ∷ []) e j = cc
    by (b ∷ c ∷ cs) e j =
        let parts = and_parts (b == 92) (stays_escaped t c) j in
        let first = byte_at source n b (c ∷ cs) e in
        let second = byte_at source (n + 1) c cs (byte_rest source n b (c ∷ cs) e) in
        let fits : n + 2 ≤ length source = omega (arith, second.0) in
        (fits, escape n words fits (first.1 ∙ eqb-true b 92 parts.0) (ap (stays_escaped t) second.1 ∙ parts.1))

-- one byte more of which it is counted whether it begins a character
pub continued_more : (source : List ℕ) (n : ℕ) → n < length source
    → sum_by continued (take (n + 1) source) ≡ sum_by continued (take n source) + continued (get_or source n 0)
continued_more source n inside =
    ap (sum_by continued) (take_more source n 0 inside)
    ∙ sum_by-append continued (take n source) (get_or source n 0 ∷ []) ∙ omega arith

-- no more bytes are counted than there are
one_at_most : (b : ℕ) → continued b ≤ 1
one_at_most b = elim (is_between 128 191 b) as (λ v. cond v 1 0 ≤ 1) [
  | true ↦ omega arith
  | false ↦ omega arith
]

pub count_within : (bytes : List ℕ) → sum_by continued bytes ≤ length bytes
count_within [] = omega arith
count_within (b ∷ bs) = omega (arith, sum_by-cons continued b bs, one_at_most b, count_within bs)

-- some bytes more
pub counted_more : (source : List ℕ) (m n : ℕ) → sum_by continued (take (m + n) source)
    ≡ sum_by continued (take m source) + sum_by continued (take n (drop m source))
counted_more source m n =
    ap (sum_by continued) (take-add m n source) ∙ sum_by-append continued (take m source) (take n (drop m source))

-- the escape of a byte that stays changes the tally as two bytes of a word do
first_stays : (t : Bool) (c : ℕ) → not (t && (c == backslash || c == vertical_line)) ≡ true
    → (t && c == vertical_line) ≡ false
first_stays true c stays = grind (arith, nat_tests, stays)
first_stays false c stays = refl

second_stays : (t v : Bool) (c : ℕ) → not (t && (c == backslash || c == vertical_line)) ≡ true
    → (t && (c == backslash && v)) ≡ false
second_stays true v c stays =
    let other : (c == backslash) ≡ false = grind (arith, nat_tests, stays) in ap (λ x. x && v) other
second_stays false v c stays = refl

past_escape : (t : Bool) (y : Tally) (c : ℕ) (cs : List ℕ) → stays_escaped t c ≡ true
    → (backslash_len (backslash ∷ c ∷ cs) ≡ 2)
    × (tally_past_backslash t y (backslash ∷ c ∷ cs) ≡ tally_past_word (tally_past_word y backslash false) c false)
past_escape t y c cs stays =
    let parts = and_parts (is_punctuation c) _ stays in
    let first : starts_dropped t (92 ∷ c ∷ cs) ≡ false = first_stays t c parts.1 in
    let second : starts_dropped t (c ∷ cs) ≡ false =
    second_stays t (begins_with (λ d. d == vertical_line) cs) c parts.1 in
    (rw parts.0 refl, rw parts.0 (λ i. tally_past_word (tally_past_word y 92 (first i)) c (second i)))

-- the tally of words, of which so many bytes begin no character
abbrev words_tally : ℕ → ℕ → Tally
words_tally skipped n = tally_after_words n skipped

-- the same where there is a word
abbrev word_tally : ℕ → Tally
word_tally skipped = record {
  skipped = skipped;
  left_out = 0;
  has_word = true;
  in_run = false;
  has_ending = false;
  is_plain = true;
}

some_words : (skipped n : ℕ) → 0 < n → words_tally skipped n ≡ word_tally skipped
some_words skipped n some = λ i. record (word_tally skipped) { has_word = lt-ltb 0 n some i }

module _ (a : List ℕ → ℕ → Type 0) (t : Bool) (source : List ℕ) where
  abbrev TalliedAt : ℕ → Tally → Type 0
  TalliedAt = IsTallied a t source (length source) false

  record AfterWords (n : ℕ) : Type 0 where
    pub skipped : ℕ
    pub tallied : TalliedAt n (words_tally skipped n)
    pub counted : skipped ≡ sum_by continued (take n source)

  after_words : (n : ℕ) → AreWords t source n → AfterWords n
  after_words n none = record {
    skipped = 0;
    tallied = record {
      within = omega arith;
      skipped_fits = omega arith;
      left_out_fits = omega arith;
      facts = no_facts;
      tells = tells_none;
      seen = [];
      at = at_start _ _;
      given = Seen-none _ _;
    };
    counted = refl;
  }
  after_words n (byte m before inside word) =
      let w = after_words m before in
      let b = get_or source m 0 in
      let next : TalliedAt (m + 1) (word_tally (w.skipped + continued b)) =
      past_ordinary a t source m (words_tally w.skipped m) b w.tallied inside refl word in
      record {
        skipped = w.skipped + continued b;
        tallied = subst (TalliedAt (m + 1)) (sym (some_words (w.skipped + continued b) (m + 1) (omega arith))) next;
        counted = omega (arith, w.counted, continued_more source m inside);
      }
  after_words n (gap m before some fits space word) =
      let w = after_words m before in
      let b = get_or source (m + 1) 0 in
      let s = w.skipped + continued b in
      let here : TalliedAt m (word_tally w.skipped) = subst (TalliedAt m) (some_words w.skipped m some) w.tallied in
      let white = past_white a t source m (word_tally w.skipped) 32 here (omega (arith, fits)) space refl refl in
      let next : TalliedAt (m + 1 + 1) (word_tally s) =
      past_ordinary a t source (m + 1) _ b white (omega (arith, fits)) refl word in
      let offset : m + 1 + 1 ≡ m + 2 = omega arith in
      record {
        skipped = s;
        tallied = subst (λ x. x) (λ i. TalliedAt (offset i) (sym (some_words s (m + 2) (omega arith)) i)) next;
        counted = omega (
          arith,
          w.counted,
          continued_more source m (omega (arith, fits)),
          ap continued space,
          continued_more source (m + 1) (omega (arith, fits)),
          ap (λ k. sum_by continued (take k source)) offset,
        );
      }
  after_words n (escape m before fits slash stays) =
      let w = after_words m before in
      let c = get_or source (m + 1) 0 in
      let s = (w.skipped + continued 92) + continued c in
      let parts : drop m source ≡ 92 ∷ c ∷ drop (m + 1 + 1) source =
      drop_more source m 0 (omega (arith, fits)) ∙ ap (λ b. b ∷ drop (m + 1) source) slash
      ∙ ap (λ z. 92 ∷ z) (drop_more source (m + 1) 0 (omega (arith, fits))) in
      let past = past_escape t (words_tally w.skipped m) c (drop (m + 1 + 1) source) stays in
      let offset : m + backslash_len (drop m source) ≡ m + 2 = ap (λ k. m + k) (ap backslash_len parts ∙ past.0) in
      let tally = ap (tally_past_backslash t (words_tally w.skipped m)) parts ∙ past.1 in
      let next : TalliedAt (m + 2) (word_tally s) = subst (λ x. x) (λ i. TalliedAt (offset i) (tally i))
      (past_slash a t source m (words_tally w.skipped m) 92 w.tallied (omega (arith, fits)) slash refl) in
      let end : m + 1 + 1 ≡ m + 2 = omega arith in
      record {
        skipped = s;
        tallied = subst (TalliedAt (m + 2)) (sym (some_words s (m + 2) (omega arith))) next;
        counted = omega (
          arith,
          w.counted,
          continued_more source m (omega (arith, fits)),
          ap continued slash,
          continued_more source (m + 1) (omega (arith, fits)),
          ap (λ k. sum_by continued (take k source)) end,
        );
      }

  -- after words of which those bytes are counted that begin no character
  pub tallied_after_words : (n skipped : ℕ) → AreWords t source n → skipped ≡ sum_by continued (take n source)
      → TalliedAt n (tally_after_words n skipped)
  tallied_after_words n skipped words counted =
      (let w = after_words n words in
      subst (λ s. TalliedAt n (words_tally s n)) (w.counted ∙ sym counted) w.tallied)

  -- words before a closing bracket are a label that stands in the source as it is
  pub measured_words : (n : ℕ) → AreWords t source n → 0 < n → n ≤ 999
      → begins_with (λ b. b == right_bracket) (drop n source) ≡ true
      → IsMeasure a source t (record { close = n; length = n; is_plain = true })
  measured_words n words some few closes =
      let w = after_words n words in
      let here : TalliedAt n (word_tally w.skipped) = subst (TalliedAt n) (some_words w.skipped n some) w.tallied in
      let bracket : IsBracket false (drop n source) right_bracket =
      (refl, bracket_first right_bracket (drop n source) closes) in
      subst (λ m. IsMeasure a source t (record { close = n; length = m; is_plain = true })) (omega arith)
      (measured_by a source t false here.seen n here.facts here.at bracket here.given (word_tally w.skipped) here.tells
      here.within refl (omega (arith, few)))
