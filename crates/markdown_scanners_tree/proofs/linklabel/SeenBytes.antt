-- What is known of the bytes that a scan has seen, after each byte and each line ending: what was
-- written of the label's text (`Written`), and the facts of a label as a tally has them (`Seen`).
use Rattle.std.proofs.Common.{ℕ, suc, Bool, true, false, ◌||◌, ◌&&◌, ◌==◌, not, nat_le, List, [], ◌∷◌, ◌++◌, ◌≡◌, ◌+◌, ◌<◌, refl, sym}
use Rattle.std.proofs.Common.{◌∙◌, ap, subst, cond, arith, append_assoc, append-nil, true≢false, eqb-true, length, length-append}
use Rattle.std.proofs.Math.Bool.{and-true, and-false, and_assoc, or_assoc, or-false, not-not}
use Rattle.std.proofs.lemmas.Bool.{and_parts}
use Rattle.std.proofs.lemmas.Bool.Decides.{nat_tests}
use Rattle.std.proofs.lemmas.List.{map-append}
use Rattle.std.proofs.lemmas.List.Folds.{list_all-append}
use Rattle.std.proofs.lemmas.List.Sums.{fold-append, sum_by-append}
use Rattle.std.specs.List.{list_all}
use Rattle.markdown_scanners_tree.specs.Bytes.{is_line_ending, is_white_space}
use Rattle.markdown_scanners_tree.specs.Ascii.{right_bracket}
use Rattle.markdown_scanners_tree.specs.Kept.{KeptByte, in_line, at_line_end, kept_line, kept_return, return_len, line_len, line_endings, bytes_of}
use Rattle.markdown_scanners_tree.specs.linklabel.Answer.{without_first_space, without_last_space}
use Rattle.markdown_scanners_tree.specs.linklabel.Label.{is_white, white_runs, characters, is_label_content, has_pipe_backslash, in_cell}
use Rattle.markdown_scanners_tree.specs.linklabel.Label.{joined_words, is_plain}
use Rattle.markdown_scanners_tree.specs.linklabel.private.Pass.{begun, due_len, starts_dropped, word_text}
use Rattle.markdown_scanners_tree.proofs.linklabel.Facts.{Facts, no_facts, facts_past_ending, facts_past_space, facts_past_word}
use Rattle.markdown_scanners_tree.proofs.linklabel.WhiteRuns.{few, few-white_runs, few_at_ending, lone, lone_runs}
use Rattle.markdown_scanners_tree.specs.scanners.tables.DelimiterRow.{is_pipe}
use Rattle.markdown_scanners_tree.proofs.linklabel.JoinedWords.{text_from, joined_words-from, lone_outer}
use Rattle.markdown_scanners_tree.proofs.linklabel.CellText.{Follows, follows_byte, space_of, text_from-white, text_from-word, has_dropped-byte}
use Rattle.markdown_scanners_tree.proofs.linklabel.CellText.{not_dropped-white, gap_of_line, in_cell-same}

-- what was written of the text, and what is still to be written of it, whatever comes
pub record Written (t : Bool) (seen : List KeptByte) (ix : ℕ) (rest : List ℕ) (has_word in_run : Bool)
    (pushed : List ℕ) : Type 0 where
  pub left : (ks : List KeptByte) → Follows ix rest ks
      → text_from false false (in_cell t (seen ++ ks)) ≡ pushed ++ text_from has_word in_run (in_cell t ks)

pub Written-none : (t : Bool) (rest : List ℕ) → Written t [] 0 rest false false []
Written-none t rest = record { left = λ ks f. refl }

-- after more kept bytes, of which this much is written
written_more : (t : Bool) (seen front : List KeptByte) (ix jx : ℕ) (rest rest' : List ℕ) (w r w' r' : Bool)
    (pushed more : List ℕ) → Written t seen ix rest w r pushed
    → ((ks : List KeptByte) → Follows jx rest' ks
    → Follows ix rest (front ++ ks)
    × (text_from w r (in_cell t (front ++ ks)) ≡ more ++ text_from w' r' (in_cell t ks)))
    → Written t (seen ++ front) jx rest' w' r' (pushed ++ more)
written_more t seen front ix jx rest rest' w r w' r' pushed more s step = record {
  left = λ ks f. ap (λ zs. text_from false false (in_cell t zs)) (append_assoc seen front ks)
      ∙ s.left (front ++ ks) (step ks f).0 ∙ ap (λ z. pushed ++ z) (step ks f).1
      ∙ sym (append_assoc pushed more (text_from w' r' (in_cell t ks)));
}

pub Written-word : (t : Bool) (seen : List KeptByte) (ix b : ℕ) (bs : List ℕ) (w r : Bool) (pushed : List ℕ)
    → is_white_space b ≡ false → Written t seen ix (b ∷ bs) w r pushed
    → Written t (seen ++ in_line b ix ∷ []) (ix + 1) bs true false
    (pushed ++ (space_of w r ++ cond (starts_dropped t (b ∷ bs)) [] (b ∷ [])))
Written-word t seen ix b bs w r pushed d s =
    written_more t seen (in_line b ix ∷ []) ix (ix + 1) (b ∷ bs) bs w r true false pushed
    (space_of w r ++ cond (starts_dropped t (b ∷ bs)) [] (b ∷ [])) s
    (λ ks f. (follows_byte ix b bs ks, text_from-word t w r ix b bs ks d f))

pub Written-space : (t : Bool) (seen : List KeptByte) (ix b : ℕ) (bs : List ℕ) (w r : Bool) (pushed : List ℕ)
    → is_white_space b ≡ true → Written t seen ix (b ∷ bs) w r pushed
    → Written t (seen ++ in_line b ix ∷ []) (ix + 1) bs w true pushed
Written-space t seen ix b bs w r pushed d s =
    subst (Written t (seen ++ in_line b ix ∷ []) (ix + 1) bs w true) (append-nil pushed)
    (written_more t seen (in_line b ix ∷ []) ix (ix + 1) (b ∷ bs) bs w r w true pushed [] s
    (λ ks f. (follows_byte ix b bs ks, text_from-white t w r (in_line b ix) ks d)))

pub ending_no_pipe : (b : ℕ) → is_line_ending b ≡ true → is_pipe b ≡ false
ending_no_pipe b h = grind (arith, nat_tests, h)

pub Written-ending : (t : Bool) (seen : List KeptByte) (ix b jx : ℕ) (bs rest' : List ℕ) (w r : Bool) (pushed : List ℕ)
    → is_line_ending b ≡ true → Written t seen ix (b ∷ bs) w r pushed
    → Written t (seen ++ kept_line ix (b ∷ bs)) jx rest' w true pushed
Written-ending t seen ix b jx bs rest' w r pushed d s =
    subst (Written t (seen ++ kept_line ix (b ∷ bs)) jx rest' w true) (append-nil pushed)
    (written_more t seen (kept_line ix (b ∷ bs)) ix jx (b ∷ bs) rest' w r w true pushed [] s
    (λ ks f. (let g = gap_of_line t w r ix b bs ks d in (g.starts ∙ sym (ending_no_pipe b d), g.text))))

-- at the closing bracket the whole text is written
pub all_written : (t : Bool) (seen : List KeptByte) (ix : ℕ) (bs : List ℕ) (w r : Bool) (pushed : List ℕ)
    → Written t seen ix (right_bracket ∷ bs) w r pushed → joined_words (in_cell t seen) ≡ pushed
all_written t seen ix bs w r pushed s = joined_words-from (in_cell t seen)
    ∙ ap (λ zs. text_from false false (in_cell t zs)) (sym (append-nil seen)) ∙ s.left [] refl
    ∙ ap (λ z. pushed ++ text_from w r z) (in_cell-nil t) ∙ append-nil pushed
  where
    in_cell-nil : (t : Bool) → in_cell t [] ≡ []
    in_cell-nil true = refl
    in_cell-nil false = refl

-- the facts of the bytes that were seen, as a tally has them
pub record Seen (t : Bool) (source : List ℕ) (seen : List KeptByte) (ix : ℕ) (rest : List ℕ) (y : Facts) : Type 0 where
  pub few_left : (ks : List KeptByte) → few false (seen ++ ks) ≡ few y.has_ending ks
  pub lone_left : (ks : List KeptByte) → lone false (seen ++ ks) ≡ (y.is_spaced && lone y.in_run ks)
  pub drops_left : (ks : List KeptByte) → Follows ix rest ks
      → (t && has_pipe_backslash (seen ++ ks)) ≡ (y.is_rewritten || (t && has_pipe_backslash ks))
  pub characters_are : characters seen ≡ y.characters
  pub has_word_is : list_all is_white seen ≡ not y.has_word
  pub copied : y.is_spaced ≡ true → source ≡ bytes_of seen ++ rest
  pub pushed : List ℕ
  pub written : Written t seen ix rest y.has_word y.in_run pushed
  pub length_is : length pushed ≡ y.length

pub Seen-none : (t : Bool) (source : List ℕ) → Seen t source [] 0 source no_facts
Seen-none t source = record {
  few_left = λ ks. refl;
  lone_left = λ ks. refl;
  drops_left = λ ks f. refl;
  characters_are = refl;
  has_word_is = refl;
  copied = λ h. refl;
  pushed = [];
  written = Written-none t source;
  length_is = refl;
}

characters-append : (xs ys : List KeptByte) → characters (xs ++ ys) ≡ characters xs + characters ys
characters-append xs ys = sum_by-append (λ k. begun k.byte) xs ys

characters-more : (ks : List KeptByte) (k : KeptByte) → characters (ks ++ k ∷ []) ≡ characters ks + begun k.byte
characters-more ks k = fold-append _ _ ks (k ∷ [])

all_white-more : (ks : List KeptByte) (k : KeptByte)
    → list_all is_white (ks ++ k ∷ []) ≡ (list_all is_white ks && is_white k)
all_white-more ks k = list_all-append is_white ks (k ∷ []) ∙ ap (λ b. list_all is_white ks && b) (and-true (is_white k))

copied_more : (source bs : List ℕ) (seen : List KeptByte) (b ix : ℕ) → source ≡ bytes_of seen ++ (b ∷ bs)
    → source ≡ bytes_of (seen ++ in_line b ix ∷ []) ++ bs
copied_more source bs seen b ix h = h ∙ sym (append_assoc (bytes_of seen) (b ∷ []) bs)
    ∙ ap (λ z. z ++ bs) (sym (map-append (λ k. k.byte) seen (in_line b ix ∷ [])))

-- white space is no byte that goes on with a character
pub white_begins : (b : ℕ) → is_white_space b ≡ true → begun b ≡ 1
white_begins b w = grind (arith, nat_tests, w)

pub word_text-length : (due drops : Bool) (b : ℕ) → length (word_text due drops b) ≡ due_len due + cond drops 0 1
word_text-length true true b = refl
word_text-length true false b = refl
word_text-length false true b = refl
word_text-length false false b = refl

-- past a byte of a word
pub Seen-word : (t : Bool) (source : List ℕ) (seen : List KeptByte) (ix b : ℕ) (bs : List ℕ) (y : Facts)
    → is_white_space b ≡ false → Seen t source seen ix (b ∷ bs) y
    → Seen t source (seen ++ in_line b ix ∷ []) (ix + 1) bs (facts_past_word y b (starts_dropped t (b ∷ bs)))
Seen-word t source seen ix b bs y d s =
    let k = in_line b ix in
    let more = space_of y.has_word y.in_run ++ cond (starts_dropped t (b ∷ bs)) [] (b ∷ []) in record {
      few_left = λ ks. ap (few false) (append_assoc seen (k ∷ []) ks) ∙ s.few_left (k ∷ ks) ∙ rw d refl;
      lone_left = λ ks. ap (lone false) (append_assoc seen (k ∷ []) ks) ∙ s.lone_left (k ∷ ks) ∙ rw d refl;
      drops_left = λ ks f. ap (λ zs. t && has_pipe_backslash zs) (append_assoc seen (k ∷ []) ks)
          ∙ s.drops_left (k ∷ ks) (follows_byte ix b bs ks)
          ∙ ap (λ v. y.is_rewritten || v) (has_dropped-byte t ix b bs ks f)
          ∙ sym (or_assoc y.is_rewritten (starts_dropped t (b ∷ bs)) (t && has_pipe_backslash ks));
      characters_are = characters-more seen k ∙ ap (λ n. n + begun b) s.characters_are;
      has_word_is = all_white-more seen k ∙ ap (λ v. list_all is_white seen && v) d
          ∙ and-false (list_all is_white seen);
      copied = λ h. copied_more source bs seen b ix (s.copied h);
      pushed = s.pushed ++ more;
      written = Written-word t seen ix b bs y.has_word y.in_run s.pushed d s.written;
      length_is = length-append s.pushed more ∙ ap (λ n. n + length more) s.length_is
          ∙ ap (λ n. y.length + n) (word_text-length (y.has_word && y.in_run) (starts_dropped t (b ∷ bs)) b)
          ∙ omega arith;
    }

-- past white space in a line
pub Seen-space : (t : Bool) (source : List ℕ) (seen : List KeptByte) (ix b : ℕ) (bs : List ℕ) (y : Facts)
    → is_white_space b ≡ true → Seen t source seen ix (b ∷ bs) y
    → Seen t source (seen ++ in_line b ix ∷ []) (ix + 1) bs (facts_past_space y b)
Seen-space t source seen ix b bs y w s =
    let k = in_line b ix in record {
      few_left = λ ks. ap (few false) (append_assoc seen (k ∷ []) ks) ∙ s.few_left (k ∷ ks) ∙ rw w refl;
      lone_left = λ ks. ap (lone false) (append_assoc seen (k ∷ []) ks) ∙ s.lone_left (k ∷ ks)
          ∙ rw w (sym (and_assoc y.is_spaced (b == 32 && not y.in_run) (lone true ks)));
      drops_left = λ ks f. ap (λ zs. t && has_pipe_backslash zs) (append_assoc seen (k ∷ []) ks)
          ∙ s.drops_left (k ∷ ks) (follows_byte ix b bs ks)
          ∙ ap (λ v. y.is_rewritten || v)
          (has_dropped-byte t ix b bs ks f ∙ ap (λ v. v || (t && has_pipe_backslash ks)) (not_dropped-white t b bs w));
      characters_are = characters-more seen k ∙ ap (λ n. characters seen + n) (white_begins b w)
          ∙ ap (λ n. n + 1) s.characters_are;
      has_word_is = all_white-more seen k ∙ ap (λ v. list_all is_white seen && v) w ∙ and-true (list_all is_white seen)
          ∙ s.has_word_is;
      copied = λ h. copied_more source bs seen b ix (s.copied (and_parts y.is_spaced _ h).0);
      pushed = s.pushed;
      written = Written-space t seen ix b bs y.has_word y.in_run s.pushed w s.written;
      length_is = s.length_is;
    }

-- what a line ending leaves: it is white space that is marked once, and no space
record IsLine (front : List KeptByte) (len : ℕ) : Type 0 where
  pub few_after : (ks : List KeptByte) → few false (front ++ ks) ≡ few true ks
  pub not_lone : (r : Bool) (ks : List KeptByte) → lone r (front ++ ks) ≡ false
  pub counts : characters front ≡ len
  pub is_space : list_all is_white front ≡ true

line_is : (ix b : ℕ) (bs : List ℕ) → is_line_ending b ≡ true → IsLine (kept_line ix (b ∷ bs)) (line_len (b ∷ bs))
line_is ix b bs ends = by (b == 10) (b == 13) (eqb-true b 10) ends
  where
    feed : IsLine (at_line_end 10 ix ∷ []) 1
    feed = record { few_after = λ ks. refl; not_lone = λ r ks. refl; counts = refl; is_space = refl }

    return : (cs : List ℕ) → IsLine (kept_return ix cs) (return_len cs)
    return [] = record { few_after = λ ks. refl; not_lone = λ r ks. refl; counts = refl; is_space = refl }
    return (c ∷ cs) =
        elim (c == 10) as (λ v. IsLine (cond v (in_line 13 ix ∷ at_line_end 10 (ix + 1) ∷ []) (at_line_end 13 ix ∷ []))
        (cond v 2 1)) [
          | true ↦ record { few_after = λ ks. refl; not_lone = λ r ks. refl; counts = refl; is_space = refl }
          | false ↦ record { few_after = λ ks. refl; not_lone = λ r ks. refl; counts = refl; is_space = refl }
        ]

    by : (x y : Bool) → (x ≡ true → b ≡ 10) → (x || y) ≡ true
        → IsLine (cond x (at_line_end b ix ∷ []) (cond y (kept_return ix bs) (in_line b ix ∷ kept_line (ix + 1) bs)))
        (cond x 1 (cond y (return_len bs) (suc (line_len bs))))
    by true y f h = subst (λ n. IsLine (at_line_end n ix ∷ []) 1) (sym (f refl)) feed
    by false true f h = return bs
    by false false f h = absurd (true≢false (sym h))

-- past a line ending, the first of its run
pub Seen-ending : (t : Bool) (source : List ℕ) (seen : List KeptByte) (ix b jx : ℕ) (bs rest' : List ℕ) (y : Facts)
    → is_line_ending b ≡ true → y.has_ending ≡ false → Seen t source seen ix (b ∷ bs) y
    → Seen t source (seen ++ kept_line ix (b ∷ bs)) jx rest' (facts_past_ending y (line_len (b ∷ bs)))
Seen-ending t source seen ix b jx bs rest' y ends first s =
    let front = kept_line ix (b ∷ bs) in
    let l = line_is ix b bs ends in record {
      few_left = λ ks. ap (few false) (append_assoc seen front ks) ∙ s.few_left (front ++ ks)
          ∙ ap (λ v. few v (front ++ ks)) first ∙ l.few_after ks;
      lone_left = λ ks. ap (lone false) (append_assoc seen front ks) ∙ s.lone_left (front ++ ks)
          ∙ ap (λ v. y.is_spaced && v) (l.not_lone y.in_run ks) ∙ and-false y.is_spaced;
      drops_left = λ ks f. (let g = gap_of_line t y.has_word y.in_run ix b bs ks ends in
          ap (λ zs. t && has_pipe_backslash zs) (append_assoc seen front ks)
          ∙ s.drops_left (front ++ ks) (g.starts ∙ sym (ending_no_pipe b ends))
          ∙ ap (λ v. y.is_rewritten || (t && v)) g.drops);
      characters_are = characters-append seen front ∙ (λ i. s.characters_are i + l.counts i);
      has_word_is = list_all-append is_white seen front ∙ ap (λ v. list_all is_white seen && v) l.is_space
          ∙ and-true (list_all is_white seen) ∙ s.has_word_is;
      copied = λ h. absurd (true≢false (sym h));
      pushed = s.pushed;
      written = Written-ending t seen ix b jx bs rest' y.has_word y.in_run s.pushed ends s.written;
      length_is = s.length_is;
    }

-- what was seen is a label's content where it has a word and few characters
pub content_of_seen : (t : Bool) (source : List ℕ) (seen : List KeptByte) (ix : ℕ) (rest : List ℕ) (y : Facts)
    → Seen t source seen ix rest y → is_label_content seen ≡ (nat_le y.characters 999 && y.has_word)
content_of_seen t source seen ix rest y s =
    let all_few = few-white_runs seen ∙ ap (few false) (sym (append-nil seen)) ∙ s.few_left [] in
    (λ i. (all_few i && nat_le (s.characters_are i) 999) && not (s.has_word_is i))
    ∙ ap (λ b. nat_le y.characters 999 && b) (not-not y.has_word)

-- more than 999 characters leave no label, whatever comes
too_many : (content : List KeptByte) → 999 < characters content → is_label_content content ≡ false
too_many content many =
    let over : nat_le (characters content) 999 ≡ false = grind (arith, nat_tests, many) in
    let few_endings = list_all (λ run. nat_le (line_endings run) 1) (white_runs content) in
    let dark = not (list_all is_white content) in
    ap (λ v. (few_endings && v) && dark) over ∙ ap (λ v. v && dark) (and-false few_endings)

pub many_seen : (t : Bool) (source : List ℕ) (seen : List KeptByte) (ix : ℕ) (rest : List ℕ) (y : Facts)
    (ks : List KeptByte) → Seen t source seen ix rest y → 999 < y.characters → is_label_content (seen ++ ks) ≡ false
many_seen t source seen ix rest y ks s many =
    too_many (seen ++ ks) (omega (arith, s.characters_are, characters-append seen ks, many))

pub many_with_ending : (t : Bool) (source : List ℕ) (seen : List KeptByte) (ix b : ℕ) (bs : List ℕ) (y : Facts)
    (ks : List KeptByte) → is_line_ending b ≡ true → 999 < y.characters + line_len (b ∷ bs)
    → Seen t source seen ix (b ∷ bs) y
    → is_label_content ((seen ++ kept_line ix (b ∷ bs)) ++ ks) ≡ false
many_with_ending t source seen ix b bs y ks ends many s =
    let front = kept_line ix (b ∷ bs) in
    too_many ((seen ++ front) ++ ks)
    (omega (
      arith,
      s.characters_are,
      (line_is ix b bs ends).counts,
      characters-append seen front,
      characters-append (seen ++ front) ks,
      many,
    ))

-- nor does a second line ending in a run
pub two_endings : (t : Bool) (source : List ℕ) (seen : List KeptByte) (ix b : ℕ) (bs : List ℕ) (y : Facts)
    (ks : List KeptByte) → is_line_ending b ≡ true → y.has_ending ≡ true → Seen t source seen ix (b ∷ bs) y
    → is_label_content ((seen ++ kept_line ix (b ∷ bs)) ++ ks) ≡ false
two_endings t source seen ix b bs y ks ends second s =
    let front = kept_line ix (b ∷ bs) in
    let broken = few-white_runs ((seen ++ front) ++ ks) ∙ ap (few false) (append_assoc seen front ks)
    ∙ s.few_left (front ++ ks) ∙ ap (λ v. few v (front ++ ks)) second ∙ few_at_ending ix b bs ks ends in
    λ i. (broken i && nat_le (characters ((seen ++ front) ++ ks)) 999)
    && not (list_all is_white ((seen ++ front) ++ ks))

-- at the closing bracket
module _ (t : Bool) (source : List ℕ) (seen : List KeptByte) (ix : ℕ) (bs : List ℕ) (y : Facts)
    (s : Seen t source seen ix (right_bracket ∷ bs) y) where
  spaced : lone false seen ≡ y.is_spaced
  spaced = ap (lone false) (sym (append-nil seen)) ∙ s.lone_left [] ∙ and-true y.is_spaced

  rewritten : (t && has_pipe_backslash seen) ≡ y.is_rewritten
  rewritten = ap (λ zs. t && has_pipe_backslash zs) (sym (append-nil seen)) ∙ s.drops_left [] refl
      ∙ ap (λ v. y.is_rewritten || v) (and-false t) ∙ or-false y.is_rewritten

  pub plain_of_seen : (y.is_spaced && not y.is_rewritten) ≡ is_plain t seen
  plain_of_seen = λ i. (sym spaced ∙ (lone_runs seen).0) i && not (sym rewritten i)

  pub length_of_seen : y.length ≡ length (joined_words (in_cell t seen))
  length_of_seen = sym s.length_is ∙ ap length (sym (all_written t seen ix bs y.has_word y.in_run s.pushed s.written))

  -- a plain label stands in the source as it is
  pub stands_in_source : is_plain t seen ≡ true
      → (source ≡ bytes_of seen ++ (right_bracket ∷ bs))
      × (joined_words (in_cell t seen) ≡ without_last_space (without_first_space (bytes_of seen)))
  stands_in_source h =
      let p = and_parts y.is_spaced (not y.is_rewritten) (plain_of_seen ∙ h) in
      let same : in_cell t seen ≡ seen = in_cell-same seen t (rewritten ∙ sym (not-not y.is_rewritten) ∙ ap not p.1) in (
        s.copied p.0,
        joined_words-from (in_cell t seen) ∙ ap (text_from false false) same ∙ lone_outer seen (spaced ∙ p.0),
      )
