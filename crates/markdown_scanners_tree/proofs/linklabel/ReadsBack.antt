-- A label that was read out of a table and does not end in a backslash is the label of itself.
use Rattle.std.proofs.Common.{ℕ, suc, Bool, true, false, ◌||◌, ◌&&◌, ◌==◌, not, nat_le, List, [], ◌∷◌, ◌++◌, ◌≡◌, ◌≤◌, ◌+◌, Option, Some}
use Rattle.std.proofs.Common.{None, refl, sym, ◌∙◌, ap, subst, cond, arith, length, true≢false, eqb-true, add-zero, if◌then◌else◌}
use Rattle.std.proofs.Math.Bool.{and-false, not-not}
use Rattle.std.proofs.lemmas.Bool.{and_parts}
use Rattle.std.proofs.lemmas.Bool.Decides.{nat_tests}
use Rattle.std.proofs.lemmas.List.Sums.{sum_by-cons}
use Rattle.std.specs.List.{list_all}
use Rattle.markdown_scanners_tree.specs.Bytes.{is_line_ending, is_white_space, is_punctuation}
use Rattle.markdown_scanners_tree.specs.Kept.{KeptByte, in_line, bytes_of, kept_head, kept_text}
use Rattle.markdown_scanners_tree.specs.linklabel.Label.{Label, IsLabel, kept_units, Bracketed, preceded, bracketed, is_white, white_runs, characters}
use Rattle.markdown_scanners_tree.specs.linklabel.Label.{is_one_space}
use Rattle.markdown_scanners_tree.specs.linklabel.Label.{is_label_content, joined_words, label_between, label_of, ends_in_backslash, ReadsBack}
use Rattle.markdown_scanners_tree.specs.linklabel.private.Pass.{begun, space_len}
use Rattle.markdown_scanners_tree.proofs.linklabel.WhiteRuns.{few, few-white_runs, lone, lone_runs}
use Rattle.markdown_scanners_tree.proofs.linklabel.SourceSteps.{dark_no_ending}
use Rattle.markdown_scanners_tree.proofs.linklabel.SeenBytes.{white_begins}
use Rattle.markdown_scanners_tree.proofs.linklabel.KeptTextSteps.{punctuation_next}
use Rattle.markdown_scanners_tree.proofs.linklabel.JoinedWords.{text_from, joined_words-from}

-- no bracket stands single, where the first byte is or is not escaped
abbrev clean : Bool → List ℕ → Bool
clean e [] = true
clean e (b ∷ bs) =
    if e && is_punctuation b then clean false bs else if b == 92 then clean true bs else not (b == 93 || b == 91)
    && clean false bs

-- the same after the first byte
clean_step : (e : Bool) (b : ℕ) (xs ys : List ℕ) → ((v : Bool) → clean v xs ≡ true → clean v ys ≡ true)
    → clean e (b ∷ xs) ≡ true → clean e (b ∷ ys) ≡ true
clean_step e b xs ys f h = by (e && is_punctuation b) (b == 92) (not (b == 93 || b == 91)) h
  where
    by : (x y z : Bool) → cond x (clean false xs) (cond y (clean true xs) (z && clean false xs)) ≡ true
        → cond x (clean false ys) (cond y (clean true ys) (z && clean false ys)) ≡ true
    by true y z h = f false h
    by false true z h = f true h
    by false false true h = f false h
    by false false false h = h

-- a byte that is no punctuation is read as if nothing were before it
clean_dark : (b : ℕ) (bs : List ℕ) → is_punctuation b ≡ false → (e : Bool) → clean e (b ∷ bs) ≡ clean false (b ∷ bs)
clean_dark b bs h e =
    ap (λ v. cond v (clean false bs) (cond (b == 92) (clean true bs) (not (b == 93 || b == 91) && clean false bs)))
    (ap (λ v. e && v) h ∙ and-false e)

clean_white : (b : ℕ) (bs : List ℕ) → is_white_space b ≡ true → (e : Bool) → clean e (b ∷ bs) ≡ clean false bs
clean_white b bs w e =
    let p : is_punctuation b ≡ false = grind (arith, nat_tests, w) in
    let s : (b == 92) ≡ false = grind (arith, nat_tests, w) in
    let c : (b == 93 || b == 91) ≡ false = grind (arith, nat_tests, w) in
    clean_dark b bs p e ∙ (λ i. cond (s i) (clean true bs) (not (c i) && clean false bs))

-- what stands before the bracket is clean
abbrev clean_of : Bool → Option Bracketed → Bool
clean_of e None = true
clean_of e (Some b) = clean e (bytes_of b.content)

clean_single : (e : Bool) (k : KeptByte) (b : Option Bracketed) → (k.byte == 93) ≡ false → (k.byte == 91) ≡ false
    → clean_of false b ≡ true → (k.byte == 92 ≡ true → clean_of true b ≡ true) → (e && is_punctuation k.byte) ≡ false
    → clean_of e (preceded (k ∷ []) b) ≡ true
clean_single e k None c o h f p = refl
clean_single e k (Some b) c o h f p = by (k.byte == 92) f
  where
    by : (v : Bool) → (v ≡ true → clean true (bytes_of b.content) ≡ true)
        → cond (e && is_punctuation k.byte) (clean false (bytes_of b.content))
        (cond v (clean true (bytes_of b.content))
        (not (k.byte == 93 || k.byte == 91) && clean false (bytes_of b.content))) ≡ true
    by true f = rw p (f refl)
    by false f = rw (p, c, o) h

clean_escaped : (k l : KeptByte) (b : Option Bracketed) → k.byte ≡ 92 → is_punctuation l.byte ≡ true
    → clean_of false b ≡ true → clean_of false (preceded (k ∷ l ∷ []) b) ≡ true
clean_escaped k l None e p h = refl
clean_escaped k l (Some b) e p h = rw (e, p) h

clean_units : (ks : List KeptByte)
    → (clean_of false (bracketed (kept_units ks)) ≡ true)
    × (punctuation_next ks ≡ false → clean_of true (bracketed (kept_units ks)) ≡ true)
clean_units [] = (refl, λ h. refl)
clean_units (k ∷ []) = one (k.byte == 93) (k.byte == 91) refl refl
  where
    one : (x y : Bool) → (k.byte == 93) ≡ x → (k.byte == 91) ≡ y
        → (clean_of false (cond x (Some (record { content = []; close = k.offset }))
        (cond y None (preceded (k ∷ []) None))) ≡ true)
        × (is_punctuation k.byte ≡ false
        → clean_of true (cond x (Some (record { content = []; close = k.offset }))
        (cond y None (preceded (k ∷ []) None))) ≡ true)
    one true y e f = (refl, λ h. refl)
    one false true e f = (refl, λ h. refl)
    one false false e f = (refl, λ h. refl)
clean_units (k ∷ l ∷ ks) = by (k.byte == 92 && is_punctuation l.byte) refl (clean_units ks).0 (clean_units (l ∷ ks))
  where
    one : (b : Option Bracketed) → clean_of false b ≡ true → ((k.byte == 92) ≡ true → clean_of true b ≡ true)
        → (x y : Bool) → (k.byte == 93) ≡ x → (k.byte == 91) ≡ y
        → (clean_of false (cond x (Some (record { content = []; close = k.offset })) (cond y None (preceded (k ∷ []) b)))
        ≡ true) × (is_punctuation k.byte ≡ false
        → clean_of true (cond x (Some (record { content = []; close = k.offset })) (cond y None (preceded (k ∷ []) b)))
        ≡ true)
    one b h f true y c o = (refl, λ h. refl)
    one b h f false true c o = (refl, λ h. refl)
    one b h f false false c o = (clean_single false k b c o h f refl, λ p. clean_single true k b c o h f p)

    by : (v : Bool) → (k.byte == 92 && is_punctuation l.byte) ≡ v → clean_of false (bracketed (kept_units ks)) ≡ true
        → (clean_of false (bracketed (kept_units (l ∷ ks))) ≡ true)
        × (is_punctuation l.byte ≡ false → clean_of true (bracketed (kept_units (l ∷ ks))) ≡ true)
        → (clean_of false (bracketed (cond v ((k ∷ l ∷ []) ∷ kept_units ks) ((k ∷ []) ∷ kept_units (l ∷ ks)))) ≡ true)
        × (is_punctuation k.byte ≡ false
        → clean_of true (bracketed (cond v ((k ∷ l ∷ []) ∷ kept_units ks) ((k ∷ []) ∷ kept_units (l ∷ ks)))) ≡ true)
    by true e h g =
        let backslash : k.byte ≡ 92 = eqb-true k.byte 92 (and_parts (k.byte == 92) _ e).0 in (
          clean_escaped k l (bracketed (kept_units ks)) backslash (and_parts (k.byte == 92) _ e).1 h,
          λ p. absurd (true≢false (sym (ap is_punctuation backslash) ∙ p)),
        )
    by false e h g =
        one (bracketed (kept_units (l ∷ ks))) g.0 (λ s. g.1 (ap (λ v. v && is_punctuation l.byte) (sym s) ∙ e))
        (k.byte == 93) (k.byte == 91) refl refl

-- and so is the text that it makes: before a word, in one, and after one
abbrev CleanText : List KeptByte → Type 0
CleanText ks =
    ((r : Bool) → clean false (bytes_of ks) ≡ true → clean false (text_from false r ks) ≡ true)
    × ((e : Bool) → clean e (bytes_of ks) ≡ true → clean e (text_from true false ks) ≡ true)
    × ((e : Bool) → clean false (bytes_of ks) ≡ true → clean e (text_from true true ks) ≡ true)

clean_text : (ks : List KeptByte) → CleanText ks
clean_text [] = (λ r h. refl, λ e h. refl, λ e h. refl)
clean_text (k ∷ ks) = by (clean_text ks) (is_white k) refl
  where
    by : CleanText ks → (v : Bool) → is_white k ≡ v
        → ((r : Bool) → clean false (k.byte ∷ bytes_of ks) ≡ true
        → clean false (cond v (text_from false true ks) (k.byte ∷ text_from true false ks)) ≡ true)
        × ((e : Bool) → clean e (k.byte ∷ bytes_of ks) ≡ true
        → clean e (cond v (text_from true true ks) (k.byte ∷ text_from true false ks)) ≡ true)
        × ((e : Bool) → clean false (k.byte ∷ bytes_of ks) ≡ true
        → clean e (cond v (text_from true true ks) (32 ∷ k.byte ∷ text_from true false ks)) ≡ true)
    by t true w = (
      λ r h. t.0 true (sym (clean_white k.byte (bytes_of ks) w false) ∙ h),
      λ e h. t.2 e (sym (clean_white k.byte (bytes_of ks) w e) ∙ h),
      λ e h. t.2 e (sym (clean_white k.byte (bytes_of ks) w false) ∙ h),
    )
    by t false w = (
      λ r h. clean_step false k.byte (bytes_of ks) (text_from true false ks) t.1 h,
      λ e h. clean_step e k.byte (bytes_of ks) (text_from true false ks) t.1 h,
      λ e h. clean_white 32 (k.byte ∷ text_from true false ks) refl e
          ∙ clean_step false k.byte (bytes_of ks) (text_from true false ks) t.1 h,
    )

-- a text in one line
abbrev placed : ℕ → List ℕ → List KeptByte
placed p [] = []
placed p (b ∷ bs) = in_line b p ∷ placed (p + 1) bs

ends_later : (c : ℕ) (bs : List ℕ) → ends_in_backslash (c ∷ bs) ≡ false → ends_in_backslash bs ≡ false
ends_later c [] h = refl
ends_later c (b ∷ bs) h = h

-- a clean text that ends in no backslash stands whole before the bracket
module _ (end : KeptByte) (bracket : end.byte ≡ 93) where
  at_end : bracketed (kept_units (end ∷ [])) ≡ Some (record { content = []; close = end.offset })
  at_end = rw bracket refl

  whole_single : (k : KeptByte) (ps : List (List KeptByte)) (content : List KeptByte) → (k.byte == 93) ≡ false
      → (k.byte == 91) ≡ false → bracketed ps ≡ Some (record { content = content; close = end.offset })
      → bracketed ((k ∷ []) ∷ ps) ≡ Some (record { content = k ∷ content; close = end.offset })
  whole_single k ps content c o h = rw (c, o) (ap (preceded (k ∷ [])) h)

  no_brackets : (b : ℕ) (bs : List ℕ) → clean false (b ∷ bs) ≡ true → ((b == 93) ≡ false) × ((b == 91) ≡ false)
  no_brackets b bs h = by (b == 92) (eqb-true b 92) h
    where
      by : (v : Bool) → (v ≡ true → b ≡ 92) → cond v (clean true bs) (not (b == 93 || b == 91) && clean false bs) ≡ true
          → ((b == 93) ≡ false) × ((b == 91) ≡ false)
      by true f h = rw (f refl) (refl, refl)
      by false f h = (
        let n = (and_parts (not (b == 93 || b == 91)) _ h).0 in
            grind (arith, nat_tests, n),
        let n = (and_parts (not (b == 93 || b == 91)) _ h).0 in
            grind (arith, nat_tests, n),
      )

  -- past a byte before which nothing is escaped, and which escapes nothing
  past_single : (b c : ℕ) (bs : List ℕ) → (b == 92 && is_punctuation c) ≡ false → clean false (b ∷ c ∷ bs) ≡ true
      → clean false (c ∷ bs) ≡ true
  past_single b c bs e h = by (b == 92) e h
    where
      by : (v : Bool) → (v && is_punctuation c) ≡ false
          → cond v (clean true (c ∷ bs)) (not (b == 93 || b == 91) && clean false (c ∷ bs)) ≡ true
          → clean false (c ∷ bs) ≡ true
      by true e h = sym (clean_dark c bs e true) ∙ h
      by false e h = (and_parts (not (b == 93 || b == 91)) _ h).1

  whole : (p : ℕ) (text : List ℕ) → clean false text ≡ true → ends_in_backslash text ≡ false
      → bracketed (kept_units (placed p text ++ end ∷ []))
      ≡ Some (record { content = placed p text; close = end.offset })
  whole p [] h e = at_end
  whole p (b ∷ []) h e =
      (let n = no_brackets b [] h in rw e (whole_single (in_line b p) (kept_units (end ∷ [])) [] n.0 n.1 at_end))
  whole p (b ∷ c ∷ bs) h e =
      by (b == 92 && is_punctuation c) refl (λ x. whole (p + 1 + 1) bs x (ends_later c bs e))
      (λ x. whole (p + 1) (c ∷ bs) x e)
    where
      by : (v : Bool) → (b == 92 && is_punctuation c) ≡ v
          → (clean false bs ≡ true
          → bracketed (kept_units (placed (p + 1 + 1) bs ++ end ∷ []))
          ≡ Some (record { content = placed (p + 1 + 1) bs; close = end.offset }))
          → (clean false (c ∷ bs) ≡ true
          → bracketed (kept_units (placed (p + 1) (c ∷ bs) ++ end ∷ []))
          ≡ Some (record { content = placed (p + 1) (c ∷ bs); close = end.offset }))
          → bracketed (cond v ((in_line b p ∷ in_line c (p + 1) ∷ []) ∷ kept_units (placed (p + 1 + 1) bs ++ end ∷ []))
          ((in_line b p ∷ []) ∷ kept_units (placed (p + 1) (c ∷ bs) ++ end ∷ [])))
          ≡ Some (record { content = placed p (b ∷ c ∷ bs); close = end.offset })
      by true x f g =
          let parts = and_parts (b == 92) (is_punctuation c) x in
          ap (preceded (in_line b p ∷ in_line c (p + 1) ∷ []))
          (f (sym (λ i. cond (parts.0 i)
          (cond (parts.1 i) (clean false bs)
          (cond (c == 92) (clean true bs) (not (c == 93 || c == 91) && clean false bs)))
          (not (b == 93 || b == 91) && clean false (c ∷ bs))) ∙ h))
      by false x f g =
          (let n = no_brackets b (c ∷ bs) h in
          whole_single (in_line b p) (kept_units (placed (p + 1) (c ∷ bs) ++ end ∷ [])) (placed (p + 1) (c ∷ bs)) n.0
          n.1 (g (past_single b c bs x h)))

-- the text read again, from each state in which it was written
record IsAgain (w r : Bool) (ks : List KeptByte) (p : ℕ) : Type 0 where
  pub text : text_from w false (placed p (text_from w r ks)) ≡ text_from w r ks
  pub lone_again : lone false (placed p (text_from w r ks)) ≡ true
  pub few_again : few false (placed p (text_from w r ks)) ≡ true
  pub white_again : list_all is_white (placed p (text_from w r ks)) ≡ list_all is_white ks
  pub counts : characters (placed p (text_from w r ks)) ≤ characters ks + space_len w r
  pub in_line_again : list_all (λ b. not (is_line_ending b)) (text_from w r ks) ≡ true

characters-cons : (k : KeptByte) (ks : List KeptByte) → characters (k ∷ ks) ≡ begun k.byte + characters ks
characters-cons k ks = sum_by-cons (λ l. begun l.byte) k ks

space_at_most : (w r : Bool) → space_len w r ≤ 1
space_at_most w r = elim (w && r) as (λ v. cond v 1 0 ≤ 1) [ true ↦ omega arith | false ↦ omega arith ]

-- a word's byte, written alone or after a space
again_alone : (w : Bool) (k : KeptByte) (ks : List KeptByte) (p : ℕ) → is_white k ≡ false
    → ((q : ℕ) → IsAgain true false ks q)
    → (r : Bool) → text_from w r (k ∷ ks) ≡ k.byte ∷ text_from true false ks → IsAgain w r (k ∷ ks) p
again_alone w k ks p d more r e =
    let m = more (p + 1) in record {
      text = subst (λ z. text_from w false (placed p z) ≡ z) (sym e)
          (rw (d, and-false w) (ap (λ z. k.byte ∷ z) m.text));
      lone_again = subst (λ z. lone false (placed p z) ≡ true) (sym e) (rw d m.lone_again);
      few_again = subst (λ z. few false (placed p z) ≡ true) (sym e) (rw d m.few_again);
      white_again = subst (λ z. list_all is_white (placed p z) ≡ list_all is_white (k ∷ ks)) (sym e) (rw d refl);
      counts =
          subst (λ z. characters (placed p z) ≤ characters (k ∷ ks) + space_len w r) (sym e)
          (omega (
            arith,
            characters-cons (in_line k.byte p) (placed (p + 1) (text_from true false ks)),
            characters-cons k ks,
            m.counts,
          ));
      in_line_again =
          subst (λ z. list_all (λ b. not (is_line_ending b)) z ≡ true) (sym e)
          (rw (dark_no_ending k.byte d) m.in_line_again);
    }

again_spaced : (k : KeptByte) (ks : List KeptByte) (p : ℕ) → is_white k ≡ false → ((q : ℕ) → IsAgain true false ks q)
    → IsAgain true true (k ∷ ks) p
again_spaced k ks p d more =
    let m = more (p + 1 + 1) in
    let e : text_from true true (k ∷ ks) ≡ 32 ∷ k.byte ∷ text_from true false ks = rw d refl in record {
      text = subst (λ z. text_from true false (placed p z) ≡ z) (sym e) (rw d (ap (λ z. 32 ∷ k.byte ∷ z) m.text));
      lone_again = subst (λ z. lone false (placed p z) ≡ true) (sym e) (rw d m.lone_again);
      few_again = subst (λ z. few false (placed p z) ≡ true) (sym e) (rw d m.few_again);
      white_again = subst (λ z. list_all is_white (placed p z) ≡ list_all is_white (k ∷ ks)) (sym e) (rw d refl);
      counts = subst (λ z. characters (placed p z) ≤ characters (k ∷ ks) + 1) (sym e)
          (omega (
            arith,
            characters-cons (in_line 32 p) (in_line k.byte (p + 1) ∷ placed (p + 1 + 1) (text_from true false ks)),
            characters-cons (in_line k.byte (p + 1)) (placed (p + 1 + 1) (text_from true false ks)),
            characters-cons k ks,
            m.counts,
          ));
      in_line_again =
          subst (λ z. list_all (λ b. not (is_line_ending b)) z ≡ true) (sym e)
          (rw (dark_no_ending k.byte d) m.in_line_again);
    }

again : (ks : List KeptByte) (w r : Bool) (p : ℕ) → IsAgain w r ks p
again [] w r p = record {
  text = refl;
  lone_again = refl;
  few_again = refl;
  white_again = refl;
  counts = omega arith;
  in_line_again = refl;
}
again (k ∷ ks) w r p = by (is_white k) refl (λ x y q. again ks x y q)
  where
    word : (w r : Bool) → is_white k ≡ false → ((q : ℕ) → IsAgain true false ks q) → IsAgain w r (k ∷ ks) p
    word true true h more = again_spaced k ks p h more
    word true false h more = again_alone true k ks p h more false (rw h refl)
    word false r h more = again_alone false k ks p h more r (rw h refl)

    by : (v : Bool) → is_white k ≡ v → ((x y : Bool) (q : ℕ) → IsAgain x y ks q) → IsAgain w r (k ∷ ks) p
    by true h more =
        let m = more w true p in
        let e : text_from w r (k ∷ ks) ≡ text_from w true ks = rw h refl in
        let one = white_begins k.byte h in
        let space = space_at_most w true in record {
          text = subst (λ z. text_from w false (placed p z) ≡ z) (sym e) m.text;
          lone_again = subst (λ z. lone false (placed p z) ≡ true) (sym e) m.lone_again;
          few_again = subst (λ z. few false (placed p z) ≡ true) (sym e) m.few_again;
          white_again =
              subst (λ z. list_all is_white (placed p z) ≡ list_all is_white (k ∷ ks)) (sym e)
              (m.white_again ∙ rw h refl);
          counts =
              subst (λ z. characters (placed p z) ≤ characters (k ∷ ks) + space_len w r) (sym e)
              (omega (arith, characters-cons k ks, m.counts));
          in_line_again = subst (λ z. list_all (λ b. not (is_line_ending b)) z ≡ true) (sym e) m.in_line_again;
        }
    by false h more = word w r h (more true false)

-- a text in one line is kept whole
kept_whole : (p : ℕ) (text : List ℕ) → list_all (λ b. not (is_line_ending b)) text ≡ true
    → kept_head p (text ++ 93 ∷ []) ≡ placed p text ++ in_line 93 (p + length text) ∷ []
kept_whole p [] h = ap (λ n. in_line 93 n ∷ []) (sym (add-zero p))
kept_whole p (b ∷ bs) h =
    let parts = and_parts (not (is_line_ending b)) _ h in
    let n : p + 1 + length bs ≡ p + suc (length bs) = omega arith in
    rw (sym (not-not (is_line_ending b)) ∙ ap not parts.0)
    (ap (λ z. in_line b p ∷ z) (kept_whole (p + 1) bs parts.1 ∙ ap (λ m. placed (p + 1) bs ++ in_line 93 m ∷ []) n))

-- the label of a content, read again
module _ (ks : List KeptByte) (content : is_label_content ks ≡ true) where
  again_content : is_label_content (placed 0 (joined_words ks)) ≡ true
  again_content =
      let m = again ks false false 0 in
      let first = and_parts _ (not (list_all is_white ks)) content in
      let few_left = and_parts _ (nat_le (characters ks) 999) first.0 in
      let bound : nat_le (characters (placed 0 (text_from false false ks))) 999 ≡ true =
      (let c = m.counts in let d = few_left.1 in grind (arith, nat_tests, c, d)) in
      subst (λ z. is_label_content (placed 0 z) ≡ true) (sym (joined_words-from ks))
      (λ i. ((few-white_runs (placed 0 (text_from false false ks)) ∙ m.few_again) i && bound i)
      && (ap not m.white_again ∙ first.1) i)

  again_text : joined_words (placed 0 (joined_words ks)) ≡ joined_words ks
  again_text = joined_words-from (placed 0 (joined_words ks))
      ∙ subst (λ z. text_from false false (placed 0 z) ≡ z) (sym (joined_words-from ks)) (again ks false false 0).text

  again_plain : list_all is_one_space (white_runs (placed 0 (joined_words ks))) ≡ true
  again_plain = sym (lone_runs (placed 0 (joined_words ks))).0
      ∙ subst (λ z. lone false (placed 0 z) ≡ true) (sym (joined_words-from ks)) (again ks false false 0).lone_again

  again_kept : kept_head 0 (joined_words ks ++ 93 ∷ [])
      ≡ placed 0 (joined_words ks) ++ in_line 93 (0 + length (joined_words ks)) ∷ []
  again_kept =
      kept_whole 0 (joined_words ks)
      (subst (λ z. list_all (λ b. not (is_line_ending b)) z ≡ true) (sym (joined_words-from ks))
      (again ks false false 0).in_line_again)

  content_reads_back : clean false (bytes_of ks) ≡ true → ends_in_backslash (joined_words ks) ≡ false
      → ReadsBack (joined_words ks)
  content_reads_back h e =
      let text = joined_words ks in
      let cleaned : clean false text ≡ true =
      subst (λ z. clean false z ≡ true) (sym (joined_words-from ks)) ((clean_text ks).0 false h) in
      let n : 0 + length text + 1 ≡ length text + 1 = omega arith in record {
        skips = [];
        answered = tt;
        label_is = ap (λ z. label_between false (bracketed (kept_units z))) again_kept
            ∙ ap (label_between false) (whole (in_line 93 (0 + length text)) refl 0 text cleaned e)
            ∙ rw again_content (λ i. Some (record { len = n i; text = again_text i; plain = again_plain i && true }));
      }

-- the label of a kept text reads back
reads_back : (kept : List KeptByte) (label : Label) → label_of false kept ≡ Some label
    → ends_in_backslash label.text ≡ false → ReadsBack label.text
reads_back kept label h e = of (bracketed (kept_units kept)) (clean_units kept).0 h
  where
    made : (b : Bracketed) (v : Bool) → is_label_content b.content ≡ v → clean false (bytes_of b.content) ≡ true
        → cond v
        (Some (record
        { len = b.close + 1; text = joined_words b.content; plain = list_all is_one_space (white_runs b.content) && true }))
        None ≡ Some label → ReadsBack label.text
    made b true c k g =
        (let t : joined_words b.content ≡ label.text = cc in
        subst ReadsBack t (content_reads_back b.content c k (ap ends_in_backslash t ∙ e)))
    made b false c k g = cc

    of : (b : Option Bracketed) → clean_of false b ≡ true → label_between false b ≡ Some label → ReadsBack label.text
    of None k g = cc
    of (Some b) k g = made b (is_label_content b.content) refl k g

-- the label of a source, in the text that was answered
pub label_reads_back : (a : List ℕ → ℕ → Type 0) (source : List ℕ) (t : Bool) (label : Label) (text : List ℕ)
    → IsLabel a source t label → text ≡ label.text → t ≡ false → ends_in_backslash text ≡ false → ReadsBack text
label_reads_back a source t label text l e h k =
    subst ReadsBack (sym e)
    (reads_back (kept_text source l.skips) label
    (subst (λ v. label_of v (kept_text source l.skips) ≡ Some label) h l.label_is) (sym (ap ends_in_backslash e) ∙ k))
