-- The words of a content joined by one space are what is written of it from the left (`text_from`).
-- Where each run of white space is one space, that is the content without a space at its ends.
use Rattle.std.proofs.Common.{ℕ, Bool, true, false, ◌&&◌, ◌==◌, not, List, [], ◌∷◌, ◌++◌, ◌≡◌, refl, sym, ◌∙◌, ap, cond, map, append-nil, true≢false}
use Rattle.std.proofs.Common.{eqb-true, if◌then◌else◌}
use Rattle.std.proofs.lemmas.Bool.{and_parts}
use Rattle.std.specs.List.{join_with_byte}
use Rattle.markdown_scanners_tree.specs.Bytes.{begins_with, is_white_space}
use Rattle.markdown_scanners_tree.specs.Ascii.{space}
use Rattle.markdown_scanners_tree.specs.Kept.{KeptByte, bytes_of}
use Rattle.markdown_scanners_tree.specs.linklabel.Answer.{without_first_space, without_last_space}
use Rattle.markdown_scanners_tree.specs.linklabel.Label.{is_white, onto_runs, words, joined_words}
use Rattle.markdown_scanners_tree.proofs.linklabel.WhiteRuns.{lone}

-- what is still written: whether there was a word, and whether white space was read after it
abbrev pub text_from : Bool → Bool → List KeptByte → List ℕ
text_from has_word in_run [] = []
text_from has_word in_run (k ∷ ks) =
    if is_white k then text_from has_word true ks
    else if has_word && in_run then space ∷ k.byte ∷ text_from true false ks
    else k.byte ∷ text_from true false ks

abbrev is_word_byte : KeptByte → Bool
is_word_byte k = not (is_white k)

abbrev joined : List (List KeptByte) → List ℕ
joined runs = join_with_byte space (map bytes_of runs)

abbrev after_word : List (List KeptByte) → List ℕ
after_word [] = []
after_word (run ∷ runs) = space ∷ joined (run ∷ runs)

-- what follows a byte of a word: the rest of that word where a word's byte comes next, else a space
-- and the next word
abbrev joined_after : Bool → List (List KeptByte) → List ℕ
joined_after begins [] = []
joined_after begins (run ∷ runs) = cond begins (bytes_of run ++ after_word runs) (after_word (run ∷ runs))

joined-cons : (run : List KeptByte) (runs : List (List KeptByte))
    → joined (run ∷ runs) ≡ bytes_of run ++ after_word runs
joined-cons run [] = sym (append-nil (bytes_of run))
joined-cons run (r ∷ runs) = refl

onto_joined : (B : Bool) (k : KeptByte) (R : List (List KeptByte))
    → k.byte ∷ joined_after B R ≡ joined (onto_runs B k R)
onto_joined B k [] = refl
onto_joined true k (r ∷ R) = sym (joined-cons (k ∷ r) R)
onto_joined false k (r ∷ R) = refl

onto_open : (B : Bool) (k : KeptByte) (R : List (List KeptByte))
    → joined (onto_runs B k R) ≡ joined_after true (onto_runs B k R)
onto_open B k [] = refl
onto_open true k (r ∷ R) = joined-cons (k ∷ r) R
onto_open false k (r ∷ R) = refl

onto_after : (B : Bool) (k : KeptByte) (R : List (List KeptByte))
    → space ∷ joined (onto_runs B k R) ≡ after_word (onto_runs B k R)
onto_after B k [] = refl
onto_after true k (r ∷ R) = refl
onto_after false k (r ∷ R) = refl

closed : (R : List (List KeptByte)) → after_word R ≡ joined_after false R
closed [] = refl
closed (r ∷ R) = refl

written : (ks : List KeptByte)
    → (text_from false true ks ≡ joined (words ks))
    × (text_from true false ks ≡ joined_after (begins_with is_word_byte ks) (words ks))
    × (text_from true true ks ≡ after_word (words ks))
written [] = (refl, refl, refl)
written (k ∷ ks) =
    let rest = written ks in
    let B = begins_with is_word_byte ks in
    let front = ap (λ t. k.byte ∷ t) rest.1 ∙ onto_joined B k (words ks) in
    elim (is_white k) as
    (λ v. (cond v (text_from false true ks) (k.byte ∷ text_from true false ks)
    ≡ joined (cond (not v) (onto_runs B k (words ks)) (words ks)))
    × (cond v (text_from true true ks) (k.byte ∷ text_from true false ks)
    ≡ joined_after (not v) (cond (not v) (onto_runs B k (words ks)) (words ks)))
    × (cond v (text_from true true ks) (32 ∷ k.byte ∷ text_from true false ks)
    ≡ after_word (cond (not v) (onto_runs B k (words ks)) (words ks)))) [
      | true ↦ (rest.0, rest.2 ∙ closed (words ks), rest.2)
      | false ↦ (front, front ∙ onto_open B k (words ks), ap (λ t. 32 ∷ t) front ∙ onto_after B k (words ks))
    ]

text_from-start : (ks : List KeptByte) → text_from false false ks ≡ text_from false true ks
text_from-start [] = refl
text_from-start (k ∷ ks) = refl

pub joined_words-from : (ks : List KeptByte) → joined_words ks ≡ text_from false false ks
joined_words-from ks = sym (text_from-start ks ∙ (written ks).0)

-- Where each run of white space is one space, the text of a label is its content without a space at
-- the ends.

-- a byte that is no space stays
keeps : (b : ℕ) (bs : List ℕ) → (b == space) ≡ false → b ∷ without_last_space bs ≡ without_last_space (b ∷ bs)
keeps b [] h = sym (ap (λ v. cond v [] (b ∷ [])) h)
keeps b (c ∷ bs) h = refl

no_space : (b : ℕ) → is_white_space b ≡ false → (b == space) ≡ false
no_space b w = by (b == 32) (eqb-true b 32)
  where
    by : (x : Bool) → (x ≡ true → b ≡ 32) → x ≡ false
    by true f = absurd (true≢false (sym (ap is_white_space (f refl)) ∙ w))
    by false f = refl

-- after a word, and after a word and one space
abbrev LoneText : List KeptByte → Type 0
LoneText ks =
    (lone false ks ≡ true → text_from true false ks ≡ without_last_space (bytes_of ks))
    × (lone true ks ≡ true → text_from true true ks ≡ without_last_space (32 ∷ bytes_of ks))

lone_step : (k : KeptByte) (ks : List KeptByte) → LoneText ks → (v : Bool) → is_white k ≡ v
    → (cond v ((k.byte == 32 && true) && lone true ks) (lone false ks) ≡ true
    → cond v (text_from true true ks) (k.byte ∷ text_from true false ks) ≡ without_last_space (k.byte ∷ bytes_of ks))
    × (cond v ((k.byte == 32 && false) && lone true ks) (lone false ks) ≡ true
    → cond v (text_from true true ks) (32 ∷ k.byte ∷ text_from true false ks)
    ≡ without_last_space (32 ∷ k.byte ∷ bytes_of ks))
lone_step k ks rest true w = (
  λ h. rest.1 (and_parts _ _ h).1
      ∙ ap (λ b. without_last_space (b ∷ bytes_of ks))
      (sym (eqb-true k.byte 32
      (and_parts (k.byte == 32) true (and_parts (k.byte == 32 && true) (lone true ks) h).0).0)),
  λ h. absurd
      (true≢false (sym (and_parts (k.byte == 32) false (and_parts (k.byte == 32 && false) (lone true ks) h).0).1)),
)
lone_step k ks rest false w =
    let front : lone false ks ≡ true → k.byte ∷ text_from true false ks ≡ without_last_space (k.byte ∷ bytes_of ks) =
    λ h. ap (λ t. k.byte ∷ t) (rest.0 h) ∙ keeps k.byte (bytes_of ks) (no_space k.byte w) in
    (front, λ h. ap (λ t. 32 ∷ t) (front h))

lone_text : (ks : List KeptByte) → LoneText ks
lone_text [] = (λ h. refl, λ h. refl)
lone_text (k ∷ ks) = lone_step k ks (lone_text ks) (is_white k) refl

-- a word's byte first
lone_word : (k : KeptByte) (ks : List KeptByte) → is_white k ≡ false → lone false ks ≡ true
    → k.byte ∷ text_from true false ks ≡ without_last_space (without_first_space (k.byte ∷ bytes_of ks))
lone_word k ks w h = ap (λ t. k.byte ∷ t) ((lone_text ks).0 h) ∙ keeps k.byte (bytes_of ks) (no_space k.byte w)
    ∙ sym (ap (λ v. without_last_space (cond v (bytes_of ks) (k.byte ∷ bytes_of ks))) (no_space k.byte w))

-- after a space that nothing stands before
lone_inner : (ks : List KeptByte) → lone true ks ≡ true → text_from false true ks ≡ without_last_space (bytes_of ks)
lone_inner [] h = refl
lone_inner (k ∷ ks) h = by (is_white k) refl h
  where
    by : (v : Bool) → is_white k ≡ v → cond v ((k.byte == 32 && false) && lone true ks) (lone false ks) ≡ true
        → cond v (text_from false true ks) (k.byte ∷ text_from true false ks)
        ≡ without_last_space (k.byte ∷ bytes_of ks)
    by true w h =
        absurd (true≢false
        (sym (and_parts (k.byte == 32) false (and_parts (k.byte == 32 && false) (lone true ks) h).0).1))
    by false w h = ap (λ t. k.byte ∷ t) ((lone_text ks).0 h) ∙ keeps k.byte (bytes_of ks) (no_space k.byte w)

pub lone_outer : (ks : List KeptByte) → lone false ks ≡ true
    → text_from false false ks ≡ without_last_space (without_first_space (bytes_of ks))
lone_outer [] h = refl
lone_outer (k ∷ ks) h = by (is_white k) refl h
  where
    by : (v : Bool) → is_white k ≡ v → cond v ((k.byte == 32 && true) && lone true ks) (lone false ks) ≡ true
        → cond v (text_from false true ks) (k.byte ∷ text_from true false ks)
        ≡ without_last_space (without_first_space (k.byte ∷ bytes_of ks))
    by true w h =
        let parts = and_parts (k.byte == 32 && true) (lone true ks) h in
        lone_inner ks parts.1
        ∙ sym (ap (λ v. without_last_space (cond v (bytes_of ks) (k.byte ∷ bytes_of ks)))
        (and_parts (k.byte == 32) true parts.0).0)
    by false w h = lone_word k ks w h
