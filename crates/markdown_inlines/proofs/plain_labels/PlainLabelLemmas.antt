-- Words with one space between, before a right bracket, are a label that stands there as it is.
use Rattle.std.proofs.Common.{◌≡◌, ◌≢◌, ◌+◌, ◌-◌, ◌<◌, ◌≤◌, ◌==◌, ℕ, zero, suc, true, false, List, [], ◌∷◌, take, drop, get_or, length}
use Rattle.std.proofs.Common.{refl, sym, ap, subst, arith, ◌∙◌}
use Rattle.std.proofs.lemmas.Bool.{ne_eqb}
use Rattle.std.proofs.lemmas.List.{get_or-drop, get_or-take, length-take-le}
use Rattle.markdown_scanners_tree.specs.Ascii.{right_bracket}
use Rattle.markdown_scanners_tree.specs.Bytes.{begins_with}
use Rattle.markdown_scanners_tree.specs.NoSkips.{SkipsNothing}
use Rattle.markdown_scanners_tree.specs.linklabel.Answer.{without_first_space, without_last_space}
use Rattle.markdown_scanners_tree.specs.linklabel.private.Run.{is_ordinary}
use Rattle.markdown_scanners_tree.specs.linklabel.private.Words.{AreWords, stays_escaped, none, byte, gap, escape}
use Rattle.markdown_scanners_tree.proofs.linklabel.WordSteps.{measured_words}
use Rattle.markdown_inlines.specs.PlainLabels.{IsPlainLabel, IsSpacedWord}

-- some more bytes of a word
pub words_on : (bytes : List ℕ) (n m : ℕ) → AreWords false bytes n → n + m ≤ length bytes
    → ((k : ℕ) → n ≤ k → k < n + m → is_ordinary (get_or bytes k 0) ≡ true) → AreWords false bytes (n + m)
words_on bytes n zero words within each = subst (AreWords false bytes) (omega arith) words
words_on bytes n (suc m) words within each =
    let before = words_on bytes n m words (omega (arith, within)) (λ k low high. each k low (omega (arith, high))) in
    subst (AreWords false bytes) (omega arith)
    (byte (n + m) before (omega (arith, within)) (each (n + m) (omega arith) (omega arith)))

-- a space and one more word
pub words_spaced : (bytes : List ℕ) (n len : ℕ) → AreWords false bytes n → 0 < n → n + len ≤ length bytes
    → IsSpacedWord (drop n bytes) len → AreWords false bytes (n + len)
words_spaced bytes n len words some within is =
    let at : (k : ℕ) → get_or (drop n bytes) k 0 ≡ get_or bytes (n + k) 0 = λ k. get_or-drop n bytes k 0 in
    let here : n + 0 ≡ n = omega arith in
    let two = is.some in
    let first : AreWords false bytes (n + 2) =
    gap n words some (omega (arith, within, two)) (ap (λ k. get_or bytes k 0) (sym here) ∙ sym (at 0) ∙ is.begins)
    (ap is_ordinary (sym (at 1)) ∙ is.word 1 (omega arith) (omega (arith, two))) in
    let long : n + 2 + (len - 2) ≡ n + len = omega (arith, two) in
    subst (AreWords false bytes) long
    (words_on bytes (n + 2) (len - 2) first (omega (arith, long, within)) (λ k low high.
    (let there : n + (k - n) ≡ k = omega (arith, low) in
    ap is_ordinary (ap (λ j. get_or bytes j 0) (sym there) ∙ sym (at (k - n)))
    ∙ is.word (k - n) (omega (arith, low)) (omega (arith, low, high, two)))))

not_space : (b : ℕ) → is_ordinary b ≡ true → b ≢ 32
not_space b word is = (let no : is_ordinary 32 ≡ true = ap is_ordinary (sym is) ∙ word in cc)

not_escaped : (b : ℕ) → stays_escaped false b ≡ true → b ≢ 32
not_escaped b stays is = (let no : stays_escaped false 32 ≡ true = ap (stays_escaped false) (sym is) ∙ stays in cc)

-- no space stands at the front of words, and none at their end
first_is_none : (bytes : List ℕ) (n : ℕ) → AreWords false bytes n → 0 < n → get_or bytes 0 0 ≢ 32
first_is_none bytes n none some = absurd (omega (arith, some))
first_is_none bytes n (byte zero before inside word) some = not_space (get_or bytes 0 0) word
first_is_none bytes n (byte (suc m) before inside word) some = first_is_none bytes (suc m) before (omega arith)
first_is_none bytes n (gap m before more fits space word) some = first_is_none bytes m before more
first_is_none bytes n (escape zero before fits slash stays) some = λ is. omega (arith, is, slash)
first_is_none bytes n (escape (suc m) before fits slash stays) some = first_is_none bytes (suc m) before (omega arith)

last_is_none : (bytes : List ℕ) (n : ℕ) → AreWords false bytes n → 0 < n → get_or bytes (n - 1) 0 ≢ 32
last_is_none bytes n none some = absurd (omega (arith, some))
last_is_none bytes n (byte m before inside word) some =
    let at : m + 1 - 1 ≡ m = omega arith in
    λ is. not_space (get_or bytes m 0) word (ap (λ k. get_or bytes k 0) (sym at) ∙ is)
last_is_none bytes n (gap m before more fits space word) some =
    let at : m + 2 - 1 ≡ m + 1 = omega arith in
    λ is. not_space (get_or bytes (m + 1) 0) word (ap (λ k. get_or bytes k 0) (sym at) ∙ is)
last_is_none bytes n (escape m before fits slash stays) some =
    let at : m + 2 - 1 ≡ m + 1 = omega arith in
    λ is. not_escaped (get_or bytes (m + 1) 0) stays (ap (λ k. get_or bytes k 0) (sym at) ∙ is)

-- so none is left out
first_stays : (xs : List ℕ) → get_or xs 0 0 ≢ 32 → without_first_space xs ≡ xs
first_stays [] other = refl
first_stays (b ∷ bs) other = rw (ne_eqb b 32 other) refl

last_stays : (xs : List ℕ) → get_or xs (length xs - 1) 0 ≢ 32 → without_last_space xs ≡ xs
last_stays [] other = refl
last_stays (b ∷ []) other = rw (ne_eqb b 32 other) refl
last_stays (b ∷ c ∷ bs) other =
    let at : suc (suc (length bs)) - 1 ≡ suc (suc (length bs) - 1) = omega arith in
    ap (λ t. b ∷ t) (last_stays (c ∷ bs) (λ is. other (ap (λ k. get_or (b ∷ c ∷ bs) k 0) at ∙ is)))

pub plain_label : (bytes : List ℕ) (n : ℕ) → AreWords false bytes n → 0 < n → n ≤ 999
    → begins_with (λ b. b == right_bracket) (drop n bytes) ≡ true
    → IsPlainLabel bytes n × (n < length bytes) × (get_or bytes n 0 ≡ right_bracket)
plain_label bytes n words some few closes =
    let m = measured_words SkipsNothing false bytes n words some few closes in
    let long : length (take n bytes) ≡ n = length-take-le n bytes (omega (arith, m.inside)) in
    let last : get_or (take n bytes) (length (take n bytes) - 1) 0 ≡ get_or bytes (n - 1) 0 =
    ap (λ k. get_or (take n bytes) (k - 1) 0) long ∙ get_or-take n bytes (n - 1) 0 (omega (arith, some)) in
    let kept : without_first_space (take n bytes) ≡ take n bytes =
    first_stays (take n bytes) (λ is. first_is_none bytes n words some (sym (get_or-take n bytes 0 0 some) ∙ is)) in (
      record {
        label = m.label;
        is_label = m.is_label;
        closed = sym m.len_is;
        text = m.stands (sym m.plain_is) ∙ ap without_last_space kept
            ∙ last_stays (take n bytes) (λ is. last_is_none bytes n words some (sym last ∙ is));
      },
      m.inside,
      m.closes,
    )
