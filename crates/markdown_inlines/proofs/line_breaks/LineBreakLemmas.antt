-- What stands before a line ending, and how far a line break goes.
use Rattle.std.proofs.Common.{◌≡◌, ℕ, ◌+◌, ◌-◌, ◌≤◌, ◌<◌, Bool, true, false, ◌==◌, ◌||◌, cond, List, [], ◌∷◌, ◌++◌, length}
use Rattle.std.proofs.Common.{take, drop, get_or, nat_lt, refl, sym, ap, subst, ◌∙◌, arith, inl, inr, Some}
use Rattle.std.specs.Prelude.{nat_le}
use Rattle.std.specs.List.{prefix_len, list_all}
use Rattle.std.specs.Str.{IsUtf8, IsCharBoundary}
use Rattle.std.proofs.lemmas.Bool.{cases_Bool, eqb-true}
use Rattle.std.proofs.lemmas.Bool.Decides.{nat_tests}
use Rattle.std.proofs.lemmas.List.{length-take, length-drop, take-append-drop, drop-drop}
use Rattle.std.proofs.lemmas.List.Folds.{length-prefix_len}
use Rattle.markdown_scanners_tree.specs.Ascii.{backslash, space}
use Rattle.markdown_scanners_tree.specs.Bytes.{begins_with, is_space_or_tab, line_ending}
use Rattle.markdown_scanners_tree.proofs.ForCallers.{first-line_ending, offset_of_rest, cut_after_rest}
use Rattle.markdown_scanners_tree.proofs.HandlerLemmas.{cut_after_ascii, cut_after_front}
use Rattle.markdown_scanners_tree.proofs.PrefixLemmas.{both_true, from_offset, list_all-prefix, list_all-implies}
use Rattle.markdown_scanners_tree.proofs.RunLemmas.{prefix-only, list_all-replicate, replicate-all}
use Rattle.markdown_inlines.specs.LineBreaks.{IsBeforeEnding, IsLineBreak}
use Rattle.markdown_inlines.specs.declared.line_breaks.LineBreak.{LineBreak}

abbrev is_space : ℕ → Bool
is_space b = b == space

abbrev is_backslash : ℕ → Bool
is_backslash b = b == backslash

-- how many bytes at the front may stand before a line ending, and whether they make its break hard
abbrev pub before_length : List ℕ → ℕ
before_length text = cond (begins_with is_backslash text) 1 (prefix_len is_space text)

abbrev pub before_is_hard : List ℕ → Bool
before_is_hard text = begins_with is_backslash text || nat_le 2 (before_length text)

pub hard_given : (text : List ℕ) (n : ℕ) (is_hard : Bool) → is_hard ≡ (begins_with is_backslash text || nat_le 2 n)
    → n ≡ before_length text → is_hard ≡ before_is_hard text
hard_given text n is_hard given is = given ∙ ap (λ k. begins_with is_backslash text || nat_le 2 k) is

-- an offset in the rest of a text
pub rest_within : (bytes : List ℕ) (i k : ℕ) → i ≤ length bytes → k ≤ length (take (length bytes - i) (drop i bytes))
    → i + k ≤ length bytes
rest_within bytes i k within inside = omega (arith, inside, within, ap length (from_offset bytes i), length-drop i bytes)

-- spaces before a line ending are no backslash
not_escaped : (before after : List ℕ) (ending : ℕ) → list_all is_space before ≡ true → line_ending after ≡ Some ending
    → begins_with is_backslash (before ++ after) ≡ false
not_escaped [] after ending all ends = first-line_ending is_backslash refl refl after ending ends
not_escaped (b ∷ before) after ending all ends = other b (both_true (is_space b) (list_all is_space before) all).0
  where
    other : (b : ℕ) → is_space b ≡ true → is_backslash b ≡ false
    other b is = rw (eqb-true b 32 is) refl

-- They are all that can stand there,
pub before_only : (text before after : List ℕ) (ending : ℕ) (is_hard : Bool) → text ≡ before ++ after
    → IsBeforeEnding before is_hard → line_ending after ≡ Some ending
    → (length before ≡ before_length text) × (after ≡ drop (before_length text) text) × (is_hard ≡ before_is_hard text)
before_only text before after ending is_hard parts (inl escaped) ends =
    let whole : text ≡ 92 ∷ after = parts ∙ ap (λ b. b ++ after) escaped.0 in
    let one : before_length text ≡ 1 = ap before_length whole in (
      ap length escaped.0 ∙ sym one,
      sym (ap (λ k. drop k text) one ∙ ap (drop 1) whole),
      escaped.1 ∙ sym (ap before_is_hard whole),
    )
before_only text before after ending is_hard parts (inr spaced) ends =
    let all : list_all is_space before ≡ true =
    ap (list_all is_space) spaced.0 ∙ list_all-replicate is_space (length before) 32 refl in
    let plain : begins_with is_backslash text ≡ false =
    ap (begins_with is_backslash) parts ∙ not_escaped before after ending all ends in
    let only = prefix-only is_space refl refl text before after ending parts all ends in
    let counted : before_length text ≡ prefix_len is_space text = rw plain refl in (
      only.0 ∙ sym counted,
      only.1 ∙ ap (λ k. drop k text) (sym counted),
      spaced.1 ∙ ap (nat_le 2) (only.0 ∙ sym counted) ∙ ap (λ b. b || nat_le 2 (before_length text)) (sym plain),
    )

-- and they can.
pub before_there : (text : List ℕ) (n : ℕ) → n ≡ before_length text → IsBeforeEnding (take n text) (before_is_hard text)
before_there [] n is = inr (rw is (refl, refl))
before_there (b ∷ bs) n is = elim (cases_Bool (b == 92)) [
  | inl escaped ↦ (
      let one : n ≡ 1 = is ∙ rw escaped refl in
      inl (rw (one, eqb-true b 92 escaped) (refl, refl))
      )
  | inr plain ↦ (
      let counted : n ≡ prefix_len is_space (b ∷ bs) = is ∙ rw plain refl in
      let run : length (take n (b ∷ bs)) ≡ n =
      ap (λ k. length (take k (b ∷ bs))) counted ∙ length-prefix_len is_space (b ∷ bs) ∙ sym counted in
      let all : list_all is_space (take n (b ∷ bs)) ≡ true =
      ap (λ k. list_all is_space (take k (b ∷ bs))) counted ∙ list_all-prefix is_space (b ∷ bs) in
      let hard : before_is_hard (b ∷ bs) ≡ nat_le 2 n = ap (λ t. t || nat_le 2 (before_length (b ∷ bs))) plain ∙ ap (nat_le 2) (sym is) in
      inr (replicate-all 32 (take n (b ∷ bs)) all, hard ∙ ap (nat_le 2) (sym run))
      )
]

-- A break by what scans answer: n bytes, a line ending, and the spaces after it.
module _ (text : List ℕ) (n ending spaces : ℕ) (before : n ≡ before_length text) (within : n ≤ length text)
    (ends : Some ending ≡ line_ending (take (length text - n) (drop n text)))
    (run : spaces ≡ prefix_len is_space (take (length text - (n + ending)) (drop (n + ending) text))) where
  ends_there : line_ending (drop n text) ≡ Some ending
  ends_there = sym (ends ∙ ap line_ending (from_offset text n))

  run_there : prefix_len is_space (drop ending (drop n text)) ≡ spaces
  run_there =
      ap (prefix_len is_space) (drop-drop ending n text)
      ∙ sym (run ∙ ap (prefix_len is_space) (from_offset text (n + ending)))

  pub break_found : n + ending + spaces < length text
      → IsLineBreak text (record { is_hard = before_is_hard text; len = n + ending + spaces })
  break_found goes_on =
      let counted : length (take n text) ≡ n = omega (arith, length-take n text, within) in
      record {
        before = take n text;
        after = drop n text;
        ending = ending;
        parts = sym (take-append-drop n text);
        is_before = before_there text n before;
        ends = ends_there;
        counted = omega (arith, counted, run_there);
        goes_on = goes_on;
      }

  pub break_only : (break : LineBreak) → IsLineBreak text break
      → (break.len ≡ n + ending + spaces) × (break.is_hard ≡ before_is_hard text)
  break_only break is =
      let only = before_only text is.before is.after is.ending break.is_hard is.parts is.is_before is.ends in
      let here : is.after ≡ drop n text = only.1 ∙ ap (λ k. drop k text) (sym before) in
      let same : Some is.ending ≡ Some ending = sym is.ends ∙ ap line_ending here ∙ ends_there in
      let ending_is : is.ending ≡ ending = cc in
      let spaces_are : prefix_len is_space (drop is.ending is.after) ≡ spaces =
      ap (λ k. prefix_len is_space (drop k is.after)) ending_is ∙ ap (λ t. prefix_len is_space (drop ending t)) here ∙ run_there in
      (omega (arith, is.counted, only.0, before, ending_is, spaces_are), only.2)

-- A text may be cut after spaces,
space_ascii : (b : ℕ) → is_space b ≡ true → nat_lt b 128 ≡ true
space_ascii b is = grind (arith, nat_tests)

spaces_cut : (text : List ℕ) (n : ℕ) → n ≡ prefix_len is_space text → n ≤ length text → IsUtf8 text → IsCharBoundary text n
spaces_cut text n counted within utf8 =
    cut_after_front text n utf8 (
      within,
      list_all-implies is_space (λ b. nat_lt b 128) space_ascii (take n text)
          (ap (λ k. list_all is_space (take k text)) counted ∙ list_all-prefix is_space text),
    )

-- after what may stand before a line ending,
cut_before : (text : List ℕ) (n : ℕ) → n ≡ before_length text → n ≤ length text → IsUtf8 text → IsCharBoundary text n
cut_before [] n is within utf8 = spaces_cut [] n is within utf8
cut_before (b ∷ bs) n is within utf8 = elim (cases_Bool (b == 92)) [
  | inl escaped ↦ (
      let one : n ≡ 1 = is ∙ rw escaped refl in
      let byte : get_or (b ∷ bs) (n - 1) 0 ≡ 92 = ap (λ k. get_or (b ∷ bs) (k - 1) 0) one ∙ eqb-true b 92 escaped in
      cut_after_ascii (b ∷ bs) n utf8 within (omega (arith, one)) (omega (arith, byte))
      )
  | inr plain ↦ spaces_cut (b ∷ bs) n (is ∙ rw plain refl) within utf8
]

-- after that ending,
cut_ending : (rest : List ℕ) (ending : ℕ) → line_ending rest ≡ Some ending → IsUtf8 rest → IsCharBoundary rest ending
cut_ending rest ending ends utf8 =
    let none : 0 ≡ prefix_len is_space_or_tab rest =
    no_spaces rest (first-line_ending is_space_or_tab refl refl rest ending ends) in
    subst (IsCharBoundary rest) (omega arith)
    (cut_after_rest rest 0 ending none (sym (ap line_ending (from_offset rest 0) ∙ ends)) utf8)
  where
    no_spaces : (rest : List ℕ) → begins_with is_space_or_tab rest ≡ false → 0 ≡ prefix_len is_space_or_tab rest
    no_spaces [] none = refl
    no_spaces (b ∷ bs) none = rw none refl

-- and after the break.
pub cut_after_break : (text : List ℕ) (n ending spaces : ℕ) → n ≡ before_length text → n ≤ length text
    → Some ending ≡ line_ending (take (length text - n) (drop n text)) → n + ending ≤ length text
    → spaces ≡ prefix_len is_space (take (length text - (n + ending)) (drop (n + ending) text))
    → n + ending + spaces ≤ length text → IsUtf8 text → IsCharBoundary text (n + ending + spaces)
cut_after_break text n ending spaces before within ends ends_within run run_within utf8 =
    let first : IsCharBoundary text n = cut_before text n before within utf8 in
    let second : IsCharBoundary text (n + ending) =
    offset_of_rest _ text n ending (from_offset text n) utf8 (λ _. first)
    (cut_ending (take (length text - n) (drop n text)) ending (sym ends)) in
    offset_of_rest _ text (n + ending) spaces (from_offset text (n + ending)) utf8 (λ _. second)
    (spaces_cut (take (length text - (n + ending)) (drop (n + ending) text)) spaces run
    (omega (arith, run_within, ap length (from_offset text (n + ending)), length-drop (n + ending) text)))

same_break : {hard hard' : Bool} {len len' : ℕ} → hard ≡ hard' → len ≡ len'
    → ◌≡◌ {A = LineBreak} (record { is_hard = hard; len = len }) (record { is_hard = hard'; len = len' })
same_break hard len = λ i. record { is_hard = hard i; len = len i }

-- A text begins with one line break.
pub one_line_break : (text : List ℕ) (a b : LineBreak) → IsLineBreak text a → IsLineBreak text b → a ≡ b
one_line_break text a b is_a is_b =
    let one = before_only text is_a.before is_a.after is_a.ending a.is_hard is_a.parts is_a.is_before is_a.ends in
    let other = before_only text is_b.before is_b.after is_b.ending b.is_hard is_b.parts is_b.is_before is_b.ends in
    let after : is_a.after ≡ is_b.after = one.1 ∙ sym other.1 in
    let same : Some is_a.ending ≡ Some is_b.ending = sym is_a.ends ∙ ap line_ending after ∙ is_b.ends in
    let ending : is_a.ending ≡ is_b.ending = cc in
    let spaces : prefix_len is_space (drop is_a.ending is_a.after) ≡ prefix_len is_space (drop is_b.ending is_b.after) =
    ap (λ k. prefix_len is_space (drop k is_a.after)) ending ∙ ap (λ t. prefix_len is_space (drop is_b.ending t)) after in
    same_break (one.2 ∙ sym other.2)
    (omega (arith, is_a.counted, is_b.counted, one.0, other.0, ending, spaces))
