-- The characters beside a run of delimiters, and where it ends.
use Rattle.std.proofs.Common.{◌≡◌, ℕ, ◌+◌, ◌-◌, ◌<◌, ◌≤◌, ◌==◌, ◌⊎◌, Bool, List, [], ◌∷◌, ◌++◌, length}
use Rattle.std.proofs.Common.{drop, get_or, take, refl, sym, ap, ◌∙◌, subst, arith, inl, inr, Option, Some, None, append-nil}
use Rattle.std.specs.Prelude.{encode_utf8, MatchOption}
use Rattle.std.specs.List.{prefix_len, last_or}
use Rattle.std.specs.Str.{chars, IsUtf8, IsCharBoundary}
use Rattle.std.proofs.lemmas.Bool.{cases_lt, lt-ltb, le-ltb, eqb-true, eq-eqb}
use Rattle.std.proofs.lemmas.List.{get_or-drop, length-append, length-drop, nil_from_length, take_rest}
use Rattle.std.proofs.lemmas.List.Sums.{prefix_len_passes, prefix_len-drop_yes}
use Rattle.std.proofs.lemmas.Str.{chars-append, chars-nil, chars_past_char, IsUtf8-take, IsUtf8-drop, IsCharBoundary-after_ascii}
use Rattle.std.proofs.Math.Utf8.{encode}
use Rattle.std.proofs.Math.Seq.{take-append_seam, drop-append_seam}
use Rattle.markdown_scanners_tree.specs.Ascii.{asterisk, tilde, underscore}
use Rattle.markdown_inlines.specs.declared.delimiter_runs.DelimiterRun.{DelimiterRun}
use Rattle.markdown_values.specs.declared.values.extensions.Extensions.{Extensions}
use Rattle.markdown_inlines.specs.DelimiterRuns.{IsDelimiterRun, IsTildeRun, IsRunOf, can_open, can_close, char_before, char_after}
use Rattle.markdown_inlines.specs.DelimiterRuns.{is_left_flanking, is_right_flanking}

-- a character begins with no continuation byte
leads : (c : ℕ) (rest : List ℕ) → 128 ≤ get_or (encode_utf8 c ++ rest) 0 0 → 192 ≤ get_or (encode_utf8 c ++ rest) 0 0
unfolding encode
leads c rest = elim (cases_lt c 128) [
  | inl low ↦ rw (lt-ltb c 128 low) (λ high. absurd (omega (arith, low, high)))
  | inr a ↦ elim (cases_lt c 2048) [
    | inl low ↦ rw (le-ltb c 128 a, lt-ltb c 2048 low) (λ high. omega arith)
    | inr b ↦ elim (cases_lt c 65536) [
      | inl low ↦ rw (le-ltb c 128 a, le-ltb c 2048 b, lt-ltb c 65536 low) (λ high. omega arith)
      | inr more ↦ rw (le-ltb c 128 a, le-ltb c 2048 b, le-ltb c 65536 more) (λ high. omega arith)
    ]
  ]
]

-- before the last character of a text a character begins
boundary_before : (front : List ℕ) (c : ℕ) → IsCharBoundary (front ++ encode_utf8 c) (length front)
boundary_before front c = (
  omega (arith, length-append front (encode_utf8 c)),
  λ inside high.
      let here : get_or (front ++ encode_utf8 c) (length front) 0 ≡ get_or (encode_utf8 c ++ []) 0 0 =
      subst (λ k. get_or (front ++ encode_utf8 c) k 0 ≡ get_or (encode_utf8 c ++ []) 0 0) (omega arith)
      (sym (get_or-drop (length front) (front ++ encode_utf8 c) 0 0)
      ∙ ap (λ t. get_or t 0 0) (drop-append_seam front (encode_utf8 c) ∙ sym (append-nil (encode_utf8 c)))) in
      omega (arith, here, leads c [] (omega (arith, here, high))),
)

utf8_before : (front : List ℕ) (c : ℕ) → IsUtf8 (front ++ encode_utf8 c) → IsUtf8 front
utf8_before front c utf8 =
    subst IsUtf8 (take-append_seam front (encode_utf8 c)) (IsUtf8-take (front ++ encode_utf8 c) (length front) utf8 (boundary_before front c))

last_of_one : (cs : List ℕ) (o : Option ℕ) (c : ℕ) → last_or o (cs ++ c ∷ []) ≡ Some c
last_of_one [] o c = refl
last_of_one (d ∷ cs) o c = last_of_one cs (Some d) c

-- the last character of a text, as its characters read backwards give it
pub last_is : (text front : List ℕ) (c : ℕ) → IsUtf8 text → text ≡ front ++ encode_utf8 c → last_or None (chars text) ≡ Some c
last_is text front c utf8 is =
    let whole = subst IsUtf8 is utf8 in
    let before = utf8_before front c whole in
    let alone = subst IsUtf8 (drop-append_seam front (encode_utf8 c)) (IsUtf8-drop (front ++ encode_utf8 c) (length front) whole (boundary_before front c)) in
    ap (λ t. last_or None (chars t)) is
    ∙ ap (last_or None) (chars-append front (encode_utf8 c) before
    ∙ ap (λ cs. chars front ++ cs) (chars_past_char (encode_utf8 c) [] c alone (sym (append-nil (encode_utf8 c))) ∙ ap (λ cs. c ∷ cs) chars-nil))
    ∙ last_of_one (chars front) None c

pub none_is : (text : List ℕ) → length text ≡ 0 → last_or None (chars text) ≡ None
none_is text empty = ap (λ t. last_or None (chars t)) (nil_from_length text empty) ∙ ap (last_or None) chars-nil

pub last_from_steps : (text : List ℕ) (last : Option ℕ) (front : List ℕ) (T : Type 0) → IsUtf8 text
    → MatchOption last ((length text ≡ 0) × T) (λ c. text ≡ front ++ encode_utf8 c) → last_or None (chars text) ≡ last
last_from_steps text None front T utf8 steps = none_is text steps.0
last_from_steps text (Some c) front T utf8 steps = last_is text front c utf8 steps

-- a run of one of the bytes there
module _ (text : List ℕ) (offset count byte : ℕ) (counted : count ≡ prefix_len (λ b. b == byte) (drop offset text)) where
  pub some_counted : offset < length text → get_or text offset 0 ≡ byte → 0 < count
  some_counted inside here = omega (arith, counted, prefix_len-drop_yes (λ b. b == byte) text offset 0 inside (eq-eqb (get_or text offset 0) byte here))

  pub run_ends : 0 < count → byte < 128 → offset + count ≤ length text → IsUtf8 text → IsCharBoundary text (offset + count)
  run_ends some ascii fits utf8 =
      let last : get_or text (offset + (count - 1)) 0 ≡ byte =
      sym (get_or-drop offset text (count - 1) 0)
      ∙ eqb-true (get_or (drop offset text) (count - 1) 0) byte
      (prefix_len_passes (λ b. b == byte) (drop offset text) (count - 1) 0 (omega (arith, counted, some))) in
      subst (IsCharBoundary text) (omega (arith, some))
      (IsCharBoundary-after_ascii text (offset + (count - 1)) utf8 (omega (arith, some, fits)) (omega (arith, last, ascii)))

pub counted_from : (bytes text : List ℕ) (offset byte count : ℕ) → bytes ≡ text
    → count ≡ prefix_len (λ b. b == byte) (take (length bytes - offset) (drop offset bytes))
    → count ≡ prefix_len (λ b. b == byte) (drop offset text)
counted_from bytes text offset byte count same counted = counted ∙ ap (prefix_len (λ b. b == byte)) (take_rest bytes offset ∙ ap (drop offset) same)

-- after a run of a byte that stands at an offset a text may be cut
module _ (bytes text : List ℕ) (offset byte count : ℕ) (same : bytes ≡ text) (inside : offset < length text) (there : get_or text offset 0 ≡ byte)
    (counted : count ≡ prefix_len (λ b. b == byte) (take (length bytes - offset) (drop offset bytes))) where
  pub some_there : 0 < count
  some_there = some_counted text offset count byte (counted_from bytes text offset byte count same counted) inside there

  pub ends_there : byte < 128 → IsUtf8 text → count ≤ length (take (length bytes - offset) (drop offset bytes)) → IsCharBoundary text (offset + count)
  ends_there ascii utf8 fits =
      run_ends text offset count byte (counted_from bytes text offset byte count same counted) some_there ascii
      (omega (arith, fits, inside, ap length (take_rest bytes offset ∙ ap (drop offset) same), length-drop offset text)) utf8

same_run : {byte byte' count count' : ℕ} {opens opens' closes closes' : Bool} → byte ≡ byte' → count ≡ count' → opens ≡ opens' → closes ≡ closes'
    → ◌≡◌ {A = DelimiterRun} (record { byte = byte; count = count; can_open = opens; can_close = closes })
    (record { byte = byte'; count = count'; can_open = opens'; can_close = closes' })
same_run b n o c = λ i. record { byte = b i; count = n i; can_open = o i; can_close = c i }

-- the byte of a run stands at its offset
byte_there : (text : List ℕ) (offset byte count : ℕ) → 0 < count → count ≡ prefix_len (λ b. b == byte) (drop offset text)
    → byte ≡ get_or text offset 0
byte_there text offset byte count some longest =
    subst (λ k. byte ≡ get_or text k 0) (omega arith)
    (sym (eqb-true (get_or (drop offset text) 0 0) byte
    (prefix_len_passes (λ b. b == byte) (drop offset text) 0 0 (omega (arith, longest, some))))
    ∙ get_or-drop offset text 0 0)

pub byte_at : (text : List ℕ) (offset : ℕ) (run : DelimiterRun) → IsDelimiterRun text offset run → run.byte ≡ get_or text offset 0
byte_at text offset run is = byte_there text offset run.byte run.count is.some is.longest

pub tilde_at : (text : List ℕ) (offset : ℕ) (run : DelimiterRun) → IsTildeRun text offset run → run.byte ≡ get_or text offset 0
tilde_at text offset run is = byte_there text offset run.byte run.count is.some is.longest

-- one run begins at an offset
pub one_delimiter_run : (text : List ℕ) (offset : ℕ) (a b : DelimiterRun) → IsDelimiterRun text offset a → IsDelimiterRun text offset b → a ≡ b
one_delimiter_run text offset a b is_a is_b =
    let byte : a.byte ≡ b.byte = byte_at text offset a is_a ∙ sym (byte_at text offset b is_b) in
    let count : a.count ≡ b.count = is_a.longest ∙ ap (λ c. prefix_len (λ x. x == c) (drop offset text)) byte ∙ sym is_b.longest in
    same_run byte count
    (is_a.opens ∙ ap (λ c. can_open c (char_before text offset) (char_after text (offset + a.count))) byte
    ∙ ap (λ n. can_open b.byte (char_before text offset) (char_after text (offset + n))) count ∙ sym is_b.opens)
    (is_a.closes ∙ ap (λ c. can_close c (char_before text offset) (char_after text (offset + a.count))) byte
    ∙ ap (λ n. can_close b.byte (char_before text offset) (char_after text (offset + n))) count ∙ sym is_b.closes)

one_tilde_run : (text : List ℕ) (offset : ℕ) (a b : DelimiterRun) → IsTildeRun text offset a → IsTildeRun text offset b → a ≡ b
one_tilde_run text offset a b is_a is_b =
    let byte : a.byte ≡ b.byte = is_a.delimiter ∙ sym is_b.delimiter in
    let count : a.count ≡ b.count = is_a.longest ∙ ap (λ c. prefix_len (λ x. x == c) (drop offset text)) byte ∙ sym is_b.longest in
    same_run byte count
    (is_a.opens ∙ ap (λ n. is_left_flanking (char_before text offset) (char_after text (offset + n))) count ∙ sym is_b.opens)
    (is_a.closes ∙ ap (λ n. is_right_flanking (char_before text offset) (char_after text (offset + n))) count ∙ sym is_b.closes)

-- where one of the two delimiters stands no run of tildes does
pub no_tilde_run : (text : List ℕ) (offset : ℕ) (run : DelimiterRun) → (get_or text offset 0 ≡ asterisk) ⊎ (get_or text offset 0 ≡ underscore)
    → ¬ IsTildeRun text offset run
no_tilde_run text offset run (inl there) is = omega (arith, there, tilde_at text offset run is, is.delimiter)
no_tilde_run text offset run (inr there) is = omega (arith, there, tilde_at text offset run is, is.delimiter)

delimiter_there : (text : List ℕ) (offset : ℕ) (run : DelimiterRun) → IsDelimiterRun text offset run
    → (get_or text offset 0 ≡ asterisk) ⊎ (get_or text offset 0 ≡ underscore)
delimiter_there text offset run is = elim is.delimiter [
  | inl star ↦ inl (sym (byte_at text offset run is) ∙ star)
  | inr line ↦ inr (sym (byte_at text offset run is) ∙ line)
]

-- where a tilde stands no other run does
pub no_other_run : (text : List ℕ) (offset : ℕ) (run : DelimiterRun) → get_or text offset 0 ≡ tilde → ¬ IsDelimiterRun text offset run
no_other_run text offset run there is = elim (delimiter_there text offset run is) [
  | inl star ↦ omega (arith, there, star)
  | inr line ↦ omega (arith, there, line)
]

-- whatever is asked for, one run begins at an offset
pub one_run_of : (asked : Extensions) (text : List ℕ) (offset : ℕ) (a b : DelimiterRun) → IsRunOf asked text offset a → IsRunOf asked text offset b
    → a ≡ b
one_run_of asked text offset a b (inl is_a) (inl is_b) = one_delimiter_run text offset a b is_a is_b
one_run_of asked text offset a b (inl is_a) (inr is_b) = absurd (no_tilde_run text offset b (delimiter_there text offset a is_a) is_b.1)
one_run_of asked text offset a b (inr is_a) (inl is_b) = absurd (no_tilde_run text offset a (delimiter_there text offset b is_b) is_a.1)
one_run_of asked text offset a b (inr is_a) (inr is_b) = one_tilde_run text offset a b is_a.1 is_b.1
