-- Bytes that are passed over begin no piece: plain bytes, the rest of a backtick string, and of spaces before no line ending.
use Rattle.std.proofs.Common.{◌≡◌, ℕ, zero, suc, ◌+◌, ◌-◌, ◌<◌, ◌≤◌, ◌==◌, ◌||◌, ◌⊎◌, Bool, true, false, not, cond, List, [], ◌∷◌, length}
use Rattle.std.proofs.Common.{take, drop, get_or}
use Rattle.std.proofs.Common.{refl, sym, ap, ◌∙◌, subst, arith, inl, inr, Some}
use Rattle.std.specs.List.{prefix_len}
use Rattle.std.proofs.lemmas.Bool.{cases_Bool, cases_lt, eqb-true, and_parts}
use Rattle.std.proofs.lemmas.List.{drop_more, drop-drop, get_or-drop, length-append, length-drop}
use Rattle.std.proofs.Math.ListN.{get_or-eq_default}
use Rattle.std.proofs.lemmas.List.Sums.{prefix_len_is, prefix_len_passes, prefix_len_stops, prefix_len-le-length}
use Rattle.markdown_scanners_tree.specs.Bytes.{begins_with, is_line_ending, line_ending}
use Rattle.markdown_scanners_tree.proofs.ForCallers.{first-line_ending}
use Rattle.markdown_scanners_tree.proofs.PrefixLemmas.{from_offset}
use Rattle.markdown_inlines.specs.LineBreaks.{IsLineBreak}
use Rattle.markdown_inlines.specs.PieceBytes.{is_before_ending, is_plain, is_word_space, plain_length, run_length}
use Rattle.markdown_inlines.specs.Pieces.{BeginsAt, HasOnlyText}
use Rattle.markdown_values.specs.declared.values.extensions.Extensions.{Extensions}
use Rattle.markdown_inlines.specs.declared.line_breaks.LineBreak.{LineBreak}
use Rattle.markdown_inlines.specs.declared.pieces.PieceKind.{PieceKind}
use Rattle.markdown_inlines.specs.declared.pieces.PieceKind.TheVariants.{HardBreak, SoftBreak}
use Rattle.markdown_inlines.proofs.line_breaks.LineBreakLemmas.{before_is_hard, before_length, before_only, break_found}
use Rattle.markdown_inlines.proofs.pieces.Openings.{begins_class, byte_class, not_false_true}
use Rattle.markdown_inlines.proofs.pieces.Openings.{only_break, only_code, plain_begins_none}

abbrev is_byte : ℕ → ℕ → Bool
is_byte byte b = b == byte

-- the bytes of a run
run_passes : (test : ℕ → Bool) (bytes : List ℕ) (offset j : ℕ) → j < prefix_len test (drop offset bytes)
    → test (get_or bytes (offset + j) 0) ≡ true
run_passes test bytes offset j inside =
    ap test (sym (get_or-drop offset bytes j 0)) ∙ prefix_len_passes test (drop offset bytes) j 0 inside

pub run_byte : (byte : ℕ) (bytes : List ℕ) (offset p : ℕ) → offset ≤ p → p < offset + prefix_len (λ b. b == byte) (drop offset bytes)
    → get_or bytes p 0 ≡ byte
run_byte byte bytes offset p low high =
    let at : offset + (p - offset) ≡ p = omega (arith, low) in
    ap (λ k. get_or bytes k 0) (sym at)
    ∙ eqb-true _ byte (run_passes (λ b. b == byte) bytes offset (p - offset) (omega (arith, low, high)))

run_stops : (test : ℕ → Bool) (bytes : List ℕ) (offset : ℕ) → offset + prefix_len test (drop offset bytes) < length bytes
    → test (get_or bytes (offset + prefix_len test (drop offset bytes)) 0) ≡ false
run_stops test bytes offset inside =
    ap test (sym (get_or-drop offset bytes (prefix_len test (drop offset bytes)) 0))
    ∙ prefix_len_stops test (drop offset bytes) 0 (omega (arith, inside, length-drop offset bytes))

-- ---- plain bytes, and spaces between words
spaced_length : (text rest : List ℕ) → text ≡ 32 ∷ rest → before_length text ≡ prefix_len (λ b. b == 32) text
spaced_length text rest is = subst (λ t. before_length t ≡ prefix_len (λ b. b == 32) t) (sym is) refl

not_true : (b : Bool) → not b ≡ true → b ≡ false
not_true true e = cc
not_true false e = refl

ending_begins : (rest : List ℕ) (ending : ℕ) → line_ending rest ≡ Some ending → 0 < length rest → begins_with is_line_ending rest ≡ true
ending_begins [] ending ends some = absurd (omega (arith, some))
ending_begins (b ∷ bs) ending ends some =
    not_false_true (is_line_ending b) (first-line_ending (λ c. not (is_line_ending c)) refl refl (b ∷ bs) ending ends)

-- no line break begins with a space between words
no_break : (text rest : List ℕ) → text ≡ 32 ∷ rest → is_before_ending rest ≡ false → (break : LineBreak) → IsLineBreak text break → ⊥
no_break text rest parts goes_on break is =
    let m = prefix_len (λ b. b == 32) rest in
    let only = before_only text is.before is.after is.ending break.is_hard is.parts is.is_before is.ends in
    let spaces : before_length text ≡ 1 + m = spaced_length text rest parts ∙ ap (prefix_len (λ b. b == 32)) parts in
    let one_more : before_length text ≡ suc m = omega (arith, spaces) in
    let after : is.after ≡ drop m rest = only.1 ∙ ap (λ k. drop k text) one_more ∙ ap (drop (suc m)) parts in
    let some : 0 < length is.after = omega (arith, is.counted, is.goes_on, ap length is.parts, length-append is.before is.after) in
    let lost : true ≡ false = sym (ending_begins is.after is.ending is.ends some) ∙ ap (begins_with is_line_ending) after ∙ goes_on in
    cc

word_space_none : (asked : Extensions) (bytes : List ℕ) (from p : ℕ) → get_or bytes p 0 ≡ 32 → is_before_ending (drop (p + 1) bytes) ≡ false
    → (kind : PieceKind) (len : ℕ) → ¬ BeginsAt asked bytes from p kind len
word_space_none asked bytes from p here goes_on kind len begins =
    let inside : p < length bytes = elim (cases_lt p (length bytes)) [
      | inl is ↦ is
      | inr past ↦ absurd (omega (arith, here, get_or-eq_default bytes 0 past))
    ] in
    let parts : drop p bytes ≡ 32 ∷ drop (p + 1) bytes = drop_more bytes p 0 inside ∙ ap (λ b. b ∷ drop (p + 1) bytes) here in
    let same = sym (ap byte_class here) ∙ begins_class asked bytes from p kind len begins in
    only_break (λ k. BeginsAt asked bytes from p k len → ⊥) kind same
    (λ is.
    let first = sym (ap (λ t. get_or t 0 0) parts) ∙ ap (λ t. get_or t 0 0) is.parts in
    omega (arith, first))
    (λ is. no_break (drop p bytes) (drop (p + 1) bytes) parts goes_on _ is)
    (λ is. no_break (drop p bytes) (drop (p + 1) bytes) parts goes_on _ is) begins

-- what stands at a byte of those that are passed over
abbrev pub IsPassed : List ℕ → ℕ → Type 0
IsPassed bytes j =
    (is_plain (get_or bytes j 0) ≡ true) ⊎ ((get_or bytes j 0 ≡ 32) × (is_before_ending (drop (suc j) bytes) ≡ false))

pub passed_first : (b : ℕ) (bs : List ℕ) → (is_plain b || is_word_space b bs) ≡ true → IsPassed (b ∷ bs) 0
passed_first b bs passes = elim (cases_Bool (is_plain b)) [
  | inl plain ↦ inl plain
  | inr not_plain ↦ spaced (ap (λ x. x || is_word_space b bs) (sym not_plain) ∙ passes)
]
  where
    spaced : is_word_space b bs ≡ true → IsPassed (b ∷ bs) 0
    spaced is =
        let parts = and_parts (b == 32) (not (is_before_ending bs)) is in
        inr (eqb-true b 32 parts.0, not_true (is_before_ending bs) parts.1)

passed_at : (bytes : List ℕ) (j : ℕ) → j < plain_length bytes → IsPassed bytes j
passed_at [] j inside = absurd (omega (arith, inside))
passed_at (b ∷ bs) j inside = elim (cases_Bool (is_plain b || is_word_space b bs)) [
  | inr stops ↦ absurd (let none : plain_length (b ∷ bs) ≡ 0 = rw stops refl in omega (arith, none, inside))
  | inl passes ↦ (let more : plain_length (b ∷ bs) ≡ suc (plain_length bs) = rw passes refl in
      passed_of b bs j passes (passed_at bs) (omega (arith, more, inside)))
]
  where
    passed_of : (b : ℕ) (bs : List ℕ) (j : ℕ) → (is_plain b || is_word_space b bs) ≡ true
        → ((k : ℕ) → k < plain_length bs → IsPassed bs k) → j < suc (plain_length bs) → IsPassed (b ∷ bs) j
    passed_of b bs zero passes later inside = passed_first b bs passes
    passed_of b bs (suc k) passes later inside = later k (omega (arith, inside))

module _ (bytes : List ℕ) (offset plain : ℕ) (counted : plain ≡ plain_length (take (length bytes - offset) (drop offset bytes))) where
  case_at : (p : ℕ) → offset ≤ p → p < offset + plain → IsPassed bytes p
  case_at p low high =
      let at : offset + (p - offset) ≡ p = omega (arith, low) in
      let next : offset + suc (p - offset) ≡ suc p = omega (arith, low) in
      let all : plain ≡ plain_length (drop offset bytes) = counted ∙ ap plain_length (from_offset bytes offset) in
      let here = get_or-drop offset bytes (p - offset) 0 ∙ ap (λ k. get_or bytes k 0) at in
      let after = drop-drop (suc (p - offset)) offset bytes ∙ ap (λ k. drop k bytes) next in
      elim (passed_at (drop offset bytes) (p - offset) (omega (arith, low, high, all))) [
        | inl is ↦ inl (ap is_plain (sym here) ∙ is)
        | inr is ↦ inr (sym here ∙ is.0, ap is_before_ending (sym after) ∙ is.1)
      ]

  plain_none : (asked : Extensions) (from p : ℕ) → offset ≤ p → p < offset + plain → (kind : PieceKind) (len : ℕ) → ¬ BeginsAt asked bytes from p kind len
  plain_none asked from p low high kind len =
      let next : p + 1 ≡ suc p = omega arith in
      elim (case_at p low high) [
        | inl is ↦ plain_begins_none asked bytes from p is kind len
        | inr is ↦ word_space_none asked bytes from p is.0 (ap (λ k. is_before_ending (drop k bytes)) next ∙ is.1) kind len
      ]

  -- none is a backtick or a `<`
  pub plain_bytes : (p : ℕ) → offset ≤ p → p < offset + plain → (get_or bytes p 0 ≡ 96 → ⊥) × (get_or bytes p 0 ≡ 60 → ⊥)
  plain_bytes p low high = elim (case_at p low high) [
    | inl is ↦ (
      λ tick. (let lost : true ≡ false = sym is ∙ ap is_plain tick in cc),
      λ angle. (let lost : true ≡ false = sym is ∙ ap is_plain angle in cc),
    )
    | inr is ↦ (λ tick. omega (arith, tick, is.0), λ angle. omega (arith, angle, is.0))
  ]

  pub plain_text : (asked : Extensions) → HasOnlyText asked bytes offset (offset + plain)
  plain_text asked p low high kind len = plain_none asked offset p low high kind len

  pub plain_apart : 0 < plain → get_or bytes (offset + plain - 1) 0 ≡ 96 → ⊥
  plain_apart some is = elim (case_at (offset + plain - 1) (omega (arith, some)) (omega (arith, some))) [
    | inl plain_there ↦ (let lost : true ≡ false = sym plain_there ∙ ap is_plain is in cc)
    | inr spaced ↦ omega (arith, spaced.0, is)
  ]

-- ---- the rest of a backtick string
code_none : (asked : Extensions) (bytes : List ℕ) (from p : ℕ) → from < p → get_or bytes p 0 ≡ 96 → get_or bytes (p - 1) 0 ≡ 96
    → (kind : PieceKind) (len : ℕ) → ¬ BeginsAt asked bytes from p kind len
code_none asked bytes from p later here before kind len begins =
    only_code (λ k. BeginsAt asked bytes from p k len → ⊥) kind (sym (ap byte_class here) ∙ begins_class asked bytes from p kind len begins)
    (λ backticks is. is.0 later before) begins

-- ---- the rest of spaces
either_break : (asked : Extensions) (bytes : List ℕ) (from offset len : ℕ) (is_hard : Bool)
    → ((kind : PieceKind) (n : ℕ) → ¬ BeginsAt asked bytes from offset kind n)
    → IsLineBreak (drop offset bytes) (record { is_hard = is_hard; len = len }) → ⊥
either_break asked bytes from offset len true none is = none HardBreak len is
either_break asked bytes from offset len false none is = none SoftBreak len is

module _ (asked : Extensions) (bytes : List ℕ) (from offset run q : ℕ) (counted : run ≡ prefix_len (λ b. b == 32) (drop offset bytes))
    (none : (kind : PieceKind) (n : ℕ) → ¬ BeginsAt asked bytes from offset kind n) (low : offset < q) (high : q < offset + run) where
  run_within : run ≤ length (drop offset bytes)
  run_within = omega (arith, counted, prefix_len-le-length (λ b. b == 32) (drop offset bytes))

  fits : offset + run ≤ length bytes
  fits = omega (arith, run_within, length-drop offset bytes, low, high)

  space_at : (p : ℕ) → offset ≤ p → p < offset + run → get_or bytes p 0 ≡ 32
  space_at p above below = run_byte 32 bytes offset p above (omega (arith, counted, below))

  spaces_at : (p : ℕ) → offset ≤ p → p < offset + run → drop p bytes ≡ 32 ∷ drop (p + 1) bytes
  spaces_at p above below =
      drop_more bytes p 0 (omega (arith, below, fits)) ∙ ap (λ b. b ∷ drop (p + 1) bytes) (space_at p above below)

  left_spaces : prefix_len (λ b. b == 32) (drop q bytes) ≡ offset + run - q
  left_spaces =
      prefix_len_is (λ b. b == 32) (drop q bytes) (offset + run - q) 0 (omega (arith, length-drop q bytes, fits, high))
      (λ k inside. ap (λ b. b == 32) (get_or-drop q bytes k 0 ∙ space_at (q + k) (omega (arith, low)) (omega (arith, inside, high))))
      (λ inside.
      let at : q + (offset + run - q) ≡ offset + prefix_len (λ b. b == 32) (drop offset bytes) = omega (arith, high, counted) in
      ap (λ b. b == 32) (get_or-drop q bytes (offset + run - q) 0 ∙ ap (λ k. get_or bytes k 0) at)
      ∙ run_stops (λ b. b == 32) bytes offset (omega (arith, inside, length-drop q bytes, counted, high)))

  break_none : (break : LineBreak) → IsLineBreak (drop q bytes) break → ⊥
  break_none break is =
      let text = drop offset bytes in
      let only = before_only (drop q bytes) is.before is.after is.ending break.is_hard is.parts is.is_before is.ends in
      let before : before_length (drop q bytes) ≡ offset + run - q =
      spaced_length (drop q bytes) (drop (q + 1) bytes) (spaces_at q (omega (arith, low)) high) ∙ left_spaces in
      let there : q + (offset + run - q) ≡ offset + run = omega (arith, high) in
      let after : is.after ≡ drop run text =
      only.1 ∙ ap (λ k. drop k (drop q bytes)) before ∙ drop-drop (offset + run - q) q bytes ∙ ap (λ k. drop k bytes) there
      ∙ sym (drop-drop run offset bytes) in
      let spaces = prefix_len (λ b. b == 32) (drop is.ending is.after) in
      let ends : Some is.ending ≡ line_ending (take (length text - run) (drop run text)) =
      sym is.ends ∙ ap line_ending (after ∙ sym (from_offset text run)) in
      let spaced : spaces ≡ prefix_len (λ b. b == 32) (take (length text - (run + is.ending)) (drop (run + is.ending) text)) =
      ap (prefix_len (λ b. b == 32)) (ap (drop is.ending) after ∙ drop-drop is.ending run text ∙ sym (from_offset text (run + is.ending))) in
      let all : run ≡ before_length text =
      counted ∙ sym (spaced_length text (drop (offset + 1) bytes) (spaces_at offset (omega arith) (omega (arith, low, high)))) in
      let goes_on : run + is.ending + spaces < length text =
      omega (arith, is.goes_on, is.counted, only.0, before, length-drop q bytes, length-drop offset bytes, low, high, fits) in
      either_break asked bytes from offset (run + is.ending + spaces) (before_is_hard text) none
      (break_found text run is.ending spaces all run_within ends spaced goes_on)

  space_none : (kind : PieceKind) (len : ℕ) → ¬ BeginsAt asked bytes from q kind len
  space_none kind len begins =
      let here = space_at q (omega (arith, low)) high in
      let same = sym (ap byte_class here) ∙ begins_class asked bytes from q kind len begins in
      only_break (λ k. BeginsAt asked bytes from q k len → ⊥) kind same
      (λ is.
      let first = sym (ap (λ t. get_or t 0 0) (spaces_at q (omega (arith, low)) high)) ∙ ap (λ t. get_or t 0 0) is.parts in
      omega (arith, first))
      (λ is. break_none _ is) (λ is. break_none _ is) begins

-- ---- what is passed over
pub run_cases : (b : ℕ) (bs : List ℕ) (run : ℕ) → run ≡ run_length (b ∷ bs)
    → ((b ≡ 96) × (run ≡ prefix_len (λ c. c == 96) (b ∷ bs)))
    ⊎ (((b ≡ 32) × (run ≡ prefix_len (λ c. c == 32) (b ∷ bs))) ⊎ ((b ≡ 96 → ⊥) × (run ≡ 1)))
run_cases b bs run is =
    let ticks = prefix_len (λ c. c == 96) (b ∷ bs) in
    let spaces = prefix_len (λ c. c == 32) (b ∷ bs) in
    elim (cases_Bool (b == 96)) [
      | inl tick ↦ inl (eqb-true b 96 tick, is ∙ ap (λ t. cond t ticks (cond (b == 32) spaces 1)) tick)
      | inr no_tick ↦ elim (cases_Bool (b == 32)) [
        | inl space ↦ inr (inl (
          eqb-true b 32 space,
          is ∙ ap (λ t. cond t ticks (cond (b == 32) spaces 1)) no_tick ∙ ap (λ t. cond t spaces 1) space,
        ))
        | inr other ↦ inr (inr (
          λ same. (let lost : true ≡ false = sym (ap (λ x. x == 96) same) ∙ no_tick in cc),
          is ∙ ap (λ t. cond t ticks (cond (b == 32) spaces 1)) no_tick ∙ ap (λ t. cond t spaces 1) other,
        ))
      ]
    ]

module _ (bytes : List ℕ) (offset run plain : ℕ) (low : offset < length bytes)
    (counted : run ≡ run_length (take (length bytes - offset) (drop offset bytes))) (some : 0 < run)
    (passed : plain ≡ plain_length (take (length bytes - (offset + run)) (drop (offset + run) bytes))) where
  here : drop offset bytes ≡ get_or bytes offset 0 ∷ drop (offset + 1) bytes
  here = drop_more bytes offset 0 low

  case_of_run : ((get_or bytes offset 0 ≡ 96) × (run ≡ prefix_len (λ c. c == 96) (drop offset bytes)))
      ⊎ (((get_or bytes offset 0 ≡ 32) × (run ≡ prefix_len (λ c. c == 32) (drop offset bytes))) ⊎ ((get_or bytes offset 0 ≡ 96 → ⊥) × (run ≡ 1)))
  case_of_run = elim
      (run_cases (get_or bytes offset 0) (drop (offset + 1) bytes) run (counted ∙ ap run_length (from_offset bytes offset ∙ here))) [
        | inl is ↦ inl (is.0, is.1 ∙ ap (prefix_len (λ c. c == 96)) (sym here))
        | inr (inl is) ↦ inr (inl (is.0, is.1 ∙ ap (prefix_len (λ c. c == 32)) (sym here)))
        | inr (inr is) ↦ inr (inr is)
      ]

  run_none : (asked : Extensions) (from p : ℕ) → from ≤ offset → offset < p → p < offset + run
      → ((kind : PieceKind) (len : ℕ) → ¬ BeginsAt asked bytes from offset kind len)
      → (kind : PieceKind) (len : ℕ) → ¬ BeginsAt asked bytes from p kind len
  run_none asked from p below above inside none kind len = elim case_of_run [
    | inl is ↦ code_none asked bytes from p (omega (arith, below, above))
        (run_byte 96 bytes offset p (omega (arith, above)) (omega (arith, is.1, inside)))
        (run_byte 96 bytes offset (p - 1) (omega (arith, above)) (omega (arith, is.1, inside, above))) kind len
    | inr (inl is) ↦ space_none asked bytes from offset run p is.1 none above inside kind len
    | inr (inr is) ↦ λ begins. omega (arith, is.1, above, inside)
  ]

  pub passed_text : (asked : Extensions) (from : ℕ) → from ≤ offset → HasOnlyText asked bytes from offset
      → ((kind : PieceKind) (len : ℕ) → ¬ BeginsAt asked bytes from offset kind len) → HasOnlyText asked bytes from (offset + run + plain)
  passed_text asked from below only none p above inside kind len = elim (cases_lt p offset) [
    | inl before ↦ only p above before kind len
    | inr not_before ↦ elim (cases_lt offset p) [
      | inl after ↦ elim (cases_lt p (offset + run)) [
        | inl within ↦ run_none asked from p below after within none kind len
        | inr following ↦ plain_none bytes (offset + run) plain passed asked from p following inside kind len
      ]
      | inr not_after ↦ (
          let same : offset ≡ p = omega (arith, not_before, not_after) in
          subst (λ k. ¬ BeginsAt asked bytes from k kind len) same (none kind len)
          )
    ]
  ]

  run_apart : get_or bytes (offset + run) 0 ≡ 96 → get_or bytes (offset + run - 1) 0 ≡ 96 → ⊥
  run_apart at before = elim case_of_run [
    | inl is ↦ elim (cases_lt (offset + run) (length bytes)) [
      | inl inside ↦ (
          let stops = run_stops (λ c. c == 96) bytes offset (omega (arith, inside, is.1)) in
          let there : offset + run ≡ offset + prefix_len (λ c. c == 96) (drop offset bytes) = omega (arith, is.1) in
          let lost : true ≡ false = sym (ap (λ c. c == 96) at) ∙ ap (λ k. get_or bytes k 0 == 96) there ∙ stops in
          cc
          )
      | inr past ↦ omega (arith, at, get_or-eq_default bytes 0 past)
    ]
    | inr (inl is) ↦ omega (arith, before, run_byte 32 bytes offset (offset + run - 1) (omega (arith, some)) (omega (arith, is.1, some)))
    | inr (inr is) ↦ (
        let there : offset + run - 1 ≡ offset = omega (arith, is.1) in
        is.0 (ap (λ k. get_or bytes k 0) (sym there) ∙ before)
        )
  ]

  pub passed_apart : get_or bytes (offset + run + plain) 0 ≡ 96 → get_or bytes (offset + run + plain - 1) 0 ≡ 96 → ⊥
  passed_apart at before = elim (cases_lt 0 plain) [
    | inl more ↦ plain_apart bytes (offset + run) plain passed more before
    | inr no_more ↦ (
        let same : offset + run + plain ≡ offset + run = omega (arith, no_more) in
        run_apart (ap (λ k. get_or bytes k 0) (sym same) ∙ at) (ap (λ k. get_or bytes (k - 1) 0) (sym same) ∙ before)
        )
  ]
