-- Backtick strings by their offsets.
use Rattle.std.proofs.Common.{◌≡◌, ◌≢◌, ℕ, suc, ◌+◌, ◌-◌, ◌<◌, ◌≤◌, false, List, length, take}
use Rattle.std.proofs.Common.{drop, get_or, refl, sym, ap, ◌∙◌, subst, arith, inl, inr, Some, None}
use Rattle.std.specs.List.{prefix_len}
use Rattle.std.proofs.lemmas.Bool.{eqb-true, eqb-false, eq-eqb, cases_lt}
use Rattle.std.proofs.lemmas.List.{get_or-drop, length-drop, take_rest}
use Rattle.std.proofs.Math.ListN.{get_or-eq_default}
use Rattle.std.proofs.lemmas.List.Sums.{prefix_len_passes, prefix_len_stops, prefix_len-drop_yes}
use Rattle.memchr.specs.Find.{IsFirstByte, Nowhere, Passes, is_byte}
use Rattle.markdown_scanners_tree.specs.Ascii.{backtick}
use Rattle.markdown_inlines.specs.declared.code_spans.CodeSpan.{CodeSpan}
use Rattle.markdown_inlines.specs.CodeSpans.{IsCodeSpan, IsBacktickString, HasNone, is_backtick}

module _ (text : List ℕ) (offset run : ℕ) (counted : run ≡ prefix_len is_backtick (drop offset text)) where
  pub backticks_at : (k : ℕ) → k < run → get_or text (offset + k) 0 ≡ backtick
  backticks_at k less =
      sym (get_or-drop offset text k 0)
      ∙ eqb-true (get_or (drop offset text) k 0) backtick (prefix_len_passes is_backtick (drop offset text) k 0 (omega (arith, less, counted)))

  pub none_after : get_or text (offset + run) 0 ≢ backtick
  none_after = λ is. elim (cases_lt run (length (drop offset text))) [
    | inl inside ↦ eqb-false (get_or (drop offset text) run 0) backtick
        (subst (λ k. is_backtick (get_or (drop offset text) k 0) ≡ false) (sym counted)
        (prefix_len_stops is_backtick (drop offset text) 0 (subst (λ k. k < length (drop offset text)) counted inside)))
        (get_or-drop offset text run 0 ∙ is)
    | inr past ↦ (let none = get_or-eq_default (drop offset text) 0 past in let here = get_or-drop offset text run 0 ∙ is in absurd (omega (arith, none, here)))
  ]

  pub string_at : 0 < run → ((k : ℕ) → offset ≡ suc k → get_or text k 0 ≢ backtick) → IsBacktickString text offset run
  string_at some before = record { some = some; backticks = backticks_at; not_preceded = before; not_followed = none_after }

-- the strings at one offset are of one length
pub one_length : (text : List ℕ) (offset m n : ℕ) → IsBacktickString text offset m → IsBacktickString text offset n → m ≡ n
one_length text offset m n a b =
    elim (cases_lt m n) [
      | inl less ↦ absurd (a.not_followed (b.backticks m less))
      | inr other ↦ elim (cases_lt n m) [
        | inl less ↦ absurd (b.not_followed (a.backticks n less))
        | inr same ↦ omega (arith, other, same)
      ]
    ]

-- of two strings of one length after an offset, with none between it and them, one is the other
pub one_next : (text : List ℕ) (n from a b : ℕ) → from ≤ a → from ≤ b → IsBacktickString text a n → IsBacktickString text b n
    → HasNone text n from a → HasNone text n from b → a ≡ b
one_next text n from a b at_a at_b is_a is_b none_a none_b =
    elim (cases_lt a b) [
      | inl less ↦ absurd (none_b a at_a less is_a)
      | inr other ↦ elim (cases_lt b a) [
        | inl less ↦ absurd (none_a b at_b less is_b)
        | inr same ↦ omega (arith, other, same)
      ]
    ]

-- none begins where there is no backtick
pub none_without : (text : List ℕ) (n from to : ℕ) → ((offset : ℕ) → from ≤ offset → offset < to → get_or text offset 0 ≢ backtick) → HasNone text n from to
none_without text n from to others = λ offset low high is. others offset low high (ap (λ k. get_or text k 0) (omega arith) ∙ is.backticks 0 is.some)

-- and none of another length in a string
pub none_within : (text : List ℕ) (n offset run : ℕ) → IsBacktickString text offset run → (run ≡ n → ⊥) → HasNone text n offset (offset + run)
none_within text n offset run here other = λ at low high is.
    elim (cases_lt offset at) [
      | inl less ↦
          let before : at ≡ suc (at - 1) = omega (arith, less) in
          let k : offset + (at - 1 - offset) ≡ at - 1 = omega (arith, less) in
          is.not_preceded (at - 1) before (ap (λ j. get_or text j 0) (sym k) ∙ here.backticks (at - 1 - offset) (omega (arith, less, high)))
      | inr same ↦ other (one_length text offset run n here (subst (λ j. IsBacktickString text j n) (omega (arith, same, low)) is))
    ]

pub none_joined : (text : List ℕ) (n from mid to : ℕ) → HasNone text n from mid → HasNone text n mid to → HasNone text n from to
none_joined text n from mid to first second = λ offset low high is.
    elim (cases_lt offset mid) [
      | inl less ↦ first offset low less is
      | inr more ↦ second offset more high is
    ]

-- the search for a backtick from the front, or from an offset where none stands
module _ (bytes : List ℕ) (source : ℕ) (here : 0 < source → get_or bytes source 0 ≢ backtick) where
  other_before : (rest : List ℕ) (to k : ℕ) → rest ≡ drop source bytes → Nowhere (Passes (is_byte backtick) rest) 0 to → source ≤ k → k < source + to
      → get_or bytes k 0 ≢ backtick
  other_before rest to k same none low high = λ is.
      let at : source + (k - source) ≡ k = omega (arith, low) in
      none (k - source) (omega arith) (omega (arith, low, high))
      (eq-eqb (get_or rest (k - source) 0) backtick
      (ap (λ r. get_or r (k - source) 0) same ∙ get_or-drop source bytes (k - source) 0 ∙ ap (λ j. get_or bytes j 0) at ∙ is))

  pub none_found : (to : ℕ) → IsFirstByte (is_byte backtick) (take (length bytes - source) (drop source bytes)) None
      → (n : ℕ) → 0 < n → HasNone bytes n source to
  none_found to none n some = none_without bytes n source to (λ k low high is. elim (cases_lt k (length bytes)) [
    | inl inside ↦ other_before (drop source bytes) (length (drop source bytes)) k refl
        (subst (λ r. IsFirstByte (is_byte backtick) r None) (take_rest bytes source) none) low
        (omega (arith, low, inside, length-drop source bytes)) is
    | inr past ↦ (let nothing = get_or-eq_default bytes 0 past in absurd (omega (arith, nothing, is)))
  ])

  pub found_string : (offset run : ℕ) → IsFirstByte (is_byte backtick) (take (length bytes - source) (drop source bytes)) (Some offset)
      → run ≡ prefix_len is_backtick (take (length bytes - (source + offset)) (drop (source + offset) bytes))
      → (source + offset < length bytes) × IsBacktickString bytes (source + offset) run × ((n : ℕ) → HasNone bytes n source (source + offset))
  found_string offset run found counted =
      let rest = drop source bytes in
      let first = subst (λ r. IsFirstByte (is_byte backtick) r (Some offset)) (take_rest bytes source) found in
      let inside : source + offset < length bytes = omega (arith, first.0.high, length-drop source bytes) in
      let at : get_or bytes (source + offset) 0 ≡ backtick = sym (get_or-drop source bytes offset 0) ∙ eqb-true (get_or rest offset 0) backtick first.1 in
      let count : run ≡ prefix_len is_backtick (drop (source + offset) bytes) = counted ∙ ap (prefix_len is_backtick) (take_rest bytes (source + offset)) in
      let before = other_before rest offset in
      let further : (k : ℕ) → source + offset ≡ suc k → source ≤ k = λ k is. elim (cases_lt 0 source) [
        | inl moved ↦ elim (cases_lt 0 offset) [
          | inl less ↦ omega (arith, is, less)
          | inr zero ↦ (let same : source + offset ≡ source = omega (arith, zero) in absurd (here moved (ap (λ k. get_or bytes k 0) (sym same) ∙ at)))
        ]
        | inr front ↦ omega (arith, front)
      ] in
      let some : 0 < run = omega
      (arith, count, prefix_len-drop_yes is_backtick bytes (source + offset) 0 inside (eq-eqb (get_or bytes (source + offset) 0) backtick at)) in (
        inside,
        string_at bytes (source + offset) run count some (λ k is. before k refl first.0.before (further k is) (omega (arith, is))),
        λ n. none_without bytes n source (source + offset) (λ k low high. before k refl first.0.before low high),
      )

-- the string at the front has all the backticks there
pub opens_counted : (text : List ℕ) (n : ℕ) → IsBacktickString text 0 n → n ≡ prefix_len is_backtick text
opens_counted text n is =
    let run = prefix_len is_backtick text in
    elim (cases_lt 0 run) [
      | inl some ↦ one_length text 0 n run is (string_at text 0 run refl some (λ k zero. absurd (omega (arith, zero))))
      | inr none ↦ absurd (none_after text 0 run refl (ap (λ k. get_or text k 0) (omega (arith, none)) ∙ is.backticks 0 is.some))
    ]

-- a string after the one at the front doesn't touch it
pub strings_apart : (text : List ℕ) (n offset m : ℕ) → IsBacktickString text 0 n → IsBacktickString text offset m → n ≤ offset → n < offset
strings_apart text n offset m first later after =
    elim (cases_lt n offset) [
      | inl less ↦ less
      | inr same ↦ absurd (first.not_followed (ap (λ k. get_or text k 0) (omega (arith, same, after)) ∙ later.backticks 0 later.some))
    ]

same_span : {start end len start' end' len' : ℕ} → start ≡ start' → end ≡ end' → len ≡ len'
    → ◌≡◌ {A = CodeSpan} (record { content = record { start = start; end = end }; len = len })
    (record { content = record { start = start'; end = end' }; len = len' })
same_span starts ends lens = λ i. record { content = record { start = starts i; end = ends i }; len = lens i }

-- a text begins with one code span
pub one_code_span : (text : List ℕ) (a b : CodeSpan) → IsCodeSpan text a → IsCodeSpan text b → a ≡ b
one_code_span text a b is_a is_b =
    let n : a.content.start ≡ b.content.start = opens_counted text a.content.start is_a.opens ∙ sym (opens_counted text b.content.start is_b.opens) in
    let close : a.content.end ≡ b.content.end =
    one_next text b.content.start b.content.start a.content.end b.content.end (omega (arith, n, is_a.in_order)) is_b.in_order
    (subst (λ k. IsBacktickString text a.content.end k) n is_a.closes) is_b.closes
    (subst (λ k. HasNone text k k a.content.end) n is_a.next) is_b.next in
    same_span n close (omega (arith, n, close, is_a.counted, is_b.counted))
