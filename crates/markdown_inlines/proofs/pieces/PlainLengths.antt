-- How many bytes are passed over, by the plain bytes and spaces at the front and what follows them.
use Rattle.std.proofs.Common.{◌≡◌, ℕ, zero, suc, ◌+◌, ◌-◌, ◌<◌, ◌≤◌, ◌==◌, ◌||◌, Bool, true, false, List, [], ◌∷◌, length, drop, get_or}
use Rattle.std.proofs.Common.{refl, sym, ap, ◌∙◌, subst, arith, inl, inr}
use Rattle.std.specs.List.{prefix_len}
use Rattle.std.proofs.lemmas.Bool.{cases_Bool, cases_lt, eqb-true}
use Rattle.std.proofs.lemmas.List.{drop_all, drop_more, drop-drop, get_or-drop, length-drop}
use Rattle.std.proofs.lemmas.List.Sums.{prefix_len_is, prefix_len_passes, prefix_len_stops, prefix_len-le-length}
use Rattle.markdown_scanners_tree.specs.Bytes.{begins_with, is_line_ending}
use Rattle.markdown_inlines.specs.PieceBytes.{is_before_ending, is_plain, is_plain_or_space, is_word_space, plain_length}
use Rattle.markdown_inlines.proofs.pieces.TextRuns.{IsPassed, passed_first}

abbrev is_space : ℕ → Bool
is_space b = b == 32

passes_here : (b : ℕ) (bs : List ℕ) → IsPassed (b ∷ bs) 0 → (is_plain b || is_word_space b bs) ≡ true
passes_here b bs (inl plain) = rw plain refl
passes_here b bs (inr is) = rw (is.0, is.1) refl

-- the bytes before an offset are passed over, and the one there is not
plain_length_is : (bytes : List ℕ) (n : ℕ) → n ≤ length bytes → ((j : ℕ) → j < n → IsPassed bytes j) → (n < length bytes → ¬ IsPassed bytes n)
    → plain_length bytes ≡ n
plain_length_is [] n within each stops = omega (arith, within)
plain_length_is (b ∷ bs) zero within each stops = elim (cases_Bool (is_plain b || is_word_space b bs)) [
  | inl passes ↦ absurd (stops (omega arith) (passed_first b bs passes))
  | inr fails ↦ rw fails refl
]
plain_length_is (b ∷ bs) (suc n) within each stops =
    let rest = plain_length_is bs n (omega (arith, within)) (λ j less. each (suc j) (omega (arith, less))) (λ less. stops (omega (arith, less))) in
    rw (passes_here b bs (each 0 (omega arith))) (ap suc rest)

begins_at : (test : ℕ → Bool) (bytes : List ℕ) (p : ℕ) → p < length bytes → begins_with test (drop p bytes) ≡ test (get_or bytes p 0)
begins_at test bytes p inside = ap (begins_with test) (drop_more bytes p 0 inside)

plain_or_space : (b : ℕ) → is_plain_or_space b ≡ true → (b == 32) ≡ false → is_plain b ≡ true
plain_or_space b is other = elim (cases_Bool (is_plain b)) [
  | inl plain ↦ plain
  | inr not_plain ↦ absurd (let lost : true ≡ false = sym is ∙ (ap (λ t. t || b == 32) not_plain ∙ other) in cc)
]

space_or_plain : (b : ℕ) → is_plain_or_space b ≡ true → is_plain b ≡ false → b ≡ 32
space_or_plain b is not_plain = eqb-true b 32 (sym (ap (λ t. t || b == 32) not_plain) ∙ is)

plain_ends_none : (b : ℕ) → is_plain b ≡ true → is_line_ending b ≡ false
plain_ends_none b plain = elim (cases_Bool (is_line_ending b)) [
  | inr not ↦ not
  | inl ends ↦ elim (cases_Bool (b == 10)) [
    | inl feed ↦ absurd (let lost : true ≡ false = sym plain ∙ ap is_plain (eqb-true b 10 feed) in cc)
    | inr other ↦ absurd (let lost : true ≡ false = sym plain ∙ ap is_plain (eqb-true b 13 (sym (ap (λ t. t || b == 13) other) ∙ ends)) in cc)
  ]
]

module _ (bytes : List ℕ) (end : ℕ) (counted : end ≡ prefix_len is_plain_or_space bytes) where
  within : end ≤ length bytes
  within = omega (arith, counted, prefix_len-le-length is_plain_or_space bytes)

  spaced : (j : ℕ) → j < end → is_plain_or_space (get_or bytes j 0) ≡ true
  spaced j less = prefix_len_passes is_plain_or_space bytes j 0 (omega (arith, less, counted))

  end_stops : end < length bytes → is_plain_or_space (get_or bytes end 0) ≡ false
  end_stops inside =
      ap (λ k. is_plain_or_space (get_or bytes k 0)) counted ∙ prefix_len_stops is_plain_or_space bytes 0 (omega (arith, inside, counted))

  module _ (j : ℕ) (less : j < end) where
    abbrev spaces : ℕ
    spaces = prefix_len is_space (drop (suc j) bytes)

    fits : suc j + spaces ≤ length bytes
    fits = omega (arith, prefix_len-le-length is_space (drop (suc j) bytes), length-drop (suc j) bytes, less, within)

    in_spaces : (k : ℕ) → suc j ≤ k → k < suc j + spaces → get_or bytes k 0 ≡ 32
    in_spaces k low high =
        let at : suc j + (k - suc j) ≡ k = omega (arith, low) in
        ap (λ i. get_or bytes i 0) (sym at)
        ∙ (sym (get_or-drop (suc j) bytes (k - suc j) 0)
        ∙ eqb-true _ 32 (prefix_len_passes is_space (drop (suc j) bytes) (k - suc j) 0 (omega (arith, low, high))))

    after_spaces : suc j + spaces < length bytes → (get_or bytes (suc j + spaces) 0 == 32) ≡ false
    after_spaces inside =
        ap is_space (sym (get_or-drop (suc j) bytes spaces 0))
        ∙ prefix_len_stops is_space (drop (suc j) bytes) 0 (omega (arith, inside, length-drop (suc j) bytes))

    ending_is : is_before_ending (drop (suc j) bytes) ≡ begins_with is_line_ending (drop (suc j + spaces) bytes)
    ending_is = ap (begins_with is_line_ending) (drop-drop spaces (suc j) bytes)

    -- where the spaces end before the end, a plain byte stands
    solid : suc j + spaces < end → is_before_ending (drop (suc j) bytes) ≡ false
    solid early =
        let inside : suc j + spaces < length bytes = omega (arith, early, within) in
        let here = suc j + spaces in
        ending_is ∙ begins_at is_line_ending bytes here inside
        ∙ plain_ends_none (get_or bytes here 0) (plain_or_space (get_or bytes here 0) (spaced here early) (after_spaces inside))

    word_space : (get_or bytes j 0 ≡ 32 → is_before_ending (drop (suc j) bytes) ≡ false) → IsPassed bytes j
    word_space goes_on = elim (cases_Bool (is_plain (get_or bytes j 0))) [
      | inl plain ↦ inl plain
      | inr not_plain ↦ (let here = space_or_plain (get_or bytes j 0) (spaced j less) not_plain in inr (here, goes_on here))
    ]

  -- No line ending follows them: all are passed over.
  module _ (no_ending : begins_with is_line_ending (drop end bytes) ≡ false) where
    each_passed : (j : ℕ) → j < end → IsPassed bytes j
    each_passed j less = word_space j less (λ here. elim (cases_lt (suc j + spaces j less) end) [
      | inl early ↦ solid j less early
      | inr late ↦ elim (cases_lt end (suc j + spaces j less)) [
        | inl past ↦ absurd (
            let inside : end < length bytes = omega (arith, past, fits j less) in
            let lost : true ≡ false =
            sym (ap is_plain_or_space (in_spaces j less end (omega (arith, less)) past)) ∙ end_stops inside in
            cc)
        | inr same ↦ (
            let at : suc j + spaces j less ≡ end = omega (arith, late, same) in
            ending_is j less ∙ ap (λ k. begins_with is_line_ending (drop k bytes)) at ∙ no_ending
            )
      ]
    ])

    stops_there : end < length bytes → ¬ IsPassed bytes end
    stops_there inside (inl plain) =
        let lost : true ≡ false = sym (ap (λ t. t || get_or bytes end 0 == 32) plain) ∙ end_stops inside in cc
    stops_there inside (inr is) = let lost : true ≡ false = sym (ap is_plain_or_space is.0) ∙ end_stops inside in cc

    pub plain_all : end ≡ plain_length bytes
    plain_all = sym (plain_length_is bytes end within each_passed stops_there)

  -- A line ending follows them: the spaces before it are not.
  module _ (ending : begins_with is_line_ending (drop end bytes) ≡ true) (n : ℕ) (few : n ≤ end)
      (trimmed : (k : ℕ) → n ≤ k → k < end → get_or bytes k 0 ≡ 32) (last : 0 < n → get_or bytes (n - 1) 0 ≡ 32 → ⊥) where
    end_inside : end < length bytes
    end_inside = elim (cases_lt end (length bytes)) [
      | inl inside ↦ inside
      | inr past ↦ absurd (
          let all : drop end bytes ≡ [] = drop_all end bytes past in
          let lost : true ≡ false = sym ending ∙ ap (begins_with is_line_ending) all in
          cc)
    ]

    ends_here : is_line_ending (get_or bytes end 0) ≡ true
    ends_here = sym (begins_at is_line_ending bytes end end_inside) ∙ ending

    each_word : (j : ℕ) → j < n → IsPassed bytes j
    each_word j less =
        let early : j < end = omega (arith, less, few) in
        word_space j early (λ here. elim (cases_lt (suc j + spaces j early) end) [
          | inl before ↦ solid j early before
          | inr late ↦ elim (cases_lt (suc j) n) [
            | inl more ↦ absurd (last (omega (arith, more)) (in_spaces j early (n - 1) (omega (arith, more)) (omega (arith, late, few, more))))
            | inr is_last ↦ absurd (
                let at : j ≡ n - 1 = omega (arith, less, is_last) in
                last (omega (arith, less)) (ap (λ k. get_or bytes k 0) (sym at) ∙ here))
          ]
        ])

    before_ending : n < end → is_before_ending (drop (suc n) bytes) ≡ true
    before_ending less =
        let run : prefix_len is_space (drop (suc n) bytes) ≡ end - suc n =
        prefix_len_is is_space (drop (suc n) bytes) (end - suc n) 0 (omega (arith, length-drop (suc n) bytes, end_inside, less))
        (λ k inside. ap is_space (get_or-drop (suc n) bytes k 0 ∙ trimmed (suc n + k) (omega arith) (omega (arith, inside, less))))
        (λ inside.
        let at : suc n + (end - suc n) ≡ end = omega (arith, less) in
        ap is_space (get_or-drop (suc n) bytes (end - suc n) 0 ∙ ap (λ k. get_or bytes k 0) at)
        ∙ ending_no_space (get_or bytes end 0) ends_here) in
        let there : suc n + prefix_len is_space (drop (suc n) bytes) ≡ end = omega (arith, run, less) in
        ending_is n less ∙ ap (λ k. begins_with is_line_ending (drop k bytes)) there ∙ ending
      where
        ending_no_space : (b : ℕ) → is_line_ending b ≡ true → (b == 32) ≡ false
        ending_no_space b ends = elim (cases_Bool (b == 32)) [
          | inr not ↦ not
          | inl is ↦ absurd (let lost : true ≡ false = sym ends ∙ ap is_line_ending (eqb-true b 32 is) in cc)
        ]

    stops_before : n < length bytes → ¬ IsPassed bytes n
    stops_before inside passed = elim (cases_lt n end) [
      | inl less ↦ at_space less passed
      | inr not_less ↦ at_end (subst (IsPassed bytes) (omega (arith, few, not_less)) passed)
    ]
      where
        at_space : n < end → ¬ IsPassed bytes n
        at_space less (inl plain) = let lost : true ≡ false = sym plain ∙ ap is_plain (trimmed n (omega arith) less) in cc
        at_space less (inr is) = let lost : true ≡ false = sym (before_ending less) ∙ is.1 in cc

        at_end : ¬ IsPassed bytes end
        at_end (inl plain) = let lost : true ≡ false = sym ends_here ∙ plain_ends_none (get_or bytes end 0) plain in cc
        at_end (inr is) = let lost : true ≡ false = sym ends_here ∙ ap is_line_ending is.0 in cc

    pub plain_words : n ≡ plain_length bytes
    plain_words = sym (plain_length_is bytes n (omega (arith, few, within)) each_word stops_before)
