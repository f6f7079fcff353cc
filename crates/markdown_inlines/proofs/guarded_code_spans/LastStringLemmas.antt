-- The last backtick string of each length.
use Rattle.std.proofs.Common.{◌≡◌, ◌≢◌, ℕ, suc, ◌+◌, ◌-◌, ◌<◌, ◌≤◌, ◌==◌, cond, true, false, List, length, drop, get_or}
use Rattle.std.proofs.Common.{refl, sym, ap, ◌∙◌, subst, arith, inl, inr}
use Rattle.std.specs.Prelude.{Option, Some, None, IfNone}
use Rattle.std.specs.List.{prefix_len}
use Rattle.std.proofs.lemmas.Bool.{cases_Bool, eqb-true, eq-eqb, cases_lt}
use Rattle.std.proofs.lemmas.List.{get_or-drop, length-drop}
use Rattle.std.proofs.lemmas.List.Sums.{prefix_len-le-length}
use Rattle.markdown_scanners_tree.specs.Ascii.{backtick}
use Rattle.markdown_inlines.specs.declared.code_spans.CodeSpan.{CodeSpan}
use Rattle.markdown_inlines.specs.CodeSpans.{IsCodeSpan, IsBacktickString, HasNone, is_backtick}
use Rattle.markdown_inlines.specs.LastStrings.{AreLastStrings}
use Rattle.markdown_inlines.proofs.code_spans.CodeSpanLemmas.{backticks_at, none_after, one_length, opens_counted, strings_apart}

pub if_none : {A P : Type 0} {answer : Option A} → answer ≡ None → P → IfNone answer P
if_none {A} {P} none holds = subst (λ r. IfNone r P) (sym none) holds

-- The last strings of those that begin after one offset and before another, which cuts none.
pub record AreLastBetween (text : List ℕ) (from : ℕ) (lasts : List ℕ) (offset : ℕ) : Type 0 where
  pub within : offset ≤ length text
  pub apart : 0 < offset → get_or text offset 0 ≢ backtick
  pub latest : (at n : ℕ) → from < at → IsBacktickString text at n → at < offset → at ≤ get_or lasts n 0
  pub there : (n : ℕ) → 0 < get_or lasts n 0 → IsBacktickString text (get_or lasts n 0) n

-- no string begins within another one
inside_none : (text : List ℕ) (start run at n : ℕ) → IsBacktickString text start run → IsBacktickString text at n → start < at
    → at < start + run → ⊥
inside_none text start run at n here is low high =
    let before : at ≡ suc (at - 1) = omega (arith, low) in
    let k : start + (at - 1 - start) ≡ at - 1 = omega (arith, low) in
    is.not_preceded (at - 1) before (ap (λ j. get_or text j 0) (sym k) ∙ here.backticks (at - 1 - start) (omega (arith, low, high)))

-- One string more.
pub one_more : (text : List ℕ) (after : ℕ) (lasts lasts' : List ℕ) (offset start run : ℕ) → AreLastBetween text after lasts offset → offset ≤ start
    → IsBacktickString text start run → ((n : ℕ) → HasNone text n offset start) → start + run ≤ length text
    → ((k : ℕ) → get_or lasts' k 0 ≡ cond (k == run) start (get_or lasts k 0)) → AreLastBetween text after lasts' (start + run)
one_more text after lasts lasts' offset start run is following here none inside put = record {
  within = inside;
  apart = λ _. here.not_followed;
  latest = latest;
  there = there;
}
  where
    latest : (at n : ℕ) → after < at → IsBacktickString text at n → at < start + run → at ≤ get_or lasts' n 0
    latest at n low string before = elim (cases_Bool (n == run)) [
      | inl same ↦ (
          let value : get_or lasts' n 0 ≡ start = put n ∙ rw same refl in
          elim (cases_lt start at) [
            | inl later ↦ absurd (inside_none text start run at n here string later before)
            | inr early ↦ omega (arith, value, early)
          ]
          )
      | inr other ↦ (
          let value : get_or lasts' n 0 ≡ get_or lasts n 0 = put n ∙ rw other refl in
          elim (cases_lt at offset) [
            | inl early ↦ omega (arith, value, is.latest at n low string early)
            | inr late ↦ elim (cases_lt at start) [
              | inl gap ↦ absurd (none n at late gap string)
              | inr from ↦ elim (cases_lt start at) [
                | inl later ↦ absurd (inside_none text start run at n here string later before)
                | inr same ↦ absurd (let at_start : at ≡ start = omega (arith, from, same) in
                    let equal : n ≡ run = one_length text start n run (subst (λ j. IsBacktickString text j n) at_start string) here in
                    differ n run equal other)
              ]
            ]
          ]
          )
    ]
      where
        differ : (n run : ℕ) → n ≡ run → (n == run) ≡ false → ⊥
        differ n run equal other = (let turned : true ≡ false = sym (eq-eqb n run equal) ∙ other in cc)

    there : (n : ℕ) → 0 < get_or lasts' n 0 → IsBacktickString text (get_or lasts' n 0) n
    there n some = elim (cases_Bool (n == run)) [
      | inl same ↦ (
          let value : get_or lasts' n 0 ≡ start = put n ∙ rw same refl in
          subst (λ j. IsBacktickString text j n) (sym value) (subst (IsBacktickString text start) (sym (eqb-true n run same)) here)
          )
      | inr other ↦ (
          let value : get_or lasts' n 0 ≡ get_or lasts n 0 = put n ∙ rw other refl in
          subst (λ j. IsBacktickString text j n) (sym value) (is.there n (omega (arith, some, value)))
          )
    ]

-- No string is left.
pub all_last : (text : List ℕ) (after : ℕ) (lasts : List ℕ) (offset : ℕ) → AreLastBetween text after lasts offset
    → ((n to : ℕ) → 0 < n → HasNone text n offset to) → AreLastStrings text after lasts
all_last text after lasts offset is none = record {
  latest = λ at n low string. elim (cases_lt at offset) [
    | inl early ↦ is.latest at n low string early
    | inr late ↦ absurd (none n (at + 1) string.some at late (omega arith) string)
  ];
  there = is.there;
}

pub none_yet : (text lasts : List ℕ) → ((k : ℕ) → get_or lasts k 0 ≡ 0) → AreLastBetween text 0 lasts 0
none_yet text lasts empty = record {
  within = omega arith;
  apart = λ moved. absurd (omega (arith, moved));
  latest = λ at n low string early. absurd (omega (arith, early));
  there = λ n some. absurd (omega (arith, some, empty n));
}

-- a string of what follows an offset, in the text
string_in_text : (text : List ℕ) (offset at n : ℕ) → IsBacktickString (drop offset text) at n → 0 < at → IsBacktickString text (offset + at) n
string_in_text text offset at n is some = record {
  some = is.some;
  backticks = λ k less. ap (λ j. get_or text j 0) (omega arith) ∙ sym (get_or-drop offset text (at + k) 0) ∙ is.backticks k less;
  not_preceded = λ k before here.
      is.not_preceded (at - 1) (omega (arith, some))
      (get_or-drop offset text (at - 1) 0 ∙ ap (λ j. get_or text j 0) (omega (arith, some, before)) ∙ here);
  not_followed = λ here.
      is.not_followed (get_or-drop offset text (at + n) 0 ∙ ap (λ j. get_or text j 0) (omega arith) ∙ here);
}

-- What no later string closes begins no code span.
pub no_later : (text : List ℕ) (after : ℕ) (lasts : List ℕ) (offset fence : ℕ) → after ≤ offset → AreLastStrings text after lasts
    → fence ≡ prefix_len is_backtick (drop offset text)
    → get_or lasts fence 0 ≤ offset → (span : CodeSpan) → ¬ IsCodeSpan (drop offset text) span
no_later text after lasts offset fence low are counted early span is =
    let n : span.content.start ≡ fence = opens_counted (drop offset text) span.content.start is.opens ∙ sym counted in
    let following = strings_apart (drop offset text) span.content.start span.content.end span.content.start is.opens is.closes is.in_order in
    let string = string_in_text text offset span.content.end span.content.start is.closes (omega (arith, following)) in
    absurd (omega (
      arith,
      early,
      following,
      ap (λ k. get_or lasts k 0) n,
      are.latest (offset + span.content.end) span.content.start
          (omega (arith, low, following)) string,
    ))

-- a string of the text, in what follows an offset
string_in_rest : (text : List ℕ) (offset at n : ℕ) → IsBacktickString text (offset + at) n → IsBacktickString (drop offset text) at n
string_in_rest text offset at n is = record {
  some = is.some;
  backticks = λ k less. get_or-drop offset text (at + k) 0 ∙ ap (λ j. get_or text j 0) (omega arith) ∙ is.backticks k less;
  not_preceded = λ k before here. is.not_preceded (offset + k) (omega (arith, before)) (sym (get_or-drop offset text k 0) ∙ here);
  not_followed = λ here.
      is.not_followed (ap (λ j. get_or text j 0) (omega arith) ∙ sym (get_or-drop offset text (at + n) 0) ∙ here);
}

-- Where a later string of the length stands, one is found.
pub some_later : (text : List ℕ) (after : ℕ) (lasts : List ℕ) (offset fence : ℕ) → AreLastStrings text after lasts
    → fence ≡ prefix_len is_backtick (drop offset text)
    → offset < get_or lasts fence 0 → ((to : ℕ) → HasNone (drop offset text) fence fence to) → ⊥
some_later text after lasts offset fence are counted late none =
    let last = get_or lasts fence 0 in
    let there : offset + (last - offset) ≡ last = omega (arith, late) in
    let string = are.there fence (omega (arith, late)) in
    let in_rest = string_in_rest text offset (last - offset) fence (subst (λ j. IsBacktickString text j fence) (sym there) string) in
    elim (cases_lt (last - offset) fence) [
      | inl less ↦ (
          let before : last ≡ suc (last - 1) = omega (arith, late) in
          let at : offset + (last - offset - 1) ≡ last - 1 = omega (arith, late) in
          string.not_preceded (last - 1) before
          (ap (λ j. get_or text j 0) (sym at) ∙ backticks_at text offset fence counted (last - offset - 1) (omega (arith, less)))
          )
      | inr following ↦ none (last - offset + 1) (last - offset) following (omega arith) in_rest
    ]

pub IfNone-map : {A P Q : Type 0} (answer : Option A) → (P → Q) → IfNone answer P → IfNone answer Q
IfNone-map None holds is = holds is
IfNone-map (Some a) holds is = tt

-- ---- the strings after the one at an offset
-- the backticks at the offset have no string in them but the one that begins there
pub first_after : (text lasts : List ℕ) (offset run : ℕ) → offset ≤ length text → run ≡ prefix_len is_backtick (drop offset text)
    → ((k : ℕ) → get_or lasts k 0 ≡ 0) → AreLastBetween text offset lasts (offset + run)
first_after text lasts offset run inside counted empty = record {
  within = omega (arith, inside, counted, prefix_len-le-length is_backtick (drop offset text), length-drop offset text);
  apart = λ _. none_after text offset run counted;
  latest = λ at n low string early.
      absurd (string.not_preceded (at - 1) (omega (arith, low))
      (let before : offset + (at - 1 - offset) ≡ at - 1 = omega (arith, low) in
      ap (λ j. get_or text j 0) (sym before) ∙ backticks_at text offset run counted (at - 1 - offset) (omega (arith, low, early))));
  there = λ n some. absurd (omega (arith, some, empty n));
}

-- one string more
pub one_more_after : (text lasts lasts' : List ℕ) (source offset start run : ℕ) → source ≤ length text → AreLastBetween text source lasts (source + offset)
    → 0 < offset → offset ≤ start → IsBacktickString (drop source text) start run → ((n : ℕ) → HasNone (drop source text) n offset start)
    → start + run ≤ length (drop source text)
    → ((k : ℕ) → get_or lasts' k 0 ≡ cond (k == run) (source + start) (get_or lasts k 0)) → AreLastBetween text source lasts' (source + (start + run))
one_more_after text lasts lasts' source offset start run inside is some after here none within put =
    let end : source + start + run ≡ source + (start + run) = omega arith in
    subst (AreLastBetween text source lasts') end
    (one_more text source lasts lasts' (source + offset) (source + start) run is (omega (arith, after))
    (string_in_text text source start run here (omega (arith, some, after)))
    (λ n at low high string.
    let there : source + (at - source) ≡ at = omega (arith, low) in
    none n (at - source) (omega (arith, low)) (omega (arith, low, high))
    (string_in_rest text source (at - source) n (subst (λ j. IsBacktickString text j n) (sym there) string)))
    (omega (arith, within, length-drop source text, inside)) put)

-- no string is left
pub all_last_after : (text lasts : List ℕ) (source offset : ℕ) → AreLastBetween text source lasts (source + offset)
    → ((n to : ℕ) → 0 < n → HasNone (drop source text) n offset to) → AreLastStrings text source lasts
all_last_after text lasts source offset is none = all_last text source lasts (source + offset) is (λ n to some at low high string.
    let there : source + (at - source) ≡ at = omega (arith, low) in
    none n (at - source + 1) some (at - source) (omega (arith, low)) (omega arith)
    (string_in_rest text source (at - source) n (subst (λ j. IsBacktickString text j n) (sym there) string)))
