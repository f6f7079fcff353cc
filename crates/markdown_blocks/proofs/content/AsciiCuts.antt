-- Texts that are UTF-8 are UTF-8 without bytes of ASCII at their ends.
use Rattle.std.proofs.Common.{ℕ, zero, suc, Bool, true, false, not, ◌||◌, ◌==◌, ◌+◌, ◌-◌, ◌<◌, ◌≤◌, ◌≡◌, List, [], ◌∷◌, length, take, drop, get_or}
use Rattle.std.proofs.Common.{inl, inr, nat_lt, reverse, ap, ◌∙◌, subst, arith}
use Rattle.std.specs.List.{prefix_len, suffix_len}
use Rattle.std.specs.Str.{IsUtf8, IsCharBoundary}
use Rattle.std.proofs.lemmas.Bool.Decides.{leb_tells, nat_tests}
use Rattle.std.proofs.lemmas.List.{get_or-reverse}
use Rattle.std.proofs.lemmas.List.Sums.{prefix_len-le-length, prefix_len_stops, suffix_len-le-length}
use Rattle.std.proofs.lemmas.Str.{IsCharBoundary-before_ascii, IsCharBoundary-end, IsCharBoundary-start, IsUtf8-drop, IsUtf8-take}
use Rattle.markdown_scanners_tree.specs.Ascii.{number_sign}
use Rattle.markdown_scanners_tree.specs.Bytes.{is_line_ending, is_space_or_tab, line_head}
use Rattle.markdown_scanners_tree.proofs.ForCallers.{cut_after_ascii}
use Rattle.markdown_scanners_tree.proofs.line.ColumnLemmas.{bool_cases}
use Rattle.markdown_blocks.specs.content.Content.{words_len}
use Rattle.markdown_blocks.specs.content.Parts.{without_closing, without_signs}
use Rattle.markdown_blocks.specs.info.Info.{after_fence, info_of, without_end, without_front}

-- bytes that pass the test are ASCII
abbrev pub IsOfAscii : (ℕ → Bool) → Type 0
IsOfAscii test = (b : ℕ) → test b ≡ true → b < 128

module _ (test : ℕ → Bool) (low : IsOfAscii test) where
  -- those at the front do
  pub at_front : (bytes : List ℕ) (n : ℕ) → n < prefix_len test bytes → get_or bytes n 0 < 128
  at_front [] n is = absurd (omega (arith, is))
  at_front (b ∷ bytes) n is =
      bool_cases (test b)
      (λ passes. by passes n (let more : n < 1 + prefix_len test bytes = rw passes at is in omega (arith, more)) (λ n more. at_front bytes n more))
      (λ fails. let none : n < 0 = rw fails at is in absurd (omega (arith, none)))
    where
      by : test b ≡ true → (n : ℕ) → n < suc (prefix_len test bytes)
          → ((n : ℕ) → n < prefix_len test bytes → get_or bytes n 0 < 128) → get_or (b ∷ bytes) n 0 < 128
      by passes zero more later = low b passes
      by passes (suc n) more later = later n (omega (arith, more))

  -- and those at the end
  at_end : (bytes : List ℕ) → 0 < suffix_len test bytes → get_or bytes (length bytes - suffix_len test bytes) 0 < 128
  at_end bytes some =
      let n = suffix_len test bytes in
      let few = suffix_len-le-length test bytes in
      let last = at_front (reverse bytes) (n - 1) (omega (arith, some)) in
      let same : get_or (reverse bytes) (n - 1) 0 ≡ get_or bytes (length bytes - n) 0 =
      get_or-reverse bytes (n - 1) 0 (omega (arith, some, few)) ∙ ap (λ i. get_or bytes i 0) (omega (arith, some, few)) in
      subst (λ b. b < 128) same last

  pub cut_after_front : (bytes : List ℕ) → IsUtf8 bytes → IsCharBoundary bytes (prefix_len test bytes)
  cut_after_front bytes utf8 = by (prefix_len test bytes) (λ n is. at_front bytes n is) (prefix_len-le-length test bytes)
    where
      by : (n : ℕ) → ((k : ℕ) → k < n → get_or bytes k 0 < 128) → n ≤ length bytes → IsCharBoundary bytes n
      by zero all within = IsCharBoundary-start bytes utf8
      by (suc n) all within = cut_after_ascii bytes (suc n) utf8 within (omega arith) (all (suc n - 1) (omega arith))

  pub cut_before_end : (bytes : List ℕ) → IsCharBoundary bytes (length bytes - suffix_len test bytes)
  cut_before_end bytes = elim (leb_tells 1 (suffix_len test bytes)) [
    | inl some ↦ IsCharBoundary-before_ascii bytes (length bytes - suffix_len test bytes)
        (omega (arith, some.1, suffix_len-le-length test bytes)) (at_end bytes (omega (arith, some.1)))
    | inr none ↦ (let all : length bytes ≡ length bytes - suffix_len test bytes = omega (arith, none.1) in
        subst (IsCharBoundary bytes) all (IsCharBoundary-end bytes))
  ]

  pub after_front : (bytes : List ℕ) → IsUtf8 bytes → IsUtf8 (drop (prefix_len test bytes) bytes)
  after_front bytes utf8 = IsUtf8-drop bytes (prefix_len test bytes) utf8 (cut_after_front bytes utf8)

  pub before_end : (bytes : List ℕ) → IsUtf8 bytes → IsUtf8 (take (length bytes - suffix_len test bytes) bytes)
  before_end bytes utf8 = IsUtf8-take bytes (length bytes - suffix_len test bytes) utf8 (cut_before_end bytes)

-- what stands before the first byte that fails
pub before_stop : (test : ℕ → Bool) → ((b : ℕ) → test b ≡ false → b < 128) → (bytes : List ℕ) → IsUtf8 bytes → IsUtf8 (take (prefix_len test bytes) bytes)
before_stop test low bytes utf8 =
    IsUtf8-take bytes (prefix_len test bytes) utf8 (elim (leb_tells (length bytes) (prefix_len test bytes)) [
      | inl all ↦ subst (IsCharBoundary bytes) (omega (arith, all.1, prefix_len-le-length test bytes)) (IsCharBoundary-end bytes)
      | inr stops ↦ IsCharBoundary-before_ascii bytes (prefix_len test bytes) (omega (arith, stops.1))
          (low (get_or bytes (prefix_len test bytes) 0) (prefix_len_stops test bytes 0 (omega (arith, stops.1))))
    ])

-- ---- tests

pub spaces_low : IsOfAscii is_space_or_tab
spaces_low b is = grind (arith, nat_tests)

byte_low : (byte : ℕ) → byte < 128 → IsOfAscii (λ b. b == byte)
byte_low byte low b is = grind (arith, nat_tests)

pub white_low : IsOfAscii (λ b. is_space_or_tab b || is_line_ending b)
white_low b is = grind (arith, nat_tests)

ending_low : (b : ℕ) → not (is_line_ending b) ≡ false → b < 128
ending_low b is = grind (arith, nat_tests)

-- ---- texts

pub head_utf8 : (text : List ℕ) → IsUtf8 text → IsUtf8 (line_head text)
head_utf8 text utf8 = before_stop (λ b. not (is_line_ending b)) ending_low text utf8

pub front_utf8 : (text : List ℕ) → IsUtf8 text → IsUtf8 (without_front text)
front_utf8 text utf8 = after_front is_space_or_tab spaces_low text utf8

pub end_utf8 : (text : List ℕ) → IsUtf8 text → IsUtf8 (without_end text)
end_utf8 text utf8 = before_end is_space_or_tab spaces_low text utf8

pub fence_utf8 : (byte : ℕ) → byte < 128 → (text : List ℕ) → IsUtf8 text → IsUtf8 (after_fence byte text)
fence_utf8 byte low text utf8 = after_front (λ b. b == byte) (byte_low byte low) text utf8

-- the info string after a fence of a byte of ASCII
pub info_utf8 : (byte : ℕ) (fence : List ℕ) → byte < 128 → IsUtf8 fence → IsUtf8 (info_of byte fence)
info_utf8 byte fence low utf8 =
    end_utf8 (without_front (line_head (after_fence byte fence)))
    (front_utf8 (line_head (after_fence byte fence)) (head_utf8 (after_fence byte fence) (fence_utf8 byte low fence utf8)))

-- the text of a heading without a closing sequence
pub closing_utf8 : (text : List ℕ) → IsUtf8 text → IsUtf8 (without_closing text)
closing_utf8 text utf8 =
    let front = without_signs text in
    let inner = without_end front in
    bool_cases (length front == 0 || nat_lt (length inner) (length front))
    (λ closed. rw closed (end_utf8 front (before_end (λ b. b == number_sign) (byte_low number_sign (omega arith)) text utf8)))
    (λ stays. rw stays utf8)

pub words_utf8 : (text : List ℕ) → IsUtf8 text → IsUtf8 (take (words_len text) text)
words_utf8 text utf8 = before_end (λ b. is_space_or_tab b || is_line_ending b) white_low text utf8
