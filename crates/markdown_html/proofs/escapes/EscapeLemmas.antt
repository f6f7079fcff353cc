-- Texts whose bytes mean themselves, up to one that becomes a reference.
use Rattle.std.proofs.Common.{◌≡◌, ℕ, ◌<◌, Bool, true, false, not, ◌==◌, List, []}
use Rattle.std.proofs.Common.{◌∷◌, ◌++◌, length, take, drop, get_or, refl, sym, ap, subst, ◌∙◌, arith, inl, inr, append_assoc, one-add}
use Rattle.std.specs.Prelude.{slice_range}
use Rattle.std.specs.List.{prefix_len}
use Rattle.std.specs.Str.{IsUtf8, IsCharBoundary}
use Rattle.std.proofs.lemmas.Bool.{cases_Bool, eqb-false, eqb-true}
use Rattle.std.proofs.lemmas.List.Sums.{prefix_len_stops}
use Rattle.std.proofs.lemmas.List.{get_or-drop, length-drop}
use Rattle.std.proofs.lemmas.Str.{IsCharBoundary-after_ascii}
use Rattle.markdown_html.proofs.RunLemmas.{cut_after}
use Rattle.markdown_html.specs.Escapes.{escaped, escaped_byte, is_special}

abbrev is_plain : ℕ → Bool
is_plain b = not (is_special b)

-- the front that means itself
abbrev pub plain_len : List ℕ → ℕ
plain_len bytes = prefix_len is_plain bytes

plain_byte : (b : ℕ) → is_special b ≡ false → escaped_byte b ≡ b ∷ []
plain_byte b plain = elim (cases_Bool (b == 60)) [
  | inl less ↦ (let is = rw less at plain in cc)
  | inr no_less ↦ elim (cases_Bool (b == 62)) [
    | inl greater ↦ (let is = rw (no_less, greater) at plain in cc)
    | inr no_greater ↦ elim (cases_Bool (b == 38)) [
      | inl amp ↦ (let is = rw (no_less, no_greater, amp) at plain in cc)
      | inr no_amp ↦ elim (cases_Bool (b == 34)) [
        | inl quote ↦ (let is = rw (no_less, no_greater, no_amp, quote) at plain in cc)
        | inr no_quote ↦ rw (no_less, no_greater, no_amp, no_quote) refl
      ]
    ]
  ]
]

-- what is special is ASCII
special_low : (b : ℕ) → is_special b ≡ true → b < 128
special_low b special = elim (cases_Bool (b == 60)) [
  | inl less ↦ omega (arith, eqb-true b 60 less)
  | inr no_less ↦ elim (cases_Bool (b == 62)) [
    | inl greater ↦ omega (arith, eqb-true b 62 greater)
    | inr no_greater ↦ elim (cases_Bool (b == 38)) [
      | inl amp ↦ omega (arith, eqb-true b 38 amp)
      | inr no_amp ↦ (let is = rw (no_less, no_greater, no_amp) at special in omega (arith, eqb-true b 34 is))
    ]
  ]
]

-- The front stays as it is.
pub escaped-front : (bytes : List ℕ) → escaped bytes ≡ take (plain_len bytes) bytes ++ escaped (drop (plain_len bytes) bytes)
escaped-front [] = refl
escaped-front (b ∷ bs) = elim (cases_Bool (is_special b)) [
  | inl special ↦ rw special refl
  | inr plain ↦ rw (plain, plain_byte b plain, one-add) (ap (λ t. b ∷ t) (escaped-front bs))
]

plain_end : (b : Bool) → not b ≡ false → b ≡ true
plain_end true h = refl
plain_end false h = cc

-- A special byte follows it, or the text ends.
pub special_after : (bytes : List ℕ) → plain_len bytes < length bytes → is_special (get_or bytes (plain_len bytes) 0) ≡ true
special_after bytes inside =
    plain_end (is_special (get_or bytes (plain_len bytes) 0)) (prefix_len_stops is_plain bytes 0 inside)

plain_stop : (b : ℕ) → is_plain b ≡ false → b < 128
plain_stop b stop = special_low b (plain_end (is_special b) stop)

pub front_cut : (bytes : List ℕ) (n : ℕ) → n ≡ plain_len bytes → IsCharBoundary bytes n
front_cut bytes n front = cut_after is_plain plain_stop bytes n front

-- what is left after that front
pub special_first : (bytes rest : List ℕ) (n : ℕ) → n ≡ plain_len bytes → rest ≡ drop n bytes → (length rest == 0) ≡ false
    → is_special (get_or rest 0 0) ≡ true
special_first bytes rest n front later some =
    let inside : n < length bytes = omega (arith, ap length later, length-drop n bytes, eqb-false (length rest) 0 some) in
    ap (λ t. is_special (get_or t 0 0)) later
    ∙ ap (λ b. is_special b) (get_or-drop n bytes 0 0)
    ∙ subst (λ k. is_special (get_or bytes k 0) ≡ true) (sym front ∙ omega arith)
    (special_after bytes (subst (λ k. k < length bytes) front inside))

pub first_cut : (rest : List ℕ) → IsUtf8 rest → (length rest == 0) ≡ false → is_special (get_or rest 0 0) ≡ true → IsCharBoundary rest 1
first_cut rest utf8 some special =
    subst (IsCharBoundary rest) (omega arith)
    (IsCharBoundary-after_ascii rest 0 utf8 (omega (arith, eqb-false (length rest) 0 some)) (special_low (get_or rest 0 0) special))

pub escaped-first : (rest : List ℕ) → (length rest == 0) ≡ false → escaped rest ≡ escaped_byte (get_or rest 0 0) ++ escaped (drop 1 rest)
escaped-first [] some = cc
escaped-first (b ∷ bs) some = refl

-- what is appended of a text, and what is left of it
pub front_pushed : (text front rest before after : List ℕ) (n : ℕ) → n ≡ plain_len text → front ≡ slice_range text 0 n → rest ≡ drop n text
    → after ≡ before ++ front → after ++ escaped rest ≡ before ++ escaped text
front_pushed text front rest before after n len is later pushed =
    let whole : escaped text ≡ take n text ++ escaped (drop n text) =
    subst (λ k. escaped text ≡ take k text ++ escaped (drop k text)) (sym len) (escaped-front text) in
    let taken : front ≡ take n text = is ∙ ap (λ k. take k text) (omega arith) in
    rw (pushed, taken, later, whole, append_assoc) refl

pub first_pushed : (rest last middle after : List ℕ) → (length rest == 0) ≡ false → last ≡ drop 1 rest
    → after ≡ middle ++ escaped_byte (get_or rest 0 0) → after ++ escaped last ≡ middle ++ escaped rest
first_pushed rest last middle after some later pushed =
    rw (pushed, later, escaped-first rest some, append_assoc) refl
