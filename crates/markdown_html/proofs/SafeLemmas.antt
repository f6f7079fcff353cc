-- How texts and addresses are written is safe.
use Rattle.std.proofs.Common.{ℕ, ◌≡◌, true, false, List, [], ◌∷◌, ◌++◌, refl, arith, inl, inr, append_assoc}
use Rattle.std.specs.Prelude.{◌==◌, codes}
use Rattle.std.proofs.lemmas.Bool.{cases_Bool}
use Rattle.std.proofs.lemmas.Bool.Decides.{nat_tests}
use Rattle.markdown_scanners_tree.specs.Ascii.{ampersand, greater_than_sign, less_than_sign, quotation_mark}
use Rattle.markdown_html.specs.Escapes.{escaped, escaped_byte}
use Rattle.markdown_html.specs.SafeHtml.{is_text_byte, is_text, finished, with_byte, with_start, with_end, with_void, IsSafeHtml}

-- worked rows
plain_row : IsSafeHtml [] (codes "<p>a&lt;<br /></p>\n")
plain_row =
    with_start [] (codes "p") [] (codes "a&lt;<br /></p>\n") refl refl
    (with_byte (codes "p" ∷ []) 97 (codes "&lt;<br /></p>\n") refl
    (with_byte _ 38 (codes "lt;<br /></p>\n") refl (with_byte _ 108 (codes "t;<br /></p>\n") refl (with_byte _ 116 (codes ";<br /></p>\n") refl
    (with_byte _ 59 (codes "<br /></p>\n") refl
    (with_void _ (codes "br") [] true (codes "</p>\n") refl refl (with_end [] (codes "p") (codes "\n") (with_byte [] 10 [] refl finished))))))))

-- a byte that is none of the four
pub other_byte : (b : ℕ) (rest : List ℕ) → (b == less_than_sign) ≡ false → (b == greater_than_sign) ≡ false → (b == ampersand) ≡ false
    → (b == quotation_mark) ≡ false → is_text_byte b rest ≡ true
other_byte b rest less greater amp quote = rw (amp, less, greater, quote)

pub equal : (b c : ℕ) → (b == c) ≡ true → b ≡ c
equal b c same = grind (arith, nat_tests)

-- An escaped byte is a text before a text.
escaped_byte_is_text : (b : ℕ) (rest : List ℕ) → is_text rest ≡ true → is_text (escaped_byte b ++ rest) ≡ true
escaped_byte_is_text b rest text = elim (cases_Bool (b == less_than_sign)) [
  | inl less ↦ rw less text
  | inr not_less ↦ elim (cases_Bool (b == greater_than_sign)) [
    | inl greater ↦ rw (not_less, greater) text
    | inr not_greater ↦ elim (cases_Bool (b == ampersand)) [
      | inl amp ↦ rw (not_less, not_greater, amp) text
      | inr not_amp ↦ elim (cases_Bool (b == quotation_mark)) [
        | inl quote ↦ rw (not_less, not_greater, not_amp, quote) text
        | inr not_quote ↦ rw (not_less, not_greater, not_amp, not_quote, other_byte b rest not_less not_greater not_amp not_quote) text
      ]
    ]
  ]
]

pub escaped_is_text : (words rest : List ℕ) → is_text rest ≡ true → is_text (escaped words ++ rest) ≡ true
escaped_is_text [] rest text = text
escaped_is_text (b ∷ words) rest text =
    rw (append_assoc (escaped_byte b) (escaped words) rest) (escaped_byte_is_text b (escaped words ++ rest) (escaped_is_text words rest text))

pub escaped_alone : (words : List ℕ) → is_text (escaped words) ≡ true
escaped_alone [] = refl
escaped_alone (b ∷ words) = escaped_byte_is_text b (escaped words) (escaped_alone words)
