-- Texts in HTML are read back.
use Rattle.std.proofs.Common.{◌≡◌, ℕ, false, ◌==◌, List, [], ◌∷◌, ◌++◌, refl, ap, sym, ◌∙◌, append-nil, inl, inr}
use Rattle.std.proofs.lemmas.Bool.{cases_Bool, eqb-true}
use Rattle.markdown_html.specs.EscapeLaws.{IsTextOf}
use Rattle.markdown_html.specs.Escapes.{escaped}
use Rattle.markdown_html.specs.SafeHtml.{read_after}
use Rattle.markdown_html.proofs.SafeLemmas.{escaped_alone}

-- a byte that begins no reference
other : (b : ℕ) (later : List ℕ) → (b == 38) ≡ false → read_after 0 (b ∷ later) ≡ b ∷ read_after 0 later
other b later plain = rw plain refl

-- a text before others
pub read_before : (text rest : List ℕ) → read_after 0 (escaped text ++ rest) ≡ text ++ read_after 0 rest
read_before [] rest = refl
read_before (b ∷ bs) rest = elim (cases_Bool (b == 60)) [
  | inl less ↦ rw (eqb-true b 60 less) (ap (λ t. 60 ∷ t) (read_before bs rest))
  | inr no_less ↦ elim (cases_Bool (b == 62)) [
    | inl greater ↦ rw (eqb-true b 62 greater) (ap (λ t. 62 ∷ t) (read_before bs rest))
    | inr no_greater ↦ elim (cases_Bool (b == 38)) [
      | inl amp ↦ rw (eqb-true b 38 amp) (ap (λ t. 38 ∷ t) (read_before bs rest))
      | inr no_amp ↦ elim (cases_Bool (b == 34)) [
        | inl quote ↦ rw (eqb-true b 34 quote) (ap (λ t. 34 ∷ t) (read_before bs rest))
        | inr no_quote ↦ rw (no_less, no_greater, no_amp, no_quote) (other b (escaped bs ++ rest) no_amp ∙ ap (λ t. b ∷ t) (read_before bs rest))
      ]
    ]
  ]
]

-- a text alone
pub read_escaped : (text : List ℕ) → read_after 0 (escaped text) ≡ text
read_escaped text =
    ap (read_after 0) (sym (append-nil (escaped text))) ∙ read_before text [] ∙ append-nil text

pub text_of_escaped : (text : List ℕ) → IsTextOf text (escaped text)
text_of_escaped text = record { reads = read_escaped text; stands = escaped_alone text }
