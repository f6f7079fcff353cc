-- The space at the end, where one stands there.
use Rattle.std.proofs.Common.{Bor, ℕ, List, [], ◌∷◌, ◌++◌, ◌==◌, ◌≡◌, ◌≢◌, Option, Some, None, refl, sym, ap, ◌∙◌, arith, inl, inr}
use Rattle.std.specs.Prelude.{unwrap_or}
use Rattle.std.specs.Option.{MatchOption}
use Rattle.std.proofs.lemmas.Bool.{cases_Bool, eqb-true}
use Rattle.std.proofs.lemmas.Str.Pattern.{strip_suffix_char}
use Rattle.markdown_scanners_tree.specs.linklabel.Answer.{without_last_space}
use Rattle.markdown_scanners_tree.proofs.linklabel.up_to_last_space.Goals as goal

no_last : (text : List ℕ) → ((before : List ℕ) → text ≢ before ++ (32 ∷ [])) → text ≡ without_last_space text
no_last [] none = refl
no_last (b ∷ []) none = elim (cases_Bool (b == 32)) [
  | inl space ↦ absurd (none [] (ap (λ z. z ∷ []) (eqb-true b 32 space)))
  | inr other ↦ rw other refl
]
no_last (b ∷ c ∷ bs) none = ap (λ z. b ∷ z) (no_last (c ∷ bs) (λ before e. none (b ∷ before) (ap (λ z. b ∷ z) e)))

last_dropped : (before : List ℕ) → before ≡ without_last_space (before ++ (32 ∷ []))
last_dropped [] = refl
last_dropped (b ∷ []) = refl
last_dropped (b ∷ c ∷ bs) = ap (λ z. b ∷ z) (last_dropped (c ∷ bs))

stripped : (text : Bor (List ℕ)) (front : Option (Bor (List ℕ)))
    → MatchOption front ((before : List ℕ) → text.now ≢ before ++ (32 ∷ [])) (λ x. text.now ≡ x.now ++ (32 ∷ []))
    → (unwrap_or front text).now ≡ without_last_space text.now
stripped text None none = no_last text.now none
stripped text (Some front) space = last_dropped front.now ∙ sym (ap without_last_space space)

pub returns : goal.returns
returns c =
    ap (λ t. t.now) c.unwrap_or.ensures
    ∙ stripped c.args.text c.strip_suffix.result
    (strip_suffix_char 32 c.args.text.now c.strip_suffix.result c.strip_suffix.ensures.cases (omega arith))
