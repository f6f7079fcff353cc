-- The space at the front, where one stands there.
use Rattle.std.proofs.Common.{Bor, ℕ, List, [], ◌∷◌, ◌==◌, ◌≡◌, ◌≢◌, Option, Some, None, refl, sym, ap, ◌∙◌, arith, inl, inr}
use Rattle.std.specs.Prelude.{unwrap_or}
use Rattle.std.specs.Option.{MatchOption}
use Rattle.std.proofs.lemmas.Bool.{cases_Bool, eqb-true}
use Rattle.std.proofs.lemmas.Str.Pattern.{strip_prefix_char}
use Rattle.markdown_scanners_tree.specs.linklabel.Answer.{without_first_space}
use Rattle.markdown_scanners_tree.proofs.linklabel.past_first_space.Goals as goal

no_first : (text : List ℕ) → ((rest : List ℕ) → text ≢ 32 ∷ rest) → text ≡ without_first_space text
no_first [] none = refl
no_first (b ∷ bs) none = elim (cases_Bool (b == 32)) [
  | inl space ↦ absurd (none bs (ap (λ z. z ∷ bs) (eqb-true b 32 space)))
  | inr other ↦ rw other refl
]

stripped : (text : Bor (List ℕ)) (rest : Option (Bor (List ℕ)))
    → MatchOption rest ((after : List ℕ) → text.now ≢ 32 ∷ after) (λ x. text.now ≡ 32 ∷ x.now)
    → (unwrap_or rest text).now ≡ without_first_space text.now
stripped text None none = no_first text.now none
stripped text (Some rest) space = sym (ap without_first_space space)

pub returns : goal.returns
returns c =
    ap (λ t. t.now) c.unwrap_or.ensures
    ∙ stripped c.args.text c.strip_prefix.result
    (strip_prefix_char 32 c.args.text.now c.strip_prefix.result c.strip_prefix.ensures.cases (omega arith))
