-- What is written in parts.
use Rattle.std.proofs.Common.{◌≡◌, ℕ, ◌==◌, false, List, ◌++◌, ap, append_assoc, ◌∙◌, inl, inr}
use Rattle.std.proofs.lemmas.Bool.{cases_Bool, eqb-true}
use Rattle.markdown_html.specs.States.{HtmlState, ended_line, on_line, written}

-- on a line of its own, and after it
pub three_on_line : (first second third : List ℕ) (s : HtmlState)
    → written third (written second (on_line first s)) ≡ on_line (first ++ (second ++ third)) s
three_on_line first second third s =
    ap (λ out. record s { output = out }) (append_assoc (ended_line s.output ++ first) second third
    ∙ append_assoc (ended_line s.output) first (second ++ third))

-- a list that does not start at 1
pub not_one : (first : ℕ) → ¬ (first ≡ 1) → (first == 1) ≡ false
not_one first other = elim (cases_Bool (first == 1)) [
  | inl is ↦ absurd (other (eqb-true first 1 is))
  | inr is ↦ is
]
