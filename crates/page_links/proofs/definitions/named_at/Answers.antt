use Rattle.std.proofs.Common.{ℕ, List, inl, inr, refl, sym, ap, ◌∙◌, [], ◌∷◌}
use Rattle.std.proofs.lemmas.Result.{IfOk-weaker}
use Rattle.page_links.specs.definitions.Definitions.{Defined}
use Rattle.page_links.proofs.definitions.named_at.Goals as goal

pub returns-in-Some : goal.returns-in-Some
returns-in-Some c =
    let found = rw (c.in-Some.is, c.bytes_from.ensures) at c.in_ok-label.ensures in
    let named : List ℕ → List Defined = λ label. record { offset = c.args.offset; label = label } ∷ [] in
    IfOk-weaker c.with_label.result _ _ (λ made is. inl (found.0, found.1, is ∙ ap named (sym found.2))) c.with_label.ensures

pub returns-in-None : goal.returns-in-None
returns-in-None c =
    let none = rw (c.in-None.is, c.bytes_from.ensures) at c.in_ok-label.ensures in
    inr (λ label is. none label.text (label, is, refl), refl)
