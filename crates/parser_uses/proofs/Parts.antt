-- Parts of a text, joined.
use Rattle.std.proofs.Common.{◌≡◌, ◌++◌, ℕ, List, [], ◌∷◌, map, sym, ap, ◌∙◌, append_assoc, append-nil}
use denote.Ref.{Bor}
use Rattle.std.specs.List.{concat}

-- the parts, joined
abbrev pub parts : List (Bor (List ℕ)) → List ℕ
parts items = concat (map (λ item. item.now) items)

-- a part more, and what is after it
pub parts-push : (items : List (Bor (List ℕ))) (item : Bor (List ℕ)) (later : List ℕ) → parts (items ++ item ∷ []) ++ later ≡ parts items ++ (item.now ++ later)
parts-push [] item later = ap (λ l. l ++ later) (append-nil item.now)
parts-push (first ∷ items) item later =
    append_assoc first.now (parts (items ++ item ∷ [])) later ∙ ap (λ l. first.now ++ l) (parts-push items item later)
    ∙ sym (append_assoc first.now (parts items) (item.now ++ later))
