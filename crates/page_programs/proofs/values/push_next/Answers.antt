use Rattle.std.proofs.Common.{List, [], ◌∷◌, ◌++◌, ◌≡◌, ◌⊎◌, ℕ, false, ap, append_assoc, arith, drop, inl, inr, map, string_bytes, sym, ◌∙◌}
use Rattle.std.proofs.lemmas.List.{at_drop_more, drop_all}
use Rattle.page_programs.specs.Values.{joined, respelled, takes_value}
use Rattle.page_programs.proofs.ArgumentLemmas.{joined_alone}
use Rattle.page_programs.proofs.values.push_next.Goals.{else-arguments-gt1-via-then-arguments-gt1+else-takes_value, else-arguments-gt1-via-else-arguments-gt1}
use Rattle.page_programs.proofs.values.push_next.Goals as goal

pub returns-clause-made : goal.returns-clause-made
returns-clause-made c =
    let arguments = c.args.arguments.now in
    let word = c.as_str-word.result.now in
    let later = map string_bytes (drop 1 arguments) in
    let old = map string_bytes c.args.made.now.items in
    let alone : (takes_value word ≡ false) ⊎ (later ≡ []) = elim c.else-arguments-gt1.branch [
      | else-arguments-gt1-via-then-arguments-gt1+else-takes_value w ↦ inl (sym w.takes_value.ensures ∙ w.if-takes_value.false)
      | else-arguments-gt1-via-else-arguments-gt1 w ↦ inr (ap (map string_bytes) (drop_all 1 arguments (omega (arith, w.if-arguments-gt1.false))))
    ] in
    let first : joined (map string_bytes arguments) ≡ joined (word ∷ later) =
    at_drop_more (λ left. joined (map string_bytes left)) arguments 0 c.index-arguments-0.result c.requires
    ∙ ap (λ it. joined (it ∷ later)) (ap string_bytes (sym c.index-arguments-0.is) ∙ sym c.as_str-word.ensures.value) in
    ap (λ (made : List (List ℕ)). made ++ joined later) c.in_ok-push_word.ensures
    ∙ append_assoc old (respelled word ∷ []) (joined later)
    ∙ ap (λ (made : List (List ℕ)). old ++ made) (sym (first ∙ joined_alone word later (sym c.eq.ensures ∙ c.if-eq.false) alone))
