-- Lists of inlines that nest, and some that don't.
use Rattle.std.proofs.Common.{ℕ, List, [], ◌∷◌, ◌≡◌, refl, sym, subst, arith}
use Rattle.markdown_inlines.specs.Nesting.{EndsIt, Nest, StandFrom}
use Rattle.markdown_inlines.specs.declared.inlines.Inline.{Inline}
use Rattle.markdown_inlines.specs.declared.inlines.Inline.TheVariants as I
use Rattle.markdown_inlines.specs.declared.pieces.PieceKind.TheVariants as K

abbrev text : ℕ → ℕ → Inline
text from to = I.Leaf (record { kind = K.Text; start = from; end = to })

-- `*a **b***`
abbrev strong_in_emphasis : List Inline
strong_in_emphasis =
    I.StartEmphasis 0 1 ∷ text 1 3 ∷ I.StartEmphasis 3 2 ∷ text 5 6 ∷ I.EndEmphasis 6 2 ∷ I.EndEmphasis 8 1 ∷ []

strong_nests : Nest [] strong_in_emphasis
strong_nests = (I.StartEmphasis 3 2, I.StartEmphasis 0 1 ∷ [], refl, refl, (I.StartEmphasis 0 1, [], refl, refl, refl))

strong_stands : StandFrom [] 0 strong_in_emphasis 9
strong_stands =
    (1, (refl, refl), (3, (refl, refl), (5, (refl, refl), (6, (refl, refl), (8, (refl, refl), (9, (refl, refl), refl))))))

-- the outer of two that are open doesn't end first
crossed : ¬ Nest [] (I.StartEmphasis 0 1 ∷ I.StartEmphasis 1 2 ∷ I.EndEmphasis 4 1 ∷ I.EndEmphasis 5 2 ∷ [])
crossed is =
    let innermost : I.StartEmphasis 1 2 ∷ I.StartEmphasis 0 1 ∷ [] ≡ is.0 ∷ is.1 = is.2 in
    let same : I.StartEmphasis 1 2 ≡ is.0 = cc in
    let ends : EndsIt [] (I.StartEmphasis 1 2) (I.EndEmphasis 4 1) =
    subst (λ s. EndsIt [] s (I.EndEmphasis 4 1)) (sym same) is.3 in
    omega (arith, ends)

-- what begins doesn't stay open
not_ended : ¬ Nest [] (I.StartEmphasis 0 1 ∷ text 1 3 ∷ [])
not_ended is = (let none : I.StartEmphasis 0 1 ∷ [] ≡ [] = is in cc)

-- nothing ends that hasn't begun
not_begun : ¬ Nest [] (text 1 3 ∷ I.EndEmphasis 3 1 ∷ [])
not_begun is = (let none : [] ≡ is.0 ∷ is.1 = is.2 in cc)

-- no byte is in none
left_out : ¬ StandFrom [] 0 (text 1 3 ∷ []) 3
left_out is = omega (arith, is.1.0)
