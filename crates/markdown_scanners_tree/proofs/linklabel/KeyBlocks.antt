-- Where the first block of a text ends.
use Rattle.std.proofs.Common.{ℕ, zero, suc, true, false, ◌==◌, ◌+◌, ◌<◌, ◌≤◌, List, [], ◌∷◌, ◌++◌, ◌≡◌, refl, sym, ap, ◌∙◌, arith}
use Rattle.std.proofs.Common.{length, map, take, drop, append_assoc, length-append}
use Rattle.std.proofs.lemmas.Bool.{cond-true, cond-false}
use Rattle.std.proofs.lemmas.Bool.Decides.{nat_tests}
use Rattle.std.proofs.lemmas.List.{append-nil, drop-map, length-map, take-map}
use Rattle.markdown_scanners_tree.specs.linklabel.Key.{blocks, blocks_after}

is_full : (n : ℕ) → n ≡ 16 → (n == 16) ≡ true
is_full n is = grind (arith, nat_tests)

has_place : (n m : ℕ) → n + suc m ≡ 16 → (n == 16) ≡ false
has_place n m is = grind (arith, nat_tests)

one_more : (g : List ℕ) (b n : ℕ) → length g + suc n ≡ 16 → length (g ++ (b ∷ [])) + n ≡ 16
one_more g b n is = rw (length-append g (b ∷ [])) omega arith

first_after : (n : ℕ) (g xs : List ℕ) → length g + n ≡ 16 → n < length xs
    → blocks_after g xs ≡ (g ++ take n xs) ∷ blocks_after [] (drop n xs)
first_after n g [] is above = absurd (omega arith)
first_after zero g (b ∷ bs) is above =
    cond-true _ _ _ (is_full (length g) (omega arith)) ∙ ap (λ front. front ∷ blocks_after (b ∷ []) bs) (sym (append-nil g))
first_after (suc n) g (b ∷ bs) is above =
    cond-false _ _ _ (has_place (length g) n is)
    ∙ first_after n (g ++ (b ∷ [])) bs (one_more g b n is) (omega arith)
    ∙ ap (λ front. front ∷ blocks_after [] (drop n bs)) (append_assoc g (b ∷ []) (take n bs))

last_after : (n : ℕ) (g xs : List ℕ) → length g + n ≡ 16 → length xs ≤ n → blocks_after g xs ≡ (g ++ xs) ∷ []
last_after n g [] is fits = ap (λ front. front ∷ []) (sym (append-nil g))
last_after zero g (b ∷ bs) is fits = absurd (omega arith)
last_after (suc n) g (b ∷ bs) is fits =
    cond-false _ _ _ (has_place (length g) n is)
    ∙ last_after n (g ++ (b ∷ [])) bs (one_more g b n is) (omega arith)
    ∙ ap (λ front. front ∷ []) (append_assoc g (b ∷ []) bs)

first_block : (xs : List ℕ) → 16 < length xs → blocks xs ≡ take 16 xs ∷ blocks (drop 16 xs)
first_block xs above = first_after 16 [] xs refl above

pub first_mapped : (f : ℕ → ℕ) (xs : List ℕ) → 16 < length xs
    → blocks (map f xs) ≡ map f (take 16 xs) ∷ blocks (map f (drop 16 xs))
first_mapped f xs above =
    first_block (map f xs) (rw (length-map xs) above)
    ∙ ap (λ front. front ∷ blocks (drop 16 (map f xs))) (take-map f 16 xs)
    ∙ ap (λ back. map f (take 16 xs) ∷ blocks back) (drop-map f 16 xs)

pub last_mapped : (f : ℕ → ℕ) (xs : List ℕ) → length xs ≤ 16 → blocks (map f xs) ≡ map f xs ∷ []
last_mapped f xs fits = last_after 16 [] (map f xs) refl (rw (length-map xs) fits)
