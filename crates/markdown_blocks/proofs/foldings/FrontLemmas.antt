-- Texts are ordered as the numbers that they begin with.
use Rattle.std.proofs.Common.{ℕ, zero, suc, ◌+◌, ◌*◌, ◌<◌, ◌≤◌, List, [], ◌∷◌, ◌++◌, ◌≡◌, get_or, drop, refl, ap, subst, ◌∙◌, arith}
use Rattle.std.specs.Prelude.{replicate}
use Rattle.std.specs.Int.{w64, from_be_bytes}
use Rattle.std.specs.Cmp.Lexicographic.{slice_cmp}
use Rattle.std.specs.Ordering.{nat_cmp, ordering_then}
use Rattle.std.specs.declared.cmp.Ordering.{Ordering}
use Rattle.std.proofs.lemmas.Cmp.{ranked}
use Rattle.std.specs.declared.cmp.Ordering.TheVariants.{Less, Equal, Greater}
use Rattle.markdown_blocks.specs.foldings.Fronts.{number_after, front_of, HasDigits}

tail_digits : (n byte : ℕ) (bytes : List ℕ) → HasDigits (suc n) (byte ∷ bytes) → HasDigits n bytes
tail_digits n byte bytes digits = λ k less. digits (suc k) (omega (arith, less))

no_digits : (n : ℕ) → HasDigits n []
no_digits n = λ k less. omega arith

-- a digit more to the left decides
pub lower : (n a b : ℕ) (xs ys : List ℕ) → HasDigits n xs → a < b → number_after n a xs < number_after n b ys
lower zero a b xs ys digits less = less
lower (suc n) a b [] [] digits less = lower n (a * 256) (b * 256) [] [] (no_digits n) (omega (arith, less))
lower (suc n) a b [] (y ∷ ys) digits less = lower n (a * 256) (b * 256 + y) [] ys (no_digits n) (omega (arith, less))
lower (suc n) a b (x ∷ xs) [] digits less =
    lower n (a * 256 + x) (b * 256) xs [] (tail_digits n x xs digits) (omega (arith, less, digits 0 (omega arith)))
lower (suc n) a b (x ∷ xs) (y ∷ ys) digits less =
    lower n (a * 256 + x) (b * 256 + y) xs ys (tail_digits n x xs digits) (omega (arith, less, digits 0 (omega arith)))

-- zeros are no more than what stands in their place
no_more : (n a b : ℕ) (bytes : List ℕ) → a ≤ b → number_after n a [] ≤ number_after n b bytes
no_more zero a b bytes less = less
no_more (suc n) a b [] less = no_more n (a * 256) (b * 256) [] (omega (arith, less))
no_more (suc n) a b (byte ∷ bytes) less = no_more n (a * 256) (b * 256 + byte) bytes (omega (arith, less))

-- so does the first digit that differs
first_digit : (n a x y : ℕ) (xs ys : List ℕ) → HasDigits n ys → number_after n (a * 256 + x) xs < number_after n (a * 256 + y) ys
    → (x ≡ y → slice_cmp nat_cmp xs ys ≡ Less) → (r : Ordering) → r ≡ nat_cmp x y → ordering_then r (slice_cmp nat_cmp xs ys) ≡ Less
first_digit n a x y xs ys digits below more Less is = refl
first_digit n a x y xs ys digits below more Equal is = more (ranked x y Equal is)
first_digit n a x y xs ys digits below more Greater is =
    absurd (omega (arith, below, lower n (a * 256 + y) (a * 256 + x) ys xs digits (omega (arith, ranked x y Greater is))))

pub by_front : (n a : ℕ) (xs ys : List ℕ) → HasDigits n xs → HasDigits n ys → number_after n a xs < number_after n a ys
    → slice_cmp nat_cmp xs ys ≡ Less
by_front zero a xs ys dx dy below = absurd (omega (arith, below))
by_front (suc n) a [] [] dx dy below = absurd (omega (arith, below))
by_front (suc n) a [] (y ∷ ys) dx dy below = refl
by_front (suc n) a (x ∷ xs) [] dx dy below = absurd (omega (arith, below, no_more n (a * 256) (a * 256 + x) xs (omega arith)))
by_front (suc n) a (x ∷ xs) (y ∷ ys) dx dy below =
    first_digit n a x y xs ys (tail_digits n y ys dy) below (λ same. by_front n (a * 256 + y) xs ys (tail_digits n x xs dx) (tail_digits n y ys dy)
    (subst (λ z. number_after n (a * 256 + z) xs < number_after n (a * 256 + y) ys) same below)) (nat_cmp x y) refl

-- ---- the number as it is made

-- one more digit
with_digit : (n number index : ℕ) (bytes : List ℕ)
    → number_after (suc n) number (drop index bytes) ≡ number_after n (number * 256 + get_or bytes index 0) (drop (suc index) bytes)
with_digit n number zero [] = ap (λ m. number_after n m []) (omega arith)
with_digit n number zero (byte ∷ bytes) = refl
with_digit n number (suc index) [] = ap (λ m. number_after n m []) (omega arith)
with_digit n number (suc index) (byte ∷ bytes) = with_digit n number index bytes

-- the number of eight bytes, the first the highest
pub eight_digits : (bytes : List ℕ) (a b c d e f g h : ℕ) → a ≡ get_or bytes 0 0 → b ≡ get_or bytes 1 0 → c ≡ get_or bytes 2 0
    → d ≡ get_or bytes 3 0 → e ≡ get_or bytes 4 0 → f ≡ get_or bytes 5 0 → g ≡ get_or bytes 6 0 → h ≡ get_or bytes 7 0
    → from_be_bytes w64 (a ∷ b ∷ c ∷ d ∷ e ∷ f ∷ g ∷ h ∷ []) ≡ front_of bytes
eight_digits bytes a b c d e f g h a' b' c' d' e' f' g' h' =
    let two = (0 * 256 + get_or bytes 0 0) * 256 + get_or bytes 1 0 in
    let four = (two * 256 + get_or bytes 2 0) * 256 + get_or bytes 3 0 in
    let six = (four * 256 + get_or bytes 4 0) * 256 + get_or bytes 5 0 in
    let whole : front_of bytes ≡ (six * 256 + get_or bytes 6 0) * 256 + get_or bytes 7 0 =
    with_digit 7 0 0 bytes ∙ with_digit 6 (0 * 256 + get_or bytes 0 0) 1 bytes
    ∙ with_digit 5 two 2 bytes ∙ with_digit 4 (two * 256 + get_or bytes 2 0) 3 bytes
    ∙ with_digit 3 four 4 bytes ∙ with_digit 2 (four * 256 + get_or bytes 4 0) 5 bytes
    ∙ with_digit 1 six 6 bytes ∙ with_digit 0 (six * 256 + get_or bytes 6 0) 7 bytes in
    omega (arith, whole)

-- eight bytes are digits
pub are_digits : (bytes : List ℕ) (a b c d e f g h : ℕ) → a ≡ get_or bytes 0 0 → b ≡ get_or bytes 1 0 → c ≡ get_or bytes 2 0
    → d ≡ get_or bytes 3 0 → e ≡ get_or bytes 4 0 → f ≡ get_or bytes 5 0 → g ≡ get_or bytes 6 0 → h ≡ get_or bytes 7 0
    → a < 256 → b < 256 → c < 256 → d < 256 → e < 256 → f < 256 → g < 256 → h < 256 → HasDigits 8 bytes
are_digits bytes a b c d e f g h a' b' c' d' e' f' g' h' a'' b'' c'' d'' e'' f'' g'' h'' = at
  where
    at : HasDigits 8 bytes
    at zero less = omega arith
    at (suc zero) less = omega arith
    at (suc (suc zero)) less = omega arith
    at (suc (suc (suc zero))) less = omega arith
    at (suc (suc (suc (suc zero)))) less = omega arith
    at (suc (suc (suc (suc (suc zero))))) less = omega arith
    at (suc (suc (suc (suc (suc (suc zero)))))) less = omega arith
    at (suc (suc (suc (suc (suc (suc (suc zero))))))) less = omega arith
    at (suc (suc (suc (suc (suc (suc (suc (suc k)))))))) less = absurd (omega arith)

-- zeros after a text are not seen
pub zeros_after : (n number count : ℕ) (bytes : List ℕ) → number_after n number (bytes ++ replicate count 0) ≡ number_after n number bytes
zeros_after zero number count bytes = refl
zeros_after (suc n) number zero [] = refl
zeros_after (suc n) number (suc count) [] =
    ap (λ m. number_after n m (replicate count 0)) (let none : number * 256 + 0 ≡ number * 256 = omega arith in none)
    ∙ zeros_after n (number * 256) count []
zeros_after (suc n) number count (byte ∷ bytes) = zeros_after n (number * 256 + byte) count bytes

digit_before : (k count : ℕ) (bytes : List ℕ) → get_or (bytes ++ replicate count 0) k 0 < 256 → get_or bytes k 0 < 256
digit_before k count [] small = omega arith
digit_before zero count (byte ∷ bytes) small = small
digit_before (suc k) count (byte ∷ bytes) small = digit_before k count bytes small

-- its bytes are digits where they are with zeros after them
pub digits_before : (n count : ℕ) (bytes : List ℕ) → HasDigits n (bytes ++ replicate count 0) → HasDigits n bytes
digits_before n count bytes digits = λ k less. digit_before k count bytes (digits k less)
