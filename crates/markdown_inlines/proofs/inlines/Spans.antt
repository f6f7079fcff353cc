-- What begins and ends in a text, links and emphasis alike.
use Rattle.std.proofs.Common.{ℕ, zero, suc, List, [], ◌∷◌, ◌++◌, ◌≡◌, ◌<◌, ◌≤◌, ◌+◌, ◌⊎◌, ◌∙◌, inl, inr, arith, refl, sym, subst, take, drop, length}
use Rattle.std.proofs.Common.{Bool, ◌==◌, Option, Some, slice_get, if◌then◌else◌}
use Rattle.std.specs.List.{AllByRecursion}
use Rattle.markdown_scanners_tree.specs.Ascii.{tilde}
use Rattle.markdown_inlines.specs.EmphasisLaws.{IsOutside, AreNested}
use Rattle.markdown_inlines.specs.declared.emphasis.Emphasis.{Emphasis}
use Rattle.markdown_inlines.specs.declared.inlines.Inline.{Inline}
use Rattle.markdown_inlines.specs.declared.inlines.Inline.TheVariants as I
use Rattle.markdown_inlines.specs.declared.links.Link.{Link}

-- ---- elements of lists

abbrev pub IsIn : {X : Type 0} → X → List X → Type 0
IsIn x [] = ⊥
IsIn x (y ∷ ys) = (x ≡ y) ⊎ IsIn x ys

pub in_both : {X : Type 0} (x : X) (xs ys : List X) → IsIn x (xs ++ ys) → IsIn x xs ⊎ IsIn x ys
in_both x [] ys is = inr is
in_both x (z ∷ xs) ys (inl here) = inl (inl here)
in_both x (z ∷ xs) ys (inr later) = elim (in_both x xs ys later) [
  | inl first ↦ inl (inr first)
  | inr second ↦ inr second
]

pub in_second : {X : Type 0} (x : X) (xs ys : List X) → IsIn x ys → IsIn x (xs ++ ys)
in_second x [] ys is = is
in_second x (z ∷ xs) ys is = inr (in_second x xs ys is)

pub of_all : {X : Type 0} (P : X → Type 0) (xs : List X) (x : X) → AllByRecursion P xs → IsIn x xs → P x
of_all P [] x all is = absurd is
of_all P (y ∷ ys) x all (inl here) = subst P (sym here) all.0
of_all P (y ∷ ys) x all (inr later) = of_all P ys x all.1 later

pub all_from : {X : Type 0} (P : X → Type 0) (xs : List X) → ((x : X) → IsIn x xs → P x) → AllByRecursion P xs
all_from P [] each = tt
all_from P (x ∷ xs) each = (each x (inl refl), all_from P xs (λ y is. each y (inr is)))

pub in_taken : {X : Type 0} (n : ℕ) (xs : List X) (x : X) → IsIn x (take n xs) → IsIn x xs
in_taken zero xs x is = absurd is
in_taken (suc n) [] x is = absurd is
in_taken (suc n) (y ∷ ys) x (inl here) = inl here
in_taken (suc n) (y ∷ ys) x (inr later) = inr (in_taken n ys x later)

pub in_dropped : {X : Type 0} (n : ℕ) (xs : List X) (x : X) → IsIn x (drop n xs) → IsIn x xs
in_dropped zero xs x is = is
in_dropped (suc n) [] x is = absurd is
in_dropped (suc n) (y ∷ ys) x is = inr (in_dropped n ys x is)

-- what is among the first of fewer is among the first, and so with the others
pub taken_twice : {X : Type 0} (n m : ℕ) (xs : List X) (x : X) → IsIn x (take n (take m xs)) → IsIn x (take n xs)
taken_twice zero m xs x is = absurd is
taken_twice (suc n) zero xs x is = absurd is
taken_twice (suc n) (suc m) [] x is = absurd is
taken_twice (suc n) (suc m) (y ∷ ys) x (inl here) = inl here
taken_twice (suc n) (suc m) (y ∷ ys) x (inr later) = inr (taken_twice n m ys x later)

pub dropped_taken : {X : Type 0} (n m : ℕ) (xs : List X) (x : X) → IsIn x (drop n (take m xs)) → IsIn x (drop n xs)
dropped_taken zero m xs x is = in_taken m xs x is
dropped_taken (suc n) zero xs x is = absurd is
dropped_taken (suc n) (suc m) [] x is = absurd is
dropped_taken (suc n) (suc m) (y ∷ ys) x is = dropped_taken n m ys x is

-- with one more at the end
pub taken_added : {X : Type 0} (n : ℕ) (xs : List X) (y x : X) → n ≤ length xs → IsIn x (take n (xs ++ y ∷ [])) → IsIn x (take n xs)
taken_added zero xs y x few is = absurd is
taken_added (suc n) [] y x few is = absurd (omega (arith, few))
taken_added (suc n) (z ∷ xs) y x few (inl here) = inl here
taken_added (suc n) (z ∷ xs) y x few (inr later) = inr (taken_added n xs y x (omega (arith, few)) later)

pub dropped_added : {X : Type 0} (n : ℕ) (xs : List X) (y x : X) → n ≤ length xs → IsIn x (drop n (xs ++ y ∷ []))
    → IsIn x (drop n xs) ⊎ (x ≡ y)
dropped_added zero xs y x few is = elim (in_both x xs (y ∷ []) is) [
  | inl first ↦ inl first
  | inr (inl here) ↦ inr here
  | inr (inr none) ↦ absurd none
]
dropped_added (suc n) [] y x few is = absurd (omega (arith, few))
dropped_added (suc n) (z ∷ xs) y x few is = dropped_added n xs y x (omega (arith, few)) is

-- ---- spans

-- emphasis, or the link of the opener with this number
abbrev pub Span : Type 0
Span = Emphasis ⊎ (ℕ × Link)

-- where it begins, and the delimiters or the bracket that it begins with end
abbrev pub start : Span → ℕ
start (inl emphasis) = emphasis.opening
start (inr link) = link.1.source.start

abbrev pub from : Span → ℕ
from (inl emphasis) = emphasis.opening + emphasis.count
from (inr link) = link.1.text.start

-- where those that it ends with begin, and it ends
abbrev pub to : Span → ℕ
to (inl emphasis) = emphasis.closing
to (inr link) = link.1.text.end

abbrev pub end : Span → ℕ
end (inl emphasis) = emphasis.closing + emphasis.count
end (inr link) = link.1.source.end

-- it begins so
abbrev pub start_with : Bool → ℕ → ℕ → Inline
start_with struck offset count = if struck then I.StartStrikethrough offset count else I.StartEmphasis offset count

abbrev pub start_of : Span → Inline
start_of (inl emphasis) = start_with (emphasis.byte == tilde) emphasis.opening emphasis.count
start_of (inr link) = I.StartLink link.0

abbrev pub IsSpan : List (Option Link) → List Emphasis → Span → Type 0
IsSpan links emphasis (inl e) = IsIn e emphasis
IsSpan links emphasis (inr link) = slice_get links link.0 ≡ Some (Some link.1)

pub record IsWhole (span : Span) : Type 0 where
  pub opens : start span < from span
  pub in_order : from span ≤ to span
  pub closes : to span < end span

-- they stand apart, or one in the other
abbrev pub Fit : Span → Span → Type 0
Fit s t =
    (end s ≤ start t) ⊎ ((end t ≤ start s) ⊎ (((from s ≤ start t) × (end t ≤ to s)) ⊎ ((from t ≤ start s) × (end s ≤ to t))))

pub fit_turned : (s t : Span) → Fit s t → Fit t s
fit_turned s t (inl before) = inr (inl before)
fit_turned s t (inr (inl after)) = inl after
fit_turned s t (inr (inr (inl around))) = inr (inr (inr around))
fit_turned s t (inr (inr (inr inside))) = inr (inr (inl inside))

-- emphases that nest fit
outside_fits : (d e : Emphasis) → IsOutside d.opening (d.closing + d.count) e → Fit (inl d) (inl e)
outside_fits d e (inl around) = inr (inr (inr around))
outside_fits d e (inr after) = inl after

pub nested_fit : (emphasis : List Emphasis) → AreNested emphasis → (d e : Emphasis) → IsIn d emphasis → IsIn e emphasis
    → (d ≡ e) ⊎ Fit (inl d) (inl e)
nested_fit [] nested d e is is' = absurd is
nested_fit (x ∷ later) nested d e (inl here) (inl here') = inl (here ∙ sym here')
nested_fit (x ∷ later) nested d e (inl here) (inr is') =
    let outside = of_all (IsOutside x.opening (x.closing + x.count)) later e nested.0 is' in
    inr (subst (λ (y : Emphasis). Fit (inl y) (inl e)) (sym here) (outside_fits x e outside))
nested_fit (x ∷ later) nested d e (inr is) (inl here') =
    let outside = of_all (IsOutside x.opening (x.closing + x.count)) later d nested.0 is in
    inr (subst (λ (y : Emphasis). Fit (inl d) (inl y)) (sym here') (fit_turned (inl x) (inl d) (outside_fits x d outside)))
nested_fit (x ∷ later) nested d e (inr is) (inr is') = nested_fit later nested.1 d e is is'
