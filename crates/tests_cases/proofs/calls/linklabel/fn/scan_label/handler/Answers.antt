-- What a handler skips is ASCII, so a character begins after it.
use Rattle.std.proofs.Common.{ℕ, zero, suc, refl, ◌≡◌, ◌<◌, ◌≤◌, ◌+◌, ◌==◌, ◌&&◌, Bool, true, false, List, [], ◌∷◌}
use Rattle.std.proofs.Common.{arith, rules, sym, subst, cond, length, take, get_or, nat_eq, length-take, get_or-take}
use Rattle.std.proofs.lemmas.Bool.Decides.{nat_tests}
use Rattle.std.proofs.lemmas.List.Sums.{prefix_len_passes, prefix_len-le-length}
use Rattle.std.proofs.lemmas.Str.{IsCharBoundary-start, IsCharBoundary-after_ascii}
use Rattle.std.specs.List.{prefix_len}
use Rattle.std.specs.Str.{IsUtf8, IsCharBoundary}
use Rattle.tests_cases.specs.declared.skips.Skips.{Skips}
use Rattle.tests_cases.specs.declared.skips.Skips.TheVariants.{Refused, Nothing, Quote, Spaces, Letter}
use Rattle.tests_cases.specs.Skipped.{skipped}
use Rattle.tests_cases.proofs.calls.linklabel.fn.scan_label.handler.Goals as goal

-- nothing, or a front that ends in an ASCII byte
after : (rest : List ℕ) (n : ℕ) → IsUtf8 rest → n ≤ length rest → ((k : ℕ) → k + 1 ≡ n → get_or rest k 0 < 128) → IsCharBoundary rest n
after rest zero u l h = IsCharBoundary-start rest u
after rest (suc k) u l h =
    let n : k + 1 ≡ suc k = omega arith in
    subst (IsCharBoundary rest) n (IsCharBoundary-after_ascii rest k u (omega (arith, l)) (h k n))

spaces : (rest : List ℕ) → IsUtf8 rest → IsCharBoundary rest (prefix_len (λ b. b == 32) (take 4 rest))
spaces rest u =
    let within = prefix_len-le-length (λ b. b == 32) (take 4 rest) in
    after rest _ u (omega (arith, within, length-take 4 rest)) (λ k e.
    let space : nat_eq (get_or (take 4 rest) k 0) 32 ≡ true = prefix_len_passes (λ b. b == 32) (take 4 rest) k 0 (omega (arith, e)) in
    grind (arith, nat_tests, space, get_or-take))

letter : (rest : List ℕ) → IsUtf8 rest → IsCharBoundary rest (skipped Letter rest)
letter [] u = IsCharBoundary-start [] u
letter (a ∷ rest) u = by (nat_eq 120 a) (λ h. h)
  where
    by : (v : Bool) → (v ≡ true → nat_eq 120 a ≡ true) → IsCharBoundary (a ∷ rest) (cond (v && true) 1 0)
    by false f = IsCharBoundary-start (a ∷ rest) u
    by true f = (let h = f refl in after (a ∷ rest) 1 u (omega arith) (λ k e. grind (arith, nat_tests, h)))

quote : (rest : List ℕ) → IsUtf8 rest → IsCharBoundary rest (skipped Quote rest)
quote [] u = IsCharBoundary-start [] u
quote (a ∷ []) u = elim (nat_eq 62 a) as (λ v. IsCharBoundary (a ∷ []) (cond (v && false) 2 0)) [ true ↦ IsCharBoundary-start (a ∷ []) u | false ↦ IsCharBoundary-start (a ∷ []) u ]
quote (a ∷ b ∷ rest) u = by (nat_eq 62 a) (nat_eq 32 b) (λ h. h)
  where
    by : (v w : Bool) → (w ≡ true → nat_eq 32 b ≡ true) → IsCharBoundary (a ∷ b ∷ rest) (cond (v && (w && true)) 2 0)
    by false w f = IsCharBoundary-start (a ∷ b ∷ rest) u
    by true false f = IsCharBoundary-start (a ∷ b ∷ rest) u
    by true true f = (let h = f refl in after (a ∷ b ∷ rest) 2 u (omega arith) (λ k e. grind (arith, nat_tests, h)))

boundary : (s : Skips) (rest : List ℕ) → IsUtf8 rest → IsCharBoundary rest (skipped s rest)
boundary Refused rest u = IsCharBoundary-start rest u
boundary Nothing rest u = IsCharBoundary-start rest u
boundary Quote rest u = quote rest u
boundary Spaces rest u = spaces rest u
boundary Letter rest u = letter rest u

pub returns-in_default : goal.returns-in_default
returns-in_default c = let count = c.count.ensures.count in record {
  value = search rules;
  boundary = λ u. subst (IsCharBoundary c.args.rest.now) (sym count) (boundary c.captures.skips c.args.rest.now u);
}
