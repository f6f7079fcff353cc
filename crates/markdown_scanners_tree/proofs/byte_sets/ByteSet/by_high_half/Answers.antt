use Rattle.std.proofs.Common.{◌≡◌, ◌/◌, ◌<◌, ◌^◌, ◌∙◌, ap, arith, get_or, length, refl, replicate, w8, Fits, List, ℕ}
use Rattle.std.specs.Simd.Lanes.{zip2}
use Rattle.std.proofs.lemmas.Simd.{Each1-get_or, Each1-weaker, Each1-zip2, Each2-splat, SwzOk-from_below, below_from_Fits}
use Rattle.std.proofs.lemmas.Simd.{get_or-replicate, get_or-swz_l_below, get_or-zip2, length-swz_l, length-zip2}
use Rattle.markdown_scanners_tree.proofs.byte_sets.ByteSet.by_high_half.Goals as goal

abbrev down : ℕ → ℕ → ℕ
down a b = a / 2 ^ b

abbrev high : List ℕ → List ℕ
high lanes = zip2 down lanes (replicate 16 4)

pub swizzle : goal.swizzle
swizzle c =
    let lanes = c.args.lanes in
    let small = Each1-weaker (λ a. a < 256) (λ a. a / 16 < 16) (λ a less. omega (arith, less)) lanes (below_from_Fits w8 lanes c.fits-lanes.1) in
    SwzOk-from_below w8 16 1 16 0 (high lanes) refl (omega (arith, length-zip2 down lanes (replicate 16 4) c.fits-lanes.0))
    (Each1-zip2 down (λ j. j < 16) lanes (replicate 16 4) (Each2-splat (λ a b. down a b < 16) lanes 16 4 small))

long : (lanes : List ℕ) → length lanes ≡ 16 → length (high lanes) ≡ 16
long lanes sixteen = length-zip2 down lanes (replicate 16 4) sixteen ∙ sixteen

pub returns-clause-length : goal.returns-clause-length
returns-clause-length c = length-swz_l w8 16 c.args.self.now.high 0 (high c.args.lanes) ∙ long c.args.lanes c.fits-lanes.0

pub returns-clause-bits : goal.returns-clause-bits
returns-clause-bits c = λ k less.
    let lanes = c.args.lanes in
    let bits = c.args.self.now.high in
    let sixteen = long lanes c.fits-lanes.0 in
    let fits : get_or lanes k 0 < 256 = omega (arith, (Each1-get_or (Fits w8) lanes k 0 (omega (arith, less, c.fits-lanes.0)) c.fits-lanes.1).fits) in
    let is : get_or (high lanes) k 0 ≡ get_or lanes k 0 / 16 =
    get_or-zip2 down lanes (replicate 16 4) k 0 0 0 (omega (arith, less, c.fits-lanes.0)) less
    ∙ ap (down (get_or lanes k 0)) (get_or-replicate 16 k 4 0 less) in
    get_or-swz_l_below w8 16 bits 0 (high lanes) k (omega (arith, less, sixteen)) (omega (arith, is, fits))
    ∙ ap (λ i. get_or bits i 0) (omega (arith, is, less))
