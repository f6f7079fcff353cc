use Rattle.std.proofs.Common.{◌≡◌, ◌<◌, ◌∙◌, ap, arith, bit_and, get_or, length, refl, replicate, w8, List, ℕ}
use Rattle.std.specs.Simd.Lanes.{zip2}
use Rattle.std.proofs.lemmas.Nat.{and_le_r}
use Rattle.std.proofs.lemmas.Simd.{Each1-all, Each1-zip2, Each2-splat, SwzOk-from_below}
use Rattle.std.proofs.lemmas.Simd.{get_or-replicate, get_or-swz_l_below, get_or-zip2, length-swz_l, length-zip2}
use Rattle.markdown_scanners_tree.proofs.byte_sets.ByteSet.by_low_half.Goals as goal

abbrev low : List ℕ → List ℕ
low lanes = zip2 bit_and lanes (replicate 16 15)

pub swizzle : goal.swizzle
swizzle c =
    let lanes = c.args.lanes in
    let small = Each1-all (λ a. bit_and a 15 < 16) (λ a. omega (arith, and_le_r a 15)) lanes in
    SwzOk-from_below w8 16 1 16 0 (low lanes) refl (omega (arith, length-zip2 bit_and lanes (replicate 16 15) c.fits-lanes.0))
    (Each1-zip2 bit_and (λ j. j < 16) lanes (replicate 16 15) (Each2-splat (λ a b. bit_and a b < 16) lanes 16 15 small))

long : (lanes : List ℕ) → length lanes ≡ 16 → length (low lanes) ≡ 16
long lanes sixteen = length-zip2 bit_and lanes (replicate 16 15) sixteen ∙ sixteen

pub returns-clause-length : goal.returns-clause-length
returns-clause-length c = length-swz_l w8 16 c.args.self.now.low 0 (low c.args.lanes) ∙ long c.args.lanes c.fits-lanes.0

pub returns-clause-bits : goal.returns-clause-bits
returns-clause-bits c = λ k less.
    let lanes = c.args.lanes in
    let bits = c.args.self.now.low in
    let sixteen = long lanes c.fits-lanes.0 in
    let is : get_or (low lanes) k 0 ≡ bit_and (get_or lanes k 0) 15 =
    get_or-zip2 bit_and lanes (replicate 16 15) k 0 0 0 (omega (arith, less, c.fits-lanes.0)) less
    ∙ ap (bit_and (get_or lanes k 0)) (get_or-replicate 16 k 15 0 less) in
    get_or-swz_l_below w8 16 bits 0 (low lanes) k (omega (arith, less, sixteen)) (omega (arith, is, and_le_r (get_or lanes k 0) 15))
    ∙ ap (λ i. get_or bits i 0) (omega (arith, is, less))
