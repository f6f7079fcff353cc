-- What a vector's lanes tell of the first line ending in the bytes that it was loaded from.
use Rattle.std.proofs.Common.{◌≡◌, ℕ, suc, ◌+◌, ◌^◌, ◌%◌, ◌<◌, Bool, not, eqb, List, [], ◌∷◌, length, map, cond, get_or, replicate, bit_or, refl, sym, ap, ◌∙◌, arith, w64}
use Rattle.std.specs.Int.{trailing_zeros}
use Rattle.std.specs.List.{prefix_len}
use Rattle.std.specs.Simd.Lanes.{mask_l, top, zip2}
use Rattle.std.proofs.lemmas.Bool.{agree_below_at}
use Rattle.std.proofs.lemmas.List.{length-map}
use Rattle.std.proofs.lemmas.Simd.{leading_from_mask_l, map-map, mask_l-mod, trailing_mask_l, zip2_of_maps, zip2_splat}
use Rattle.markdown_scanners_tree.proofs.PrefixLemmas.{prefix_alike}
use Rattle.markdown_scanners_tree.proofs.scanners.lines.BlankLemmas.{ends_no_line}

-- a lane that is equal to a byte has all bits
abbrev equal_lane : ℕ → ℕ → ℕ
equal_lane byte b = cond (eqb b byte) 255 0

abbrev ends : ℕ → Bool
ends b = top 7 (bit_or (equal_lane 10 b) (equal_lane 13 b))

module _ (lanes : List ℕ) (long : length lanes ≡ 16) (fits : (k : ℕ) → k < 16 → get_or lanes k 0 < 256) where
  abbrev pub ending_lanes : List ℕ
  ending_lanes =
      zip2 bit_or (zip2 (λ a b. cond (eqb a b) 255 0) lanes (replicate 16 10)) (zip2 (λ a b. cond (eqb a b) 255 0) lanes (replicate 16 13))

  lanes_are : ending_lanes ≡ map (λ b. bit_or (equal_lane 10 b) (equal_lane 13 b)) lanes
  lanes_are =
      zip2_of_maps bit_or (equal_lane 10) (equal_lane 13) lanes (zip2_splat (λ a b. cond (eqb a b) 255 0) lanes 16 10 long)
      (zip2_splat (λ a b. cond (eqb a b) 255 0) lanes 16 13 long)

  abbrev pub ending_mask : ℕ
  ending_mask = mask_l (map (top 7) ending_lanes) % 2 ^ 64

  mask_is : ending_mask ≡ mask_l (map ends lanes)
  mask_is =
      ap (λ ls. mask_l (map (top 7) ls) % 2 ^ 64) lanes_are
      ∙ (ap (λ ms. mask_l ms % 2 ^ 64) (map-map (top 7) (λ b. bit_or (equal_lane 10 b) (equal_lane 13 b)) lanes)
      ∙ mask_l-mod (map ends lanes) 64 (omega (arith, length-map lanes ends, long)))

  prefix_is : prefix_len (λ b. not (ends b)) lanes ≡ prefix_len ends_no_line lanes
  prefix_is =
      prefix_alike (λ b. not (ends b)) ends_no_line lanes lanes refl (λ k less.
      agree_below_at (λ b. not (ends b)) ends_no_line 256 (get_or lanes k 0) refl (fits k (omega (arith, less, long))))

  pub none_ends : ending_mask ≡ 0 → 16 ≡ prefix_len ends_no_line lanes
  none_ends none = sym (sym prefix_is ∙ leading_from_mask_l ends lanes (sym mask_is ∙ none) ∙ long)

  pub some_ends : ¬ (ending_mask ≡ 0) → trailing_zeros w64 ending_mask ≡ prefix_len ends_no_line lanes
  some_ends some =
      ap (trailing_zeros w64) mask_is
      ∙ (trailing_mask_l ends 64 lanes (omega (arith, long)) (omega (arith, mask_is, some)) ∙ prefix_is)
