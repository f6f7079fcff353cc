-- What the bits of a vector's halves tell of its bytes.
use Rattle.std.proofs.Common.{◌≡◌, ℕ, ◌/◌, ◌^◌, ◌%◌, ◌<◌, Bool, not, eqb, List, length}
use Rattle.std.proofs.Common.{map, cond, get_or, replicate, bit_and, sym, ap, ◌∙◌, arith, w8, w64}
use Rattle.std.specs.Int.{trailing_zeros}
use Rattle.std.specs.List.{prefix_len}
use Rattle.std.specs.Simd.Lanes.{mask_l, top, zip2}
use Rattle.std.proofs.lemmas.Simd.{bitmask_splat, get_or-zip2, leading_from_mask_l, length-zip2, trailing_mask_l}
use Rattle.markdown_scanners_tree.specs.ByteSets.{has_byte}
use Rattle.markdown_scanners_tree.specs.declared.byte_sets.ByteSet.{ByteSet}
use Rattle.markdown_scanners_tree.proofs.PrefixLemmas.{prefix_alike}

abbrev pub is_outside : ByteSet → ℕ → Bool
is_outside set b = not (has_byte set b)

abbrev differs : ℕ → ℕ → Bool
differs a b = not (eqb a b)

module _ (set : ByteSet) (lanes low high : List ℕ) (long : length lanes ≡ 16)
    (low_long : length low ≡ 16) (high_long : length high ≡ 16)
    (low_bits : (k : ℕ) → k < 16 → get_or low k 0 ≡ get_or set.low (bit_and (get_or lanes k 0) 15) 0)
    (high_bits : (k : ℕ) → k < 16 → get_or high k 0 ≡ get_or set.high (get_or lanes k 0 / 16) 0) where
  abbrev common : List ℕ
  common = zip2 bit_and low high

  common_long : length common ≡ 16
  common_long = length-zip2 bit_and low high (low_long ∙ sym high_long) ∙ low_long

  passes_alike : (k : ℕ) → k < 16 → not (differs (get_or common k 0) 0) ≡ is_outside set (get_or lanes k 0)
  passes_alike k less =
      ap (λ n. not (differs n 0))
      (get_or-zip2 bit_and low high k 0 0 0 (omega (arith, less, low_long)) (omega (arith, less, high_long))
      ∙ (ap (λ n. bit_and n (get_or high k 0)) (low_bits k less)
      ∙ ap (bit_and (get_or set.low (bit_and (get_or lanes k 0) 15) 0)) (high_bits k less)))

  prefix_is : prefix_len (λ n. not (differs n 0)) common ≡ prefix_len (is_outside set) lanes
  prefix_is =
      prefix_alike (λ n. not (differs n 0)) (is_outside set) common lanes (common_long ∙ sym long)
      (λ k less. passes_alike k (omega (arith, less, long)))

  abbrev pub common_mask : ℕ
  common_mask = mask_l (map (top 7) (zip2 (λ a b. cond (differs a b) 255 0) common (replicate 16 0))) % 2 ^ 64

  mask_is : common_mask ≡ mask_l (map (λ n. differs n 0) common)
  mask_is = bitmask_splat w8 differs common 16 0 common_long (omega arith)

  pub none_common : common_mask ≡ 0 → 16 ≡ prefix_len (is_outside set) lanes
  none_common none =
      sym (sym prefix_is ∙ leading_from_mask_l (λ n. differs n 0) common (sym mask_is ∙ none) ∙ common_long)

  pub some_common : ¬ (common_mask ≡ 0) → trailing_zeros w64 common_mask ≡ prefix_len (is_outside set) lanes
  some_common some =
      ap (trailing_zeros w64) mask_is
      ∙ (trailing_mask_l (λ n. differs n 0) 64 common (omega (arith, common_long)) (omega (arith, mask_is, some))
      ∙ prefix_is)
