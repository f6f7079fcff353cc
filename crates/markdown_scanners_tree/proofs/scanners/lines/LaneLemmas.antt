-- What a vector's lanes tell of the bytes that it was loaded from.
use Rattle.std.proofs.Common.{◌≡◌, ℕ, ◌+◌, ◌^◌, ◌%◌, ◌<◌, ◌≤◌, Bool, not, ◌==◌, eqb, List, length, map, take, drop, cond, replicate, sym, ap, subst, ◌∙◌, arith, w8, w64}
use Rattle.std.specs.Int.{trailing_zeros}
use Rattle.std.specs.List.{prefix_len}
use Rattle.std.specs.Simd.Lanes.{mask_l, top, zip2}
use Rattle.std.proofs.lemmas.List.{length-take-le, take-append-drop}
use Rattle.std.proofs.lemmas.List.Folds.{prefix_len-append}
use Rattle.std.proofs.lemmas.Bool.{eq-eqb}
use Rattle.std.proofs.lemmas.Simd.{bitmask_splat, leading_from_mask_l, trailing_mask_l}
use Rattle.markdown_scanners_tree.proofs.PrefixLemmas.{prefix_len-first}

-- the mask of the lanes that are equal to a byte
module _ (byte : ℕ) (bytes : List ℕ) (long : 32 ≤ length bytes) where
  abbrev pub equal_mask : ℕ
  equal_mask = mask_l (map (top 7) (zip2 (λ a b. cond (eqb a b) 255 0) (take 32 bytes) (replicate 32 byte))) % 2 ^ 64

  mask_is : equal_mask ≡ mask_l (map (λ b. b == byte) (take 32 bytes))
  mask_is = bitmask_splat w8 eqb (take 32 bytes) 32 byte (length-take-le 32 bytes long) (omega arith)

  pub none_equal : equal_mask ≡ 0 → 32 ≡ prefix_len (λ b. not (b == byte)) (take 32 bytes)
  none_equal none =
      sym (leading_from_mask_l (λ b. b == byte) (take 32 bytes) (sym mask_is ∙ none) ∙ length-take-le 32 bytes long)

  pub some_equal : ¬ (equal_mask ≡ 0)
      → trailing_zeros w64 equal_mask ≡ prefix_len (λ b. not (b == byte)) (take 32 bytes)
  some_equal some =
      ap (trailing_zeros w64) mask_is
      ∙ trailing_mask_l (λ b. b == byte) 64 (take 32 bytes) (omega (arith, length-take-le 32 bytes long))
      (omega (arith, mask_is, some))

-- a prefix, counted in the first bytes alone
module _ (p : ℕ → Bool) (bytes : List ℕ) (n k : ℕ) (room : n ≤ length bytes)
    (counted : k ≡ prefix_len p (take n bytes)) where
  pub at_most : k ≤ n
  at_most = omega (arith, counted, prefix_len-first p n bytes)

  pub ends_within : k < n → prefix_len p bytes ≡ k
  ends_within few = omega (arith, counted, prefix_len-first p n bytes, few)

  pub goes_past : n ≤ k → prefix_len p bytes ≡ k + prefix_len p (drop k bytes)
  goes_past all =
      let long : length (take n bytes) ≡ n = length-take-le n bytes room in
      let whole : prefix_len p (take n bytes) ≡ length (take n bytes) = omega (arith, counted, at_most, all, long) in
      let same : n ≡ k = omega (arith, at_most, all) in
      subst (λ m. prefix_len p bytes ≡ m + prefix_len p (drop m bytes)) same (
      ap (prefix_len p) (sym (take-append-drop n bytes)) ∙ prefix_len-append p (take n bytes) (drop n bytes)
      ∙ ap (λ t. cond t (length (take n bytes) + prefix_len p (drop n bytes)) (prefix_len p (take n bytes)))
      (eq-eqb _ _ whole)
      ∙ ap (λ m. m + prefix_len p (drop n bytes)) long)
