-- What a vector's lanes tell of the line endings in the bytes that it was loaded from.
use Rattle.std.proofs.Common.{◌≡◌, ℕ, suc, ◌+◌, ◌-◌, ◌^◌, ◌%◌, ◌<◌, ◌≤◌, ◌||◌, Bool, true, false, not, eqb, List, [], ◌∷◌, ◌++◌}
use Rattle.std.proofs.Common.{length, map, cond, get_or, replicate, bit_or, take, take-add, drop, refl, sym, ap, ◌∙◌, arith, inl, inr}
use Rattle.std.specs.Prelude.{nat_eq}
use Rattle.std.specs.List.{list_any}
use Rattle.std.specs.Simd.Lanes.{mask_l, top, zip2}
use Rattle.std.proofs.lemmas.Bool.{agree_below_at, cases_Bool, eq-eqb, eqb-true, ne_eqb, true≢false}
use Rattle.std.proofs.lemmas.List.{drop-drop, length-map, take-append-drop}
use Rattle.std.proofs.lemmas.Simd.{map-map, mask_l-mod, zip2_of_maps, zip2_splat}
use Rattle.markdown_scanners_tree.specs.Bytes.{is_line_ending}

-- the tests agree on the bytes
any_alike : (p q : ℕ → Bool) (xs : List ℕ) → ((k : ℕ) → k < length xs → p (get_or xs k 0) ≡ q (get_or xs k 0))
    → list_any p xs ≡ list_any q xs
any_alike p q [] each = refl
any_alike p q (x ∷ xs) each =
    let first : p x ≡ q x = each 0 (omega arith) in
    ap (λ t. t || list_any p xs) first ∙ ap (λ t. q x || t) (any_alike p q xs (λ k less. each (suc k) (omega (arith, less))))

-- a mask of bits is some number where some bit is set
mask_step : (b : Bool) (ms : List Bool) (rest : Bool) → not (nat_eq (mask_l ms) 0) ≡ rest
    → not (nat_eq (mask_l (b ∷ ms)) 0) ≡ (b || rest)
mask_step true ms rest is = ap not (ne_eqb (mask_l (true ∷ ms)) 0 (λ e. omega (arith, e)))
mask_step false ms rest is = elim (cases_Bool (nat_eq (mask_l ms) 0)) [
  | inl none ↦
      let empty : mask_l ms ≡ 0 = eqb-true (mask_l ms) 0 none in
      ap not (eq-eqb (mask_l (false ∷ ms)) 0 (omega (arith, empty))) ∙ sym (ap not none) ∙ is
  | inr some ↦
      ap not (ne_eqb (mask_l (false ∷ ms)) 0 (λ e. true≢false (sym (eq-eqb (mask_l ms) 0 (omega (arith, e))) ∙ some)))
      ∙ sym (ap not some) ∙ is
]

mask_some : (p : ℕ → Bool) (xs : List ℕ) → not (nat_eq (mask_l (map p xs)) 0) ≡ list_any p xs
mask_some p [] = refl
mask_some p (x ∷ xs) = mask_step (p x) (map p xs) (list_any p xs) (mask_some p xs)

-- a lane that is equal to a byte has all bits
abbrev equal_lane : ℕ → ℕ → ℕ
equal_lane byte b = cond (eqb b byte) 255 0

abbrev ends : ℕ → Bool
ends b = top 7 (bit_or (equal_lane 10 b) (equal_lane 13 b))

module _ (lanes : List ℕ) (long : length lanes ≡ 8) (fits : (k : ℕ) → k < 8 → get_or lanes k 0 < 256) where
  abbrev pub ending_lanes : List ℕ
  ending_lanes =
      zip2 bit_or (zip2 (λ a b. cond (eqb a b) 255 0) lanes (replicate 8 10)) (zip2 (λ a b. cond (eqb a b) 255 0) lanes (replicate 8 13))

  lanes_are : ending_lanes ≡ map (λ b. bit_or (equal_lane 10 b) (equal_lane 13 b)) lanes
  lanes_are =
      zip2_of_maps bit_or (equal_lane 10) (equal_lane 13) lanes (zip2_splat (λ a b. cond (eqb a b) 255 0) lanes 8 10 long)
      (zip2_splat (λ a b. cond (eqb a b) 255 0) lanes 8 13 long)

  abbrev pub ending_mask : ℕ
  ending_mask = mask_l (map (top 7) ending_lanes) % 2 ^ 64

  mask_is : ending_mask ≡ mask_l (map ends lanes)
  mask_is =
      ap (λ ls. mask_l (map (top 7) ls) % 2 ^ 64) lanes_are
      ∙ (ap (λ ms. mask_l ms % 2 ^ 64) (map-map (top 7) (λ b. bit_or (equal_lane 10 b) (equal_lane 13 b)) lanes)
      ∙ mask_l-mod (map ends lanes) 64 (omega (arith, length-map lanes ends, long)))

  pub any_ends : not (nat_eq ending_mask 0) ≡ list_any is_line_ending lanes
  any_ends =
      ap (λ n. not (nat_eq n 0)) mask_is ∙ mask_some ends lanes
      ∙ any_alike ends is_line_ending lanes (λ k less.
      agree_below_at ends is_line_ending 256 (get_or lanes k 0) refl (fits k (omega (arith, less, long))))

any_append : (p : ℕ → Bool) (xs ys : List ℕ) → list_any p (xs ++ ys) ≡ (list_any p xs || list_any p ys)
any_append p [] ys = refl
any_append p (x ∷ xs) ys = ap (λ t. p x || t) (any_append p xs ys) ∙ assoc (p x) (list_any p xs) (list_any p ys)
  where
    assoc : (a b c : Bool) → (a || (b || c)) ≡ ((a || b) || c)
    assoc true b c = refl
    assoc false b c = refl

-- of 8 to 16 bytes the first 8 and the last 8 are all
pub both_are_all : (p : ℕ → Bool) (xs : List ℕ) → 8 ≤ length xs → length xs ≤ 16
    → (list_any p (take 8 xs) || list_any p (drop (length xs - 8) xs)) ≡ list_any p xs
both_are_all p xs many few =
    let m = length xs - 8 in
    let middle = take (8 - m) (drop m xs) in
    let at : m + (8 - m) ≡ 8 = omega (arith, many, few) in
    let whole : list_any p xs ≡ (list_any p (take 8 xs) || list_any p (drop 8 xs)) =
    ap (list_any p) (sym (take-append-drop 8 xs)) ∙ any_append p (take 8 xs) (drop 8 xs) in
    let front : list_any p (take 8 xs) ≡ (list_any p (take m xs) || list_any p middle) =
    ap (λ n. list_any p (take n xs)) (sym at) ∙ ap (list_any p) (take-add m (8 - m) xs) ∙ any_append p (take m xs) middle in
    let back : list_any p (drop m xs) ≡ (list_any p middle || list_any p (drop 8 xs)) =
    ap (list_any p) (sym (take-append-drop (8 - m) (drop m xs))) ∙ any_append p middle (drop (8 - m) (drop m xs))
    ∙ ap (λ r. list_any p middle || list_any p r) (drop-drop (8 - m) m xs ∙ ap (λ n. drop n xs) at) in
    ap (λ t. t || list_any p (drop m xs)) front ∙ ap (λ t. (list_any p (take m xs) || list_any p middle) || t) back
    ∙ twice (list_any p (take m xs)) (list_any p middle) (list_any p (drop 8 xs))
    ∙ sym (whole ∙ ap (λ t. t || list_any p (drop 8 xs)) front)
  where
    twice : (a b c : Bool) → ((a || b) || (b || c)) ≡ ((a || b) || c)
    twice true b c = refl
    twice false true c = refl
    twice false false c = refl
