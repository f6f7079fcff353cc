-- What a table of skips leaves out, offset by offset, and that a search by halving finds it.
use Rattle.std.proofs.Common.{ℕ, zero, suc, ◌+◌, ◌-◌, ◌/◌, ◌≤◌, ◌<◌, ◌≡◌, ◌≢◌, ◌==◌, ◌&&◌, max, nat_le, nat_lt, true, List, [], ◌∷◌, ◌++◌, length, take, drop, get_or, if◌then◌else◌}
use Rattle.std.proofs.Common.{inl, inr, refl, sym, ◌∙◌, ap, arith}
use Rattle.std.proofs.lemmas.Bool.{cases_Bool, and_parts, leb-true, ltb-true, eqb-true, eq-eqb, ne_eqb, lt-ltb, le-ltb}
use Rattle.std.proofs.lemmas.Bool.Decides.{nat_tests}
use Rattle.std.proofs.lemmas.List.{length-drop, length-take, nil_from_length, take_rest}
use Rattle.markdown_scanners_c.specs.Skips.{stand_from, are_skips, left_out}
use Rattle.markdown_scanners_c.specs.private.Searched.{no_skip, halved, searched}
use Rattle.markdown_scanners_c.specs.declared.skips.Skip.{Skip}

-- the offset of the skip at an index
abbrev offset_at : List Skip → ℕ → ℕ
offset_at skips i = (get_or skips i no_skip).offset

module _ (size : ℕ) where
  -- what the first of the skips says, and the others
  abbrev FirstSkip : ℕ → Skip → List Skip → Type 0
  FirstSkip from skip skips =
      (from ≤ skip.offset) × (skip.offset + skip.length ≤ size) × (stand_from (skip.offset + max skip.length 1) size skips ≡ true)

  first : (from : ℕ) (skip : Skip) (skips : List Skip) → stand_from from size (skip ∷ skips) ≡ true → FirstSkip from skip skips
  first from skip skips stand =
      let parts = and_parts (nat_le from skip.offset && nat_le (skip.offset + skip.length) size) _ stand in
      let tests = and_parts (nat_le from skip.offset) (nat_le (skip.offset + skip.length) size) parts.0 in
      (leb-true _ _ tests.0, leb-true _ _ tests.1, parts.1)

  -- each stands at the first offset or after it
  above : (from : ℕ) (skips : List Skip) → stand_from from size skips ≡ true → (i : ℕ) → i < length skips → from ≤ offset_at skips i
  above from [] stand i below = absurd (omega arith)
  above from (skip ∷ skips) stand zero below = (first from skip skips stand).0
  above from (skip ∷ skips) stand (suc i) below =
      let facts = first from skip skips stand in
      let later = above (skip.offset + max skip.length 1) skips facts.2 i (omega (arith, below)) in
      omega (arith, facts.0, later)

  -- nothing is left out before the first offset
  none_before : (from : ℕ) (skips : List Skip) (offset : ℕ) → stand_from from size skips ≡ true → offset < from
      → left_out skips offset ≡ 0
  none_before from [] offset stand before = refl
  none_before from (skip ∷ skips) offset stand before =
      let facts = first from skip skips stand in
      rw (ne_eqb skip.offset offset (λ same. omega (arith, same, facts.0, before)))
      (none_before (skip.offset + max skip.length 1) skips offset facts.2 (omega (arith, before, facts.0)))

  module _ (offset : ℕ) where
    -- The skip at an index is that of the offset; or it stands before the offset, and one after it may be; or it stands
    -- after the offset, and one before it may be.
    hit : (from : ℕ) (skips : List Skip) (i : ℕ) → stand_from from size skips ≡ true → i < length skips
        → offset_at skips i ≡ offset → left_out skips offset ≡ (get_or skips i no_skip).length
    hit from [] i stand below same = absurd (omega (arith, below))
    hit from (skip ∷ skips) zero stand below same = rw (eq-eqb skip.offset offset same) refl
    hit from (skip ∷ skips) (suc i) stand below same =
        let facts = first from skip skips stand in
        let there = above (skip.offset + max skip.length 1) skips facts.2 i (omega (arith, below)) in
        rw (ne_eqb skip.offset offset (λ here. omega (arith, here, same, there)))
        (hit (skip.offset + max skip.length 1) skips i facts.2 (omega (arith, below)) same)

    later : (from : ℕ) (skips : List Skip) (i : ℕ) → stand_from from size skips ≡ true → i < length skips
        → offset_at skips i < offset → left_out skips offset ≡ left_out (drop (suc i) skips) offset
    later from [] i stand below less = absurd (omega (arith, below))
    later from (skip ∷ skips) zero stand below less =
        rw (ne_eqb skip.offset offset (λ here. omega (arith, here, less))) refl
    later from (skip ∷ skips) (suc i) stand below less =
        let facts = first from skip skips stand in
        let there = above (skip.offset + max skip.length 1) skips facts.2 i (omega (arith, below)) in
        rw (ne_eqb skip.offset offset (λ here. omega (arith, here, less, there)))
        (later (skip.offset + max skip.length 1) skips i facts.2 (omega (arith, below)) less)

    earlier : (from : ℕ) (skips : List Skip) (i : ℕ) → stand_from from size skips ≡ true → i < length skips
        → offset < offset_at skips i → left_out skips offset ≡ left_out (take i skips) offset
    earlier from [] i stand below more = absurd (omega (arith, below))
    earlier from (skip ∷ skips) zero stand below more =
        let facts = first from skip skips stand in
        rw (ne_eqb skip.offset offset (λ here. omega (arith, here, more)))
        (none_before (skip.offset + max skip.length 1) skips offset facts.2 (omega (arith, more)))
    earlier from (skip ∷ skips) (suc i) stand below more =
        let facts = first from skip skips stand in
        let rest = earlier (skip.offset + max skip.length 1) skips i facts.2 (omega (arith, below)) more in
        elim (cases_Bool (skip.offset == offset)) [
          | inl here ↦ rw here refl
          | inr other ↦ rw other rest
        ]

  front_stands : (from : ℕ) (skips : List Skip) (i : ℕ) → stand_from from size skips ≡ true
      → stand_from from size (take i skips) ≡ true
  front_stands from skips zero stand = refl
  front_stands from [] (suc i) stand = refl
  front_stands from (skip ∷ skips) (suc i) stand =
      let parts = and_parts (nat_le from skip.offset && nat_le (skip.offset + skip.length) size) _ stand in
      rw parts.0 (front_stands (skip.offset + max skip.length 1) skips i parts.1)

  rest_stands : (from : ℕ) (skips : List Skip) (i : ℕ) → stand_from from size skips ≡ true
      → (next : ℕ) × (stand_from next size (drop i skips) ≡ true)
  rest_stands from skips zero stand = (from, stand)
  rest_stands from [] (suc i) stand = (from, refl)
  rest_stands from (skip ∷ skips) (suc i) stand =
      rest_stands (skip.offset + max skip.length 1) skips i (first from skip skips stand).2

-- ---- searches by halving

none_found : (steps offset : ℕ) → halved steps [] offset ≡ 0
none_found zero offset = refl
none_found (suc steps) offset =
    elim (cases_Bool (0 == offset)) [
      | inl here ↦ rw here refl
      | inr other ↦ rw other (elim (cases_Bool (nat_lt 0 offset)) [
        | inl less ↦ rw less (none_found steps offset)
        | inr more ↦ rw more (none_found steps offset)
      ])
    ]

-- the half in which a search goes on
abbrev half : List Skip → ℕ → List Skip
half skips offset =
    if nat_lt (offset_at skips (length skips / 2)) offset then drop (suc (length skips / 2)) skips else take (length skips / 2) skips

half_fits : (skips : List Skip) (offset steps : ℕ) → length skips ≤ suc steps → length (half skips offset) ≤ steps
half_fits skips offset steps fits =
    elim (cases_Bool (nat_lt (offset_at skips (length skips / 2)) offset)) [
      | inl less ↦ rw less (omega (arith, fits, length-drop (suc (length skips / 2)) skips))
      | inr more ↦ rw more (omega (arith, fits, length-take (length skips / 2) skips))
    ]

-- enough steps are as good as more
pub steps_enough : (steps more offset : ℕ) (skips : List Skip) → length skips ≤ steps → length skips ≤ more
    → halved steps skips offset ≡ halved more skips offset
steps_enough zero more offset skips fits others =
    let none = nil_from_length skips (omega (arith, fits)) in
    rw none (sym (none_found more offset))
steps_enough (suc steps) zero offset skips fits others =
    let none = nil_from_length skips (omega (arith, others)) in
    rw none (none_found (suc steps) offset)
steps_enough (suc steps) (suc more) offset skips fits others =
    elim (cases_Bool (offset_at skips (length skips / 2) == offset)) [
      | inl here ↦ rw here refl
      | inr other ↦
          rw other (steps_enough steps more offset (half skips offset) (half_fits skips offset steps fits) (half_fits skips offset more others))
    ]

-- what the skip in the middle tells
pub at_middle : (skips : List Skip) (offset : ℕ) → 0 < length skips → offset_at skips (length skips / 2) ≡ offset
    → searched skips offset ≡ (get_or skips (length skips / 2) no_skip).length
at_middle [] offset some here = absurd (omega (arith, some))
at_middle (skip ∷ skips) offset some here = rw (eq-eqb (offset_at (skip ∷ skips) (suc (length skips) / 2)) offset here) refl

goes_on : (skips : List Skip) (offset : ℕ) → 0 < length skips → offset_at skips (length skips / 2) ≢ offset
    → searched skips offset ≡ searched (half skips offset) offset
goes_on [] offset some other = absurd (omega (arith, some))
goes_on (skip ∷ skips) offset some other =
    let fits = half_fits (skip ∷ skips) offset (length skips) (omega arith) in
    rw (ne_eqb (offset_at (skip ∷ skips) (suc (length skips) / 2)) offset other)
    (steps_enough (length skips) (length (half (skip ∷ skips) offset)) offset (half (skip ∷ skips) offset) fits (omega arith))

pub goes_up : (skips : List Skip) (offset : ℕ) → 0 < length skips → offset_at skips (length skips / 2) < offset
    → searched skips offset ≡ searched (take (length skips - (length skips / 2 + 1)) (drop (length skips / 2 + 1) skips)) offset
goes_up skips offset some less =
    let up : half skips offset ≡ drop (suc (length skips / 2)) skips = rw (lt-ltb _ _ less) refl in
    let next : suc (length skips / 2) ≡ length skips / 2 + 1 = omega arith in
    goes_on skips offset some (λ same. omega (arith, same, less))
    ∙ ap (λ rest. searched rest offset) (up ∙ ap (λ n. drop n skips) next ∙ sym (take_rest skips (length skips / 2 + 1)))

pub goes_down : (skips : List Skip) (offset : ℕ) → 0 < length skips → offset < offset_at skips (length skips / 2)
    → searched skips offset ≡ searched (take (length skips / 2) skips) offset
goes_down skips offset some more =
    let down : half skips offset ≡ take (length skips / 2) skips = rw (le-ltb (offset_at skips (length skips / 2)) offset (omega (arith, more))) refl in
    goes_on skips offset some (λ same. omega (arith, same, more)) ∙ ap (λ rest. searched rest offset) down

-- of a table in order a search finds what is left out
pub search_finds : (steps size from offset : ℕ) (skips : List Skip) → length skips ≤ steps → stand_from from size skips ≡ true
    → halved steps skips offset ≡ left_out skips offset
search_finds zero size from offset skips fits stand = rw (nil_from_length skips (omega (arith, fits))) refl
search_finds (suc steps) size from offset [] fits stand = none_found (suc steps) offset
search_finds (suc steps) size from offset (skip ∷ skips) fits stand =
    let table = skip ∷ skips in
    let middle = suc (length skips) / 2 in
    let below : middle < length table = omega arith in
    let short = half_fits table offset steps fits in
    elim (cases_Bool (offset_at table middle == offset)) [
      | inl here ↦ rw here (sym (hit size offset from table middle stand below (eqb-true _ _ here)))
      | inr other ↦ elim (cases_Bool (nat_lt (offset_at table middle) offset)) [
        | inl less ↦
            (let rest = rest_stands size from table (suc middle) stand in
            rw (other, less)
            (search_finds steps size rest.0 offset (drop (suc middle) table) (rw less at short) rest.1
            ∙ sym (later size offset from table middle stand below (ltb-true _ _ less))))
        | inr more ↦
            (let beyond : offset < offset_at table middle = grind (arith, nat_tests, other, more) in
            rw (other, more)
            (search_finds steps size from offset (take middle table) (rw more at short) (front_stands size from table middle stand)
            ∙ sym (earlier size offset from table middle stand below beyond)))
      ]
    ]

-- and so of a table of a text that the bytes begin
pub finds : (skips : List Skip) (bytes after : List ℕ) → are_skips skips (bytes ++ after) ≡ true → (offset : ℕ)
    → searched skips offset ≡ left_out skips offset
finds skips bytes after stand offset = search_finds (length skips) (length (bytes ++ after)) 0 offset skips (omega arith) stand
