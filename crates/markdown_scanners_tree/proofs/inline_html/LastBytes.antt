-- A search for a needle that tries the first of its last bytes before others.
use Rattle.std.proofs.Common.{◌≡◌, ℕ, ◌+◌, ◌-◌, ◌≤◌, ◌<◌, ◌==◌, true, false, List, length, get_or, take, drop, sym, ap, subst, ◌∙◌, arith, ⊎_elim, Option, Some, None, length-drop, get_or-drop}
use Rattle.std.specs.Prelude.{option_map}
use Rattle.std.proofs.lemmas.List.{take_rest}
use Rattle.std.proofs.lemmas.Bool.{cases_eq, cases_lt, false≢true}
use Rattle.std.proofs.lemmas.Bool.Decides.{nat_tests}
use Rattle.memchr.specs.Find.{OccursAt, Nowhere, Passes, is_byte, FindsNeedle, occurs_at}
use Rattle.memchr.proofs.lemmas.MatchLemmas.{occurs_at-true, OccursAt-true}
use Rattle.markdown_scanners_tree.specs.inline_html.InlineHtml.{first_offset}
use Rattle.markdown_scanners_tree.proofs.inline_html.LeastPlaces.{first_offset-FindsNeedle, FindsNeedle-slice}

is_itself : (a b : ℕ) → a ≡ b → (a == b) ≡ true
is_itself a b e = grind (arith, nat_tests)

module _ (hay needle : List ℕ) (some : 0 < length needle) where
  moved : (k : ℕ) → length needle - 1 + k ≡ k + (length needle - 1)
  moved k = omega arith

  -- no needle stands whose last byte is passed
  pub none_before : (offset : ℕ)
      → Nowhere (Passes (is_byte (get_or needle (length needle - 1) 0))
      (take (length hay - (length needle - 1)) (drop (length needle - 1) hay))) 0 offset
      → Nowhere (OccursAt hay needle) 0 offset
  none_before offset none k low high occurs =
      let reads :
      get_or (take (length hay - (length needle - 1)) (drop (length needle - 1) hay)) k 0
      ≡ get_or needle (length needle - 1) 0 =
      ap (λ l. get_or l k 0) (take_rest hay (length needle - 1))
      ∙ get_or-drop (length needle - 1) hay k 0
      ∙ ap (λ m. get_or hay m 0) (moved k)
      ∙ occurs.reads (length needle - 1) (omega arith) in
      none k low high (is_itself _ _ reads)

  -- where its last byte stands nowhere
  pub none_at_all : length needle - 1 ≤ length hay
      → Nowhere (Passes (is_byte (get_or needle (length needle - 1) 0))
      (take (length hay - (length needle - 1)) (drop (length needle - 1) hay))) 0 (length
      (take (length hay - (length needle - 1)) (drop (length needle - 1) hay)))
      → FindsNeedle hay needle 0 None
  none_at_all inside none k low high occurs =
      let size : length (take (length hay - (length needle - 1)) (drop (length needle - 1) hay))
      ≡ length hay - (length needle - 1) =
      ap length (take_rest hay (length needle - 1)) ∙ length-drop (length needle - 1) hay in
      none_before _ none k low (omega (arith, occurs.fits)) occurs

  pub found_there : (offset : ℕ) → occurs_at hay needle offset ≡ true → Nowhere (OccursAt hay needle) 0 offset
      → FindsNeedle hay needle 0 (Some offset)
  found_there offset there none =
      let occurs : OccursAt hay needle offset = OccursAt-true hay needle offset there in
      (record { low = omega arith; high = omega (arith, occurs.fits); before = none }, occurs)

  -- an offset at which it does not stand
  pub none_there : (offset : ℕ) → occurs_at hay needle offset ≡ false → Nowhere (OccursAt hay needle) 0 offset
      → Nowhere (OccursAt hay needle) 0 (offset + 1)
  none_there offset gone none k low high occurs =
      ⊎_elim
      (λ same. false≢true (sym gone ∙ occurs_at-true hay needle offset (subst (OccursAt hay needle) same occurs)))
      (λ other. none k low (omega arith) occurs)
      (cases_eq k offset)

  from_after : (after : ℕ) (r : Option ℕ) → Nowhere (OccursAt hay needle) 0 after → FindsNeedle hay needle after r
      → FindsNeedle hay needle 0 r
  from_after after None none h =
      λ k low high occurs. ⊎_elim (λ early. none k low early occurs) (λ late. h k late high occurs) (cases_lt k after)
  from_after after (Some k) none h = (
    record {
      low = omega arith;
      high = h.0.high;
      before =
          λ m low below occurs. ⊎_elim (λ early. none m low early occurs) (λ late. h.0.before m late below occurs) (cases_lt m after);
    },
    h.1,
  )

  -- a search after that offset
  pub found_after : (after : ℕ) (r : Option ℕ) → after ≤ length hay → Nowhere (OccursAt hay needle) 0 after
      → FindsNeedle (take (length hay - after) (drop after hay)) needle 0 r
      → FindsNeedle hay needle 0 (option_map (λ k. after + k) r)
  found_after after r inside none h =
      subst (FindsNeedle hay needle 0) (sym (FindsNeedle-slice hay needle after inside r h))
      (from_after after (first_offset hay needle after) none (first_offset-FindsNeedle hay needle after))

  pub offset_inside : (offset : ℕ)
      → offset < length (take (length hay - (length needle - 1)) (drop (length needle - 1) hay)) → offset + 1 ≤ length hay
  offset_inside offset low =
      let size : length (take (length hay - (length needle - 1)) (drop (length needle - 1) hay))
      ≡ length hay - (length needle - 1) =
      ap length (take_rest hay (length needle - 1)) ∙ length-drop (length needle - 1) hay in
      omega arith
