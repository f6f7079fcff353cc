-- Columns of space that are passed four at a time are passed at once.
use Rattle.std.proofs.Common.{ℕ, suc, zero, Bool, true, false, ◌==◌, ◌+◌, ◌≡◌, ◌≤◌, ◌<◌, List, [], ◌∷◌, drop, refl, sym, ap, ◌∙◌, arith}
use Rattle.markdown_scanners_tree.specs.Ascii.{space}
use Rattle.markdown_scanners_tree.specs.Columns.{head_end, written_out}
use Rattle.markdown_scanners_tree.specs.line.State.{LineState, unscanned, rest_of, leading_spaces, columns_further, space_within, after_space}
use Rattle.markdown_scanners_tree.proofs.line.HeadLemmas.{leading-head, head_len-end}
use Rattle.markdown_scanners_tree.proofs.line.StepLemmas.{further-add}
use Rattle.markdown_blocks.specs.containers.Footnotes.{after_columns}
use Rattle.markdown_blocks.proofs.laws.Places.{leading_more}

leading_drop : (n : ℕ) (r : List ℕ) → n ≤ leading_spaces r → leading_spaces (drop n r) + n ≡ leading_spaces r
leading_drop zero r few = omega arith
leading_drop (suc n) [] few = absurd (omega (arith, few))
leading_drop (suc n) (b ∷ r) few = by (b == space) refl (leading_drop n r)
  where
    by : (t : Bool) → (b == space) ≡ t → (n ≤ leading_spaces r → leading_spaces (drop n r) + n ≡ leading_spaces r)
        → leading_spaces (drop n r) + suc n ≡ leading_spaces (b ∷ r)
    by true is later =
        let all = rw is at few in
        let more : n ≤ leading_spaces r = omega (arith, all) in rw is (omega (arith, later more))
    by false is later = let none = rw is at few in absurd (omega (arith, none))

module _ (s t : LineState) (is : t ≡ after_space 4 s) where
  -- four columns stand there, and what is left after them
  pub columns_left : s.phase < 4 → space_within 4 s ≡ 4 → rest_of t ≡ drop 4 (rest_of s)
      → (after_columns t ≡ after_columns s) × (leading_spaces (rest_of t) + 4 ≡ leading_spaces (rest_of s))
  columns_left small four rest =
      let all = leading_spaces (rest_of s) in
      let more = leading_spaces (rest_of t) in
      let w = written_out s.phase (unscanned s) in
      let many : 4 ≤ all = omega (arith, four) in
      let left : more + 4 ≡ all = ap (λ r. leading_spaces r + 4) rest ∙ leading_drop 4 (rest_of s) many in
      let spread : all ≡ s.pending + leading_spaces w = leading_more s.pending w in
      let fits : s.phase + 4 ≤ s.pending + head_end s.phase (unscanned s) =
      omega (arith, many, spread, leading-head w, head_len-end (unscanned s) s.phase) in
      let sum : 4 + more ≡ all = omega (arith, left) in
      let here : t ≡ columns_further 4 s = is ∙ ap (λ n. columns_further n s) four in
      let all_of_t : space_within more t ≡ more = omega arith in
      let all_of_s : all ≡ space_within all s = omega arith in (
        ap (λ n. columns_further n t) all_of_t ∙ ap (columns_further more) here ∙ sym (further-add s 4 more small fits)
            ∙ ap (λ n. columns_further n s) (sum ∙ all_of_s),
        left,
      )

  -- fewer stand there
  pub columns_end : (n : ℕ) → n ≡ space_within 4 s → ¬ (n ≡ 4) → t ≡ after_columns s
  columns_end n answer fewer =
      let all = leading_spaces (rest_of s) in
      let same : space_within 4 s ≡ space_within all s = omega (arith, answer, fewer) in
      is ∙ ap (λ k. columns_further k s) same
