-- After fewer columns of space than are taken a line goes on with neither a space nor a tab.
use Rattle.std.proofs.Common.{ℕ, suc, true, false, ◌==◌, ◌+◌, ◌-◌, ◌<◌, ◌≤◌, ◌≡◌, List, [], ◌∷◌, ◌++◌, drop, replicate}
use Rattle.std.proofs.Common.{refl, sym, ap, ◌∙◌, inl, inr, arith}
use Rattle.std.specs.List.{prefix_len}
use Rattle.std.proofs.lemmas.Bool.{eqb-true, lt-ltb}
use Rattle.std.proofs.lemmas.Bool.Decides.{leb_tells, nat_tests}
use Rattle.std.proofs.lemmas.List.{drop-drop}
use Rattle.markdown_scanners_tree.specs.Ascii.{space}
use Rattle.markdown_scanners_tree.specs.Bytes.{is_line_ending, is_space_or_tab}
use Rattle.markdown_scanners_tree.specs.Columns.{bytes_below, column_after, written_byte, written_out}
use Rattle.markdown_scanners_tree.specs.line.State.{LineState, after_space, bytes_for, leading_spaces, rest_of, space_within, unscanned}
use Rattle.markdown_scanners_tree.proofs.line.ColumnLemmas.{after-more, below-cons, bool_cases, none_below, written-cons}
use Rattle.markdown_blocks.proofs.content.ReachedLemmas.{below_end, space_first, spaces_before}

plain_byte : (b : ℕ) (bs : List ℕ) → is_space_or_tab b ≡ false → prefix_len is_space_or_tab (b ∷ bs) ≡ 0
plain_byte b bs plain = rw plain refl

ending_plain : (b : ℕ) → is_line_ending b ≡ true → is_space_or_tab b ≡ false
ending_plain b ends = grind (arith, nat_tests)

-- a space or a tab is written out with a space
spaced : (b : ℕ) (bs : List ℕ) (c : ℕ) → is_line_ending b ≡ false → is_space_or_tab b ≡ true → 1 ≤ leading_spaces (written_out c (b ∷ bs))
spaced b bs c goes is =
    let whole : leading_spaces (written_out c (b ∷ bs)) ≡ leading_spaces (written_byte c b ++ written_out (column_after c b) bs) =
    ap leading_spaces (written-cons c b bs goes) in
    bool_cases (b == 9)
    (λ tab_is.
    let w = column_after c b - c in
    let wide : written_byte c b ≡ replicate w space = rw tab_is refl in
    let spaces = ap (λ t. leading_spaces (t ++ written_out (column_after c b) bs)) wide ∙ spaces_before w (written_out (column_after c b) bs) in
    omega (arith, whole, spaces, after-more c b))
    (λ no_tab. bool_cases (b == 32)
    (λ space_is.
    let one : written_byte c b ≡ space ∷ [] = rw no_tab (ap (λ x. x ∷ []) (eqb-true b 32 space_is)) in
    let spaces = ap (λ t. leading_spaces (t ++ written_out (column_after c b) bs)) one ∙ spaces_before 1 (written_out (column_after c b) bs) in
    omega (arith, whole, spaces))
    (λ no_space. grind (arith, nat_tests)))

-- after the bytes of all spaces
plain_after : (bs : List ℕ) (c : ℕ) → prefix_len is_space_or_tab (drop (bytes_below c bs (c + leading_spaces (written_out c bs))) bs) ≡ 0
plain_after [] c = refl
plain_after (b ∷ bs) c =
    let k = c + leading_spaces (written_out c (b ∷ bs)) in
    bool_cases (is_line_ending b)
    (λ ends. ap (λ n. prefix_len is_space_or_tab (drop n (b ∷ bs))) (below_end c b bs k ends) ∙ plain_byte b bs (ending_plain b ends))
    (λ goes. elim (leb_tells 1 (leading_spaces (written_out c (b ∷ bs)))) [
      | inl some ↦
          (let first = space_first b bs c goes some.1 in
          let later = column_after c b in
          let below : bytes_below c (b ∷ bs) k ≡ suc (bytes_below later bs k) =
          below-cons c b bs k goes ∙ rw (lt-ltb c k (omega (arith, some.1))) (omega arith) in
          ap (λ n. prefix_len is_space_or_tab (drop n (b ∷ bs))) below
          ∙ ap (λ n. prefix_len is_space_or_tab (drop (bytes_below later bs n) bs)) first.1 ∙ plain_after bs later)
      | inr none ↦
          (let reach : k ≤ c = omega (arith, none.1) in
          ap (λ n. prefix_len is_space_or_tab (drop n (b ∷ bs))) (none_below (b ∷ bs) c k reach)
          ∙ bool_cases (is_space_or_tab b)
          (λ is. absurd (omega (arith, none.1, spaced b bs c goes is)))
          (λ plain. plain_byte b bs plain))
    ])

pub plain_front : (n : ℕ) (s : LineState) → space_within n s < n → prefix_len is_space_or_tab (unscanned (after_space n s)) ≡ 0
plain_front n s fewer =
    let u = unscanned s in
    let lead = leading_spaces (written_out s.phase u) in
    let all : leading_spaces (rest_of s) ≡ s.pending + lead = spaces_before s.pending (written_out s.phase u) in
    let t : space_within n s ≡ s.pending + lead = omega (arith, fewer, all) in
    let reach : s.phase + space_within n s - s.pending ≡ s.phase + lead = omega (arith, t) in
    let left : unscanned (after_space n s) ≡ drop (bytes_below s.phase u (s.phase + lead)) u =
    sym (drop-drop (bytes_for (space_within n s) s) s.offset s.bytes) ∙ ap (λ k. drop (bytes_below s.phase u k) u) reach in
    ap (prefix_len is_space_or_tab) left ∙ plain_after u s.phase
