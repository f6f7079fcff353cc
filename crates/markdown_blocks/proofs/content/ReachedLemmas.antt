-- Places that are reached in a line: directly before one with columns pending stands their tab. (CommonMark 0.31.2, section 2.2, tabs)
use Rattle.std.proofs.Common.{ℕ, zero, suc, Bool, ◌||◌, true, false, cond, ◌==◌, ◌+◌, ◌-◌}
use Rattle.std.proofs.Common.{◌<◌, ◌≤◌, ◌≡◌, List, [], ◌∷◌, ◌++◌, length, take, get_or, replicate}
use Rattle.std.proofs.Common.{nat_lt, refl, sym, ap, ◌∙◌, subst, inl, inr, arith}
use Rattle.std.proofs.lemmas.Bool.{eqb-true, lt-ltb}
use Rattle.std.proofs.lemmas.Bool.Decides.{leb_tells, nat_tests}
use Rattle.std.proofs.lemmas.List.{get_or-drop, length-drop}
use Rattle.std.specs.List.{prefix_len}
use Rattle.std.proofs.lemmas.List.Sums.{prefix_len-le-length}
use Rattle.markdown_scanners_tree.specs.Ascii.{space, tab}
use Rattle.markdown_scanners_tree.specs.Bytes.{is_line_ending, is_space_or_tab}
use Rattle.markdown_scanners_tree.specs.Columns.{bytes_below, column_after, column_past, written_byte, written_out}
use Rattle.markdown_scanners_tree.specs.line.ItemRules.{start_of}
use Rattle.markdown_scanners_tree.specs.line.Outcome.{after_all_space}
use Rattle.markdown_scanners_tree.specs.line.State.{LineState, after_space, bytes_for, bytes_further}
use Rattle.markdown_scanners_tree.specs.line.State.{leading_spaces, rest_of, space_within, unscanned}
use Rattle.markdown_scanners_tree.proofs.line.ColumnLemmas.{after-more, below-cons, bool_cases, none_below, written-cons, written-end}
use Rattle.markdown_blocks.proofs.content.AsciiCuts.{at_front, spaces_low}

pub below_end : (c b : ℕ) (bs : List ℕ) (k : ℕ) → is_line_ending b ≡ true → bytes_below c (b ∷ bs) k ≡ 0
below_end c b bs k ends = rw ends refl

-- no more bytes stand below a column than there are
below_within : (bs : List ℕ) (c k : ℕ) → bytes_below c bs k ≤ length bs
below_within [] c k = omega arith
below_within (b ∷ bs) c k =
    bool_cases (is_line_ending b)
    (λ ends. omega (arith, below_end c b bs k ends))
    (λ goes. omega (arith, below-cons c b bs k goes, below_within bs (column_after c b) k, one_at_most (nat_lt c k)))
  where
    one_at_most : (v : Bool) → cond v 1 0 ≤ 1
    one_at_most true = omega arith
    one_at_most false = omega arith

-- a byte that reaches further than to the next column is a tab
wide_tab : (c b k : ℕ) → c < k → k < column_after c b → b ≡ tab
wide_tab c b k low high =
    bool_cases (b == 9)
    (λ is. grind (arith, nat_tests))
    (λ other. absurd (omega (arith, low, (rw other at high))))

-- where the last of the bytes below a column reaches past it, it is a tab
last_tab : (bs : List ℕ) (c k n : ℕ) → n ≡ bytes_below c bs k → 0 < n → k < column_past c (take n bs) → get_or bs (n - 1) 0 ≡ tab
last_tab [] c k n is some past = absurd (omega (arith, is, some))
last_tab (b ∷ bs) c k n is some past =
    bool_cases (is_line_ending b)
    (λ ends. absurd (omega (arith, is, some, below_end c b bs k ends)))
    (λ goes. elim (leb_tells k c) [
      | inl far ↦ absurd (omega (
        arith,
        is,
        some,
        none_below (b ∷ bs) c k far.1,
      ))
      | inr near ↦ (let more : n ≡ suc (bytes_below (column_after c b) bs k) = is ∙ below-cons c b bs k goes ∙ rw (lt-ltb c k near.1) (omega arith) in
          next (bytes_below (column_after c b) bs k) refl near.1 more (λ m rest there past. last_tab bs (column_after c b) k (suc m) rest there past))
    ])
  where
    next : (m : ℕ) → m ≡ bytes_below (column_after c b) bs k → c < k → n ≡ suc m
        → ((m : ℕ) → suc m ≡ bytes_below (column_after c b) bs k → 0 < suc m → k < column_past (column_after c b) (take (suc m) bs)
        → get_or bs (suc m - 1) 0 ≡ tab) → get_or (b ∷ bs) (n - 1) 0 ≡ tab
    next zero none low more later =
        let one : k < column_after c b = subst (λ j. k < column_past c (take j (b ∷ bs))) more past in
        ap (λ j. get_or (b ∷ bs) (j - 1) 0) more ∙ wide_tab c b k low one
    next (suc m) rest low more later =
        let there : k < column_past (column_after c b) (take (suc m) bs) = subst (λ j. k < column_past c (take j (b ∷ bs))) more past in
        let one : suc (suc m) - 1 ≡ suc m = omega arith in
        let two : m ≡ suc m - 1 = omega arith in
        ap (λ j. get_or (b ∷ bs) (j - 1) 0) more ∙ ap (λ j. get_or (b ∷ bs) j 0) one ∙ ap (λ j. get_or bs j 0) two ∙ later m rest (omega arith) there

-- a byte reaches to the next tab stop at most
near_after : (c b : ℕ) → column_after c b ≤ c + 4
near_after c b = bool_cases (b == 9) (λ is. rw is (omega arith)) (λ other. rw other (omega arith))

-- the last of the bytes below a column reaches at most three past it
few_past : (bs : List ℕ) (c k n : ℕ) → n ≡ bytes_below c bs k → 0 < n → column_past c (take n bs) ≤ k + 3
few_past [] c k n is some = absurd (omega (arith, is, some))
few_past (b ∷ bs) c k n is some =
    bool_cases (is_line_ending b)
    (λ ends. absurd (omega (arith, is, some, below_end c b bs k ends)))
    (λ goes. elim (leb_tells k c) [
      | inl far ↦ absurd (omega (arith, is, some, none_below (b ∷ bs) c k far.1))
      | inr near ↦ (let more : n ≡ suc (bytes_below (column_after c b) bs k) = is ∙ below-cons c b bs k goes ∙ rw (lt-ltb c k near.1) (omega arith) in
          next (bytes_below (column_after c b) bs k) refl near.1 more (λ m rest there. few_past bs (column_after c b) k (suc m) rest there))
    ])
  where
    next : (m : ℕ) → m ≡ bytes_below (column_after c b) bs k → c < k → n ≡ suc m
        → ((m : ℕ) → suc m ≡ bytes_below (column_after c b) bs k → 0 < suc m → column_past (column_after c b) (take (suc m) bs) ≤ k + 3)
        → column_past c (take n (b ∷ bs)) ≤ k + 3
    next zero none low more later =
        subst (λ j. column_past c (take j (b ∷ bs)) ≤ k + 3) (sym more) (omega (arith, low, near_after c b))
    next (suc m) rest low more later =
        subst (λ j. column_past c (take j (b ∷ bs)) ≤ k + 3) (sym more) (later m rest (omega arith))

-- the spaces at the front of a text after others
pub spaces_before : (n : ℕ) (rest : List ℕ) → leading_spaces (replicate n space ++ rest) ≡ n + leading_spaces rest
spaces_before zero rest = omega arith
spaces_before (suc n) rest = omega (arith, spaces_before n rest)

-- all spaces and tabs at the front stand below the column after them, and no other byte
all_space : (bs : List ℕ) (c : ℕ) → let n = leading_spaces (written_out c bs) in column_past c (take (bytes_below c bs (c + n)) bs) ≡ c + n
all_space [] c = omega arith
all_space (b ∷ bs) c =
    bool_cases (is_line_ending b)
    (λ ends.
    let none : leading_spaces (written_out c (b ∷ bs)) ≡ 0 = ap leading_spaces (written-end c b bs ends) ∙ other_byte b bs (ending_other b ends) in
    rw none (rw (below_end c b bs (c + 0) ends) (omega arith)))
    (λ goes. by_byte goes (all_space bs (column_after c b)))
  where
    ending_other : (b : ℕ) → is_line_ending b ≡ true → (b == 32) ≡ false
    ending_other b ends = grind (arith, nat_tests)

    after_none : c ≡ c + 0
    after_none = omega arith

    other_byte : (b : ℕ) (bs : List ℕ) → (b == 32) ≡ false → leading_spaces (b ∷ bs) ≡ 0
    other_byte b bs other = rw other refl

    more : is_line_ending b ≡ false → (let n = leading_spaces (written_out (column_after c b) bs) in
        column_past (column_after c b) (take (bytes_below (column_after c b) bs (column_after c b + n)) bs) ≡ column_after c b + n)
        → (w : ℕ) → column_after c b ≡ c + w → 0 < w → written_byte c b ≡ replicate w space
        → let n = leading_spaces (written_out c (b ∷ bs)) in column_past c (take (bytes_below c (b ∷ bs) (c + n)) (b ∷ bs)) ≡ c + n
    more goes there w further some is =
        let later = column_after c b in
        let rest = leading_spaces (written_out later bs) in
        let n : leading_spaces (written_out c (b ∷ bs)) ≡ w + rest =
        ap leading_spaces (written-cons c b bs goes ∙ ap (λ t. t ++ written_out later bs) is) ∙ spaces_before w (written_out later bs) in
        let reach : c + (w + rest) ≡ later + rest = omega (arith, further) in
        let below : bytes_below c (b ∷ bs) (c + (w + rest)) ≡ suc (bytes_below later bs (later + rest)) =
        below-cons c b bs (c + (w + rest)) goes
        ∙ rw (lt-ltb c (c + (w + rest)) (omega (arith, some)), reach) (omega arith) in
        ap (λ k. column_past c (take (bytes_below c (b ∷ bs) (c + k)) (b ∷ bs))) n ∙ ap (λ m. column_past c (take m (b ∷ bs))) below
        ∙ there ∙ sym reach ∙ ap (λ k. c + k) (sym n)

    by_byte : is_line_ending b ≡ false → (let n = leading_spaces (written_out (column_after c b) bs) in
        column_past (column_after c b) (take (bytes_below (column_after c b) bs (column_after c b + n)) bs) ≡ column_after c b + n)
        → let n = leading_spaces (written_out c (b ∷ bs)) in column_past c (take (bytes_below c (b ∷ bs) (c + n)) (b ∷ bs)) ≡ c + n
    by_byte goes there =
        bool_cases (b == 9)
        (λ is.
        let wide = after-more c b in
        more goes there (column_after c b - c) (omega (arith, wide)) (omega (arith, wide)) (rw is refl))
        (λ no_tab. bool_cases (b == 32)
        (λ is.
        let one : b ≡ 32 = grind (arith, nat_tests) in
        more goes there 1 (rw no_tab refl) (omega arith) (rw no_tab (ap (λ x. x ∷ []) one)))
        (λ no_space.
        let other : written_byte c b ++ written_out (column_after c b) bs ≡ b ∷ written_out (column_after c b) bs = rw no_tab refl in
        let none : leading_spaces (written_out c (b ∷ bs)) ≡ 0 =
        ap leading_spaces (written-cons c b bs goes ∙ other) ∙ other_byte b (written_out (column_after c b) bs) no_space in
        ap (λ k. column_past c (take (bytes_below c (b ∷ bs) (c + k)) (b ∷ bs))) none
        ∙ ap (λ m. column_past c (take m (b ∷ bs))) (none_below (b ∷ bs) c (c + 0) (omega arith))
        ∙ after_none ∙ ap (λ k. c + k) (sym none)))

-- a byte that begins with a space, written out, is a space or a tab, and the spaces go on after it
pub space_first : (b : ℕ) (bs : List ℕ) (c : ℕ) → is_line_ending b ≡ false → 1 ≤ leading_spaces (written_out c (b ∷ bs))
    → (b < 128) × (c + leading_spaces (written_out c (b ∷ bs)) ≡ column_after c b + leading_spaces (written_out (column_after c b) bs))
space_first b bs c goes some =
    let whole : leading_spaces (written_out c (b ∷ bs)) ≡ leading_spaces (written_byte c b ++ written_out (column_after c b) bs) =
    ap leading_spaces (written-cons c b bs goes) in
    bool_cases (b == 9)
    (λ is.
    let w = column_after c b - c in
    let wide : written_byte c b ≡ replicate w space = rw is refl in
    let spaces = ap (λ t. leading_spaces (t ++ written_out (column_after c b) bs)) wide ∙ spaces_before w (written_out (column_after c b) bs) in
    (grind (arith, nat_tests), omega (arith, whole, spaces, after-more c b)))
    (λ no_tab. bool_cases (b == 32)
    (λ is.
    let one : written_byte c b ≡ space ∷ [] = rw no_tab (ap (λ x. x ∷ []) (eqb-true b 32 is)) in
    let next : column_after c b ≡ c + 1 = rw no_tab refl in
    let spaces = ap (λ t. leading_spaces (t ++ written_out (column_after c b) bs)) one ∙ spaces_before 1 (written_out (column_after c b) bs) in
    (grind (arith, nat_tests), omega (arith, whole, spaces, next)))
    (λ no_space.
    let other : written_byte c b ++ written_out (column_after c b) bs ≡ b ∷ written_out (column_after c b) bs = rw no_tab refl in
    let none : leading_spaces (b ∷ written_out (column_after c b) bs) ≡ 0 = rw no_space refl in
    absurd (omega (arith, some, whole, ap leading_spaces other, none))))

-- the last of the bytes that stand below a column to which spaces reach is a space or a tab
last_space : (bs : List ℕ) (c k n : ℕ) → n ≡ bytes_below c bs k → 0 < n → k ≤ c + leading_spaces (written_out c bs) → get_or bs (n - 1) 0 < 128
last_space [] c k n is some reach = absurd (omega (arith, is, some))
last_space (b ∷ bs) c k n is some reach =
    bool_cases (is_line_ending b)
    (λ ends. absurd (omega (arith, is, some, below_end c b bs k ends)))
    (λ goes. elim (leb_tells k c) [
      | inl far ↦ absurd (omega (arith, is, some, none_below (b ∷ bs) c k far.1))
      | inr near ↦ (let first = space_first b bs c goes (omega (arith, reach, near.1)) in
          let more : n ≡ suc (bytes_below (column_after c b) bs k) = is ∙ below-cons c b bs k goes ∙ rw (lt-ltb c k near.1) (omega arith) in
          next (bytes_below (column_after c b) bs k) refl first.0 more
          (λ m rest there. last_space bs (column_after c b) k (suc m) rest there (omega (arith, reach, first.1))))
    ])
  where
    next : (m : ℕ) → m ≡ bytes_below (column_after c b) bs k → b < 128 → n ≡ suc m
        → ((m : ℕ) → suc m ≡ bytes_below (column_after c b) bs k → 0 < suc m → get_or bs (suc m - 1) 0 < 128)
        → get_or (b ∷ bs) (n - 1) 0 < 128
    next zero none low more later = subst (λ j. get_or (b ∷ bs) (j - 1) 0 < 128) (sym more) low
    next (suc m) rest low more later =
        let one : suc (suc m) - 1 ≡ suc m = omega arith in
        let two : m ≡ suc m - 1 = omega arith in
        subst (λ j. get_or (b ∷ bs) (j - 1) 0 < 128) (sym more)
        (subst (λ j. get_or (b ∷ bs) j 0 < 128) (sym one) (subst (λ j. get_or bs j 0 < 128) (sym two) (later m rest (omega arith))))

-- where fewer columns of space stand than are taken, none is pending then
pub all_taken : (n : ℕ) (s : LineState) → space_within n s < n → (after_space n s).pending ≡ 0
all_taken n s fewer =
    let u = unscanned s in
    let lead = leading_spaces (written_out s.phase u) in
    let all : leading_spaces (rest_of s) ≡ s.pending + lead = spaces_before s.pending (written_out s.phase u) in
    let t : space_within n s ≡ s.pending + lead = omega (arith, fewer, all) in
    let reach : s.phase + space_within n s - s.pending ≡ s.phase + lead = omega (arith, t) in
    let column : column_past s.phase (take (bytes_for (space_within n s) s) u) ≡ s.phase + lead =
    ap (λ k. column_past s.phase (take (bytes_below s.phase u k) u)) reach ∙ all_space u s.phase in
    omega (arith, t, column)

pub record Reached (line : List ℕ) (s : LineState) : Type 0 where
  pub of_line : s.bytes ≡ line
  pub within : s.offset ≤ length line
  pub after_tab : 0 < s.pending → (0 < s.offset) × (get_or line (s.offset - 1) 0 ≡ tab)
  -- directly before it stands a byte of ASCII, or nothing
  pub after_ascii : 0 < s.offset → get_or line (s.offset - 1) 0 < 128
  pub few : s.pending < 4

pub at_start : (line : List ℕ) → Reached line (start_of line)
at_start line = record {
  of_line = refl;
  within = omega arith;
  after_tab = λ some. absurd (omega (arith, some));
  after_ascii = λ some. absurd (omega (arith, some));
  few = omega arith;
}

-- where no column is pending
pub none_pending : (line : List ℕ) (s : LineState) → s.bytes ≡ line → s.offset ≤ length line → s.pending ≡ 0
    → (0 < s.offset → get_or line (s.offset - 1) 0 < 128) → Reached line s
none_pending line s is within none ascii = record {
  of_line = is;
  within = within;
  after_tab = λ some. absurd (omega (arith, none, some));
  after_ascii = ascii;
  few = omega (arith, none);
}

module _ (line : List ℕ) (s : LineState) (r : Reached line s) where
  -- what is passed ends with a byte of ASCII
  passed_ascii : {offset : ℕ} (n : ℕ) → offset ≡ s.offset + n → 0 < n → get_or (unscanned s) (n - 1) 0 < 128 → get_or line (offset - 1) 0 < 128
  passed_ascii n is some low =
      let at = ap (λ p. get_or line (p - 1) 0) is ∙ ap (λ p. get_or line p 0) (omega (arith, some))
      ∙ ap (λ l. get_or l (s.offset + (n - 1)) 0) (sym r.of_line) ∙ sym (get_or-drop s.offset s.bytes (n - 1) 0) in
      subst (λ b. b < 128) (sym at) low

  left : length (unscanned s) ≡ length line - s.offset
  left = length-drop s.offset s.bytes ∙ ap (λ l. length l - s.offset) r.of_line

  pub after_some : (n : ℕ) → Reached line (after_space n s)
  after_some n =
      let u = unscanned s in
      let t = space_within n s in
      let m = bytes_for t s in
      let few = below_within u s.phase (s.phase + t - s.pending) in
      let size = left in
      let inside = r.within in
      record {
        of_line = r.of_line;
        within = omega (arith, few, size, inside);
        after_tab = λ some. by m refl some;
        after_ascii = λ some. ascii m refl some;
        few = few_by m refl;
      }
    where
      few_by : (m : ℕ) → m ≡ bytes_for (space_within n s) s → (after_space n s).pending < 4
      few_by zero none =
          let column : column_past s.phase (take (bytes_for (space_within n s) s) (unscanned s)) ≡ s.phase =
          ap (λ k. column_past s.phase (take k (unscanned s))) (sym none) in
          omega (arith, r.few, column)
      few_by (suc m) is =
          let u = unscanned s in
          let k = s.phase + space_within n s - s.pending in
          elim (leb_tells k s.phase) [
            | inl near ↦ absurd (omega (arith, is, none_below u s.phase k near.1))
            | inr far ↦ (let past : column_past s.phase (take (bytes_for (space_within n s) s) u) ≤ k + 3 =
                subst (λ j. column_past s.phase (take j u) ≤ k + 3) is (few_past u s.phase k (suc m) is (omega arith)) in
                omega (arith, past, far.1))
          ]

      ascii : (m : ℕ) → m ≡ bytes_for (space_within n s) s → 0 < (after_space n s).offset → get_or line ((after_space n s).offset - 1) 0 < 128
      ascii zero none some =
          let same : (after_space n s).offset ≡ s.offset = omega (arith, none) in
          subst (λ p. get_or line (p - 1) 0 < 128) (sym same) (r.after_ascii (omega (arith, some, same)))
      ascii (suc m) is some =
          let u = unscanned s in
          let k = s.phase + space_within n s - s.pending in
          let all : leading_spaces (rest_of s) ≡ s.pending + leading_spaces (written_out s.phase u) = spaces_before s.pending (written_out s.phase u) in
          let last = last_space u s.phase k (suc m) is (omega arith) (omega (arith, all)) in
          passed_ascii (suc m) (omega (arith, is)) (omega arith) last

      by : (m : ℕ) → m ≡ bytes_for (space_within n s) s → 0 < (after_space n s).pending
          → (0 < (after_space n s).offset) × (get_or line ((after_space n s).offset - 1) 0 ≡ tab)
      by zero none some =
          let same : (after_space n s).offset ≡ s.offset = omega (arith, none) in
          let column : column_past s.phase (take (bytes_for (space_within n s) s) (unscanned s)) ≡ s.phase =
          ap (λ k. column_past s.phase (take k (unscanned s))) (sym none) in
          let old = r.after_tab (omega (arith, some, column)) in
          (omega (arith, same, old.0), ap (λ p. get_or line (p - 1) 0) same ∙ old.1)
      by (suc m) is some =
          let u = unscanned s in
          let k = s.phase + space_within n s - s.pending in
          elim (leb_tells k s.phase) [
            | inl near ↦ absurd (omega (arith, is, none_below u s.phase k near.1))
            | inr far ↦ (let past : k < column_past s.phase (take (suc m) u) =
                subst (λ j. k < column_past s.phase (take j u)) (sym is) (omega (arith, some, far.1)) in
                let last = last_tab u s.phase k (suc m) is (omega arith) past in
                let at : (after_space n s).offset - 1 ≡ s.offset + (suc m - 1) = omega (arith, is) in (
                  omega (arith, is),
                  ap (λ p. get_or line p 0) at ∙ ap (λ l. get_or l (s.offset + (suc m - 1)) 0) (sym r.of_line)
                      ∙ sym (get_or-drop s.offset s.bytes (suc m - 1) 0) ∙ last,
                ))
          ]

  pub after_all : Reached line (after_all_space s)
  after_all =
      let few = prefix_len-le-length (λ b. b == space || b == tab) (unscanned s) in
      let size = left in
      let inside = r.within in
      none_pending line (after_all_space s) r.of_line (omega (arith, few, size, inside)) refl
      (λ some. by (prefix_len (λ b. b == space || b == tab) (unscanned s)) refl some)
    where
      by : (n : ℕ) → n ≡ prefix_len (λ b. b == space || b == tab) (unscanned s) → 0 < s.offset + n
          → get_or line ((after_all_space s).offset - 1) 0 < 128
      by zero none some =
          let same : (after_all_space s).offset ≡ s.offset = omega (arith, none) in
          subst (λ p. get_or line (p - 1) 0 < 128) (sym same) (r.after_ascii (omega (arith, some)))
      by (suc n) is some = passed_ascii (suc n) (omega (arith, is)) (omega arith) (at_front is_space_or_tab spaces_low (unscanned s) (suc n - 1) (omega (arith, is)))

  -- bytes are passed, of which the last is ASCII
  pub after_bytes : (n : ℕ) → s.pending ≡ 0 → n ≤ length (unscanned s) → 0 < n → get_or (unscanned s) (n - 1) 0 < 128
      → Reached line (bytes_further n s)
  after_bytes n none few some low =
      let size = left in
      let inside = r.within in
      none_pending line (bytes_further n s) r.of_line (omega (arith, few, size, inside)) none (λ more. passed_ascii n refl some low)
