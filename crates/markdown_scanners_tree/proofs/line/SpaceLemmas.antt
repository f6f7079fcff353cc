-- Columns of space taken from a state.
use Rattle.std.specs.Prelude.{ℕ, zero, suc, true, false, ◌≡◌, refl, ◌⊎◌, List, [], ◌∷◌, ◌++◌}
use Rattle.std.specs.Prelude.{◌+◌, ◌-◌, ◌*◌, ◌/◌, ◌%◌, ◌<◌, ◌≤◌, replicate, length, min, get_or, take, drop}
use Rattle.std.proofs.Common.{sym, ◌∙◌, ap, inl, inr, eqb, ◌==◌, arith, append_assoc, add-zero}
use Rattle.std.specs.List.{prefix_len}
use Rattle.std.proofs.lemmas.List.{length-replicate, replicate-append-replicate, drop-append-le, drop-replicate, drop_more, length-drop, get_or-take}
use Rattle.std.proofs.lemmas.List.{get_or-drop}
use Rattle.std.proofs.lemmas.List.Sums.{prefix_len-le-length, prefix_len_passes}
use Rattle.std.proofs.lemmas.Bool.{cases_lt, eqb-true}
use Rattle.std.proofs.lemmas.Bool.Decides.{nat_tests}
use Rattle.std.proofs.Math.ListN.{drop_of_length-le}
use Rattle.markdown_scanners_tree.specs.Bytes.{begins_with, is_space_or_tab, is_line_ending}
use Rattle.markdown_scanners_tree.specs.Columns.{column_after, column_past, bytes_below, written_byte, written_out}
use Rattle.markdown_scanners_tree.specs.line.State.{LineState, rest_of, leading_spaces, columns_further, space_within, after_space}
use Rattle.markdown_scanners_tree.proofs.PrefixLemmas.{from_offset, prefix_len-first}
use Rattle.markdown_scanners_tree.proofs.line.ColumnLemmas.{after-more, bool_cases, written-end, written-cons, none_below, below-shift}
use Rattle.markdown_scanners_tree.proofs.line.ColumnLemmas.{column_past-shift, written_out-shift, Reach, reach_none, reach_byte}

-- n spaces
abbrev pub spaces : ℕ → List ℕ
spaces n = replicate n 32

leading-spaces : (m : ℕ) (w : List ℕ) → leading_spaces (spaces m ++ w) ≡ m + leading_spaces w
leading-spaces zero w = omega arith
leading-spaces (suc m) w = omega (arith, leading-spaces m w)

pub drop-spaces : (t p : ℕ) (w : List ℕ) → drop t (spaces (t + p) ++ w) ≡ spaces p ++ w
drop-spaces t p w =
    let fits : t ≤ length (spaces (t + p)) = rw (length-replicate {A = ℕ} (t + p) 32) (omega arith) in
    let e : t + p - t ≡ p = omega arith in
    drop-append-le t (spaces (t + p)) w fits ∙ rw (drop-replicate {X = ℕ} t (t + p) 32, e) refl

spaces-join : (m n : ℕ) (w : List ℕ) → spaces m ++ (spaces n ++ w) ≡ spaces (m + n) ++ w
spaces-join m n w = sym (append_assoc (spaces m) (spaces n) w) ∙ rw (replicate-append-replicate {A = ℕ} m n 32) refl

-- the column of a state's offset counts modulo four alone
pub written_out-phase : (bs : List ℕ) (c : ℕ) → written_out (c % 4) bs ≡ written_out c bs
written_out-phase bs c =
    let e : c % 4 + 4 * (c / 4) ≡ c = omega arith in
    sym (written_out-shift bs (c % 4) (c / 4)) ∙ rw e refl

below-phase : (bs : List ℕ) (c n p : ℕ) → bytes_below (c % 4) bs (c % 4 + n - p) ≡ bytes_below c bs (c + n - p)
below-phase bs c n p =
    elim (cases_lt p n) [
      | inr few ↦ none_below bs (c % 4) (c % 4 + n - p) (omega arith)
          ∙ sym (none_below bs c (c + n - p) (omega arith))
      | inl more ↦ (
          let e : c % 4 + 4 * (c / 4) ≡ c = omega arith in
          let f : c % 4 + n - p + 4 * (c / 4) ≡ c + n - p = omega arith in
          sym (below-shift bs (c % 4) (c / 4) (c % 4 + n - p)) ∙ rw (e, f) refl
          )
    ]

past-phase : (bs : List ℕ) (c : ℕ) → column_past (c % 4) bs + 4 * (c / 4) ≡ column_past c bs
past-phase bs c =
    let e : c % 4 + 4 * (c / 4) ≡ c = omega arith in
    sym (column_past-shift bs (c % 4) (c / 4)) ∙ rw e refl

-- a space or a tab more
reach_space : {c₀ : ℕ} {bs₀ : List ℕ} {passed c b : ℕ} {back : List ℕ} (pending : ℕ)
    → Reach c₀ bs₀ (spaces (c - c₀)) passed c 0 (b ∷ back) → c₀ ≤ c → (b ≡ 32) ⊎ (b ≡ 9)
    → c + pending < column_after c b
    → Reach c₀ bs₀ (spaces (column_after c b - c₀)) (passed + 1) (column_after c b) pending back
reach_space {c₀} {bs₀} {passed} {c} {b} {back} pending r grows kind narrow =
    let goes : is_line_ending b ≡ false = elim kind as (λ _. is_line_ending b ≡ false) [
      | inl e ↦ rw e refl
      | inr e ↦ rw e refl
    ] in
    let more : c < column_after c b = after-more c b in
    let written : written_byte c b ≡ spaces (column_after c b - c) =
    elim kind as (λ _. written_byte c b ≡ spaces (column_after c b - c)) [
      | inl e ↦ (let one : c + 1 - c ≡ 1 = omega arith in rw (e, one) refl)
      | inr e ↦ rw e refl
    ] in
    let sum : (c - c₀) + (column_after c b - c) ≡ column_after c b - c₀ = omega arith in
    let out : spaces (c - c₀) ++ written_byte c b ≡ spaces (column_after c b - c₀) =
    rw (written, replicate-append-replicate {A = ℕ} (c - c₀) (column_after c b - c) 32, sum) refl in
    rw out at (reach_byte pending r goes narrow)

-- a state by its parts, with the column of its offset
abbrev pub state_of : List ℕ → ℕ → ℕ → ℕ → LineState
state_of bytes offset pending column = record { bytes = bytes; offset = offset; pending = pending; phase = column % 4 }

-- what columns_further gives, by the column of the offset in place of its phase
pub further-column : (line : List ℕ) (offset p c n : ℕ) →
    let back = drop offset line in
    let m = bytes_below c back (c + n - p) in
    let c' = column_past c (take m back) in
    columns_further n (state_of line offset p c) ≡ state_of line (offset + m) (p + c' - (c + n)) c'
further-column line offset p c n =
    let back = drop offset line in
    let m = bytes_below c back (c + n - p) in
    let count : bytes_below (c % 4) back (c % 4 + n - p) ≡ m = below-phase back c n p in
    let shifted : column_past (c % 4) (take m back) + 4 * (c / 4) ≡ column_past c (take m back) =
    past-phase (take m back) c in
    let pending : p + column_past (c % 4) (take m back) - (c % 4 + n) ≡ p + column_past c (take m back) - (c + n) =
    omega arith in
    let phase : column_past (c % 4) (take m back) % 4 ≡ column_past c (take m back) % 4 = omega arith in
    rw (count, pending, phase) refl

module _ (bytes : List ℕ) (offset c₀ p n offset' c p' left : ℕ)
    (reach : Reach c₀ (drop offset bytes) (spaces (c - c₀)) (offset' - offset) c p' (drop offset' bytes))
    (on : offset ≤ offset') (grows : c₀ ≤ c) (within : left ≤ n) (kept : c + left + p ≡ c₀ + n + p') where
  further : state_of bytes offset' p' c ≡ columns_further (n - left) (state_of bytes offset p c₀)
  further =
      let bs = drop offset bytes in
      let t = n - left in
      let below : bytes_below c₀ bs (c₀ + t - p) ≡ offset' - offset + bytes_below c (drop offset' bytes) (c₀ + t - p) =
      reach.below (c₀ + t - p) (omega arith) in
      let none : bytes_below c (drop offset' bytes) (c₀ + t - p) ≡ 0 =
      none_below (drop offset' bytes) c (c₀ + t - p) (omega arith) in
      let count : bytes_below (c₀ % 4) bs (c₀ % 4 + t - p) ≡ offset' - offset =
      below-phase bs c₀ t p ∙ below ∙ rw none (omega arith) in
      let past : column_past c₀ (take (offset' - offset) bs) ≡ c = rw add-zero at (reach.past 0) in
      let shifted : column_past (c₀ % 4) (take (offset' - offset) bs) + 4 * (c₀ / 4) ≡ c =
      past-phase (take (offset' - offset) bs) c₀ ∙ past in
      let pending : p + column_past (c₀ % 4) (take (offset' - offset) bs) - (c₀ % 4 + t) ≡ p' = omega arith in
      let phase : column_past (c₀ % 4) (take (offset' - offset) bs) % 4 ≡ c % 4 = omega arith in
      let sum : offset + (offset' - offset) ≡ offset' = omega arith in
      rw (count, pending, phase, sum) refl

  all_spaces : rest_of (state_of bytes offset p c₀) ≡ spaces ((n - left) + p') ++ written_out c (drop offset' bytes)
  all_spaces =
      let bs = drop offset bytes in
      let w = written_out c (drop offset' bytes) in
      let sum : p + (c - c₀) ≡ (n - left) + p' = omega arith in
      rw (written_out-phase bs c₀, reach.written, spaces-join p (c - c₀) w, sum) refl

  rest_dropped : rest_of (state_of bytes offset' p' c) ≡ drop (n - left) (rest_of (state_of bytes offset p c₀))
  rest_dropped =
      let w = written_out c (drop offset' bytes) in
      rw (written_out-phase (drop offset' bytes) c, all_spaces) (sym (drop-spaces (n - left) p' w))

  module _ (ended : (left ≡ 0) ⊎ ((p' ≡ 0) × (leading_spaces (written_out c (drop offset' bytes)) ≡ 0))) where
    taken_all : n - left ≡ space_within n (state_of bytes offset p c₀)
    taken_all =
        let w = written_out c (drop offset' bytes) in
        let lead : leading_spaces (rest_of (state_of bytes offset p c₀)) ≡ (n - left) + p' + leading_spaces w =
        ap leading_spaces all_spaces ∙ leading-spaces ((n - left) + p') w in
        rw lead (elim ended [ inl none ↦ omega arith | inr e ↦ omega arith ])

    state_after : state_of bytes offset' p' c ≡ after_space n (state_of bytes offset p c₀)
    state_after = further ∙ ap (λ t. columns_further t (state_of bytes offset p c₀)) taken_all

-- no space stands at the front of what is written out where no byte, or another one than a space or a tab, stands
pub none_at_end : (bytes : List ℕ) (offset c : ℕ) → length bytes ≤ offset
    → leading_spaces (written_out c (drop offset bytes)) ≡ 0
none_at_end bytes offset c h = let e = drop_of_length-le bytes h in rw e refl

none_at : (c b : ℕ) (bs : List ℕ) → (b ≡ 32 → ⊥) → (b ≡ 9 → ⊥) → leading_spaces (written_out c (b ∷ bs)) ≡ 0
none_at c b bs space tab =
    let f : eqb b 32 ≡ false = grind (arith, nat_tests) in
    let g : eqb b 9 ≡ false = grind (arith, nat_tests) in
    bool_cases (is_line_ending b)
    (λ ends. rw (written-end c b bs ends, f) refl)
    (λ goes. rw (written-cons c b bs goes, g, f) refl)

pub none_at_byte : (bytes : List ℕ) (offset c : ℕ) → offset < length bytes → (get_or bytes offset 0 ≡ 32 → ⊥)
    → (get_or bytes offset 0 ≡ 9 → ⊥)
    → leading_spaces (written_out c (drop offset bytes)) ≡ 0
none_at_byte bytes offset c inside space tab =
    rw (drop_more bytes offset 0 inside) (none_at c (get_or bytes offset 0) (drop (offset + 1) bytes) space tab)

pub none_at_front : (bs : List ℕ) (c : ℕ) → begins_with is_space_or_tab bs ≡ false
    → leading_spaces (written_out c bs) ≡ 0
none_at_front [] c other = refl
none_at_front (b ∷ bs) c other =
    none_at c b bs
    (λ space. let e : is_space_or_tab b ≡ true = rw space refl in cc)
    (λ tab. let e : is_space_or_tab b ≡ true = rw tab refl in cc)

-- the same over a line and its offsets
reach_next : (bytes : List ℕ) (offset₀ c₀ offset c pending b c' pending' : ℕ)
    → Reach c₀ (drop offset₀ bytes) (spaces (c - c₀)) (offset - offset₀) c pending (drop offset bytes)
    → pending ≡ 0 → offset₀ ≤ offset → offset < length bytes → c₀ ≤ c → get_or bytes offset 0 ≡ b → (b ≡ 32) ⊎ (b ≡ 9)
    → c' ≡ column_after c b → c + pending' < c'
    → Reach c₀ (drop offset₀ bytes) (spaces (c' - c₀)) (offset + 1 - offset₀) c' pending' (drop (offset + 1) bytes)
reach_next bytes offset₀ c₀ offset c pending b c' pending' r none on inside grows read kind next narrow =
    let split : drop offset bytes ≡ b ∷ drop (offset + 1) bytes = rw (drop_more bytes offset 0 inside, read) refl in
    let r₀ = rw (none, split) at r in
    let count : offset + 1 - offset₀ ≡ offset - offset₀ + 1 = omega arith in
    rw (count, next) (reach_space pending' r₀ grows kind (omega arith))

-- Of n columns of space asked for at a position with p₀ columns pending, `left` are not yet taken
-- where the next position is reached, with p columns pending.
pub record IsTaking (bytes : List ℕ) (offset₀ c₀ p₀ n offset c p left : ℕ) : Type 0 where
  pub reach : Reach c₀ (drop offset₀ bytes) (spaces (c - c₀)) (offset - offset₀) c p (drop offset bytes)
  pub kept : c + left + p₀ ≡ c₀ + n + p
  pub on : offset₀ ≤ offset
  pub further : c₀ ≤ c
  pub within : left ≤ n
  pub inside : offset ≤ length bytes
  pub small : p < 4
  pub whole : min p left ≡ 0

-- one space or tab more, with as many of its columns as are left to take
pub taking_next : {bytes : List ℕ} {offset₀ c₀ p₀ n offset c p left : ℕ} (b : ℕ) {c' p' left' : ℕ}
    → IsTaking bytes offset₀ c₀ p₀ n offset c p left
    → 0 < left → offset < length bytes → get_or bytes offset 0 ≡ b → (b ≡ 32) ⊎ (b ≡ 9) → c' ≡ column_after c b
    → p' ≡ c' - c - min left (c' - c) → left' ≡ left - min left (c' - c)
    → IsTaking bytes offset₀ c₀ p₀ n (offset + 1) c' p' left'
taking_next {bytes} {offset₀} {c₀} {p₀} {n} {offset} {c} {p} {left} b {c'} {p'} {left'} t some inside read kind
    next pending left_over =
    let none : p ≡ 0 = omega (arith, t.whole) in
    let width : (c < c') × (c' ≤ c + 4) = elim kind as (λ _. (c < c') × (c' ≤ c + 4)) [
      | inl e ↦ (let one : c' ≡ c + 1 = next ∙ ap (column_after c) e in (omega arith, omega arith))
      | inr e ↦ (let stop : c' ≡ 4 * (c / 4 + 1) = next ∙ ap (column_after c) e in (omega arith, omega arith))
    ] in
    let more : c < c' = width.0 in
    let few : c' ≤ c + 4 = width.1 in
    record {
      reach = reach_next bytes offset₀ c₀ offset c p b c' p' t.reach none t.on inside t.further read kind next
          (omega arith);
      kept = omega (arith, t.kept);
      on = omega (arith, t.on);
      further = omega (arith, t.further);
      within = omega (arith, t.within);
      inside = omega arith;
      small = omega arith;
      whole = omega arith;
    }

-- the same, where the column of the next offset is known modulo four
pub record IsTakingAt (bytes : List ℕ) (offset₀ c₀ p₀ n offset column p left : ℕ) : Type 0 where
  pub c : ℕ
  pub phase : column % 4 ≡ c % 4
  pub taking : IsTaking bytes offset₀ c₀ p₀ n offset c p left

-- a space or tab more, of this width
pub taking_more : {bytes : List ℕ} {offset₀ c₀ p₀ n offset column p left : ℕ} (b width : ℕ) {p' left' : ℕ}
    → IsTakingAt bytes offset₀ c₀ p₀ n offset column p left
    → 0 < left → offset < length bytes → get_or bytes offset 0 ≡ b
    → ((b ≡ 32) × (width ≡ 1)) ⊎ ((b ≡ 9) × (width ≡ 4 - column % 4))
    → p' ≡ width - min left width → left' ≡ left - min left width
    → IsTakingAt bytes offset₀ c₀ p₀ n (offset + 1) (column + width) p' left'
taking_more {bytes} {offset₀} {c₀} {p₀} {n} {offset} {column} {p} {left} b width {p'} {left'} t some inside
    read kind pending left_over =
    let is : (b ≡ 32) ⊎ (b ≡ 9) = elim kind as (λ _. (b ≡ 32) ⊎ (b ≡ 9)) [ inl e ↦ inl e.0 | inr e ↦ inr e.0 ] in
    let wide : t.c + width ≡ column_after t.c b = elim kind as (λ _. t.c + width ≡ column_after t.c b) [
      | inl e ↦ rw (e.0, e.1) refl
      | inr e ↦ rw e.0 (omega (arith, e.1, t.phase))
    ] in
    let grown : t.c + width - t.c ≡ width = omega arith in
    record {
      c = t.c + width;
      phase = omega (arith, t.phase);
      taking = taking_next b t.taking some inside read is wide (rw grown pending) (rw grown left_over);
    }

-- as many spaces more as are passed at once
pub taking_spaces : {bytes : List ℕ} {offset₀ c₀ p₀ n offset column p left : ℕ} (k : ℕ)
    → IsTakingAt bytes offset₀ c₀ p₀ n offset column p left → k ≤ left → offset + k ≤ length bytes
    → ((j : ℕ) → j < k → get_or bytes (offset + j) 0 ≡ 32)
    → IsTakingAt bytes offset₀ c₀ p₀ n (offset + k) (column + k) p (left - k)
taking_spaces {bytes} {offset₀} {c₀} {p₀} {n} {offset} {column} {p} {left} zero t few inside read =
    let same : left - 0 ≡ left = omega arith in
    let offset_is : offset + 0 ≡ offset = omega arith in
    let column_is : column + 0 ≡ column = omega arith in
    rw (same, offset_is, column_is) t
taking_spaces {bytes} {offset₀} {c₀} {p₀} {n} {offset} {column} {p} {left} (suc k) t few inside read =
    let before : IsTakingAt bytes offset₀ c₀ p₀ n (offset + k) (column + k) p (left - k) =
    taking_spaces k t (omega arith) (omega arith) (λ j lt. read j (omega arith)) in
    let none : p ≡ 0 = omega (arith, t.taking.whole) in
    let offset_is : offset + k + 1 ≡ offset + suc k = omega arith in
    let column_is : column + k + 1 ≡ column + suc k = omega arith in
    let after : IsTakingAt bytes offset₀ c₀ p₀ n (offset + k + 1) (column + k + 1) p (left - suc k) =
    taking_more 32 1 before (omega arith) (omega arith) (read k (omega arith)) (inl (refl, refl))
    (omega arith) (omega arith) in
    rw (offset_is, column_is) at after

-- a run of spaces at an offset, counted in the first bytes of the rest
module _ (bytes : List ℕ) (offset most run : ℕ) (inside : offset ≤ length bytes)
    (counted : run ≡ prefix_len (λ b. b == 32) (take most (take (length bytes - offset) (drop offset bytes)))) where
  run_is : run ≡ prefix_len (λ b. b == 32) (take most (drop offset bytes))
  run_is = counted ∙ ap (λ rest. prefix_len (λ b. b == 32) (take most rest)) (from_offset bytes offset)

  pub run_within : (run ≤ most) × (offset + run ≤ length bytes)
  run_within =
      let first = prefix_len-first (λ b. b == 32) most (drop offset bytes) in
      let long = prefix_len-le-length (λ b. b == 32) (drop offset bytes) in
      (omega (arith, run_is, first), omega (arith, run_is, first, long, length-drop offset bytes))

  pub run_of_spaces : (j : ℕ) → j < run → get_or bytes (offset + j) 0 ≡ 32
  run_of_spaces j lt =
      let front = take most (drop offset bytes) in
      let few : j < most = omega (arith, run_within) in
      let passes = prefix_len_passes (λ b. b == 32) front j 0 (omega (arith, run_is)) in
      let read : get_or front j 0 ≡ get_or bytes (offset + j) 0 =
      get_or-take most (drop offset bytes) j 0 few ∙ get_or-drop offset bytes j 0 in
      sym read ∙ eqb-true (get_or front j 0) 32 passes

-- none are taken yet
pub taking_none : (bytes : List ℕ) (offset c p n : ℕ) → offset ≤ length bytes → p < 4 → min p n ≡ 0
    → IsTaking bytes offset c p n offset c p n
taking_none bytes offset c p n inside small whole =
    let no_column : c - c ≡ 0 = omega arith in
    let no_byte : offset - offset ≡ 0 = omega arith in
    record {
      reach = rw (no_column, no_byte) (reach_none c p (drop offset bytes));
      kept = refl;
      on = omega arith;
      further = omega arith;
      within = omega arith;
      inside = inside;
      small = small;
      whole = whole;
    }

-- how many of n columns asked for are taken, and what is left then
pub record IsTaken (n taken : ℕ) (old new : LineState) : Type 0 where
  pub answer : taken ≡ space_within n old
  pub state : new ≡ after_space n old
  pub rest : rest_of new ≡ drop taken (rest_of old)

-- Columns are taken until no more are left to take, or there is no more space: n of them with those
-- that were taken of the p₀ pending ones before.
pub taken_from : {bytes : List ℕ} {offset₀ c₀ p₁ n₁ offset c p left : ℕ} (p₀ n taken : ℕ)
    → IsTaking bytes offset₀ c₀ p₁ n₁ offset c p left → n₁ ≤ n → n₁ + p₀ ≡ n + p₁ → taken + left ≡ n
    → (left ≡ 0) ⊎ ((p ≡ 0) × (leading_spaces (written_out c (drop offset bytes)) ≡ 0))
    → IsTaken n taken (state_of bytes offset₀ p₀ c₀) (state_of bytes offset p c)
taken_from {bytes} {offset₀} {c₀} {p₁} {n₁} {offset} {c} {p} {left} p₀ n taken t fewer from_pending sum ended =
    let within : left ≤ n = omega arith in
    let count : n - left ≡ taken = omega arith in
    let kept : c + left + p₀ ≡ c₀ + n + p = omega (arith, t.kept) in
    record {
      answer = sym count ∙ taken_all bytes offset₀ c₀ p₀ n offset c p left t.reach t.on t.further within kept ended;
      state = state_after bytes offset₀ c₀ p₀ n offset c p left t.reach t.on t.further within kept ended;
      rest = rw count at (rest_dropped bytes offset₀ c₀ p₀ n offset c p left t.reach t.on t.further within kept);
    }

-- the same, where the column of the offset is known modulo four
pub taken_at : {bytes : List ℕ} {offset₀ c₀ p₁ n₁ offset column p left : ℕ} (p₀ n taken : ℕ)
    → (t : IsTakingAt bytes offset₀ c₀ p₁ n₁ offset column p left) → n₁ ≤ n → n₁ + p₀ ≡ n + p₁ → taken + left ≡ n
    → (left ≡ 0) ⊎ ((p ≡ 0) × (leading_spaces (written_out t.c (drop offset bytes)) ≡ 0))
    → IsTaken n taken (state_of bytes offset₀ p₀ c₀) (state_of bytes offset p column)
taken_at p₀ n taken t fewer from_pending sum ended =
    rw t.phase (taken_from p₀ n taken t.taking fewer from_pending sum ended)

-- one column: a pending one, one of a byte, and none
pub one_pending : (bytes : List ℕ) (offset c p : ℕ) → offset ≤ length bytes → p < 4 → 0 < p
    → IsTaken 1 1 (state_of bytes offset p c) (state_of bytes offset (p - 1) c)
one_pending bytes offset c p inside small some =
    let left : IsTaking bytes offset c (p - 1) 0 offset c (p - 1) 0 =
    taking_none bytes offset c (p - 1) 0 inside (omega arith) (omega arith) in
    taken_from p 1 1 left (omega arith) (omega arith) refl (inl refl)

pub one_of_byte : (bytes : List ℕ) (offset c p b width p' : ℕ) → p ≡ 0 → offset < length bytes
    → get_or bytes offset 0 ≡ b → ((b ≡ 32) × (width ≡ 1)) ⊎ ((b ≡ 9) × (width ≡ 4 - c % 4))
    → p' + 1 ≡ width → IsTaken 1 1 (state_of bytes offset p c) (state_of bytes (offset + 1) p' (c + width))
one_of_byte bytes offset c p b width p' none inside read kind others =
    let before : IsTakingAt bytes offset c p 1 offset c p 1 = record {
      c = c;
      phase = refl;
      taking = taking_none bytes offset c p 1 (omega arith) (omega arith) (omega arith);
    } in
    let after : IsTakingAt bytes offset c p 1 (offset + 1) (c + width) p' 0 =
    taking_more b width before (omega arith) inside read kind (omega arith) (omega arith) in
    taken_at p 1 1 after (omega arith) refl refl (inl refl)

pub none_of_byte : (bytes : List ℕ) (offset c p n : ℕ) → p ≡ 0 → offset ≤ length bytes
    → leading_spaces (written_out c (drop offset bytes)) ≡ 0
    → IsTaken n 0 (state_of bytes offset p c) (state_of bytes offset p c)
none_of_byte bytes offset c p n none inside front =
    let before : IsTaking bytes offset c p n offset c p n =
    taking_none bytes offset c p n inside (omega arith) (omega arith) in
    taken_from p n 0 before (omega arith) refl (omega arith) (inr (none, front))
