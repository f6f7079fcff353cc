-- Two offsets with the same text after them, each in its line: what is read there is the same.
use Rattle.std.proofs.Common.{ℕ, suc, zero, Bool, true, false, not, ◌||◌, ◌==◌, ◌+◌, ◌-◌, ◌%◌, ◌≡◌, ◌⊎◌, List, [], ◌∷◌, ◌++◌, length}
use Rattle.std.proofs.Common.{take, drop, replicate, min, refl, sym, ap, ◌∙◌, subst, arith, inl, inr}
use Rattle.std.specs.Prelude.{if◌then◌else◌, nat_lt}
use Rattle.std.proofs.lemmas.Bool.{cases_lt, lt-ltb}
use Rattle.std.proofs.lemmas.List.{drop-drop}
use Rattle.markdown_scanners_tree.specs.Ascii.{space, greater_than_sign}
use Rattle.markdown_scanners_tree.specs.Bytes.{begins_with, is_at_line_end, is_line_ending}
use Rattle.markdown_scanners_tree.specs.Columns.{column_past, bytes_below, written_out}
use Rattle.markdown_scanners_tree.specs.line.Outcome.{space_or_end_follows}
use Rattle.markdown_scanners_tree.specs.line.PlainStep.{marker_spaces}
use Rattle.markdown_scanners_tree.specs.line.State.{LineState, unscanned, rest_of, leading_spaces}
use Rattle.markdown_scanners_tree.specs.line.State.{bytes_further, bytes_for, columns_further, space_within, after_space}
use Rattle.markdown_scanners_tree.proofs.PrefixLemmas.{both_true, list_all-drop}
use Rattle.markdown_scanners_tree.proofs.line.ColumnLemmas.{bool_cases, below-cons, none_below, written-cons, written-end}
use Rattle.markdown_blocks.specs.blank_lines.BlankLines.{is_blank}
use Rattle.markdown_blocks.specs.containers.Containers.{Rest, rest_at}
use Rattle.markdown_blocks.specs.containers.ItemMarkers.{further_spaces}
use Rattle.markdown_blocks.specs.laws.Held.{has_no_tab}

-- bytes with no tab are written out as they are, each of one column
no_tab_here : (b : ℕ) (bs : List ℕ) → has_no_tab (b ∷ bs) ≡ true → ((b == 9) ≡ false) × (has_no_tab bs ≡ true)
no_tab_here b bs h = let both = both_true (not (b == 9)) (has_no_tab bs) h in (by (b == 9) both.0, both.1)
  where
    by : (t : Bool) → not t ≡ true → t ≡ false
    by true e = cc
    by false e = refl

written_plain : (bs : List ℕ) (c : ℕ) → has_no_tab bs ≡ true → written_out c bs ≡ bs
written_plain [] c h = refl
written_plain (b ∷ bs) c h =
    let here = no_tab_here b bs h in
    let plain : (b == 9) ≡ false = here.0 in
    bool_cases (is_line_ending b)
    (λ ends. written-end c b bs ends)
    (λ goes. written-cons c b bs goes ∙ rw plain (ap (λ w. b ∷ w) (written_plain bs (c + 1) here.1)))

past_plain : (bs : List ℕ) (c : ℕ) → has_no_tab bs ≡ true → column_past c bs ≡ c + length bs
past_plain [] c h = omega arith
past_plain (b ∷ bs) c h =
    let here = no_tab_here b bs h in
    let plain : (b == 9) ≡ false = here.0 in
    rw plain (omega (arith, past_plain bs (c + 1) here.1))

below_plain : (bs : List ℕ) (c d k : ℕ) → has_no_tab bs ≡ true → bytes_below c bs (c + k) ≡ bytes_below d bs (d + k)
below_plain [] c d k h = refl
below_plain (b ∷ bs) c d zero h = none_below (b ∷ bs) c (c + 0) (omega arith) ∙ sym (none_below (b ∷ bs) d (d + 0) (omega arith))
below_plain (b ∷ bs) c d (suc k) h =
    let here = no_tab_here b bs h in
    let plain : (b == 9) ≡ false = here.0 in
    bool_cases (is_line_ending b)
    (λ ends. rw ends refl)
    (λ goes.
    let one : nat_lt c (c + suc k) ≡ true = lt-ltb c (c + suc k) (omega arith) in
    let two : nat_lt d (d + suc k) ≡ true = lt-ltb d (d + suc k) (omega arith) in
    let from : c + 1 + k ≡ c + suc k = omega arith in
    let other : d + 1 + k ≡ d + suc k = omega arith in
    let more : bytes_below (c + 1) bs (c + suc k) ≡ bytes_below (d + 1) bs (d + suc k) =
    rw (from, other) at (below_plain bs (c + 1) (d + 1) k here.1) in
    let left : bytes_below c (b ∷ bs) (c + suc k) ≡ 1 + bytes_below (c + 1) bs (c + suc k) =
    below-cons c b bs (c + suc k) goes ∙ rw (one, plain) refl in
    let right : bytes_below d (b ∷ bs) (d + suc k) ≡ 1 + bytes_below (d + 1) bs (d + suc k) =
    below-cons d b bs (d + suc k) goes ∙ rw (two, plain) refl in
    left ∙ ap (λ n. 1 + n) more ∙ sym right)

passed_plain : (bs : List ℕ) (c d n p : ℕ) → has_no_tab bs ≡ true → bytes_below c bs (c + n - p) ≡ bytes_below d bs (d + n - p)
passed_plain bs c d n p h = elim (cases_lt p n) [
  | inl more ↦ (
      let from : c + (n - p) ≡ c + n - p = omega arith in
      let other : d + (n - p) ≡ d + n - p = omega arith in
      rw (from, other) at (below_plain bs c d (n - p) h)
      )
  | inr few ↦ none_below bs c (c + n - p) (omega arith) ∙ sym (none_below bs d (d + n - p) (omega arith))
]

-- the same bytes are left, as many columns are pending, and the tabs among these bytes, if there are any, are as wide
pub record Alike (s t : LineState) : Type 0 where
  pub text : unscanned s ≡ unscanned t
  pub pending : s.pending ≡ t.pending
  pub columns : (s.phase ≡ t.phase) ⊎ (has_no_tab (unscanned t) ≡ true)

pub alike_back : (s t : LineState) → Alike s t → Alike t s
alike_back s t a = record { text = sym a.text; pending = sym a.pending; columns = by a.columns }
  where
    by : (s.phase ≡ t.phase) ⊎ (has_no_tab (unscanned t) ≡ true) → (t.phase ≡ s.phase) ⊎ (has_no_tab (unscanned s) ≡ true)
    by (inl same) = inl (sym same)
    by (inr none) = inr (ap has_no_tab a.text ∙ none)

no_tab_taken : (n : ℕ) (bs : List ℕ) → has_no_tab bs ≡ true → has_no_tab (take n bs) ≡ true
no_tab_taken zero bs h = refl
no_tab_taken (suc n) [] h = refl
no_tab_taken (suc n) (b ∷ bs) h =
    let both = both_true (not (b == 9)) (has_no_tab bs) h in
    let first : not (b == 9) ≡ true = both.0 in
    rw first (no_tab_taken n bs both.1)

no_tab_after : (n : ℕ) (t : LineState) → has_no_tab (unscanned t) ≡ true → has_no_tab (drop (t.offset + n) t.bytes) ≡ true
no_tab_after n t h = ap has_no_tab (sym (drop-drop n t.offset t.bytes)) ∙ list_all-drop (λ b. not (b == 9)) n (unscanned t) h

abbrev rest_of_parts : ℕ → List ℕ → Rest
rest_of_parts n bs = record { indent = n; text = bs }

abbrev further_by : List ℕ → List ℕ → ℕ
further_by bs rest = if is_blank bs then 0 else marker_spaces (leading_spaces rest)

abbrev end_by : List ℕ → List ℕ → Bool
end_by bs rest = nat_lt 0 (leading_spaces rest) || is_at_line_end bs

module _ (s t : LineState) (a : Alike s t) where
  same_written : (s.phase ≡ t.phase) ⊎ (has_no_tab (unscanned t) ≡ true) → written_out s.phase (unscanned s) ≡ written_out t.phase (unscanned t)
  same_written (inl same) = ap (λ c. written_out c (unscanned s)) same ∙ ap (written_out t.phase) a.text
  same_written (inr none) =
      ap (written_out s.phase) a.text ∙ written_plain (unscanned t) s.phase none ∙ sym (written_plain (unscanned t) t.phase none)

  pub same_left : rest_of s ≡ rest_of t
  same_left = ap (λ p. replicate p space ++ written_out s.phase (unscanned s)) a.pending
      ∙ ap (λ w. replicate t.pending space ++ w) (same_written a.columns)

  pub same_space : (n : ℕ) → space_within n s ≡ space_within n t
  same_space n = ap (λ r. min n (leading_spaces r)) same_left

  same_passed : (n : ℕ) → (s.phase ≡ t.phase) ⊎ (has_no_tab (unscanned t) ≡ true) → bytes_for n s ≡ bytes_for n t
  same_passed n (inl same) = ap (λ bs. bytes_below s.phase bs (s.phase + n - s.pending)) a.text
      ∙ ap (λ p. bytes_below s.phase (unscanned t) (s.phase + n - p)) a.pending
      ∙ ap (λ c. bytes_below c (unscanned t) (c + n - t.pending)) same
  same_passed n (inr none) = ap (λ bs. bytes_below s.phase bs (s.phase + n - s.pending)) a.text
      ∙ ap (λ p. bytes_below s.phase (unscanned t) (s.phase + n - p)) a.pending
      ∙ passed_plain (unscanned t) s.phase t.phase n t.pending none

  further_text : (m n : ℕ) → m ≡ n → drop (s.offset + m) s.bytes ≡ drop (t.offset + n) t.bytes
  further_text m n same = sym (drop-drop m s.offset s.bytes) ∙ ap (drop m) a.text ∙ ap (λ k. drop k (unscanned t)) same ∙ drop-drop n t.offset t.bytes

  abbrev column_at : LineState → ℕ → ℕ
  column_at z m = column_past z.phase (take m (unscanned z))

  further_pending : (m n k : ℕ) → m ≡ n → (s.phase ≡ t.phase) ⊎ (has_no_tab (unscanned t) ≡ true)
      → s.pending + column_at s m - (s.phase + k) ≡ t.pending + column_at t n - (t.phase + k)
  further_pending m n k same (inl phase) = ap (λ j. s.pending + column_at s j - (s.phase + k)) same
      ∙ ap (λ bs. s.pending + column_past s.phase (take n bs) - (s.phase + k)) a.text
      ∙ ap (λ c. s.pending + column_past c (take n (unscanned t)) - (c + k)) phase
      ∙ ap (λ p. p + column_at t n - (t.phase + k)) a.pending
  further_pending m n k same (inr none) =
      let taken : has_no_tab (take n (unscanned t)) ≡ true = no_tab_taken n (unscanned t) none in
      let here : column_past s.phase (take n (unscanned t)) ≡ s.phase + length (take n (unscanned t)) = past_plain (take n (unscanned t)) s.phase taken in
      let there : column_at t n ≡ t.phase + length (take n (unscanned t)) = past_plain (take n (unscanned t)) t.phase taken in
      ap (λ j. s.pending + column_at s j - (s.phase + k)) same
      ∙ ap (λ bs. s.pending + column_past s.phase (take n bs) - (s.phase + k)) a.text
      ∙ omega (arith, here, there, a.pending)

  further_columns : (m n : ℕ) → m ≡ n → (s.phase ≡ t.phase) ⊎ (has_no_tab (unscanned t) ≡ true)
      → (column_at s m % 4 ≡ column_at t n % 4) ⊎ (has_no_tab (drop (t.offset + n) t.bytes) ≡ true)
  further_columns m n same (inl phase) = inl (ap (λ j. column_at s j % 4) same
      ∙ ap (λ bs. column_past s.phase (take n bs) % 4) a.text
      ∙ ap (λ c. column_past c (take n (unscanned t)) % 4) phase)
  further_columns m n same (inr none) = inr (no_tab_after n t none)

  -- so many columns further, and up to so many of space
  pub further_alike : (n : ℕ) → Alike (columns_further n s) (columns_further n t)
  further_alike n =
      let same : bytes_for n s ≡ bytes_for n t = same_passed n a.columns in
      record {
        text = further_text (bytes_for n s) (bytes_for n t) same;
        pending = further_pending (bytes_for n s) (bytes_for n t) n same a.columns;
        columns = further_columns (bytes_for n s) (bytes_for n t) same a.columns;
      }

  pub space_alike : (n : ℕ) → Alike (after_space n s) (after_space n t)
  space_alike n = subst (λ m. Alike (columns_further m s) (after_space n t)) (sym (same_space n)) (further_alike (space_within n t))

  pub bytes_alike : (n : ℕ) → Alike (bytes_further n s) (bytes_further n t)
  bytes_alike n = record { text = further_text n n refl; pending = a.pending; columns = by a.columns }
    where
      by : (s.phase ≡ t.phase) ⊎ (has_no_tab (unscanned t) ≡ true)
          → ((s.phase + n) % 4 ≡ (t.phase + n) % 4) ⊎ (has_no_tab (drop (t.offset + n) t.bytes) ≡ true)
      by (inl phase) = inl (ap (λ c. (c + n) % 4) phase)
      by (inr none) = inr (no_tab_after n t none)

  -- what the line has there
  pub same_rest : rest_at s ≡ rest_at t
  same_rest = ap (λ n. rest_of_parts n (unscanned (after_space 4 s))) (same_space 4) ∙ ap (rest_of_parts (space_within 4 t)) (space_alike 4).text

  pub same_quote : begins_with (λ b. b == greater_than_sign) (unscanned s) ≡ begins_with (λ b. b == greater_than_sign) (unscanned t)
  same_quote = ap (begins_with (λ b. b == greater_than_sign)) a.text

  pub same_further : further_spaces s ≡ further_spaces t
  same_further = ap (λ bs. further_by bs (rest_of s)) a.text ∙ ap (further_by (unscanned t)) same_left

  pub same_end : space_or_end_follows s ≡ space_or_end_follows t
  same_end = ap (λ bs. end_by bs (rest_of s)) a.text ∙ ap (end_by (unscanned t)) same_left
