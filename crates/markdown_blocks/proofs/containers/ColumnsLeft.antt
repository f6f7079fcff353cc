-- The columns of space that belong to a marker, where a call that takes form feeds for space has passed it.
use Rattle.std.proofs.Common.{ℕ, Bool, true, false, ◌==◌, ◌+◌, ◌-◌, ◌<◌, ◌≤◌, ◌≡◌, List, [], ◌∷◌, ◌++◌, drop}
use Rattle.std.proofs.Common.{Option, Some, None, refl, sym, ap, ◌∙◌, subst, arith, inl, inr}
use Rattle.std.specs.Prelude.{suc}
use Rattle.std.specs.List.{list_all}
use Rattle.std.proofs.lemmas.Bool.{lt-ltb, cases_lt}
use Rattle.std.proofs.lemmas.Bool.Decides.{nat_tests}
use Rattle.std.proofs.lemmas.List.{drop-drop}
use Rattle.markdown_scanners_tree.specs.Bytes.{is_blank as is_white, is_line_ending, is_space_or_tab, is_white_space_in_line}
use Rattle.markdown_scanners_tree.specs.Columns.{bytes_below, column_after, written_out}
use Rattle.markdown_scanners_tree.specs.line.Outcome.{Outcome, space_or_end_follows}
use Rattle.markdown_scanners_tree.specs.line.Outcome.{further_spaces as white_spaces, item_outcome as white_outcome, item_outcome_by as white_outcome_by}
use Rattle.markdown_scanners_tree.specs.line.State.{LineState, after_space, bytes_for, bytes_further, leading_spaces, rest_of, space_within, unscanned}
use Rattle.markdown_scanners_tree.specs.scanners.list_items.ListMarker.{Marker, list_marker}
use Rattle.markdown_scanners_tree.proofs.line.ColumnLemmas.{after-more, below-cons, bool_cases, none_below, written-cons}
use Rattle.markdown_scanners_tree.proofs.line.SpaceLemmas.{none_at_front}
use Rattle.markdown_scanners_tree.proofs.line.StepLemmas.{no_space_taken}
use Rattle.markdown_scanners_tree.proofs.line.WrittenLemmas.{head-cons}
use Rattle.markdown_blocks.specs.blank_lines.BlankLines.{is_blank}
use Rattle.markdown_blocks.specs.containers.Containers.{item_of}
use Rattle.markdown_blocks.specs.containers.ItemMarkers.{further_spaces, item_outcome, item_outcome_after, item_outcome_by}
use Rattle.markdown_blocks.specs.containers.private.Markers.{columns_left}
use Rattle.markdown_blocks.proofs.blank_lines.BlankLemmas.{blank_is_white}
use Rattle.markdown_blocks.proofs.laws.Places.{leading_more, spaces}

-- the columns of a space or a tab at the front are spaces
written_space : (c b : ℕ) (bs : List ℕ) → is_space_or_tab b ≡ true → is_line_ending b ≡ false
    → written_out c (b ∷ bs) ≡ spaces (column_after c b - c) ++ written_out (column_after c b) bs
written_space c b bs space goes =
    written-cons c b bs goes
    ∙ bool_cases (b == 9)
    (λ tab. rw tab refl)
    (λ other.
    let same : b ≡ 32 = grind (arith, nat_tests) in
    let one : c + 1 - c ≡ 1 = omega arith in rw (other, one) (rw same refl))

-- space before white space is white space
spaced_before : (b c k : ℕ) (bs : List ℕ) → is_space_or_tab b ≡ true → c < k → k ≤ c + leading_spaces (written_out c (b ∷ bs))
    → (k ≤ column_after c b + leading_spaces (written_out (column_after c b) bs) → is_white (drop (bytes_below (column_after c b) bs k) bs) ≡ true
    → is_white bs ≡ true) → is_white (drop (bytes_below c (b ∷ bs) k) (b ∷ bs)) ≡ true → is_white (b ∷ bs) ≡ true
spaced_before b c k bs space some few before white =
    let goes : is_line_ending b ≡ false = grind (arith, nat_tests) in
    let white_byte : is_white_space_in_line b ≡ true = grind (arith, nat_tests) in
    let more : bytes_below c (b ∷ bs) k ≡ suc (bytes_below (column_after c b) bs k) =
    below-cons c b bs k goes ∙ rw (lt-ltb c k some) (omega arith) in
    let lead : leading_spaces (written_out c (b ∷ bs)) ≡ (column_after c b - c) + leading_spaces (written_out (column_after c b) bs) =
    ap leading_spaces (written_space c b bs space goes) ∙ leading_more (column_after c b - c) _ in
    let later : k ≤ column_after c b + leading_spaces (written_out (column_after c b) bs) =
    omega (arith, few, lead, after-more c b) in
    let rest = before later (subst (λ n. is_white (drop n (b ∷ bs)) ≡ true) more white) in
    ap (list_all is_white_space_in_line) (head-cons b bs goes) ∙ rw white_byte rest

white_before : (bs : List ℕ) (c k : ℕ) → k ≤ c + leading_spaces (written_out c bs) → is_white (drop (bytes_below c bs k) bs) ≡ true
    → is_white bs ≡ true
white_before [] c k few white = refl
white_before (b ∷ bs) c k few white = elim (cases_lt c k) [
  | inr none ↦ subst (λ n. is_white (drop n (b ∷ bs)) ≡ true) (none_below (b ∷ bs) c k none) white
  | inl some ↦ bool_cases (is_space_or_tab b)
      (λ space. spaced_before b c k bs space some few (white_before bs (column_after c b) k) white)
      (λ word. let nothing : leading_spaces (written_out c (b ∷ bs)) ≡ 0 = none_at_front (b ∷ bs) c word in
      absurd (omega (arith, few, nothing, some)))
]

white_after : (n : ℕ) (s : LineState) → is_white (unscanned (after_space n s)) ≡ true → is_white (unscanned s) ≡ true
white_after n s white =
    let m = space_within n s in
    let lead : leading_spaces (rest_of s) ≡ s.pending + leading_spaces (written_out s.phase (unscanned s)) = leading_more s.pending _ in
    white_before (unscanned s) s.phase (s.phase + m - s.pending) (omega (arith, lead))
    (subst (λ (bs : List ℕ). is_white bs ≡ true) (sym (drop-drop (bytes_for m s) s.offset s.bytes)) white)

not_so : (t : Bool) → (t ≡ true → ⊥) → t ≡ false
not_so true none = absurd (none refl)
not_so false none = refl

-- after one column of space: where the further columns lead, by that call and by the rule
abbrev pub passed : LineState → LineState
passed after = after_space (white_spaces after) after

module _ (after : LineState) (small : after.phase < 4) where
  -- so many columns are left, and this is the state after them
  abbrev pub IsLeft : ℕ → LineState → Type 0
  IsLeft left there = (white_spaces after + left ≡ further_spaces after) × (there ≡ after_space (further_spaces after) after)

  module _ (left : ℕ) (there : LineState) (is : left ≡ columns_left (passed after)) (none : left ≡ 0 → there ≡ passed after)
      (some : 0 < left → there ≡ after_space left (passed after)) where
    white_left : is_white (unscanned after) ≡ true → IsLeft left there
    white_left white =
        let nothing : white_spaces after ≡ 0 = rw white refl in
        let same : passed after ≡ after = ap (λ n. after_space n after) nothing ∙ sym (no_space_taken after small) in
        let count : left ≡ further_spaces after = is ∙ ap columns_left same ∙ rw white refl in (
          omega (arith, nothing, count),
          elim (cases_lt 0 left) [
            | inl more ↦ some more ∙ ap (after_space left) same ∙ ap (λ n. after_space n after) count
            | inr few ↦ (let zero : left ≡ 0 = omega (arith, few) in
                none zero ∙ same ∙ no_space_taken after small ∙ ap (λ n. after_space n after) (sym zero ∙ count))
          ],
        )

    text_left : is_white (unscanned after) ≡ false → IsLeft left there
    text_left text =
        let full : is_blank (unscanned after) ≡ false =
        not_so (is_blank (unscanned after)) (λ blank. let white = blank_is_white (unscanned after) blank in cc) in
        let same : white_spaces after ≡ further_spaces after = rw (text, full) refl in
        let still : is_white (unscanned (passed after)) ≡ false =
        not_so (is_white (unscanned (passed after))) (λ white. let before = white_after (white_spaces after) after white in cc) in
        let zero : left ≡ 0 = is ∙ rw still refl in
        (omega (arith, zero, same), none zero ∙ ap (λ n. after_space n after) same)

    pub all_left : IsLeft left there
    all_left = bool_cases (is_white (unscanned after)) white_left text_left

-- the marker of an item
abbrev pub answer_at : ℕ → ℕ → ℕ → Option (ℕ × ℕ × ℕ)
answer_at d n width = Some (d, n, width)

abbrev pub outcome_at : Option (ℕ × ℕ × ℕ) → LineState → Outcome (ℕ × ℕ × ℕ)
outcome_at answer state = record { answer = answer; state = state }

marked_left : (indent : ℕ) (after there : LineState) (m : Marker) (d n width left : ℕ) → after.phase < 4
    → answer_at d n width ≡ answer_at m.delimiter m.start (indent + m.width + 1 + white_spaces after)
    → left ≡ columns_left (passed after) → (left ≡ 0 → there ≡ passed after) → (0 < left → there ≡ after_space left (passed after))
    → item_outcome_after indent m after ≡ outcome_at (answer_at d n (width + left)) there
marked_left indent after there m d n width left small answered is zero some =
    let all = all_left after small left there is zero some in
    let parts : ◌≡◌ {A = ℕ × ℕ × ℕ} (d, n, width) (m.delimiter, m.start, indent + m.width + 1 + white_spaces after) = cc in
    let sum : indent + m.width + 1 + further_spaces after ≡ width + left =
    omega (arith, all.0, ap (λ (p : ℕ × ℕ × ℕ). p.2) parts) in
    ap (λ (p : ℕ × ℕ × ℕ).
    outcome_at (answer_at p.0 p.1 (indent + m.width + 1 + further_spaces after)) (after_space (further_spaces after) after)) (sym parts)
    ∙ ap (λ k. outcome_at (answer_at d n k) (after_space (further_spaces after) after)) sum
    ∙ ap (outcome_at (answer_at d n (width + left))) (sym all.1)

marker_left : (indent : ℕ) (s there : LineState) (m : Option Marker) (d n width left : ℕ)
    → answer_at d n width ≡ (white_outcome_by indent s m).answer → left ≡ columns_left (white_outcome_by indent s m).state
    → (left ≡ 0 → there ≡ (white_outcome_by indent s m).state) → (0 < left → there ≡ after_space left (white_outcome_by indent s m).state)
    → item_outcome_by indent s m ≡ outcome_at (answer_at d n (width + left)) there
marker_left indent s there None d n width left answers is zero some = cc
marker_left indent s there (Some m) d n width left answers is zero some =
    let after = after_space 1 (bytes_further m.width s) in
    bool_cases (space_or_end_follows (bytes_further m.width s))
    (λ space. rw space (marked_left indent after there m d n width left (omega arith) (rw space at answers) (rw space at is)
    (rw space at zero) (rw space at some)))
    (λ bare. let nothing : answer_at d n width ≡ None = rw bare at answers in cc)

pub item_left : (indent : ℕ) (s there : LineState) (d n width left : ℕ) → answer_at d n width ≡ (white_outcome indent s).answer
    → left ≡ columns_left (white_outcome indent s).state → (left ≡ 0 → there ≡ (white_outcome indent s).state)
    → (0 < left → there ≡ after_space left (white_outcome indent s).state)
    → item_outcome indent s ≡ outcome_at (answer_at d n (width + left)) there
item_left indent s there d n width left answers is zero some = marker_left indent s there (list_marker (unscanned s)) d n width left answers is zero some

-- no marker
marker_none : (indent : ℕ) (s : LineState) (m : Option Marker) → (white_outcome_by indent s m).answer ≡ None
    → (item_outcome_by indent s m).answer ≡ None
marker_none indent s None none = refl
marker_none indent s (Some m) none =
    bool_cases (space_or_end_follows (bytes_further m.width s))
    (λ space. let some = rw space at none in cc)
    (λ bare. rw bare refl)

pub no_item : (indent : ℕ) (s : LineState) → (white_outcome indent s).answer ≡ None → item_of (item_outcome indent s) ≡ None
no_item indent s none = let nothing = marker_none indent s (list_marker (unscanned s)) none in rw nothing refl
