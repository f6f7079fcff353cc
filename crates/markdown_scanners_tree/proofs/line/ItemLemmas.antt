-- A list item's marker that a line start passes.
use Rattle.std.specs.Prelude.{ℕ, ◌≢◌, not, if◌then◌else◌, Bool, true, false, ◌≡◌, refl, ◌==◌, ◌||◌, ◌&&◌, List, [], ◌∷◌, ◌++◌, ◌+◌, ◌-◌, ◌<◌, ◌≤◌, Some, None}
use Rattle.std.proofs.Common.{cond, sym, ◌∙◌, ap, arith, length-append, append_assoc, min, length, take, drop, get_or, nat_le, nat_lt}
use Rattle.std.specs.List.{list_all, prefix_len}
use Rattle.std.proofs.lemmas.Bool.{le-leb, leb-true, lt-ltb}
use Rattle.std.proofs.lemmas.Bool.Decides.{nat_tests}
use Rattle.std.proofs.lemmas.List.{drop-drop, take-append-drop, length-take-le}
use Rattle.std.proofs.lemmas.List.Folds.{list_all-append, length-prefix_len}
use Rattle.markdown_scanners_tree.specs.Bytes.{begins_with, is_digit, is_line_ending, is_at_line_end, is_blank}
use Rattle.markdown_scanners_tree.specs.Columns.{bytes_below, head_end, written_out}
use Rattle.markdown_scanners_tree.specs.line.Outcome.{item_outcome, item_outcome_by, item_outcome_after, not_found, space_or_end_follows}
use Rattle.markdown_scanners_tree.specs.line.State.{LineState, unscanned, rest_of, leading_spaces, bytes_further, columns_further, space_within, after_space}
use Rattle.markdown_scanners_tree.specs.scanners.list_items.ListItem.{IsListMarker, bullet, ordered}
use Rattle.markdown_scanners_tree.specs.scanners.list_items.ListMarker.{Marker, is_bullet, is_delimiter, bullet_marker, ordered_marker, ordered_marker_of, list_marker, is_space_or_line_end}
use Rattle.std.specs.Str.Parse.{digits_value}
use Rattle.markdown_scanners_tree.specs.line.run.PlainRun.{line_refusal}
use Rattle.markdown_scanners_tree.specs.line.PlainStep.{PlainStep, item_step, item_step_of, item_step_by, no_item, marker_spaces, spaces_within, IsPlainStep}
use Rattle.markdown_scanners_tree.specs.scanners.Breaks.{is_thematic_break}
use Rattle.markdown_scanners_tree.specs.declared.line.run.LineAnswer.TheVariants.{List as ItemAnswer}
use Rattle.markdown_scanners_tree.specs.declared.line.run.LineCall.TheVariants.{List as ItemCall}
use Rattle.markdown_scanners_tree.proofs.line.ColumnLemmas.{bool_cases, none_below}
use Rattle.markdown_scanners_tree.proofs.PrefixLemmas.{both_true, list_all-implies}
use Rattle.markdown_scanners_tree.proofs.line.HeadLemmas.{head_len, leading-head, head_len-end, marker_spaces-within}
use Rattle.markdown_scanners_tree.proofs.scanners.list_items.ListItemLemmas.{ordered-parts, ordered-scanned, bullet-scanned, begins-at}
use Rattle.markdown_scanners_tree.proofs.line.StepLemmas.{nothing_taken, rest-none, rest-bytes, bytes_then, further-add}
use Rattle.markdown_scanners_tree.proofs.line.WrittenLemmas.{is_one_column, digit_one_column, pick, marker_of, marker_of-parts, written-first, blank-written, list_marker-written}

-- the bytes of a list marker are no tabs and end no line
marker-plain : (marker : List ℕ) (delimiter start : ℕ) → IsListMarker marker delimiter start
    → list_all is_one_column marker ≡ true
marker-plain marker delimiter start (bullet b is) =
    let plain : is_one_column b ≡ true = grind (arith, nat_tests) in rw plain refl
marker-plain marker delimiter start (ordered digits d one few all is) =
    let plain : is_one_column d ≡ true = grind (arith, nat_tests) in
    list_all-append is_one_column digits (d ∷ [])
    ∙ rw (list_all-implies is_digit is_one_column digit_one_column digits all, plain) refl

bullet-none : (r : List ℕ) → begins_with is_bullet r ≡ false → bullet_marker r ≡ None
bullet-none [] other = refl
bullet-none (b ∷ r) other = rw other refl

-- the marker that a list marker at the front of some bytes is
pub marker-is : (marker rest : List ℕ) (delimiter start : ℕ) → IsListMarker marker delimiter start
    → (length marker ≡ 1 → is_thematic_break (marker ++ rest) ≡ false)
    → list_marker (marker ++ rest) ≡ Some (record { width = length marker; delimiter = delimiter; start = start })
marker-is marker rest delimiter start (bullet b is) no_break =
    let e : is_thematic_break (b ∷ rest) ≡ false = no_break refl in
    let test : (is_bullet b && not (is_thematic_break (b ∷ rest))) ≡ true =
    ap (λ t. is_bullet b && not t) e ∙ rw is refl in
    ap (λ o. pick o (ordered_marker (b ∷ rest)))
    (ap (λ t. cond t (Some (record { width = 1; delimiter = b; start = 0 })) None) test)
marker-is marker rest delimiter start (ordered digits d one few all is) no_break =
    let r = (digits ++ d ∷ []) ++ rest in
    let front = ordered-parts digits d rest one all is in
    let joined : r ≡ digits ++ (d ∷ rest) = append_assoc digits (d ∷ []) rest in
    let low : nat_le 1 (length digits) ≡ true = le-leb 1 (length digits) one in
    let high : nat_le (length digits) 9 ≡ true = le-leb (length digits) 9 few in
    let width : length digits + 1 ≡ length (digits ++ d ∷ []) = sym (length-append digits (d ∷ [])) in
    ap (λ o. pick o (ordered_marker r)) (bullet-none r front.0)
    ∙ ap (λ k. marker_of k r) front.1 ∙ ap (marker_of (length digits)) joined
    ∙ marker_of-parts (length digits) digits (d ∷ rest) refl
    ∙ rw (low, high, is, width) refl

pub marker-found : (bytes : List ℕ) (width delimiter start : ℕ)
    → IsListMarker (take width bytes) delimiter start → width ≤ length bytes
    → (width ≡ 1 → is_thematic_break bytes ≡ false)
    → list_marker bytes ≡ Some (record { width = width; delimiter = delimiter; start = start })
marker-found bytes width delimiter start is inside no_break =
    let whole : take width bytes ++ drop width bytes ≡ bytes = take-append-drop width bytes in
    let count : length (take width bytes) ≡ width = length-take-le width bytes inside in
    let found = marker-is (take width bytes) (drop width bytes) delimiter start is (λ one. ap is_thematic_break whole
    ∙ no_break (sym count ∙ one)) in
    ap list_marker (sym whole) ∙ found
    ∙ ap (λ n. Some (record { width = n; delimiter = delimiter; start = start })) count

-- a bullet stands at the front where the marker has one byte, and else none does
pub marker-bullet : (bytes : List ℕ) (width delimiter start : ℕ)
    → IsListMarker (take width bytes) delimiter start → width ≤ length bytes
    → begins_with is_bullet bytes ≡ (width == 1)
marker-bullet bytes width delimiter start is inside =
    let whole : take width bytes ++ drop width bytes ≡ bytes = take-append-drop width bytes in
    let count : length (take width bytes) ≡ width = length-take-le width bytes inside in
    ap (begins_with is_bullet) (sym whole) ∙ counted (take width bytes) (drop width bytes) delimiter start is
    ∙ ap (λ n. n == 1) count
  where
    counted : (marker rest : List ℕ) (delimiter start : ℕ) → IsListMarker marker delimiter start
        → begins_with is_bullet (marker ++ rest) ≡ (length marker == 1)
    counted marker rest delimiter start (bullet b is) = is
    counted marker rest delimiter start (ordered digits d one few all is) =
        let long : (length (digits ++ d ∷ []) == 1) ≡ false =
        (let count = length-append digits (d ∷ []) in grind (arith, nat_tests)) in
        (ordered-parts digits d rest one all is).0 ∙ sym long

pub no-bullet : (bytes : List ℕ) → ((n delimiter start : ℕ) → ¬ IsListMarker (take n bytes) delimiter start)
    → begins_with is_bullet bytes ≡ false
no-bullet bytes absent =
    bool_cases (begins_with is_bullet bytes)
    (λ begins. absurd (absent 1 (get_or bytes 0 0) 0 (bullet-scanned bytes begins))) (λ other. other)

-- no list marker at the front of some bytes
pub marker-none : (bytes : List ℕ) → ((n delimiter start : ℕ) → ¬ IsListMarker (take n bytes) delimiter start)
    → list_marker bytes ≡ None
marker-none bytes absent =
    let n = prefix_len is_digit bytes in
    let count : length (take n bytes) ≡ n = length-prefix_len is_digit bytes in
    let delimited : (nat_le 1 n && nat_le n 9 && begins_with is_delimiter (drop n bytes)) ≡ false =
    bool_cases (nat_le 1 n && nat_le n 9 && begins_with is_delimiter (drop n bytes))
    (λ yes.
    let few = both_true (nat_le 1 n && nat_le n 9) (begins_with is_delimiter (drop n bytes)) yes in
    let ends = both_true (nat_le 1 n) (nat_le n 9) few.0 in
    let at = begins-at is_delimiter bytes n few.1 in
    absurd (absent (n + 1) (get_or bytes n 0) (digits_value 10 (take n bytes))
    (ordered-scanned bytes n refl (leb-true 1 n ends.0) (leb-true n 9 ends.1) at.0 at.1)))
    (λ other. other) in
    ap (λ o. pick o (ordered_marker bytes)) (bullet-none bytes (no-bullet bytes absent))
    ∙ ap (λ k. ordered_marker_of (take n bytes) (drop k bytes)) count
    ∙ no_ordered (take n bytes) (drop n bytes) n count delimited
  where
    no_ordered : (digits back : List ℕ) (n : ℕ) → length digits ≡ n
        → (nat_le 1 n && nat_le n 9 && begins_with is_delimiter back) ≡ false → ordered_marker_of digits back ≡ None
    no_ordered digits [] n count other = refl
    no_ordered digits (d ∷ back) n count other =
        let fails : (nat_le 1 (length digits) && nat_le (length digits) 9 && is_delimiter d) ≡ false =
        rw count other in
        rw fails refl

-- nor is a bullet one that begins a thematic break
no_bullet : (marker rest : List ℕ) (delimiter start : ℕ) → IsListMarker marker delimiter start → length marker ≡ 1
    → is_thematic_break (marker ++ rest) ≡ true → list_marker (marker ++ rest) ≡ None
no_bullet marker rest delimiter start (bullet b is) one breaks =
    let test : (is_bullet b && not (is_thematic_break (b ∷ rest))) ≡ false =
    ap (λ t. is_bullet b && not t) breaks ∙ rw is refl in
    let other : is_digit b ≡ false = grind (arith, nat_tests) in
    let none : ordered_marker (b ∷ rest) ≡ None = rw other refl in
    ap (λ o. pick o (ordered_marker (b ∷ rest)))
    (ap (λ t. cond t (Some (record { width = 1; delimiter = b; start = 0 })) None) test) ∙ none
no_bullet marker rest delimiter start (ordered digits d low few all is) one breaks =
    absurd (omega (arith, length-append digits (d ∷ [])))

pub marker-break : (bytes : List ℕ) (width delimiter start : ℕ) → IsListMarker (take width bytes) delimiter start
    → width ≤ length bytes → width ≡ 1 → is_thematic_break bytes ≡ true → list_marker bytes ≡ None
marker-break bytes width delimiter start is inside one breaks =
    let whole : take width bytes ++ drop width bytes ≡ bytes = take-append-drop width bytes in
    let count : length (take width bytes) ≡ 1 = length-take-le width bytes inside ∙ one in
    ap list_marker (sym whole)
    ∙ no_bullet (take width bytes) (drop width bytes) delimiter start is count (ap is_thematic_break whole ∙ breaks)

-- a marker has at most ten bytes
pub marker-width : (marker : List ℕ) (delimiter start : ℕ) → IsListMarker marker delimiter start → length marker ≤ 10
marker-width marker delimiter start (bullet b is) = omega arith
marker-width marker delimiter start (ordered digits d one few all is) = omega (arith, length-append digits (d ∷ []))

-- a call for a list marker that is not refused has nothing pending
pub item_allowed : (p indent : ℕ) → line_refusal (p == 0) (ItemCall indent) ≡ None → p ≡ 0
item_allowed p indent h =
    bool_cases (p == 0)
    (λ yes. grind (arith, nat_tests))
    (λ no. let e = rw no at h in cc)

-- where no space follows, the offset is as it was
pub none_after : (s : LineState) → leading_spaces (rest_of s) ≡ 0 → unscanned (after_space 1 s) ≡ unscanned s
none_after s none =
    let no_column : space_within 1 s ≡ 0 = omega arith in
    let no_byte : bytes_below s.phase (unscanned s) (s.phase + 0 - s.pending) ≡ 0 =
    none_below (unscanned s) s.phase (s.phase + 0 - s.pending) (omega arith) in
    let offset : s.offset + 0 ≡ s.offset = omega arith in
    ap (λ t. unscanned (columns_further t s)) no_column ∙ rw (no_byte, offset) refl

pub follows-end : (s : LineState) (r : Bool) → (space_within 1 s ≡ 1 → ⊥)
    → r ≡ is_at_line_end (unscanned (after_space 1 s)) → r ≡ space_or_end_follows s
follows-end s r few answer =
    let none : leading_spaces (rest_of s) ≡ 0 = (let h : space_within 1 s ≢ 1 = few in omega arith) in
    answer ∙ ap is_at_line_end (none_after s none) ∙ rw none refl

-- a list item's marker, in every state
pub item-passed : (indent further : ℕ) (s : LineState) (m : Marker)
    → space_or_end_follows (bytes_further m.width s) ≡ true
    → further ≡ (if is_blank (unscanned (after_space 1 (bytes_further m.width s))) then 0 else marker_spaces
    (leading_spaces (rest_of (after_space 1 (bytes_further m.width s)))))
    → item_outcome_by indent s (Some m) ≡ record {
      answer = Some (m.delimiter, m.start, indent + m.width + 1 + further);
      state = after_space further (after_space 1 (bytes_further m.width s));
    }
item-passed indent further s m ends counted =
    let marked = bytes_further m.width s in
    let after = after_space 1 marked in
    ap (λ t. cond t (item_outcome_after indent m after) (not_found s)) ends
    ∙ ap (λ f. record { answer = Some (m.delimiter, m.start, indent + m.width + 1 + f); state = after_space f after })
    (sym counted)

pub item-found : (indent further : ℕ) (s : LineState) (m : Marker) → list_marker (unscanned s) ≡ Some m
    → space_or_end_follows (bytes_further m.width s) ≡ true
    → further ≡ (if is_blank (unscanned (after_space 1 (bytes_further m.width s))) then 0 else marker_spaces
    (leading_spaces (rest_of (after_space 1 (bytes_further m.width s)))))
    → item_outcome indent s ≡ record {
      answer = Some (m.delimiter, m.start, indent + m.width + 1 + further);
      state = after_space further (after_space 1 (bytes_further m.width s));
    }
item-found indent further s m found ends counted =
    ap (item_outcome_by indent s) found ∙ item-passed indent further s m ends counted

-- and where neither a space nor the line's end follows it
pub item-kept : (indent : ℕ) (s : LineState) (m : Marker) → space_or_end_follows (bytes_further m.width s) ≡ false
    → item_outcome_by indent s (Some m) ≡ not_found s
item-kept indent s m bare =
    let after = after_space 1 (bytes_further m.width s) in
    ap (λ t. cond t (item_outcome_after indent m after) (not_found s)) bare

-- in what is left, with nothing pending, the same follows
follows-written : (bs : List ℕ) (c : ℕ)
    → is_space_or_line_end (written_out c bs) ≡ (nat_lt 0 (leading_spaces (written_out c bs)) || is_at_line_end bs)
follows-written [] c = refl
follows-written (b ∷ bs) c =
    let e = written-first c b bs in
    let first = if b == 9 then 32 else b in
    let begins : is_space_or_line_end (first ∷ e.0) ≡ (nat_lt 0 (leading_spaces (first ∷ e.0)) || is_line_ending b) =
    bool_cases (b == 9)
    (λ tab. let some : nat_lt 0 (1 + leading_spaces e.0) ≡ true =
    lt-ltb 0 (1 + leading_spaces e.0) (omega arith) in rw (tab, some) refl)
    (λ plain.
    bool_cases (b == 32)
    (λ space. let some : nat_lt 0 (1 + leading_spaces e.0) ≡ true = lt-ltb 0 (1 + leading_spaces e.0) (omega arith) in
    rw (plain, space, some) refl)
    (λ other. rw (plain, other) refl)) in
    ap is_space_or_line_end e.1 ∙ begins ∙ ap (λ w. nat_lt 0 (leading_spaces w) || is_line_ending b) (sym e.1)

follows-plain : (marked : LineState) → marked.pending ≡ 0
    → is_space_or_line_end (rest_of marked) ≡ space_or_end_follows marked
follows-plain marked none =
    let left = rest-none marked none in
    ap is_space_or_line_end left ∙ follows-written (unscanned marked) marked.phase
    ∙ ap (λ w. nat_lt 0 (leading_spaces w) || is_at_line_end (unscanned marked)) (sym left)

item_step_of-is : (indent one further : ℕ) (r left : List ℕ) (m : Marker) → spaces_within 1 (drop m.width r) ≡ one
    → drop (m.width + one) r ≡ left
    → (if is_blank left then 0 else marker_spaces (leading_spaces left)) ≡ further
    → item_step_of indent r m ≡ record {
      answer = ItemAnswer (Some (m.delimiter, m.start, indent + m.width + 1 + further));
      taken = m.width + one + further;
    }
item_step_of-is indent one further r left m first rest counted =
    let step : ℕ → ℕ → PlainStep = λ o f. record {
      answer = ItemAnswer (Some (m.delimiter, m.start, indent + m.width + 1 + f));
      taken = m.width + o + f;
    } in
    let spaces : List ℕ → ℕ = λ x. if is_blank x then 0 else marker_spaces (leading_spaces x) in
    ap (λ o. step o (spaces (drop (m.width + o) r))) first
    ∙ ap (λ x. step one (spaces x)) rest ∙ ap (step one) counted

further-within : (blank : Bool) (n : ℕ) → (if blank then 0 else marker_spaces n) ≤ n
further-within true n = omega arith
further-within false n = marker_spaces-within n

-- nothing is taken where there is no marker
pub item_refused : (indent : ℕ) (s : LineState) → s.phase < 4 → item_step indent (rest_of s) ≡ no_item
    → IsPlainStep (ItemCall indent) (ItemAnswer None) s s
item_refused indent s small step = nothing_taken (ItemCall indent) (ItemAnswer None) s small step

pub item_step-none : (indent : ℕ) (s : LineState) → s.pending ≡ 0 → list_marker (unscanned s) ≡ None
    → item_step indent (rest_of s) ≡ no_item
item_step-none indent s none absent =
    ap (item_step_by indent (rest_of s)) (ap list_marker (rest-none s none)
    ∙ list_marker-written (unscanned s) s.phase ∙ absent)

-- the same as a plain step: the marker's bytes are those of what is left
module _ (s : LineState) (m : Marker) (small : s.phase < 4) (none : s.pending ≡ 0)
    (found : list_marker (unscanned s) ≡ Some m)
    (is : IsListMarker (take m.width (unscanned s)) m.delimiter m.start)
    (inside : m.width ≤ length (unscanned s)) where
  item_plain : list_all is_one_column (take m.width (unscanned s)) ≡ true
  item_plain = marker-plain (take m.width (unscanned s)) m.delimiter m.start is

  item_left : rest_of (bytes_further m.width s) ≡ drop m.width (rest_of s)
  item_left = rest-bytes s m.width small none inside item_plain

  item_marker : list_marker (rest_of s) ≡ Some m
  item_marker = ap list_marker (rest-none s none) ∙ list_marker-written (unscanned s) s.phase ∙ found

  item_follows : is_space_or_line_end (drop m.width (rest_of s)) ≡ space_or_end_follows (bytes_further m.width s)
  item_follows = ap is_space_or_line_end (sym item_left) ∙ follows-plain (bytes_further m.width s) none

  -- no step where no space and no end of the line follows
  pub item_step-bare : (indent : ℕ) → space_or_end_follows (bytes_further m.width s) ≡ false
      → item_step indent (rest_of s) ≡ no_item
  item_step-bare indent bare =
      ap (item_step_by indent (rest_of s)) item_marker
      ∙ ap (λ t. cond t (item_step_of indent (rest_of s) m) no_item) (item_follows ∙ bare)

  -- the step where it does: its answer, what is left, and the state
  module _ (indent further : ℕ) (new : LineState) (follows : space_or_end_follows (bytes_further m.width s) ≡ true)
      (rest : rest_of (after_space 1 (bytes_further m.width s))
      ≡ drop (space_within 1 (bytes_further m.width s)) (rest_of (bytes_further m.width s)))
      (counted : further ≡ (if is_blank (unscanned (after_space 1 (bytes_further m.width s))) then 0 else
      marker_spaces (leading_spaces (rest_of (after_space 1 (bytes_further m.width s))))))
      (moved : new ≡ after_space further (after_space 1 (bytes_further m.width s)))
      (left : rest_of new ≡ drop further (rest_of (after_space 1 (bytes_further m.width s)))) where
    item_after : rest_of (after_space 1 (bytes_further m.width s))
        ≡ drop (m.width + space_within 1 (bytes_further m.width s)) (rest_of s)
    item_after =
        let one = space_within 1 (bytes_further m.width s) in
        rest ∙ ap (drop one) item_left ∙ drop-drop one m.width (rest_of s)

    item_step-found : item_step indent (rest_of s) ≡ record {
      answer = ItemAnswer (Some (m.delimiter, m.start, indent + m.width + 1 + further));
      taken = m.width + space_within 1 (bytes_further m.width s) + further;
    }
    item_step-found =
        let r = rest_of s in
        let after = after_space 1 (bytes_further m.width s) in
        let one = space_within 1 (bytes_further m.width s) in
        let first : spaces_within 1 (drop m.width r) ≡ one = ap (spaces_within 1) (sym item_left) in
        let blank : is_blank (rest_of after) ≡ is_blank (unscanned after) =
        blank-written after.pending (unscanned after) after.phase in
        let columns = ap (λ t. cond t 0 (marker_spaces (leading_spaces (rest_of after)))) blank ∙ sym counted in
        ap (item_step_by indent r) item_marker
        ∙ ap (λ t. cond t (item_step_of indent r m) no_item) (item_follows ∙ follows)
        ∙ item_step_of-is indent one further r (rest_of after) m first (sym item_after) columns

    item_moved : new ≡ columns_further (m.width + space_within 1 (bytes_further m.width s) + further) s
    item_moved =
        let marked = bytes_further m.width s in
        let one = space_within 1 marked in
        let after = after_space 1 marked in
        let some = further-within (is_blank (unscanned after)) (leading_spaces (rest_of after)) in
        let within : min further (leading_spaces (rest_of after)) ≡ further = omega (arith, counted, some) in
        let left : head_len (rest_of marked) ≡ head_len (written_out marked.phase (unscanned marked)) =
        ap head_len (rest-none marked none) in
        let fits : marked.phase + one ≤ marked.pending + head_end marked.phase (unscanned marked) =
        omega (arith, leading-head (rest_of marked), left, head_len-end (unscanned marked) marked.phase) in
        let sum : m.width + (one + further) ≡ m.width + one + further = omega arith in
        moved ∙ ap (λ t. columns_further t after) within ∙ sym (further-add marked one further (omega arith) fits)
        ∙ sym (bytes_then s m.width small none inside item_plain (one + further)) ∙ ap (λ t. columns_further t s) sum

    pub item_is_step : IsPlainStep (ItemCall indent)
        (ItemAnswer (Some (m.delimiter, m.start, indent + m.width + 1 + further))) s new
    item_is_step =
        let r = rest_of s in
        let one = space_within 1 (bytes_further m.width s) in
        let taken : m.width + one + further ≡ (item_step indent r).taken =
        ap (λ (x : PlainStep). x.taken) (sym item_step-found) in
        record {
          answered = ap (λ (x : PlainStep). x.answer) (sym item_step-found);
          rest = left ∙ ap (drop further) item_after ∙ drop-drop further (m.width + one) r ∙ ap (λ t. drop t r) taken;
          moved = item_moved ∙ ap (λ t. columns_further t s) taken;
        }
