-- Runs from a line start on: from the front of a line they are those of its written out form, and a run goes on where
-- another one ended.
use Rattle.std.proofs.Common.{ℕ, suc, Option, Some, None, ◌≡◌, refl, sym, ◌∙◌, ap, subst, ◌==◌, List, [], ◌∷◌}
use Rattle.std.proofs.Common.{◌++◌, ◌+◌, ◌-◌, ◌*◌, ◌/◌, ◌<◌, ◌≤◌, length, take, drop, true, false, nat_lt, arith, inl, inr}
use Rattle.std.proofs.lemmas.Bool.{cases_Bool, cases_lt}
use Rattle.std.proofs.lemmas.Bool.Decides.{nat_tests}
use Rattle.std.proofs.lemmas.List.{drop-drop, length-replicate}
use Rattle.std.proofs.lemmas.Option.{none-some}
use Rattle.std.proofs.Math.Seq.{drop-append-add}
use Rattle.markdown_scanners_tree.specs.Ascii.{tab}
use Rattle.markdown_scanners_tree.specs.Bytes.{is_line_ending}
use Rattle.markdown_scanners_tree.specs.Columns.{bytes_below, column_after, column_past, head_end, is_on_byte, written_byte, written_out}
use Rattle.markdown_scanners_tree.specs.line.ItemRules.{start_of}
use Rattle.markdown_scanners_tree.specs.line.PlainStep.{PlainStep, plain_step}
use Rattle.markdown_scanners_tree.specs.line.State.{LineState, columns_further, rest_of}
use Rattle.markdown_scanners_tree.specs.line.run.PlainRun.{PlainRun, line_refusal, plain_run, rest_after, run_from, scanned_after}
use Rattle.markdown_scanners_tree.specs.line.run.StateRun.{StateRun, before_run, after_answers, learnt_by_call, state_run}
use Rattle.markdown_scanners_tree.specs.declared.line.known_breaks.KnownBreaks.{KnownBreaks}
use Rattle.markdown_scanners_tree.specs.declared.line.run.LineCall.{LineCall}
use Rattle.markdown_scanners_tree.specs.declared.line.run.LineStop.{LineStop}
use Rattle.markdown_scanners_tree.proofs.line.ColumnLemmas.{bool_cases, below-cons, head_end-cons, head_end-end, none_below, written-cons, written_byte-length}
use Rattle.markdown_scanners_tree.proofs.line.SpaceLemmas.{spaces, drop-spaces, further-column, state_of, written_out-phase}
use Rattle.markdown_scanners_tree.proofs.line.run.PlainRunLemmas.{Tied, next_column, run_from-goes, run_from-stops, step-fits-state, tied_next-state, tied_on, tied_scanned}

-- no column is passed
written_here : (bs : List ℕ) (c k : ℕ) → k ≡ c →
    let m = bytes_below c bs k in
    let reached = column_past c (take m bs) in
    drop (k - c) (written_out c bs) ≡ spaces (reached - k) ++ written_out reached (drop m bs)
written_here bs c k here =
    let none = none_below bs c k (omega arith) in
    let left : k - c ≡ 0 = omega arith in
    let short : c - k ≡ 0 = omega arith in
    rw (none, left, short) refl

-- a column inside a byte, which is a tab then
written_inside : (b c k : ℕ) (w : List ℕ) → c < k → k < column_after c b
    → drop (k - c) (written_byte c b ++ w) ≡ spaces (column_after c b - k) ++ w
written_inside b c k w later inside =
    elim (cases_Bool (b == tab)) [
      | inl is ↦ (
          let after : column_after c b ≡ 4 * (c / 4 + 1) = rw is refl in
          let written : written_byte c b ≡ spaces ((k - c) + (column_after c b - k)) =
          rw (is) (ap spaces (omega arith)) in
          rw written (drop-spaces (k - c) (column_after c b - k) w)
          )
      | inr other ↦ (
          let after : column_after c b ≡ c + 1 = rw other refl in
          absurd (omega (arith, after, later, inside))
          )
    ]

-- What is written out from a column on, after a byte at a lower one.
written_after : (b : ℕ) (bs : List ℕ) (c k : ℕ) → c < k → is_line_ending b ≡ false →
    let after = column_after c b in
    let left = bytes_below after bs k in
    let end = column_past after (take left bs) in
    let m = bytes_below c (b ∷ bs) k in
    let reached = column_past c (take m (b ∷ bs)) in
    (after ≤ k → drop (k - after) (written_out after bs) ≡ spaces (end - k) ++ written_out end (drop left bs))
    → drop (k - c) (written_out c (b ∷ bs)) ≡ spaces (reached - k) ++ written_out reached (drop m (b ∷ bs))
written_after b bs c k later goes more =
    let after = column_after c b in
    let below : nat_lt c k ≡ true = grind (arith, nat_tests) in
    let one : bytes_below c (b ∷ bs) k ≡ suc (bytes_below after bs k) =
    below-cons c b bs k goes ∙ rw below (omega arith) in
    let width = written_byte-length c b in
    rw (one, written-cons c b bs goes)
    (elim (cases_lt k after) [
      | inl inside ↦ (
          let none : bytes_below after bs k ≡ 0 = none_below bs after k (omega arith) in
          rw none (written_inside b c k (written_out after bs) later inside)
          )
      | inr past ↦ (
          let sum : k - c ≡ length (written_byte c b) + (k - after) = omega (arith, width, past) in
          ap (λ n. drop n (written_byte c b ++ written_out after bs)) sum
          ∙ drop-append-add (written_byte c b) (written_out after bs) (k - after) ∙ more past
          )
    ])

-- What is written out from a column on: the spaces that are left of a tab, and what the bytes after it are written
-- out to.
written_from : (bs : List ℕ) (c k : ℕ) → c ≤ k → k ≤ head_end c bs →
    let m = bytes_below c bs k in
    let reached = column_past c (take m bs) in
    drop (k - c) (written_out c bs) ≡ spaces (reached - k) ++ written_out reached (drop m bs)
written_from [] c k from fits = written_here [] c k (omega arith)
written_from (b ∷ bs) c k from fits =
    bool_cases (is_line_ending b)
    (λ ends. written_here (b ∷ bs) c k (omega (arith, from, fits, head_end-end c b bs ends)))
    (λ goes.
    elim (cases_lt c k) [
      | inr same ↦ written_here (b ∷ bs) c k (omega arith)
      | inl later ↦ written_after b bs c k later goes
          (λ past. written_from bs (column_after c b) k past (rw (head_end-cons c b bs goes) at fits))
    ])

-- As many columns further no more is left than these columns less.
rest_further : (line : List ℕ) (offset p c t : ℕ) → c + t ≤ p + head_end c (drop offset line)
    → rest_of (columns_further t (state_of line offset p c)) ≡ drop t (rest_of (state_of line offset p c))
rest_further line offset p c t fits =
    let back = drop offset line in
    let m = bytes_below c back (c + t - p) in
    let reached = column_past c (take m back) in
    let left = p + reached - (c + t) in
    let moved : rest_of (columns_further t (state_of line offset p c)) ≡ spaces left ++ written_out reached (drop m back) =
    ap rest_of (further-column line offset p c t)
    ∙ ap (λ w. spaces left ++ w) (written_out-phase (drop (offset + m) line) reached
    ∙ ap (written_out reached) (sym (drop-drop m offset line))) in
    let same : spaces left ++ written_out reached (drop m back) ≡ drop t (spaces p ++ written_out c back) =
    elim (cases_lt p t) [
      | inl past ↦ (
          let sum : t ≡ length (spaces p) + (t - p) = omega (arith, length-replicate {A = ℕ} p 32) in
          let fewer : left ≡ reached - (c + t - p) = omega arith in
          let far : c + t - p - c ≡ t - p = omega arith in
          let from = written_from back c (c + t - p) (omega arith) (omega arith) in
          ap (λ n. spaces n ++ written_out reached (drop m back)) fewer ∙ sym from
          ∙ ap (λ n. drop n (written_out c back)) far
          ∙ sym (drop-append-add (spaces p) (written_out c back) (t - p))
          ∙ ap (λ n. drop n (spaces p ++ written_out c back)) (sym sum)
          )
      | inr within ↦ (
          let none : m ≡ 0 = none_below back c (c + t - p) (omega arith) in
          let sum : p ≡ t + (p - t) = omega arith in
          let fewer : p + c - (c + t) ≡ p - t = omega arith in
          rw (none, fewer) (sym (drop-spaces t (p - t) (written_out c back))
          ∙ ap (λ n. drop t (spaces n ++ written_out c back)) (sym sum))
          )
    ] in
    moved ∙ same ∙ ap (λ w. drop t (spaces p ++ w)) (sym (written_out-phase back c))

rest_further-state : (line : List ℕ) (k c t : ℕ) (s : LineState) → Tied line k c s
    → c + t ≤ s.pending + head_end c (drop s.offset line) → rest_of (columns_further t s) ≡ drop t (rest_of s)
rest_further-state line k c t s tied =
    let P : LineState → Type 0 = λ x. c + t ≤ x.pending + head_end c (drop x.offset line)
    → rest_of (columns_further t x) ≡ drop t (rest_of x) in
    subst P (sym tied.shape) (rest_further line s.offset s.pending c t)

-- a run whose first call is not refused, and one whose first call is
run_goes : (s : LineState) (known : KnownBreaks) (call : LineCall) (left : List LineCall)
    → line_refusal (s.pending == 0) call ≡ None →
    let step = plain_step call (rest_of s) in
    state_run s known (call ∷ left)
    ≡ before_run step.answer (state_run (columns_further step.taken s) (learnt_by_call call s known) left)
run_goes s known call left h =
    let step = plain_step call (rest_of s) in
    ap (λ (r : Option LineStop). elim r as (λ _. StateRun) [
      | Some stop ↦ record { answers = []; state = s; known = known; stop = Some stop }
      | None ↦ before_run step.answer
          (state_run (columns_further step.taken s) (learnt_by_call call s known) left)
    ]) h

run_stops : (s : LineState) (known : KnownBreaks) (call : LineCall) (left : List LineCall) (reason : LineStop)
    → line_refusal (s.pending == 0) call ≡ Some reason
    → state_run s known (call ∷ left) ≡ record { answers = []; state = s; known = known; stop = Some reason }
run_stops s known call left reason h =
    let step = plain_step call (rest_of s) in
    ap (λ (r : Option LineStop). elim r as (λ _. StateRun) [
      | Some stop ↦ record { answers = []; state = s; known = known; stop = Some stop }
      | None ↦ before_run step.answer
          (state_run (columns_further step.taken s) (learnt_by_call call s known) left)
    ]) h

-- The runs tell the same, and stop at one offset.
record AreAlike (line : List ℕ) (run : StateRun) (plain : PlainRun) : Type 0 where
  pub answers : run.answers ≡ plain.answers
  pub stop : run.stop ≡ plain.stop
  pub rest : rest_of run.state ≡ rest_after line plain
  pub scanned : run.state.offset ≡ scanned_after line plain

alike_from : (calls : List LineCall) (line : List ℕ) (k c : ℕ) (s : LineState) (known : KnownBreaks)
    → Tied line k c s → AreAlike line (state_run s known calls) (run_from line k calls)
alike_from [] line k c s known tied = record {
  answers = refl;
  stop = refl;
  rest = sym tied.rest;
  scanned = sym (tied_scanned line k c s tied);
}
alike_from (call ∷ left) line k c s known tied = by (alike_from left line) (line_refusal (s.pending == 0) call) refl
  where
    step : PlainStep
    step = plain_step call (rest_of s)

    on : line_refusal (is_on_byte 0 line k) call ≡ line_refusal (s.pending == 0) call
    on = ap (λ b. line_refusal b call) (tied_on line k c s tied)

    by : ((k c : ℕ) (s : LineState) (known : KnownBreaks) → Tied line k c s
        → AreAlike line (state_run s known left) (run_from line k left))
        → (o : Option LineStop) → line_refusal (s.pending == 0) call ≡ o
        → AreAlike line (state_run s known (call ∷ left)) (run_from line k (call ∷ left))
    by others (Some stop) is =
        rw (run_stops s known call left stop is, run_from-stops line k call left stop (on ∙ is)) (record {
          answers = refl;
          stop = refl;
          rest = sym tied.rest;
          scanned = sym (tied_scanned line k c s tied);
        })
    by others None is =
        let fits = step-fits-state call line k c s tied in
        let next = tied_next-state line k c step.taken s tied fits
        (rest_further-state line k c step.taken s tied fits) in
        let more = others (k + step.taken) (next_column s c step.taken)
        (columns_further step.taken s) (learnt_by_call call s known) next in
        rw (run_goes s known call left is, run_from-goes line k call left (on ∙ is), tied.rest) (record {
          answers = ap (λ later. step.answer ∷ later) more.answers;
          stop = more.stop;
          rest = more.rest;
          scanned = more.scanned;
        })

-- From the front of a line a run is the one on its written out form.
pub run_at_front : (line : List ℕ) (known : KnownBreaks) (calls : List LineCall) →
    let run = state_run (start_of line) known calls in
    let plain = plain_run line calls in
    (run.answers ≡ plain.answers) × (run.stop ≡ plain.stop) × (rest_of run.state ≡ rest_after line plain)
    × (run.state.offset ≡ scanned_after line plain)
run_at_front line known calls =
    let alike = alike_from calls line 0 0 (start_of line) known (record {
      shape = refl;
      at = refl;
      below = λ later from. omega arith;
      on = λ later from. refl;
      rest = refl;
    }) in
    (alike.answers, alike.stop, alike.rest, alike.scanned)

-- The run of a list in two parts is that of the first, and from where it ended that of the second.
pub run_in_parts : (calls more : List LineCall) (s : LineState) (known : KnownBreaks) →
    let first = state_run s known calls in
    first.stop ≡ None
    → state_run s known (calls ++ more) ≡ after_answers first.answers (state_run first.state first.known more)
run_in_parts [] more s known = λ ended. refl
run_in_parts (call ∷ calls) more s known =
    by (run_in_parts calls more next (learnt_by_call call s known)) (line_refusal (s.pending == 0) call) refl
  where
    step : PlainStep
    step = plain_step call (rest_of s)

    next : LineState
    next = columns_further step.taken s

    by : (let others = state_run next (learnt_by_call call s known) calls in
        others.stop ≡ None → state_run next (learnt_by_call call s known) (calls ++ more)
        ≡ after_answers others.answers (state_run others.state others.known more)) → (o : Option LineStop) → line_refusal (s.pending == 0) call ≡ o →
        let first = state_run s known (call ∷ calls) in
        first.stop ≡ None
        → state_run s known (call ∷ (calls ++ more))
        ≡ after_answers first.answers (state_run first.state first.known more)
    by same (Some stop) is = rw (run_stops s known call calls stop is) (λ ended. absurd (none-some stop (sym ended)))
    by same None is =
        rw (run_goes s known call calls is, run_goes s known call (calls ++ more) is)
        (λ ended. ap (before_run step.answer) (same ended))

-- Where a call of the first part is refused, the second part is not begun.
pub run_stopped : (calls more : List LineCall) (s : LineState) (known : KnownBreaks) (stop : LineStop) →
    (state_run s known calls).stop ≡ Some stop → state_run s known (calls ++ more) ≡ state_run s known calls
run_stopped [] more s known stop = λ is. absurd (none-some stop is)
run_stopped (call ∷ calls) more s known stop =
    by (run_stopped calls more next (learnt_by_call call s known) stop) (line_refusal (s.pending == 0) call) refl
  where
    step : PlainStep
    step = plain_step call (rest_of s)

    next : LineState
    next = columns_further step.taken s

    by : ((state_run next (learnt_by_call call s known) calls).stop ≡ Some stop
        → state_run next (learnt_by_call call s known) (calls ++ more)
        ≡ state_run next (learnt_by_call call s known) calls) → (o : Option LineStop) → line_refusal (s.pending == 0) call ≡ o
        → (state_run s known (call ∷ calls)).stop ≡ Some stop
        → state_run s known (call ∷ (calls ++ more)) ≡ state_run s known (call ∷ calls)
    by same (Some reason) refused =
        rw (run_stops s known call calls reason refused, run_stops s known call (calls ++ more) reason refused)
        (λ is. refl)
    by same None goes =
        rw (run_goes s known call calls goes, run_goes s known call (calls ++ more) goes)
        (λ is. ap (before_run step.answer) (same is))
