-- A state on a line, and the column of the written out line that it stands for.
--
-- The tab law is proved in three steps. Each call moves the state by as many columns as its plain
-- step takes bytes (`StepLemmas`, `ItemLemmas`). Moving keeps the tie of state and column
-- (`tied_next`). At a tied state a byte stands at the column exactly where nothing is pending
-- (`tied_on`), so the run and the plain run stop alike.
use Rattle.std.proofs.Common.{ℕ, Option, subst, Some, None, ◌≡◌, refl, sym, ◌∙◌, ap, ◌==◌, List, [], ◌∷◌, ◌++◌, ◌+◌, ◌-◌, ◌<◌, ◌≤◌, length, take, drop, arith, append_assoc}
use Rattle.std.proofs.lemmas.Bool.Decides.{nat_tests}
use Rattle.std.proofs.lemmas.List.{drop-drop, append-nil}
use Rattle.markdown_scanners_tree.specs.Columns.{column_past, head_end, is_on_byte, bytes_below, expanded}
use Rattle.markdown_scanners_tree.specs.line.State.{LineState, unscanned, rest_of, columns_further}
use Rattle.markdown_scanners_tree.specs.line.PlainStep.{plain_step}
use Rattle.markdown_scanners_tree.specs.line.run.PlainRun.{plain_run, run_from, after_answer, line_refusal, PlainRun, indexed_stop, rest_after, scanned_after}
use Rattle.markdown_scanners_tree.specs.declared.line.run.LineAnswer.{LineAnswer}
use Rattle.markdown_scanners_tree.specs.declared.line.run.LineCall.{LineCall}
use Rattle.markdown_scanners_tree.specs.declared.line.run.LineStop.{LineStop}
use Rattle.markdown_scanners_tree.proofs.line.ColumnLemmas.{bool_cases, below-split, on-split, past-fits, on_here, off_before, none_below}
use Rattle.markdown_scanners_tree.proofs.line.SpaceLemmas.{state_of, further-column}
use Rattle.markdown_scanners_tree.proofs.line.HeadLemmas.{step-fits}

-- the state that a run on the line has when it has taken k columns of the written out line; c is
-- the column of its offset
pub record Tied (line : List ℕ) (k c : ℕ) (s : LineState) : Type 0 where
  pub shape : s ≡ state_of line s.offset s.pending c
  pub at : k + s.pending ≡ c
  pub below : (later : ℕ) → k ≤ later → bytes_below 0 line later ≡ s.offset + bytes_below c (drop s.offset line) later
  pub on : (later : ℕ) → k ≤ later → is_on_byte 0 line later ≡ is_on_byte c (drop s.offset line) later
  pub rest : drop k (expanded line) ≡ rest_of s

module _ (line : List ℕ) (k c offset p t : ℕ) (tied : Tied line k c (state_of line offset p c))
    (fits : c + t ≤ p + head_end c (drop offset line))
    (rest : rest_of (columns_further t (state_of line offset p c)) ≡ drop t (rest_of (state_of line offset p c))) where
  tied_next : let m = bytes_below c (drop offset line) (c + t - p) in
      Tied line (k + t) (column_past c (take m (drop offset line))) (columns_further t (state_of line offset p c))
  tied_next =
      let back = drop offset line in
      let m = bytes_below c back (c + t - p) in
      let c' = column_past c (take m back) in
      let at : k + p ≡ c = tied.at in
      let here : c + t - p ≡ k + t = omega arith in
      let reached : c + t - p ≤ c' = past-fits back c (c + t - p) m (omega arith) refl in
      let move = further-column line offset p c t in
      let dropped : drop m (drop offset line) ≡ drop (offset + m) line = drop-drop m offset line in
      let after : Tied line (k + t) c' (state_of line (offset + m) (p + c' - (c + t)) c') = record {
        shape = refl;
        at = omega arith;
        below = λ later h.
            let one = tied.below later (omega arith) in
            let two = below-split back c (c + t - p) later m (omega arith) refl in
            one ∙ rw (two, dropped) (omega arith);
        on = λ later h.
            let one = tied.on later (omega arith) in
            let two = on-split back c (c + t - p) later m (omega arith) refl in
            one ∙ two ∙ rw dropped refl;
        rest = sym (drop-drop t k (expanded line)) ∙ ap (drop t) tied.rest ∙ sym rest ∙ ap rest_of move;
      } in
      rw move after

-- what the tie says of a column that is reached
pub tied_on : (line : List ℕ) (k c : ℕ) (s : LineState) → Tied line k c s → is_on_byte 0 line k ≡ (s.pending == 0)
tied_on line k c s tied =
    let at = tied.at in
    tied.on k (omega arith) ∙ bool_cases (s.pending == 0)
    (λ yes.
    let none : s.pending ≡ 0 = grind (arith, nat_tests) in
    let here : k ≡ c = omega arith in
    rw (yes, here) (on_here (drop s.offset line) c))
    (λ no.
    let some : k < c = grind (arith, nat_tests) in
    rw (no) (off_before (drop s.offset line) c k some))

pub tied_scanned : (line : List ℕ) (k c : ℕ) (s : LineState) → Tied line k c s → bytes_below 0 line k ≡ s.offset
tied_scanned line k c s tied =
    let at = tied.at in
    let none = none_below (drop s.offset line) c k (omega arith) in
    tied.below k (omega arith) ∙ rw none (omega arith)

-- answers before a run
abbrev after_answers : List LineAnswer → PlainRun → PlainRun
after_answers answers run = record run { answers = answers ++ run.answers }

-- the run up to a call: the answers so far, and what is still to come from the column reached
pub record SoFar (line : List ℕ) (calls left : List LineCall) (answers : List LineAnswer) (s : LineState)
    (k c : ℕ) : Type 0 where
  pub tied : Tied line k c s
  pub run : plain_run line calls ≡ after_answers answers (run_from line k left)

-- the column after a call, and the column of the offset then
abbrev pub next_column : LineState → ℕ → ℕ → ℕ
next_column s c t = column_past c (take (bytes_below c (unscanned s) (c + t - s.pending)) (unscanned s))

pub tied_next-state : (line : List ℕ) (k c t : ℕ) (s : LineState) → Tied line k c s
    → c + t ≤ s.pending + head_end c (drop s.offset line) → rest_of (columns_further t s) ≡ drop t (rest_of s)
    → Tied line (k + t) (next_column s c t) (columns_further t s)
tied_next-state line k c t s tied fits rest =
    let P : LineState → Type 0 = λ x. Tied line k c x → c + t ≤ x.pending + head_end c (drop x.offset line)
    → rest_of (columns_further t x) ≡ drop t (rest_of x)
    → Tied line (k + t) (next_column x c t) (columns_further t x) in
    subst P (sym tied.shape) (λ a b d. tied_next line k c s.offset s.pending t a b d) tied fits rest

pub step-fits-state : (call : LineCall) (line : List ℕ) (k c : ℕ) (s : LineState) → Tied line k c s
    → c + (plain_step call (rest_of s)).taken ≤ s.pending + head_end c (drop s.offset line)
step-fits-state call line k c s tied =
    let P : LineState → Type 0 =
    λ x. c + (plain_step call (rest_of x)).taken ≤ x.pending + head_end c (drop x.offset line) in
    subst P (sym tied.shape) (step-fits call line s.offset s.pending c)

-- a run whose first call is not refused, and one whose first call is
pub run_from-goes : (line : List ℕ) (k : ℕ) (call : LineCall) (left : List LineCall)
    → line_refusal (is_on_byte 0 line k) call ≡ None →
    let step = plain_step call (drop k (expanded line)) in
    run_from line k (call ∷ left) ≡ after_answer step.answer (run_from line (k + step.taken) left)
run_from-goes line k call left h =
    let step = plain_step call (drop k (expanded line)) in
    ap (λ (r : Option LineStop). elim r as (λ _. PlainRun) [
      | Some stop ↦ record { answers = []; column = k; stop = Some stop }
      | None ↦ after_answer step.answer (run_from line (k + step.taken) left)
    ]) h

pub run_from-stops : (line : List ℕ) (k : ℕ) (call : LineCall) (left : List LineCall) (reason : LineStop) →
    line_refusal (is_on_byte 0 line k) call ≡ Some reason →
    run_from line k (call ∷ left) ≡ record { answers = []; column = k; stop = Some reason }
run_from-stops line k call left reason h =
    let step = plain_step call (drop k (expanded line)) in
    ap (λ (r : Option LineStop). elim r as (λ _. PlainRun) [
      | Some stop ↦ record { answers = []; column = k; stop = Some stop }
      | None ↦ after_answer step.answer (run_from line (k + step.taken) left)
    ]) h

pub so_far_next : (line : List ℕ) (calls left : List LineCall) (answers : List LineAnswer) (s s' : LineState)
    (k c : ℕ) (call : LineCall) →
    let step = plain_step call (rest_of s) in
    SoFar line calls (call ∷ left) answers s k c → line_refusal (s.pending == 0) call ≡ None
    → s' ≡ columns_further step.taken s → rest_of s' ≡ drop step.taken (rest_of s)
    → SoFar line calls left (answers ++ (step.answer ∷ [])) s' (k + step.taken) (next_column s c step.taken)
so_far_next line calls left answers s s' k c call so allowed state rest =
    let tied = so.tied in
    let t = (plain_step call (rest_of s)).taken in
    let rest' : rest_of (columns_further t s) ≡ drop t (rest_of s) = ap rest_of (sym state) ∙ rest in
    let next = tied_next-state line k c t s tied (step-fits-state call line k c s tied) rest' in
    let goes = run_from-goes line k call left (ap (λ b. line_refusal b call) (tied_on line k c s tied) ∙ allowed) in
    let step = plain_step call (rest_of s) in
    let one : run_from line k (call ∷ left) ≡ after_answer step.answer (run_from line (k + step.taken) left) =
    goes ∙ ap (λ r. after_answer (plain_step call r).answer
    (run_from line (k + (plain_step call r).taken) left)) tied.rest in
    record {
      tied = rw state next;
      run = so.run ∙ ap (after_answers answers) one
          ∙ rw (append_assoc answers (step.answer ∷ []) (run_from line (k + step.taken) left).answers) refl;
    }

-- where the calls end, or a call is refused, what is so far is the run
pub so_far_done : (line : List ℕ) (calls : List LineCall) (answers : List LineAnswer) (s : LineState) (k c : ℕ) →
    SoFar line calls [] answers s k c →
    (answers ≡ (plain_run line calls).answers) × (None ≡ indexed_stop (plain_run line calls))
    × (rest_of s ≡ rest_after line (plain_run line calls)) × (s.offset ≡ scanned_after line (plain_run line calls))
so_far_done line calls answers s k c so =
    rw (so.run) (sym (append-nil answers), refl, sym so.tied.rest, sym (tied_scanned line k c s so.tied))

pub so_far_stopped : (line : List ℕ) (calls left : List LineCall) (call : LineCall) (reason : LineStop)
    (answers : List LineAnswer) (s : LineState) (k c : ℕ) →
    SoFar line calls (call ∷ left) answers s k c → line_refusal (s.pending == 0) call ≡ Some reason →
    (answers ≡ (plain_run line calls).answers) × (Some (length answers, reason) ≡ indexed_stop (plain_run line calls))
    × (rest_of s ≡ rest_after line (plain_run line calls)) × (s.offset ≡ scanned_after line (plain_run line calls))
so_far_stopped line calls left call reason answers s k c so refused =
    let stops =
    run_from-stops line k call left reason (ap (λ b. line_refusal b call) (tied_on line k c s so.tied) ∙ refused) in
    rw (so.run, stops, append-nil answers) (refl, refl, sym so.tied.rest, sym (tied_scanned line k c s so.tied))
