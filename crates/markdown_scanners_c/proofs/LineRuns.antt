-- A run on a line start call by call: the answers so far, and the run of the calls to come.
use Rattle.std.proofs.Common.{ℕ, Bool, List, [], ◌∷◌, ◌++◌, ◌≡◌, ◌<◌, ◌≤◌, ◌+◌, ◌==◌, ◌∙◌, Option, Some, None}
use Rattle.std.proofs.Common.{true, false, not, cond, refl, sym, ap, subst, append_assoc, length, drop, get_or, map, slice_set, take, arith}
use Rattle.std.proofs.Math.Seq.{take-append_seam}
use Rattle.std.proofs.lemmas.List.{append-nil, drop_more, length-append, length-map, map-append, set_at, take-set-le}
use Rattle.std.proofs.lemmas.List.Sums.{prefix_len_passes}
use Rattle.markdown_scanners_tree.specs.line.PlainStep.{IsPlainStep, plain_step}
use Rattle.markdown_scanners_tree.specs.line.State.{LineState, columns_further, rest_of}
use Rattle.markdown_scanners_tree.specs.line.run.PlainRun.{line_refusal}
use Rattle.markdown_scanners_tree.specs.line.run.StateRun.{StateRun, asks_for_breaks, before_run, after_answers, learnt_by_call, state_run}
use Rattle.markdown_scanners_tree.specs.declared.line.known_breaks.KnownBreaks.{KnownBreaks}
use Rattle.markdown_scanners_tree.specs.declared.line.run.LineAnswer.{LineAnswer}
use Rattle.markdown_scanners_tree.specs.declared.line.run.LineCall.{LineCall}
use Rattle.markdown_scanners_tree.specs.declared.line.run.LineCall.TheVariants.{Space, Upto, Eol, Quote, List as ItemCall, Definition as DefinitionCall}
use Rattle.markdown_scanners_tree.specs.declared.line.run.LineStop.{LineStop}
use Rattle.markdown_scanners_c.specs.LineRuns.{answer_of, calls_before_list, line_call}
use Rattle.markdown_scanners_c.specs.private.SureRun.{IsMadeTo}
use Rattle.markdown_scanners_c.specs.declared.line_runs.Answer.{Answer}
use Rattle.markdown_scanners_c.specs.declared.line_runs.Call.{Call}

-- a run whose first call is not refused
run_goes : (s : LineState) (known : KnownBreaks) (call : LineCall) (left : List LineCall)
    → line_refusal (s.pending == 0) call ≡ None →
    let step = plain_step call (rest_of s) in
    state_run s known (call ∷ left)
    ≡ before_run step.answer (state_run (columns_further step.taken s) (learnt_by_call call s known) left)
run_goes s known call left h =
    let step = plain_step call (rest_of s) in
    ap (λ (r : Option LineStop). elim r as (λ _. StateRun) [
      | Some stop ↦ record { answers = []; state = s; known = known; stop = Some stop }
      | None ↦ before_run step.answer
          (state_run (columns_further step.taken s) (learnt_by_call call s known) left)
    ]) h

pub run_next : (s s' : LineState) (known known' : KnownBreaks) (call : LineCall) (left : List LineCall)
    (answer : LineAnswer) (made : List LineAnswer)
    → line_refusal (s.pending == 0) call ≡ None → IsPlainStep call answer s s'
    → known' ≡ learnt_by_call call s known
    → after_answers made (state_run s known (call ∷ left))
    ≡ after_answers (made ++ (answer ∷ [])) (state_run s' known' left)
run_next s s' known known' call left answer made goes step learnt =
    let returned = (plain_step call (rest_of s)).answer in
    let later = state_run (columns_further (plain_step call (rest_of s)).taken s) (learnt_by_call call s known) left in
    ap (after_answers made) (run_goes s known call left goes)
    ∙ ap (λ answers. record later { answers = answers }) (sym (append_assoc made (returned ∷ []) later.answers))
    ∙ ap (λ it. after_answers (made ++ (it ∷ [])) later) (sym step.answered)
    ∙ ap (λ it. after_answers (made ++ (answer ∷ [])) (state_run it (learnt_by_call call s known) left)) (sym step.moved)
    ∙ ap (λ it. after_answers (made ++ (answer ∷ [])) (state_run s' it left)) (sym learnt)

-- a run whose first call is refused ends there
run_stops : (s : LineState) (known : KnownBreaks) (call : LineCall) (left : List LineCall) (stop : LineStop)
    → line_refusal (s.pending == 0) call ≡ Some stop
    → state_run s known (call ∷ left) ≡ record { answers = []; state = s; known = known; stop = Some stop }
run_stops s known call left stop h =
    let step = plain_step call (rest_of s) in
    ap (λ (r : Option LineStop). elim r as (λ _. StateRun) [
      | Some why ↦ record { answers = []; state = s; known = known; stop = Some why }
      | None ↦ before_run step.answer
          (state_run (columns_further step.taken s) (learnt_by_call call s known) left)
    ]) h

pub run_ends : (s : LineState) (known : KnownBreaks) (call : LineCall) (left : List LineCall) (stop : LineStop)
    (made : List LineAnswer) → line_refusal (s.pending == 0) call ≡ Some stop
    → after_answers made (state_run s known (call ∷ left))
    ≡ record { answers = made; state = s; known = known; stop = Some stop }
run_ends s known call left stop made h =
    let none : StateRun = record { answers = []; state = s; known = known; stop = Some stop } in
    ap (after_answers made) (run_stops s known call left stop h)
    ∙ ap (λ answers. record none { answers = answers }) (append-nil made)

-- An answer more is written after those that stand at the front of the buffer.
pub answers_next : (made : List LineAnswer) (answer : LineAnswer) (old : List Answer) (index : ℕ)
    → length made ≡ index → index < length old
    → slice_set (map answer_of made ++ drop index old) index (answer_of answer)
    ≡ map answer_of (made ++ (answer ∷ [])) ++ drop (index + 1) old
answers_next made answer old index size inside =
    let none : Answer = record { found = false; delimiter = 0; start = 0; number = 0 } in
    let later = drop (index + 1) old in
    ap (λ it. slice_set (map answer_of made ++ it) index (answer_of answer)) (drop_more old index none inside)
    ∙ set_at (map answer_of made) _ later (answer_of answer) index (length-map made answer_of ∙ size)
    ∙ sym (append_assoc (map answer_of made) (answer_of answer ∷ []) later)
    ∙ ap (λ it. it ++ later) (sym (map-append answer_of made (answer ∷ [])))

-- ---- whatever is known of thematic breaks

by_kind : (space upto eol quote list : Bool) (n : ℕ) → not list ≡ true
    → asks_for_breaks (cond space (Space n) (cond upto (Upto n) (cond eol Eol (cond quote Quote (cond list (ItemCall n) (DefinitionCall n))))))
    ≡ false
by_kind true upto eol quote list n h = refl
by_kind false true eol quote list n h = refl
by_kind false false true quote list n h = refl
by_kind false false false true list n h = refl
by_kind false false false false true n h = cc
by_kind false false false false false n h = refl

-- before the first MDS_LIST no call asks for them
pub asks_before_list : (calls : List Call) (index : ℕ) (none : Call) → index < calls_before_list calls
    → asks_for_breaks (line_call (get_or calls index none)) ≡ false
asks_before_list calls index none inside =
    let call = get_or calls index none in
    by_kind (call.kind == 0) (call.kind == 1) (call.kind == 2) (call.kind == 3) (call.kind == 4) call.number
    (prefix_len_passes (λ (it : Call). not (it.kind == 4)) calls index none inside)

take_front : {A : Type 0} (xs ys : List A) (n : ℕ) → length xs ≡ n → take n (xs ++ ys) ≡ xs
take_front xs ys n size = subst (λ k. take k (xs ++ ys) ≡ xs) size (take-append_seam xs ys)

-- One call more is made than so many, and an answer written after theirs, the right one or not.
pub made_next : (made : List LineAnswer) (answer : LineAnswer) (run : StateRun) (s : LineState) (known : KnownBreaks)
    (call : LineCall) (left : List LineCall) (others : List Answer) (n : ℕ) → length made ≡ n
    → run ≡ after_answers made (state_run s known (call ∷ left)) → line_refusal (s.pending == 0) call ≡ None
    → IsMadeTo n run (map answer_of (made ++ (answer ∷ [])) ++ others)
made_next made answer run s known call left others n size same goes =
    let step = plain_step call (rest_of s) in
    let later = state_run (columns_further step.taken s) (learnt_by_call call s known) left in
    let whole : run.answers ≡ made ++ (step.answer ∷ later.answers) =
    ap (λ (it : StateRun). it.answers) (same ∙ ap (after_answers made) (run_goes s known call left goes)) in
    let written : map answer_of (made ++ (answer ∷ [])) ++ others
    ≡ map answer_of made ++ (map answer_of (answer ∷ []) ++ others) =
    ap (λ it. it ++ others) (map-append answer_of made (answer ∷ []))
    ∙ append_assoc (map answer_of made) (map answer_of (answer ∷ [])) others in
    record {
      made = omega (arith, ap length whole, length-append made (step.answer ∷ later.answers), size);
      front = ap (take n) written
          ∙ take_front (map answer_of made) _ n (length-map made answer_of ∙ size)
          ∙ sym (ap (map answer_of) (ap (take n) whole ∙ take_front made _ n size));
    }

-- what is written after the first answers leaves them
pub still_made : (n : ℕ) (run : StateRun) (answers : List Answer) (index : ℕ) (answer : Answer) → n ≤ index
    → IsMadeTo n run answers → IsMadeTo n run (slice_set answers index answer)
still_made n run answers index answer after made =
    record { made = made.made; front = take-set-le n answers index answer after ∙ made.front }
