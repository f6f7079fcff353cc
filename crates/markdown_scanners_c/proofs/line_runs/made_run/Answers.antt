use Rattle.std.proofs.Common.{◌≡◌, ◌<◌, ◌+◌, ◌++◌, ◌∷◌, [], inl, inr, drop, get_or, length, map, slice_set, ap, subst, sym, ◌∙◌, Some, arith}
use Rattle.std.proofs.lemmas.List.{drop_more, length-append}
use Rattle.std.proofs.lemmas.Bool.{cases_lt}
use Rattle.markdown_scanners_tree.specs.line.PlainStep.{IsPlainStep}
use Rattle.markdown_scanners_tree.specs.line.run.StateRun.{StateRun, after_answers, state_run}
use Rattle.markdown_scanners_c.specs.LineRuns.{answer_of, calls_before_list, line_call}
use Rattle.markdown_scanners_c.specs.private.SureRun.{IsSure}
use Rattle.markdown_scanners_c.specs.declared.line_runs.Call.{Call}
use Rattle.markdown_scanners_c.proofs.LineRuns.{answers_next, asks_before_list, made_next, run_ends, run_next, still_made}
use Rattle.markdown_scanners_c.proofs.line_runs.made_run.Goals as goal

pub loop-index-preserved : goal.loop-index-preserved
loop-index-preserved c =
    let i = c.loop-index.invariant in
    let at = c.loop-index.index in
    let calls = c.args.calls.now in
    let left = drop (at + 1) calls in
    let none : Call = record { kind = 0; number = 0 } in
    let split = ap (map line_call) (drop_more calls at none c.loop-index-test.true) in
    let answer = c.in-Ok.answer in
    let scan = c.in-Ok.ensures in
    let inside : at < length c.args.answers.now = omega (arith, c.loop-index-test.true, c.requires) in
    let line = c.args.line.now in
    let known = c.args.breaks.now in
    let first = calls_before_list calls in
    let whole = state_run line known (map line_call calls) in
    let more = i.0 ++ (answer ∷ []) in
    let written : slice_set c.loop-index.answers at c.answer_of.result ≡ map answer_of more ++ drop (at + 1) c.args.answers.now =
    rw (i.2, c.answer_of.ensures) (answers_next i.0 answer c.args.answers.now at i.1 inside) in
    let step : IsSure line known calls (at + 1)
    → IsPlainStep (line_call (get_or calls at none)) answer c.loop-index.line c.call_with_breaks.new.self =
    λ sure. elim sure [
      | inl true ↦ rw c.line_call.ensures at (scan.step (i.5 true))
      | inr before ↦ rw c.line_call.ensures at (scan.step_without_breaks
          (rw c.line_call.ensures (asks_before_list calls at none (omega (arith, before)))))
    ] in
    let earlier : IsSure line known calls (at + 1) → IsSure line known calls at =
    λ sure. elim sure [ inl true ↦ inl true | inr before ↦ inr (omega (arith, before)) ] in
    let here : IsSure line known calls at → whole
    ≡ after_answers i.0 (state_run c.loop-index.line c.loop-index.breaks
    (line_call (get_or calls at none) ∷ map line_call left)) =
    λ sure. i.6 sure ∙ ap (λ it. after_answers i.0 (state_run c.loop-index.line c.loop-index.breaks it)) split in
    let made = rw c.line_call.ensures at scan.made in (
      more,
      omega (arith, length-append i.0 (answer ∷ []), i.1),
      written,
      scan.bytes ∙ i.3,
      omega (arith, i.4, scan.forward),
      λ known. scan.truth (i.5 known),
      λ sure. here (earlier sure)
          ∙ run_next c.loop-index.line c.call_with_breaks.new.self c.loop-index.breaks c.call_with_breaks.new.breaks
          _ (map line_call left) answer i.0 made (step sure) (rw c.line_call.ensures at scan.learnt),
      λ past. elim (cases_lt first at) [
        | inl before ↦ still_made first whole c.loop-index.answers at _ (omega (arith, before)) (i.7 before)
        | inr after ↦ rw written (made_next i.0 answer whole c.loop-index.line c.loop-index.breaks _
            (map line_call left) (drop (at + 1) c.args.answers.now) first (omega (arith, i.1, after, past))
            (here (inr after)) made)
      ],
    )

module _ (c : goal.After-status_of) where
  -- the run ends at the refused call
  ended : IsSure c.args.line.now c.args.breaks.now c.args.calls.now c.loop-index.index
      → state_run c.args.line.now c.args.breaks.now (map line_call c.args.calls.now)
      ≡ record {
        answers = c.loop-index.invariant.0;
        state = c.loop-index.line;
        known = c.loop-index.breaks;
        stop = Some c.in-Err.reason;
      }
  ended sure =
      let calls = c.args.calls.now in
      let at = c.loop-index.index in
      let none : Call = record { kind = 0; number = 0 } in
      let split = ap (map line_call) (drop_more calls at none c.loop-index-test.true) in
      c.loop-index.invariant.6 sure
      ∙ ap (λ it. after_answers c.loop-index.invariant.0 (state_run c.loop-index.line c.loop-index.breaks it)) split
      ∙ run_ends c.loop-index.line c.loop-index.breaks _ (map line_call (drop (at + 1) calls)) c.in-Err.reason
      c.loop-index.invariant.0 (rw c.line_call.ensures at c.in-Err.ensures.refused)

pub returns-in-Err-clause-returned : goal.returns-in-Err-clause-returned
returns-in-Err-clause-returned c sure =
    let i = c.loop-index.invariant in
    rw (ended c sure) (
      c.status_of.ensures,
      sym i.1,
      subst (λ n. c.loop-index.answers ≡ map answer_of i.0 ++ drop n c.args.answers.now) (sym i.1) i.2,
    )

pub returns-in-Err-clause-state : goal.returns-in-Err-clause-state
returns-in-Err-clause-state c sure =
    c.in-Err.ensures.unchanged.0 ∙ sym (ap (λ (run : StateRun). run.state) (ended c sure))

pub returns-in-Err-clause-known : goal.returns-in-Err-clause-known
returns-in-Err-clause-known c sure =
    c.in-Err.ensures.unchanged.1 ∙ sym (ap (λ (run : StateRun). run.known) (ended c sure))
