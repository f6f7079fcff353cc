use Rattle.std.proofs.Common.{List, ◌≡◌, ◌≤◌, ◌<◌, inl, inr, ap, sym, subst, ◌∙◌, map, arith, refl, Option}
use Rattle.std.proofs.lemmas.Bool.{cases_lt}
use Rattle.markdown_scanners_tree.specs.line.ItemRules.{start_of}
use Rattle.markdown_scanners_tree.specs.line.KnownBreaks.{AreTrueBreaks}
use Rattle.markdown_scanners_tree.specs.line.State.{IsLineState, LineState, rest_of}
use Rattle.markdown_scanners_tree.specs.line.run.PlainRun.{plain_run}
use Rattle.markdown_scanners_tree.specs.line.run.StateRun.{StateRun, state_run}
use Rattle.markdown_scanners_tree.specs.declared.line.known_breaks.KnownBreaks.{KnownBreaks}
use Rattle.markdown_scanners_tree.specs.declared.line.run.LineAnswer.{LineAnswer}
use Rattle.markdown_scanners_tree.specs.declared.line.run.LineStop.{LineStop}
use Rattle.markdown_scanners_tree.proofs.ForCallers.{run_at_front}
use Rattle.markdown_scanners_c.specs.LineRuns.{AreAnswers, IsRun, calls_before_list, line_call, run_at}
use Rattle.markdown_scanners_c.specs.LineStarts.{IsNext, IsTrueStart, known_breaks, state_on}
use Rattle.markdown_scanners_c.specs.private.SureRun.{IsMadeTo, IsSure}
use Rattle.markdown_scanners_c.proofs.line_runs.mds_run_line.Goals as goal

module _ (c : goal.After-learn) where
  whole : c.made_run-ends.new.line.bytes ≡ c.args.bytes.now
  whole = c.made_run-ends.ensures.bytes ∙ ap (λ (s : LineState). s.bytes) c.in-Some.ensures.state

  -- the library's line start holds what is known of the line
  held : IsTrueStart c.args.bytes.now c.args.start.now
      → AreTrueBreaks c.in-Some.line.bytes c.breaks-breaks.result c.in-Some.line.offset
  held known = rw (c.in-Some.ensures.state, c.breaks-breaks.ensures) known

  same : state_run c.in-Some.line c.breaks-breaks.result (map line_call c.args.calls.now)
      ≡ run_at c.args.bytes.now c.args.start.now c.args.calls.now
  same = rw (c.in-Some.ensures.state, c.breaks-breaks.ensures) refl

  left : state_on c.args.bytes.now c.learn.new.self ≡ c.made_run-ends.new.line
  left =
      c.learn.ensures.state c.args.bytes.now
      ∙ ap (λ bytes. state_on bytes c.keep.new.self) (sym whole) ∙ c.keep.ensures.state

  made : IsSure c.in-Some.line c.breaks-breaks.result c.args.calls.now c.made_run-ends.result.count
      → IsRun c.args.bytes.now (run_at c.args.bytes.now c.args.start.now c.args.calls.now)
      c.learn.new.self c.args.answers.now c.made_run-ends.new.answers c.made_run-ends.result
  made sure = record {
    answers = subst (λ (run : StateRun). AreAnswers run.answers run.stop c.args.answers.now
        c.made_run-ends.new.answers c.made_run-ends.result) same (c.made_run-ends.ensures.returned sure);
    state = left ∙ c.made_run-ends.ensures.state sure ∙ ap (λ (run : StateRun). run.state) same;
    known = c.learn.ensures.breaks ∙ c.made_run-ends.ensures.known sure
        ∙ ap (λ (run : StateRun). run.known) same;
  }

  -- up to the first MDS_LIST
  made_to : calls_before_list c.args.calls.now < c.made_run-ends.result.count
      → IsMadeTo (calls_before_list c.args.calls.now) (run_at c.args.bytes.now c.args.start.now c.args.calls.now)
      c.made_run-ends.new.answers
  made_to past =
      subst (λ run. IsMadeTo (calls_before_list c.args.calls.now) run c.made_run-ends.new.answers) same
      (c.made_run-ends.ensures.up_to_list past)

pub returns-clause-run : goal.returns-clause-run
returns-clause-run c can known = made c (inl (held c known))

pub returns-clause-without_list : goal.returns-clause-without_list
returns-clause-without_list c can none =
    elim (cases_lt (calls_before_list c.args.calls.now) c.made_run-ends.result.count) [
      | inl past ↦ absurd (none (made_to c past).made)
      | inr before ↦ made c (inr before)
    ]

pub returns-clause-up_to_list : goal.returns-clause-up_to_list
returns-clause-up_to_list c can list =
    elim (cases_lt (calls_before_list c.args.calls.now) c.made_run-ends.result.count) [
      | inl past ↦ record { front = (made_to c past).front; made = past }
      | inr before ↦ absurd (omega (arith, list, before, (made c (inr before)).answers.1))
    ]

pub returns-clause-front : goal.returns-clause-front
returns-clause-front c can front =
    let bytes = c.args.bytes.now in
    let start = c.args.start.now in
    let calls = map line_call c.args.calls.now in
    let known : IsTrueStart bytes start =
    (λ k from before. absurd (omega (arith, before, front.3)), λ k after. absurd (omega (arith, after, front.4))) in
    let run = made c (inl (held c known)) in
    let at : state_on bytes start ≡ start_of bytes = rw (front.0, front.1, front.2) refl in
    let runs = ap (λ s. state_run s (known_breaks start) calls) at in
    let alike = run_at_front bytes (known_breaks start) calls in
    let state = run.state ∙ ap (λ (it : StateRun). it.state) runs in
    let new = c.made_run-ends.new.answers in
    let first = state_run (start_of bytes) (known_breaks start) calls in
    let plain = plain_run bytes calls in
    let Returned : List LineAnswer → Option LineStop → Type 0 =
    λ answers stop. AreAnswers answers stop c.args.answers.now new c.made_run-ends.result in
    let returned : Returned first.answers first.stop =
    subst (λ (it : StateRun). Returned it.answers it.stop) runs run.answers in
    record {
      answers = subst (λ it. Returned plain.answers it) alike.1 (subst (λ it. Returned it first.stop) alike.0 returned);
      rest = ap rest_of state ∙ alike.2;
      scanned = ap (λ (s : LineState). s.offset) state ∙ alike.3;
    }

pub returns-clause-next : goal.returns-clause-next
returns-clause-next c is =
    let bytes = c.args.bytes.now in
    let old = c.args.start.now in
    let forward : old.offset ≤ c.made_run-ends.new.line.offset =
    subst (λ (s : LineState). s.offset ≤ c.made_run-ends.new.line.offset) c.in-Some.ensures.state
    c.made_run-ends.ensures.forward in
    let kept : IsNext bytes old c.keep.new.self =
    subst (λ it. IsNext it old c.keep.new.self) (whole c) (c.keep.ensures.next forward) in
    let offset : c.learn.new.self.offset ≡ c.made_run-ends.new.line.offset = ap (λ (s : LineState). s.offset) (left c) in
    record {
      is_state = subst IsLineState (sym (c.learn.ensures.state bytes)) kept.is_state;
      forward = subst (λ n. old.offset ≤ n) (sym c.learn.ensures.offset) kept.forward;
      truth = λ known.
          subst (λ (it : KnownBreaks). AreTrueBreaks bytes it c.learn.new.self.offset) (sym c.learn.ensures.breaks)
          (subst (λ n. AreTrueBreaks bytes c.made_run-ends.new.breaks n) (sym offset)
          (subst (λ it. AreTrueBreaks it c.made_run-ends.new.breaks c.made_run-ends.new.line.offset) (whole c)
          (c.made_run-ends.ensures.truth (held c known))));
    }
