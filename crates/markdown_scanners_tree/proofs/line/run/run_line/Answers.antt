use Rattle.std.proofs.Common.{◌≡◌, ℕ, ◌+◌, [], ◌∷◌, ◌++◌, length, get_or, drop, sym, ◌∙◌, ap, subst, List, Option, Some, None, IfOk, arith, length-append}
use Rattle.std.proofs.lemmas.List.{drop_more}
use Rattle.std.proofs.Math.ListN.{drop_of_length-le}
use Rattle.markdown_scanners_tree.specs.declared.line.run.LineCall.TheVariants.{Space}
use Rattle.markdown_scanners_tree.specs.line.PlainStep.{plain_step}
use Rattle.markdown_scanners_tree.specs.line.run.PlainRun.{plain_run, indexed_stop, rest_after, scanned_after}
use Rattle.markdown_scanners_tree.specs.declared.line.run.LineAnswer.{LineAnswer}
use Rattle.markdown_scanners_tree.specs.declared.line.run.LineStop.{LineStop}
use Rattle.markdown_scanners_tree.specs.line.State.{rest_of}
use Rattle.markdown_scanners_tree.proofs.line.run.PlainRunLemmas.{so_far_next, so_far_stopped, so_far_done, next_column}
use Rattle.markdown_scanners_tree.proofs.line.run.run_line.Goals as goal

pub loop-index-preserved : goal.loop-index-preserved
loop-index-preserved c =
    let i = c.loop-index.invariant in
    let calls = c.args.calls.now in
    let left = drop (c.loop-index.index + 1) calls in
    let call = get_or calls c.loop-index.index (Space 0) in
    let split : drop c.loop-index.index calls ≡ call ∷ left =
    drop_more calls c.loop-index.index (Space 0) c.loop-index-test.true in
    let so = rw split at i.2 in
    let made = c.make_call-answer.ensures in
    let step = plain_step call (rest_of c.loop-index.start) in
    let next = so_far_next c.args.bytes.now calls left c.loop-index.answers.items c.loop-index.start
    c.make_call-answer.new.start i.0 i.1 call so
    (sym c.in_default.ensures) made.moved made.rest in
    let items : c.push.new.self.items ≡ c.loop-index.answers.items ++ (step.answer ∷ []) =
    c.in_ok-push.ensures.items ∙ ap (λ a. c.loop-index.answers.items ++ (a ∷ [])) made.answered in (
      i.0 + step.taken,
      next_column c.loop-index.start i.1 step.taken,
      rw items next,
      rw (items, length-append c.loop-index.answers.items (step.answer ∷ [])) (omega arith),
    )

-- the run where a call is refused
pub stopped : (c : goal.After-finished) → let plain = plain_run c.args.bytes.now c.args.calls.now in
    (c.loop-index.answers.items ≡ plain.answers)
    × (Some (length c.loop-index.answers.items, c.in-Some.reason) ≡ indexed_stop plain)
    × (rest_of c.loop-index.start ≡ rest_after c.args.bytes.now plain)
    × (c.loop-index.start.offset ≡ scanned_after c.args.bytes.now plain)
stopped c =
    let i = c.loop-index.invariant in
    let calls = c.args.calls.now in
    let left = drop (c.loop-index.index + 1) calls in
    let call = get_or calls c.loop-index.index (Space 0) in
    let split : drop c.loop-index.index calls ≡ call ∷ left =
    drop_more calls c.loop-index.index (Space 0) c.loop-index-test.true in
    let so = rw split at i.2 in
    so_far_stopped c.args.bytes.now calls left call c.in-Some.reason c.loop-index.answers.items c.loop-index.start i.0
    i.1 so (sym c.in-Some.ensures)

-- the run where the calls end
pub ended : (c : goal.After-finished-2) → let plain = plain_run c.args.bytes.now c.args.calls.now in
    (c.loop-index.answers.items ≡ plain.answers) × (None ≡ indexed_stop plain)
    × (rest_of c.loop-index.start ≡ rest_after c.args.bytes.now plain)
    × (c.loop-index.start.offset ≡ scanned_after c.args.bytes.now plain)
ended c =
    let i = c.loop-index.invariant in
    let calls = c.args.calls.now in
    let none : drop c.loop-index.index calls ≡ [] = drop_of_length-le calls (omega arith) in
    let so = rw none at i.2 in
    so_far_done c.args.bytes.now calls c.loop-index.answers.items c.loop-index.start i.0 i.1 so

pub returns-in-Some-clause-answers : goal.returns-in-Some-clause-answers
returns-in-Some-clause-answers c =
    subst (λ (x : List LineAnswer). IfOk c.finished.result (λ run. run.answers.items ≡ x))
    (stopped c).0 c.finished.ensures.answers

pub returns-in-Some-clause-stop : goal.returns-in-Some-clause-stop
returns-in-Some-clause-stop c =
    subst (λ (x : Option (ℕ × LineStop)). IfOk c.finished.result (λ run. run.stop ≡ x))
    (rw c.loop-index.invariant.3 at (stopped c).1) c.finished.ensures.stop

pub returns-in-Some-clause-rest : goal.returns-in-Some-clause-rest
returns-in-Some-clause-rest c =
    subst (λ (x : List ℕ). IfOk c.finished.result (λ run. run.rest.items ≡ x)) (stopped c).2 c.finished.ensures.rest

pub returns-in-Some-clause-scanned : goal.returns-in-Some-clause-scanned
returns-in-Some-clause-scanned c =
    subst (λ (x : ℕ). IfOk c.finished.result (λ run. run.scanned ≡ x)) (stopped c).3 c.finished.ensures.scanned

pub returns-clause-answers : goal.returns-clause-answers
returns-clause-answers c =
    subst (λ (x : List LineAnswer). IfOk c.finished-2.result (λ run. run.answers.items ≡ x))
    (ended c).0 c.finished-2.ensures.answers

pub returns-clause-stop : goal.returns-clause-stop
returns-clause-stop c =
    subst (λ (x : Option (ℕ × LineStop)). IfOk c.finished-2.result (λ run. run.stop ≡ x))
    (ended c).1 c.finished-2.ensures.stop

pub returns-clause-rest : goal.returns-clause-rest
returns-clause-rest c =
    subst (λ (x : List ℕ). IfOk c.finished-2.result (λ run. run.rest.items ≡ x)) (ended c).2 c.finished-2.ensures.rest

pub returns-clause-scanned : goal.returns-clause-scanned
returns-clause-scanned c =
    subst (λ (x : ℕ). IfOk c.finished-2.result (λ run. run.scanned ≡ x)) (ended c).3 c.finished-2.ensures.scanned
