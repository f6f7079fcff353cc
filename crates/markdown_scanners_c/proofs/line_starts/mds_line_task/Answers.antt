use Rattle.std.proofs.Common.{◌≡◌, ◌≤◌, ap, sym, subst, ◌∙◌}
use Rattle.markdown_scanners_tree.specs.line.Outcome.{task_outcome}
use Rattle.markdown_scanners_tree.specs.line.State.{LineState}
use Rattle.markdown_scanners_tree.proofs.ForCallers.{task_forward}
use Rattle.markdown_scanners_c.specs.LineStarts.{IsNext, state_on, task_returned}
use Rattle.markdown_scanners_c.proofs.line_starts.mds_line_task.Goals as goal

module _ (c : goal.After-task_of) where
  abbrev before : LineState
  before = state_on c.args.bytes.now c.args.start.now

  moved : c.scan_task_list_marker-checked.new.self ≡ (task_outcome before).state
  moved = c.scan_task_list_marker-checked.ensures.state ∙ ap (λ s. (task_outcome s).state) c.in-Some.ensures.state

  whole : c.scan_task_list_marker-checked.new.self.bytes ≡ c.args.bytes.now
  whole = c.scan_task_list_marker-checked.ensures.bytes ∙ ap (λ (s : LineState). s.bytes) c.in-Some.ensures.state

pub returns-clause-answer : goal.returns-clause-answer
returns-clause-answer c is =
    c.task_of.ensures
    ∙ ap task_returned (c.scan_task_list_marker-checked.ensures.answer
    ∙ ap (λ s. (task_outcome s).answer) c.in-Some.ensures.state)

pub returns-clause-state : goal.returns-clause-state
returns-clause-state c is =
    ap (λ bytes. state_on bytes c.keep.new.self) (sym (whole c)) ∙ c.keep.ensures.state ∙ moved c

pub returns-clause-next : goal.returns-clause-next
returns-clause-next c is =
    let forward : c.args.start.now.offset ≤ c.scan_task_list_marker-checked.new.self.offset =
    subst (λ (s : LineState). c.args.start.now.offset ≤ s.offset) (sym (moved c)) (task_forward (before c)) in
    subst (λ bytes. IsNext bytes c.args.start.now c.keep.new.self) (whole c) (c.keep.ensures.next forward)
