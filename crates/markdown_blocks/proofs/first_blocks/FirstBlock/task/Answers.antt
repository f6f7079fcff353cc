use Rattle.std.proofs.Common.{◌≡◌, true, sym, ap, ◌∙◌}
use Rattle.markdown_blocks.specs.events.Events.{seen_leaf}
use Rattle.markdown_blocks.specs.first_blocks.Tasks.{is_task_text}
use Rattle.markdown_blocks.proofs.first_blocks.TaskLemmas.{task_none, task_some}
use Rattle.markdown_blocks.proofs.first_blocks.FirstBlock.task.Goals as goal

pub returns-in_err-is_checked : goal.returns-in_err-is_checked
returns-in_err-is_checked c =
    let scan = c.scan_task_list_marker in
    let goes_on : is_task_text c.args.self.now.leaf.text.now ≡ true = cc (c.is_task_text.ensures, c.if-not-is_task_text.false) in
    rw (c.in-Item-Paragraph.is-0, c.in-Item-Paragraph.is-1)
    (c.from_residual.ensures
    ∙ task_none (seen_leaf c.args.self.now.leaf) _ c.new-start.ensures goes_on (sym c.in_err-is_checked.was ∙ scan.ensures.answer))

pub returns : goal.returns
returns c =
    let scan = c.scan_task_list_marker in
    let goes_on : is_task_text c.args.self.now.leaf.text.now ≡ true = cc (c.is_task_text.ensures, c.if-not-is_task_text.false) in
    rw (c.in-Item-Paragraph.is-0, c.in-Item-Paragraph.is-1)
    (task_some (seen_leaf c.args.self.now.leaf) _ c.new-start.ensures goes_on _ _ (sym c.in_ok-is_checked.was ∙ scan.ensures.answer)
    (c.bytes_scanned.ensures.offset ∙ ap (λ s. s.offset) scan.ensures.state))
