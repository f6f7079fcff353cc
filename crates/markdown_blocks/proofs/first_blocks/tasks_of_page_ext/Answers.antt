use Rattle.markdown_blocks.proofs.first_blocks.FirstLemmas.{found_at_end, found_at_start, found_further}
use Rattle.markdown_blocks.proofs.first_blocks.tasks_of_page_ext.Goals as goal
use Rattle.markdown_blocks.specs.first_blocks.Tasks.{task_at}

pub loop-found-init : goal.loop-found-init
loop-found-init c = rw (c.new-found.ensures.items, c.new-firsts.ensures.start) (found_at_start task_at _ c.args.page.now _ c.new_ext-blocks.ensures.page)

pub loop-found-preserved : goal.loop-found-preserved
loop-found-preserved c =
    rw c.in_ok-keep.ensures
    (found_further task_at _ c.args.page.now _ _ _ c.task_read.new.firsts _ _ c.task_read.result c.loop-found.invariant
    (rw c.in-Some.is at c.in_ok-event.ensures.event) c.task_read.ensures)

pub returns : goal.returns
returns c = found_at_end task_at _ c.args.page.now _ _ _ c.loop-found.invariant (rw c.in_default.is at c.in_ok-event.ensures.none)
