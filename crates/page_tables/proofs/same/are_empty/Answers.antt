use Rattle.std.proofs.Common.{map, arith}
use Rattle.page_tables.specs.Cells.{cell_text}
use Rattle.page_tables.proofs.FilledLemmas.{filled_empty, filled_text}
use Rattle.page_tables.proofs.same.are_empty.Goals as goal

pub returns-then-not-is_empty : goal.returns-then-not-is_empty
returns-then-not-is_empty c = grind (arith, filled_text)

pub loop-cell-preserved : goal.loop-cell-preserved
loop-cell-preserved c =
    let step = filled_empty c.loop-cell.left c.in-Some.cell.now (map (cell_text c.args.text.now) c.next_cell.new.cells)
    (grind arith) (grind arith) in
    let whole = rw c.in-Some.ensures.some at c.loop-cell.invariant in (λ h. whole.0 (step.0 h), λ h. step.1 (whole.1 h))
