use Rattle.std.proofs.Common.{arith}
use Rattle.page_tables.proofs.FilledLemmas.{filled_empty, filled_text}
use Rattle.page_tables.proofs.same.have_same_cells.Goals as goal

pub returns-then-is_empty : goal.returns-then-is_empty
returns-then-is_empty c = grind (arith, filled_empty)

pub returns-else-is_empty : goal.returns-else-is_empty
returns-else-is_empty c = grind (arith, filled_text)
