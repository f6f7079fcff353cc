use Rattle.std.proofs.Common.{arith}
use Rattle.std.proofs.lemmas.Grind.{elements, common_steps}
use Rattle.markdown_scanners_tree.proofs.scanners.tables.may_be_row.Goals as goal

pub returns-then-is_some : goal.returns-then-is_some
returns-then-is_some c = grind (arith, elements)

pub returns-else-is_some : goal.returns-else-is_some
returns-else-is_some c = grind (arith, common_steps)
