use Rattle.std.proofs.Common.{arith}
use Rattle.std.proofs.lemmas.Grind.{common_steps}
use Rattle.markdown_scanners_tree.proofs.scanners.tables.scan_cell_bytes.Goals as goal

pub loop-count-preserved : goal.loop-count-preserved
loop-count-preserved c = grind (arith, common_steps)

pub returns-else-matches-clause-run : goal.returns-else-matches-clause-run
returns-else-matches-clause-run c = grind (arith, common_steps)
