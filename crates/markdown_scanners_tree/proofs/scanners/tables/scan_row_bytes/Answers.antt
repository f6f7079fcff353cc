use Rattle.std.proofs.Common.{arith}
use Rattle.std.proofs.lemmas.Grind.{common_steps}
use Rattle.markdown_scanners_tree.proofs.scanners.tables.scan_row_bytes.Goals as goal

pub returns-in_default-hyphen_after-clause-run : goal.returns-in_default-hyphen_after-clause-run
returns-in_default-hyphen_after-clause-run c = grind (arith, common_steps)

pub loop-count-preserved : goal.loop-count-preserved
loop-count-preserved c = grind (arith, common_steps)
