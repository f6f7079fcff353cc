use Rattle.std.proofs.Common.{arith}
use Rattle.std.proofs.lemmas.Grind.{common_steps}
use Rattle.markdown_scanners_tree.proofs.scanners.runs.scan_ch_repeat.Goals as goal

pub loop-count-preserved : goal.loop-count-preserved
loop-count-preserved c = grind (arith, common_steps)

pub returns-else-bytes-count-clause-run : goal.returns-else-bytes-count-clause-run
returns-else-bytes-count-clause-run c = grind (arith, common_steps)
