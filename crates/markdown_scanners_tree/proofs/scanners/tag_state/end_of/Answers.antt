use Rattle.std.proofs.Common.{arith}
use Rattle.std.proofs.lemmas.Grind.{common_steps}
use Rattle.markdown_scanners_tree.proofs.scanners.tag_state.end_of.Goals as goal

pub loop-end-preserved : goal.loop-end-preserved
loop-end-preserved g c = grind (arith, common_steps)
