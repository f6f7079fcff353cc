use Rattle.std.proofs.Common.{arith}
use Rattle.std.proofs.lemmas.Grind.{common_steps}
use Rattle.markdown_scanners_tree.proofs.scanners.tag_state.TagState.end_of_run.Goals as goal

pub returns-in-Spaced-clause-run : goal.returns-in-Spaced-clause-run
returns-in-Spaced-clause-run c = grind (arith, common_steps)
