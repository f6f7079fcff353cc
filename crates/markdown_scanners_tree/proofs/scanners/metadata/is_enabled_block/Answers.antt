use Rattle.std.proofs.Common.{arith}
use Rattle.std.proofs.lemmas.Grind.{common_steps}
use Rattle.markdown_scanners_tree.proofs.scanners.metadata.is_enabled_block.Goals as goal

pub returns-then-enabled-clause-found : goal.returns-then-enabled-clause-found
returns-then-enabled-clause-found c = grind (arith, common_steps)
