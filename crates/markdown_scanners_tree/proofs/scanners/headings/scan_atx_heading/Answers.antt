use Rattle.std.proofs.Common.{arith}
use Rattle.std.proofs.lemmas.Grind.{common_steps}
use Rattle.markdown_scanners_tree.proofs.scanners.headings.scan_atx_heading.Goals as goal

pub returns-else-ends_or_begins_with_space-clause-found : goal.returns-else-ends_or_begins_with_space-clause-found
returns-else-ends_or_begins_with_space-clause-found c = grind (arith, common_steps)
