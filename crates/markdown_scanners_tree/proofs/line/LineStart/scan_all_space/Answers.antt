use Rattle.std.proofs.Common.{arith}
use Rattle.std.proofs.lemmas.Grind.{elements}
use Rattle.markdown_scanners_tree.proofs.line.LineStart.scan_all_space.Goals as goal

pub returns-clause-state : goal.returns-clause-state
returns-clause-state c = grind (arith, elements)
