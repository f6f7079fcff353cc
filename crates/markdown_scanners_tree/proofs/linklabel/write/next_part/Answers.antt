use Rattle.std.proofs.Common.{arith}
use Rattle.std.proofs.lemmas.Grind.{common_steps}
use Rattle.markdown_scanners_tree.proofs.linklabel.write.next_part.Goals as goal

pub returns-in-92-2 : goal.returns-in-92-2
returns-in-92-2 c = grind (arith, common_steps)

pub returns-in-93 : goal.returns-in-93
returns-in-93 c = grind (arith, common_steps)

pub returns-in-93-2 : goal.returns-in-93-2
returns-in-93-2 c = grind (arith, common_steps)

pub returns-in-91-2 : goal.returns-in-91-2
returns-in-91-2 c = grind (arith, common_steps)

pub returns-in-91-2-2 : goal.returns-in-91-2-2
returns-in-91-2-2 c = grind (arith, common_steps)
