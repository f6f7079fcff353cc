use Rattle.std.proofs.Common.{arith}
use Rattle.std.proofs.lemmas.Grind.{common_steps}
use Rattle.markdown_scanners_tree.proofs.scanners.tag_state.TagState.after_end_of_line.Goals as goal

pub returns-in-Name : goal.returns-in-Name
returns-in-Name c = grind (arith, common_steps)

pub returns-in-AttributeName : goal.returns-in-AttributeName
returns-in-AttributeName c = grind (arith, common_steps)

pub returns-in_default : goal.returns-in_default
returns-in_default c = grind (arith, common_steps)

pub returns-in_default-2 : goal.returns-in_default-2
returns-in_default-2 c = grind (arith, common_steps)
