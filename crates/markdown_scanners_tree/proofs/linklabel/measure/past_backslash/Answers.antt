use Rattle.std.proofs.Common.{arith}
use Rattle.std.proofs.lemmas.Grind.{elements}
use Rattle.markdown_scanners_tree.proofs.linklabel.measure.past_backslash.Goals as goal

pub returns : goal.returns
returns c = grind (arith, elements)
