use Rattle.std.proofs.Common.{arith}
use Rattle.std.proofs.lemmas.Grind.{elements}
use Rattle.markdown_scanners_tree.proofs.scanners.html_kinds.scan_marked_kind.Goals as goal

pub returns-in-33 : goal.returns-in-33
returns-in-33 c = grind (arith, elements)
