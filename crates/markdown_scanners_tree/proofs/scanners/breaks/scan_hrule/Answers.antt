use Rattle.std.proofs.Common.{arith}
use Rattle.std.proofs.lemmas.Grind.{common_steps}
use Rattle.markdown_scanners_tree.proofs.scanners.breaks.BreakLemmas.{thematic_breaks}
use Rattle.markdown_scanners_tree.proofs.scanners.breaks.scan_hrule.Goals as goal

pub returns-then-bytes-lt3-clause-none : goal.returns-then-bytes-lt3-clause-none
returns-then-bytes-lt3-clause-none c = grind (arith, common_steps)

pub returns-in-42-clause-no_break : goal.returns-in-42-clause-no_break
returns-in-42-clause-no_break c = grind (arith, thematic_breaks)
