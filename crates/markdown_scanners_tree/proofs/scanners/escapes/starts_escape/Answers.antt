use Rattle.std.proofs.Common.{arith, sym}
use Rattle.std.proofs.lemmas.Grind.{common_steps}
use Rattle.markdown_scanners_tree.proofs.scanners.escapes.UnitLemmas.{escape_at_end}
use Rattle.markdown_scanners_tree.proofs.scanners.escapes.starts_escape.Goals as goal

pub returns-then-i-bytes-clause-value : goal.returns-then-i-bytes-clause-value
returns-then-i-bytes-clause-value c = sym (escape_at_end c.args.bytes.now c.args.i (omega (arith, c.if-i-bytes.true)))

pub returns-then-bytes-i-eq92-clause-value : goal.returns-then-bytes-i-eq92-clause-value
returns-then-bytes-i-eq92-clause-value c = grind (arith, common_steps)
