use Rattle.std.proofs.Common.{refl, arith, get_or}
use Rattle.markdown_scanners_tree.specs.declared.scanners.classes.TheConstants.{BREAKS}
use Rattle.markdown_scanners_tree.specs.scanners.classes.private.BreakBits.{break_bits}
use Rattle.markdown_scanners_tree.proofs.scanners.classes.ClassLemmas.{agree_below, agree_at}
use Rattle.markdown_scanners_tree.proofs.scanners.classes.breaks_of.Goals as goal

pub returns : goal.returns
unfolding agree_below
returns c = agree_at (λ b. get_or BREAKS b 0) break_bits 256 refl c.args.byte (omega arith)
