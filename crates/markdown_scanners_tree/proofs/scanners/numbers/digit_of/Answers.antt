use Rattle.std.proofs.Common.{refl, arith, get_or}
use Rattle.std.specs.Char.{digit_value}
use Rattle.markdown_scanners_tree.specs.declared.scanners.numbers.TheConstants.{DIGITS}
use Rattle.markdown_scanners_tree.proofs.scanners.classes.ClassLemmas.{agree_below, agree_at}
use Rattle.markdown_scanners_tree.proofs.scanners.numbers.digit_of.Goals as goal

pub returns : goal.returns
unfolding agree_below
returns c = agree_at (λ b. get_or DIGITS b 0) digit_value 256 refl c.args.b (omega arith)
