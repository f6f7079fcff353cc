use Rattle.std.proofs.Common.{refl, arith, false, get_or}
use Rattle.markdown_scanners_tree.specs.declared.scanners.classes.TheConstants.{IN_DESTINATION}
use Rattle.markdown_scanners_tree.specs.scanners.classes.private.InDestination.{is_in_destination}
use Rattle.markdown_scanners_tree.proofs.scanners.classes.ClassLemmas.{tests_agree_below, tests_agree_at}
use Rattle.markdown_scanners_tree.proofs.scanners.classes.is_in_destination.Goals as goal

pub returns : goal.returns
unfolding tests_agree_below
returns c = tests_agree_at (λ b. get_or IN_DESTINATION b false) is_in_destination 256 refl c.args.c (omega arith)
