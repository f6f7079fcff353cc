use Rattle.markdown_scanners_tree.proofs.scanners.fences.FenceLemmas.{backtick-found, backtick-not_found}
use Rattle.markdown_scanners_tree.proofs.scanners.fences.has_backtick.Goals as goal

pub returns-in-Some : goal.returns-in-Some
returns-in-Some c = backtick-found c.args.bytes.now c.in-Some.offset c.in-Some.ensures

pub returns-in-None : goal.returns-in-None
returns-in-None c = backtick-not_found c.args.bytes.now c.in-None.ensures
