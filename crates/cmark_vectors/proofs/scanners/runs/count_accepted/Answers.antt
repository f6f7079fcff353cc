use Rattle.markdown_scanners_tree.proofs.ForCallers.{callable_in_turn}
use Rattle.cmark_vectors.proofs.scanners.runs.count_accepted.Goals as goal

pub scan_while-requires : goal.scan_while-requires
scan_while-requires g c = callable_in_turn g.F.FnMut _ _ c.requires
