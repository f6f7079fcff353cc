use Rattle.cmark_vectors.proofs.PieceTrees.{can_cut_one}
use Rattle.cmark_vectors.proofs.tree.cuts.cut_one.Goals as goal

pub truncate_siblings-requires-clause-range : goal.truncate_siblings-requires-clause-range
truncate_siblings-requires-clause-range c =
    can_cut_one c.in_ok-tree.tree c.append.new.self c.args.child c.args.end c.in_ok-tree.ensures c.in_ok-append.ensures.ok c.requires
