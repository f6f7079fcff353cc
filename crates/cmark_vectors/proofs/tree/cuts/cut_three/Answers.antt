use Rattle.std.proofs.Common.{◌∙◌, ap}
use Rattle.markdown_values.specs.tree.Linked.{Linked}
use Rattle.markdown_values.specs.tree.Tree.{after_append}
use Rattle.cmark_vectors.specs.declared.pieces.Piece.{Piece}
use Rattle.cmark_vectors.proofs.PieceTrees.{can_cut_three}
use Rattle.cmark_vectors.proofs.tree.cuts.cut_three.Goals as goal

pub truncate_siblings-requires-clause-range : goal.truncate_siblings-requires-clause-range
truncate_siblings-requires-clause-range c =
    let second_is = c.in_ok-append-2.ensures.ok ∙ ap (λ (t : Linked Piece). after_append t c.args.second) c.in_ok-append.ensures.ok in
    let tree_is = c.in_ok-append-3.ensures.ok ∙ ap (λ (t : Linked Piece). after_append t c.args.third) second_is in
    can_cut_three c.in_ok-tree.tree c.append-3.new.self c.args.first c.args.second c.args.third c.args.end c.in_ok-tree.ensures tree_is c.requires
