use Rattle.std.proofs.Common.{◌+◌, [], refl, inl, subst}
use Rattle.markdown_scanners_tree.specs.scanners.unescaping.private.FirstPiece.{IsFirstPiece}
use Rattle.markdown_scanners_tree.proofs.scanners.unescaping.FirstPieceLemmas.{pair_plain, escape_size}
use Rattle.markdown_scanners_tree.proofs.scanners.unescaping.backslash_size.Goals as goal

pub returns-then-dropped-eq0-clause-size : goal.returns-then-dropped-eq0-clause-size
returns-then-dropped-eq0-clause-size c known =
    let first =
    subst (λ d. IsFirstPiece c.args.is_in_table known c.args.bytes.now (d + 1) d []) c.if-dropped-eq0.true
    (c.escape_len-dropped.ensures.piece known) in
    rw c.piece_size.ensures (inl (
      refl,
      refl,
      pair_plain c.args.is_in_table known c.args.bytes.now c.lone_len.result c.lone_len.ensures.within
          c.lone_len.ensures.at_most_two first c.lone_len.ensures.plain,
    ))

pub returns-clause-size : goal.returns-clause-size
returns-clause-size c known =
    rw c.piece_size-2.ensures
    (escape_size c.args.is_in_table known c.args.bytes.now c.escape_len-dropped.result
    (c.escape_len-dropped.ensures.piece known))
