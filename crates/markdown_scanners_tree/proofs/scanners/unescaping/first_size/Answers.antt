use Rattle.std.proofs.Common.{refl, [], inl, inr}
use Rattle.markdown_scanners_tree.proofs.scanners.unescaping.FirstPieceLemmas.{return_changed, are_plain}
use Rattle.markdown_scanners_tree.proofs.scanners.unescaping.first_size.Goals as goal

pub returns-in-13-clause-size : goal.returns-in-13-clause-size
returns-in-13-clause-size g c =
    rw c.piece_size.ensures
    (inr (
      [],
      return_changed c.args.is_in_table (g.E.Entities.known c.args.entities.now) c.args.bytes.now c.requires c.in-13.is,
      refl,
    ))

pub returns-in-92-clause-size : goal.returns-in-92-clause-size
returns-in-92-clause-size g c = c.backslash_size.ensures.size (g.E.Entities.known c.args.entities.now)

pub returns-in-38-clause-size : goal.returns-in-38-clause-size
returns-in-38-clause-size g c = c.ampersand_size.ensures.size c.args.is_in_table

pub returns-in_default-clause-size : goal.returns-in_default-clause-size
returns-in_default-clause-size g c =
    let known = g.E.Entities.known c.args.entities.now in
    rw c.piece_size-in_default.ensures
    (inl (
      refl,
      refl,
      are_plain c.args.is_in_table known c.args.bytes.now c.plain_len.result
          c.plain_len.ensures.within c.plain_len.ensures.plain,
    ))
