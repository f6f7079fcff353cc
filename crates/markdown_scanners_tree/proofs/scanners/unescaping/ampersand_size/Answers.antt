use Rattle.std.proofs.Common.{◌+◌, refl, inl, inr, subst}
use Rattle.std.specs.Option.{option_copied}
use Rattle.markdown_scanners_tree.specs.scanners.entities.private.Name.{IsNameAnswer}
use Rattle.markdown_scanners_tree.proofs.scanners.unescaping.FirstPieceLemmas.{reference_changed, name_plain}
use Rattle.markdown_scanners_tree.proofs.scanners.unescaping.ampersand_size.Goals as goal

pub returns-then-bytes-eq35-clause-size : goal.returns-then-bytes-eq35-clause-size
returns-then-bytes-eq35-clause-size g c in_table =
    c.number_size.ensures.size in_table (g.E.Entities.known c.args.entities.now)

pub returns-in-Some-clause-size : goal.returns-in-Some-clause-size
returns-in-Some-clause-size g c in_table =
    let known = g.E.Entities.known c.args.entities.now in
    let n = c.scan_name-name.result.0 in
    let found =
    subst (λ o. IsNameAnswer known c.args.bytes.now n (option_copied o)) c.in-Some.is c.scan_name-name.ensures.found in
    rw c.piece_size.ensures (inr (
      c.in-Some.text.now,
      reference_changed in_table known c.args.bytes.now (n + 2) c.in-Some.text.now (c.requires.begins, found),
      refl,
    ))

pub returns-in-None-clause-size : goal.returns-in-None-clause-size
returns-in-None-clause-size g c in_table =
    let known = g.E.Entities.known c.args.entities.now in
    let n = c.scan_name-name.result.0 in
    let none =
    subst (λ o. IsNameAnswer known c.args.bytes.now n (option_copied o)) c.in-None.is c.scan_name-name.ensures.found in
    rw c.piece_size-in-None.ensures (inl (
      refl,
      refl,
      name_plain in_table known c.args.bytes.now n c.requires.some c.requires.begins none c.scan_name-name.ensures.name,
    ))
