use Rattle.std.proofs.Common.{◌+◌, sym, subst}
use Rattle.std.specs.Option.{option_copied}
use Rattle.markdown_scanners_tree.specs.scanners.entities.CharacterReference.{StartsWithReference}
use Rattle.markdown_scanners_tree.specs.scanners.entities.private.Name.{IsNameAnswer}
use Rattle.markdown_scanners_tree.proofs.scanners.entities.scan_named.Goals as goal

pub returns-in-Some-clause-found : goal.returns-in-Some-clause-found
returns-in-Some-clause-found g c =
    let known = g.E.Entities.known c.args.entities.now in
    let n = c.scan_name-n.result.0 in
    let found =
    subst (λ o. IsNameAnswer known c.args.bytes.now n (option_copied o)) c.in-Some.is c.scan_name-n.ensures.found in
    subst (StartsWithReference known c.args.bytes.now (n + 2)) (sym c.from.ensures.0) found

pub returns-in-None-clause-found : goal.returns-in-None-clause-found
returns-in-None-clause-found g c =
    subst (λ o. IsNameAnswer (g.E.Entities.known c.args.entities.now) c.args.bytes.now c.scan_name-n.result.0
    (option_copied o)) c.in-None.is c.scan_name-n.ensures.found
