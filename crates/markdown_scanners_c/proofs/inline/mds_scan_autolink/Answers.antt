use Rattle.std.proofs.Common.{inl, inr, refl, sym, subst, arith, take}
use Rattle.std.proofs.lemmas.List.{take_rest}
use Rattle.markdown_scanners_tree.specs.scanners.links.Autolink.{IsUriAutolink}
use Rattle.markdown_scanners_c.specs.Parts.{IsAutolinkPart}
use Rattle.markdown_scanners_c.proofs.Parts.{cut_closed}
use Rattle.markdown_scanners_c.proofs.inline.mds_scan_autolink.Goals as goal

pub returns-in-Some-clause-part : goal.returns-in-Some-clause-part
unfolding IsAutolinkPart
returns-in-Some-clause-part c =
    let rest = take_rest c.args.bytes.now c.args.start in
    inr (
      omega arith,
      inr (
        refl,
        subst (λ t. IsUriAutolink t (take c.in-Some.length t)) rest c.in-Some.ensures.found,
        refl,
        refl,
      ),
    )

pub returns-in-Some-clause-boundary : goal.returns-in-Some-clause-boundary
returns-in-Some-clause-boundary c = λ text found.
    cut_closed c.args.start c.in-Some.length c.args.bytes.now _ (take_rest c.args.bytes.now c.args.start) text
    c.in-Some.ensures.before c.in-Some.ensures.after

pub returns-in-None-clause-part : goal.returns-in-None-clause-part
unfolding IsAutolinkPart
returns-in-None-clause-part c =
    let rest = take_rest c.args.bytes.now c.args.start in
    inr (
      omega arith,
      inl (
        c.no_part-in-None.ensures,
        λ uri is. c.in-None.ensures.found uri (subst (λ t. IsUriAutolink t uri) (sym rest) is),
      ),
    )
