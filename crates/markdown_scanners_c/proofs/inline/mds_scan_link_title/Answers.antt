use Rattle.std.proofs.Common.{◌≡◌, ◌+◌, ◌-◌, inl, inr, refl, sym, subst, arith}
use Rattle.std.proofs.lemmas.List.{take_rest}
use Rattle.markdown_scanners_tree.specs.scanners.titles.LinkTitle.{IsLinkTitle}
use Rattle.markdown_scanners_c.specs.Parts.{IsTitlePart}
use Rattle.markdown_scanners_c.proofs.Parts.{cut_title}
use Rattle.markdown_scanners_c.proofs.inline.mds_scan_link_title.Goals as goal

pub returns-in-Some-clause-part : goal.returns-in-Some-clause-part
unfolding IsTitlePart
returns-in-Some-clause-part c =
    let whole = c.in-Some.whole in
    let rest = take_rest c.args.bytes.now c.args.start in
    let two = c.in-Some.ensures.within.0 in
    let counted : whole ≡ whole - 2 + 2 = omega (arith, two) in
    inr (
      omega arith,
      inr (
        refl,
        subst (λ t. IsLinkTitle t (whole - 2 + 2)) rest (subst (IsLinkTitle _) counted c.in-Some.ensures.found),
        refl,
        omega (arith, two),
      ),
    )

pub returns-in-Some-clause-boundary : goal.returns-in-Some-clause-boundary
returns-in-Some-clause-boundary c = λ text found.
    let title = c.in-Some.ensures in
    cut_title c.args.start c.in-Some.whole c.args.bytes.now _ (take_rest c.args.bytes.now c.args.start) text
    title.within.0 title.begins title.ends title.after

pub returns-in-None-clause-part : goal.returns-in-None-clause-part
unfolding IsTitlePart
returns-in-None-clause-part c =
    let rest = take_rest c.args.bytes.now c.args.start in
    inr (
      omega arith,
      inl (
        c.no_part-in-None.ensures,
        λ n is. c.in-None.ensures.found n (subst (λ t. IsLinkTitle t n) (sym rest) is),
      ),
    )
