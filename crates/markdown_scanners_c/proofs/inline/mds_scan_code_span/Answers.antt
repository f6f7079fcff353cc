use Rattle.std.proofs.Common.{inl, inr, refl, sym, subst, arith}
use Rattle.std.proofs.lemmas.List.{take_rest}
use Rattle.markdown_inlines.specs.CodeSpans.{IsCodeSpan}
use Rattle.markdown_scanners_c.specs.Parts.{IsCodePart}
use Rattle.markdown_scanners_c.proofs.Parts.{cut_code}
use Rattle.markdown_scanners_c.proofs.inline.mds_scan_code_span.Goals as goal

pub returns-in-Some-clause-part : goal.returns-in-Some-clause-part
unfolding IsCodePart
returns-in-Some-clause-part c =
    let rest = take_rest c.args.bytes.now c.args.start in
    inr (
      omega arith,
      inr (
        c.in-Some.span,
        subst (λ t. IsCodeSpan t c.in-Some.span) rest c.in-Some.ensures.found,
        refl,
        refl,
        refl,
        omega (arith, c.in-Some.ensures.content.1),
      ),
    )

pub returns-in-Some-clause-boundary : goal.returns-in-Some-clause-boundary
returns-in-Some-clause-boundary c = λ text found.
    cut_code c.args.start c.in-Some.span c.args.bytes.now _ (take_rest c.args.bytes.now c.args.start) text
    c.in-Some.ensures.found c.in-Some.ensures.within

pub returns-in-None-clause-part : goal.returns-in-None-clause-part
unfolding IsCodePart
returns-in-None-clause-part c =
    let rest = take_rest c.args.bytes.now c.args.start in
    inr (
      omega arith,
      inl (
        c.no_part-in-None.ensures,
        λ span is. c.in-None.ensures.found span (subst (λ t. IsCodeSpan t span) (sym rest) is),
      ),
    )
