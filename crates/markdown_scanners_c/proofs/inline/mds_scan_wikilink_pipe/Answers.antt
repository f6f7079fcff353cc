use Rattle.std.proofs.Common.{◌==◌, ◌∙◌, ap, inl, inr, refl, sym, arith, take}
use Rattle.std.proofs.lemmas.List.{take_rest}
use Rattle.std.specs.Prelude.{position}
use Rattle.markdown_scanners_tree.specs.Ascii.{vertical_line}
use Rattle.markdown_scanners_c.specs.Parts.{IsPipePart}
use Rattle.markdown_scanners_c.proofs.Parts.{cut_closed}
use Rattle.markdown_scanners_c.proofs.inline.mds_scan_wikilink_pipe.Goals as goal

pub returns-in-Some-clause-part : goal.returns-in-Some-clause-part
unfolding IsPipePart
returns-in-Some-clause-part c =
    let rest = take_rest c.args.bytes.now c.args.start in
    let pipe =
    c.in-Some.ensures.found ∙ ap (λ t. position (λ b. b == vertical_line) (take c.args.count t)) rest in
    inr (omega arith, inr (refl, sym pipe, refl, refl))

pub returns-in-Some-clause-boundary : goal.returns-in-Some-clause-boundary
returns-in-Some-clause-boundary c = λ text found.
    cut_closed c.args.start c.in-Some.before c.args.bytes.now _ (take_rest c.args.bytes.now c.args.start) text
    c.in-Some.ensures.before c.in-Some.ensures.after

pub returns-in-None-clause-part : goal.returns-in-None-clause-part
unfolding IsPipePart
returns-in-None-clause-part c =
    let rest = take_rest c.args.bytes.now c.args.start in
    let pipe =
    c.in-None.ensures.found ∙ ap (λ t. position (λ b. b == vertical_line) (take c.args.count t)) rest in
    inr (omega arith, inl (c.no_part-in-None.ensures, sym pipe))
