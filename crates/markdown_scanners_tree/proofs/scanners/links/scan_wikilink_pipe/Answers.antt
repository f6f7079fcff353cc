use Rattle.std.proofs.Common.{◌==◌, ◌+◌, ap, ◌∙◌, Some, take, arith, subst}
use Rattle.std.proofs.lemmas.Grind.{elements}
use Rattle.std.specs.Prelude.{position}
use Rattle.std.specs.Option.{option_map}
use Rattle.std.specs.Str.{IsCharBoundary}
use Rattle.markdown_scanners_tree.specs.Ascii.{vertical_line}
use Rattle.markdown_scanners_tree.proofs.scanners.links.LinkLemmas.{slice_is_rest, offset_of_rest}
use Rattle.markdown_scanners_tree.proofs.scanners.links.scan_wikilink_pipe.Goals as goal

pub returns-in_err-n-clause-found : goal.returns-in_err-n-clause-found
returns-in_err-n-clause-found c =
    let read = slice_is_rest c.as_bytes.result.now c.args.text.now c.args.start c.as_bytes.ensures.value in
    ap (option_map _) c.from_residual.ensures
    ∙ (c.in_err-n.ensures.found ∙ ap (λ t. position (λ b. b == vertical_line) (take c.args.len t)) read)

pub returns-clause-found : goal.returns-clause-found
returns-clause-found c =
    let read = slice_is_rest c.as_bytes.result.now c.args.text.now c.args.start c.as_bytes.ensures.value in
    ap Some (omega (arith, c.range.ensures.len))
    ∙ (c.in_ok-n.ensures.found ∙ ap (λ t. position (λ b. b == vertical_line) (take c.args.len t)) read)

pub returns-clause-boundary : goal.returns-clause-boundary
returns-clause-boundary c =
    let read = slice_is_rest c.as_bytes.result.now c.args.text.now c.args.start c.as_bytes.ensures.value in
    subst (IsCharBoundary c.args.text.now) (omega arith)
    (offset_of_rest _ c.args.text.now c.args.start (c.in_ok-n.n + 1) read c.utf8.text c.requires
    c.in_ok-n.ensures.after)

pub range-requires-clause-end_boundary : goal.range-requires-clause-end_boundary
range-requires-clause-end_boundary c = grind (arith, elements)
