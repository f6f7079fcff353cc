use Rattle.std.proofs.Common.{ap, ◌∙◌, ◌+◌, sym, subst, take, drop, arith}
use Rattle.std.proofs.lemmas.Grind.{elements, common_steps}
use Rattle.std.specs.Option.{option_map}
use Rattle.std.specs.Str.{IsCharBoundary}
use Rattle.markdown_values.specs.strings.Text.{cow_text}
use Rattle.markdown_scanners_tree.specs.scanners.links.Autolink.{IsUriAutolink}
use Rattle.markdown_scanners_tree.proofs.SomeExactlyLemmas.{SomeExactly-from_none}
use Rattle.markdown_scanners_tree.proofs.scanners.links.LinkLemmas.{slice_is_rest, offset_of_rest, one_uri}
use Rattle.markdown_scanners_tree.proofs.scanners.links.scan_autolink.Goals as goal

pub returns-in_err-n-clause-found : goal.returns-in_err-n-clause-found
returns-in_err-n-clause-found c =
    let read = slice_is_rest c.as_bytes.result.now c.args.text.now c.args.start c.as_bytes.ensures.value in
    SomeExactly-from_none _ (ap (option_map (λ r. cow_text r.1)) c.from_residual.ensures) (λ uri is.
    c.in_err-n.ensures.found uri (subst (λ t. IsUriAutolink t uri) (sym read) is))

pub returns-clause-boundary : goal.returns-clause-boundary
returns-clause-boundary c =
    let read = slice_is_rest c.as_bytes.result.now c.args.text.now c.args.start c.as_bytes.ensures.value in
    subst (IsCharBoundary c.args.text.now) (omega arith)
    (offset_of_rest _ c.args.text.now c.args.start (c.in_ok-n.n + 1) read c.utf8.text c.requires
    c.in_ok-n.ensures.after)

pub returns-clause-only : goal.returns-clause-only
returns-clause-only c = λ uri is.
    let read = slice_is_rest c.as_bytes.result.now c.args.text.now c.args.start c.as_bytes.ensures.value in
    let here = subst (λ t. IsUriAutolink t (take c.in_ok-n.n t)) read c.in_ok-n.ensures.found in
    one_uri _ uri _ is here
    ∙ sym (c.from.ensures.0
    ∙ (c.range.ensures.value ∙ ap (λ k. take k (drop c.args.start c.args.text.now)) (omega arith)))

pub range-requires-clause-end_boundary : goal.range-requires-clause-end_boundary
range-requires-clause-end_boundary c = grind (arith, elements)

pub returns-clause-found : goal.returns-clause-found
returns-clause-found c = grind (arith, common_steps)
