use Rattle.std.proofs.Common.{ap, ◌∙◌, ◌+◌, sym, subst, take, drop, arith}
use Rattle.std.specs.Str.{IsCharBoundary}
use Rattle.std.proofs.lemmas.List.{take_rest}
use Rattle.markdown_scanners_tree.proofs.ForCallers.{offset_of_rest}
use Rattle.markdown_inlines.specs.Emails.{IsEmailAutolink}
use Rattle.markdown_inlines.proofs.emails.EmailLemmas.{one_email}
use Rattle.markdown_inlines.proofs.emails.scan_email_autolink.Goals as goal

pub returns-clause-boundary : goal.returns-clause-boundary
returns-clause-boundary c =
    let read = take_rest c.as_bytes.result.now c.args.start ∙ ap (drop c.args.start) c.as_bytes.ensures.value in
    subst (IsCharBoundary c.args.text.now) (omega arith)
    (offset_of_rest _ c.args.text.now c.args.start (c.in_ok-n.n + 1) read c.utf8.text c.requires c.in_ok-n.ensures.after)

pub returns-clause-only : goal.returns-clause-only
returns-clause-only c = λ address is.
    let read = take_rest c.as_bytes.result.now c.args.start ∙ ap (drop c.args.start) c.as_bytes.ensures.value in
    let here = subst (λ t. IsEmailAutolink t (take c.in_ok-n.n t)) read c.in_ok-n.ensures.found in
    one_email _ address _ is here
    ∙ sym (c.from.ensures.0 ∙ (c.range.ensures.value ∙ ap (λ k. take k (drop c.args.start c.args.text.now)) (omega arith)))
