use Rattle.std.proofs.Common.{◌+◌, ◌∙◌, sym, subst, ap, Some, None, if◌then◌else◌}
use Rattle.std.proofs.lemmas.Result.{IfOk-weaker}
use Rattle.markdown_values.specs.strings.Text.{cow_text}
use Rattle.std.specs.Str.{IsUtf8, IsCharBoundary}
use Rattle.markdown_inlines.specs.Sources.{IsTargetSource}
use Rattle.markdown_inlines.specs.Links.{HasNoTail}
use Rattle.markdown_inlines.specs.declared.links.LinkTarget.TheVariants.{Full}
use Rattle.markdown_inlines.proofs.link_targets.TargetLemmas.{full_or_none}
use Rattle.markdown_inlines.proofs.link_targets.scan_target.Goals as goal

pub returns-in-Some-2-clause-found : goal.returns-in-Some-2-clause-found
returns-in-Some-2-clause-found g c =
    let text = c.args.text.now in
    let known = g.L.Labels.known c.args.labels.now in
    let close = c.args.close in
    let end = c.in-Some-2.bracket in
    let untailed = rw c.in_default.is at c.scan_inline_target.ensures.none in
    let label = rw c.in-Some-2.is at c.in_ok-bracket.ensures.found in
    let none_before = subst (λ t. HasNoTail t (close + 1)) c.as_bytes.ensures.value untailed in
    IfOk-weaker c.full_target.result _ _
    (λ found is. full_or_none text known c.args.from close none_before end (cow_text c.in-Some-2.name) found label.0 label.1
    (is ∙ ap (λ name. if known name then Some (Full (record { start = close + 1; end = end + 1 }), end + 1) else None) c.as_str.ensures))
    c.full_target.ensures

pub returns-in-None-clause-found : goal.returns-in-None-clause-found
returns-in-None-clause-found g c =
    let untailed = rw c.in_default.is at c.scan_inline_target.ensures.none in
    let unlabelled = rw c.in-None.is at c.in_ok-bracket.ensures.none in
    IfOk-weaker c.scan_reference.result _ _ (λ found holds. holds (subst (λ t. HasNoTail t (c.args.close + 1)) c.as_bytes.ensures.value untailed) unlabelled)
    c.scan_reference.ensures.found

pub returns-in-Some-clause-source : goal.returns-in-Some-clause-source
returns-in-Some-clause-source g c =
    let text = c.as_bytes.ensures.value in
    let source = rw c.in-Some.is at c.scan_inline_target.ensures.source in
    subst (λ t. IsTargetSource t c.in-Some.target) text
    (source (subst IsUtf8 (sym text) c.utf8.text) (subst (λ t. IsCharBoundary t (c.args.close + 1)) (sym text) c.requires.after))
