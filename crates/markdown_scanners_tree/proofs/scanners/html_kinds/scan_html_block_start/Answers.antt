use Rattle.std.proofs.Common.{sym, subst, Some}
use Rattle.markdown_scanners_tree.specs.scanners.html_kinds.HtmlKinds.{IsHtmlBlockStart}
use Rattle.markdown_scanners_tree.proofs.scanners.html_kinds.StartLemmas.{after_opener, marked_start, none_unopened, only_kind}
use Rattle.markdown_scanners_tree.proofs.scanners.html_kinds.scan_html_block_start.Goals as goal

pub returns-in_err-rest-clause-found : goal.returns-in_err-rest-clause-found
returns-in_err-rest-clause-found c =
    rw c.from_residual.ensures (none_unopened c.args.bytes.now c.in_err-rest.ensures.cases)

pub scan_tag_kind-requires : goal.scan_tag_kind-requires
scan_tag_kind-requires c = record {
  opened =
      after_opener c.args.bytes.now c.in_ok-rest.rest.now c.in_ok-rest.ensures.cases.0 c.in_ok-rest.ensures.cases.1;
  no_mark = sym c.in-None.ensures;
}

pub returns-in-Some-clause-found : goal.returns-in-Some-clause-found
returns-in-Some-clause-found c =
    subst (λ bytes. IsHtmlBlockStart bytes c.in-Some.kind)
    (sym (after_opener c.args.bytes.now c.in_ok-rest.rest.now c.in_ok-rest.ensures.cases.0
    c.in_ok-rest.ensures.cases.1))
    (marked_start c.in_ok-rest.rest.now c.in-Some.kind (sym c.in-Some.ensures))

pub returns-in-Some-clause-only : goal.returns-in-Some-clause-only
returns-in-Some-clause-only c =
    only_kind c.args.bytes.now (Some c.in-Some.kind) (returns-in-Some-clause-found c)

pub returns-in-None-clause-only : goal.returns-in-None-clause-only
returns-in-None-clause-only c =
    only_kind c.args.bytes.now c.scan_tag_kind.result c.scan_tag_kind.ensures
