use Rattle.std.proofs.Common.{◌∷◌, [], ◌∙◌, sym}
use Rattle.markdown_scanners_tree.proofs.SomeExactlyLemmas.{SomeExactly-from_none}
use Rattle.markdown_scanners_tree.proofs.inline_html.LeastPlaces.{occurs_at-slice}
use Rattle.markdown_inlines.proofs.wiki_links.WikiLinkLemmas.{closed_cut, head_ends}
use Rattle.markdown_inlines.proofs.wiki_links.scan_wiki_target.Goals as goal

pub returns-in_err-target-clause-found : goal.returns-in_err-target-clause-found
returns-in_err-target-clause-found c =
    SomeExactly-from_none _ c.from_residual.ensures (λ r is. c.in_err-target.ensures.found (is.0, c.args.from) is.2)

pub returns-then-starts_with-clause-boundary : goal.returns-then-starts_with-clause-boundary
returns-then-starts_with-clause-boundary c =
    let occurs = occurs_at-slice c.args.bytes.now (93 ∷ 93 ∷ []) c.args.close c.requires.close c.starts_with.result
    c.starts_with.ensures.value in
    closed_cut c.args.bytes.now c.args.close (sym occurs ∙ c.if-starts_with.true)

pub returns-then-starts_with-clause-source : goal.returns-then-starts_with-clause-source
returns-then-starts_with-clause-source c =
    (head_ends c.args.bytes.now c.args.offset c.in_ok-target.target c.in_ok-target.head_end c.in_ok-target.ensures.found).source
