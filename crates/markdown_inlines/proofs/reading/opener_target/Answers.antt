use Rattle.std.proofs.Common.{◌+◌, ◌∙◌, ap, sym, subst, ℕ}
use Rattle.std.proofs.lemmas.Result.{IfOk-weaker}
use Rattle.markdown_scanners_tree.specs.SomeExactly.{SomeExactly}
use Rattle.markdown_inlines.specs.Inlines.{IsWikiTarget}
use Rattle.markdown_inlines.specs.declared.links.LinkTarget.{LinkTarget}
use Rattle.markdown_inlines.proofs.reading.ReadingLemmas.{leads_single, leads_wiki}
use Rattle.markdown_inlines.proofs.reading.opener_target.Goals as goal

pub returns-then-opener-bracket-clause-found : goal.returns-then-opener-bracket-clause-found
returns-then-opener-bracket-clause-found g c =
    IfOk-weaker c.scan_target.result _ _
    (λ found. leads_single c.args.text.now (g.L.Labels.known c.args.labels.now) c.args.opener c.args.close found
    (c.if-opener-bracket.true ∙ ap (λ n. n + 1) c.bracket_of-bracket.ensures.bracket))
    c.scan_target.ensures.found

pub returns-else-opener-bracket-clause-found : goal.returns-else-opener-bracket-clause-found
returns-else-opener-bracket-clause-found g c =
    let opener = c.args.opener in
    let found = c.scan_wiki_target.result in
    let bracket = c.bracket_of-bracket.ensures.bracket in
    let here =
    subst (λ t. SomeExactly (λ (r : LinkTarget × ℕ). IsWikiTarget t c.bracket_of-bracket.result opener.text c.args.close r.0 r.1) found)
    c.as_bytes.ensures.value c.scan_wiki_target.ensures.found in
    leads_wiki c.args.text.now (g.L.Labels.known c.args.labels.now) opener c.args.close found
    (λ is. c.if-opener-bracket.false (is ∙ ap (λ n. n + 1) (sym bracket)))
    (subst (λ b. SomeExactly (λ (r : LinkTarget × ℕ). IsWikiTarget c.args.text.now b opener.text c.args.close r.0 r.1) found)
    bracket here)
