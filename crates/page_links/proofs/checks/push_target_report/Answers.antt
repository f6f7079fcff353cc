use Rattle.std.proofs.Common.{◌==◌, ◌∙◌, ap, length, sym}
use Rattle.std.proofs.lemmas.Result.{on_ok_weaker}
use Rattle.page_links.specs.checks.Checks.{given}
use Rattle.page_links.specs.links.Links.{seen_link}
use Rattle.page_links.specs.targets.Targets.{path_of}
use Rattle.page_links.proofs.TargetLemmas.{reports_file}
use Rattle.page_links.proofs.checks.push_target_report.Goals as goal

pub returns-clause-reports : goal.returns-clause-reports
returns-clause-reports g c =
    let path = c.path_of-path.ensures ∙ ap path_of (c.as_bytes.ensures.value ∙ c.as_str.ensures) in
    let some = ap (λ p. length p == 0) (sym path) ∙ sym c.is_empty.ensures ∙ c.if-is_empty.false in
    let checks = c.args.checks.now in
    on_ok_weaker c.push_file_report.result
    (λ more.
    let found = rw (c.as_str-2.ensures.value, c.in_ok-opened.ensures, path) at more.1 in (
      more.0,
      reports_file (g.L.FindsFiles.reads checks.finder.now) checks.setting (g.L.FindsFiles.finds checks.finder.now) (given checks.root)
          c.args.name.now c.args.anchors.now (seen_link c.args.link.now) more.0 (sym c.leads_away.ensures ∙ c.if-leads_away.false) some found,
      more.2,
    )) c.push_file_report.ensures.reports
