use Rattle.std.proofs.lemmas.Result.{on_ok_weaker}
use Rattle.page_links.specs.links.Links.{seen_link}
use Rattle.std.proofs.Common.{string_bytes}
use Rattle.page_links.proofs.TargetLemmas.{same_page}
use Rattle.page_links.proofs.checks.push_page_report.Goals as goal

pub returns-clause-reports : goal.returns-clause-reports
returns-clause-reports g c =
    let checks = c.args.checks.now in
    on_ok_weaker c.push_report_of_page.result
    (λ more. (
      more.0,
      same_page (g.L.FindsFiles.reads checks.finder.now) checks.setting c.args.path.now (string_bytes c.in_ok-real.real) c.in_ok-real.ensures
          (seen_link c.args.link.now) more.0 (rw c.as_str.ensures.value at more.1),
      more.2,
    )) c.push_report_of_page.ensures.reports
