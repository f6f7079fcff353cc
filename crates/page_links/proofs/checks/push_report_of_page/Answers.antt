use Rattle.std.proofs.Common.{sym}
use Rattle.std.proofs.lemmas.Result.{on_ok_weaker}
use Rattle.page_links.specs.checks.Checks.{fragment_report, is_unread, reported, unread_finding}
use Rattle.page_links.specs.links.Links.{seen_link}
use Rattle.page_links.specs.targets.Targets.{fragment_of}
use Rattle.page_links.proofs.PageLemmas.{one_more_kept}
use Rattle.page_links.proofs.TargetLemmas.{reports_kept}
use Rattle.page_links.proofs.checks.push_report_of_page.Goals as goal

pub returns-in-Some-clause-reports : goal.returns-in-Some-clause-reports
returns-in-Some-clause-reports g c =
    let checks = c.args.checks.now in
    let path = c.args.path.now in
    let it = seen_link c.args.link.now in
    let anchors = c.in-Some.anchors.now in
    on_ok_weaker c.push_fragment_report.result
    (λ more. (
      fragment_report anchors it (fragment_of it.destination),
      reports_kept (g.L.FindsFiles.reads checks.finder.now) checks.setting path it anchors (c.requires.kept path anchors (sym c.in-Some.ensures.value)),
      more,
    )) c.push_fragment_report.ensures

pub returns-in-Err-clause-reports : goal.returns-in-Err-clause-reports
returns-in-Err-clause-reports g c =
    on_ok_weaker c.push_unread_report.result
    (λ more. (
      reported (unread_finding c.in-Err.reason) (seen_link c.args.link.now),
      is_unread c.in-Err.reason c.in-Err.ensures.unread,
      more,
    )) c.push_unread_report.ensures

pub returns-clause-kept : goal.returns-clause-kept
returns-clause-kept g c =
    let checks = c.args.checks.now in
    let anchors = rw c.deref.ensures.value at c.in_ok-anchors.ensures in
    one_more_kept (g.L.FindsFiles.reads checks.finder.now) checks.setting c.args.others.now c.insert.new.self c.in_ok-from_str.field-0 c.args.path.now
    c.in_ok-anchors.anchors c.in_ok-from_str.ensures.ok c.requires.kept c.in_ok-insert.ensures.updates
    (anchors.0, (c.in-Ok.page.items, c.in-Ok.ensures.read, anchors.1), anchors.2)

pub returns-clause-reports : goal.returns-clause-reports
returns-clause-reports g c =
    let checks = c.args.checks.now in
    let it = seen_link c.args.link.now in
    let anchors = rw c.deref.ensures.value at c.in_ok-anchors.ensures in (
      fragment_report c.in_ok-anchors.anchors it (fragment_of it.destination),
      reports_kept (g.L.FindsFiles.reads checks.finder.now) checks.setting c.args.path.now it c.in_ok-anchors.anchors
          (anchors.0, (c.in-Ok.page.items, c.in-Ok.ensures.read, anchors.1), anchors.2),
      c.in_ok-push_fragment_report.ensures,
    )
