use Rattle.std.proofs.Common.{List, [], ◌∷◌, ◌++◌, ◌+◌, ◌≡◌, ap, append_assoc, append-nil, drop, map, refl, subst, sym, ◌∙◌}
use Rattle.std.proofs.lemmas.List.{at_drop_all, at_drop_more}
use Rattle.page_links.specs.checks.Checks.{AreTargetReports, given}
use Rattle.page_links.specs.links.Links.{Seen, seen_link}
use Rattle.page_links.specs.reports.Reports.{Reported, seen_report}
use Rattle.page_links.proofs.checks.push_target_reports.Goals as goal

pub loop-link-preserved : goal.loop-link-preserved
loop-link-preserved g c = (
  c.in_ok-push_target_report.ensures.kept,
  λ rest are.
      let links = c.args.links.now in
      let checks = c.args.checks.now in
      let i = c.loop-link.link-index in
      let one = c.in_ok-push_target_report.ensures.reports in
      let left : map seen_link (drop i links) ≡ seen_link c.link-item.result ∷ map seen_link (drop (i + 1) links) =
      at_drop_more (map seen_link) links i c.link-item.result c.loop-link-test.true
      ∙ ap (λ it. seen_link it ∷ map seen_link (drop (i + 1) links)) (sym c.link-item.is) in
      let reports = AreTargetReports (g.L.FindsFiles.reads checks.finder.now) checks.setting (g.L.FindsFiles.finds checks.finder.now)
      (given checks.root) c.args.name.now c.args.anchors.now in
      let whole = c.loop-link.invariant.1 (one.0 ++ rest)
      (subst (λ (seen : List Seen). reports seen (one.0 ++ rest)) (sym left) (one.0, rest, one.1, are, refl)) in (
        whole.0,
        whole.1,
        ap (λ (all : List Reported). all ++ rest) one.2 ∙ append_assoc (map seen_report c.loop-link.reports.items) one.0 rest ∙ whole.2,
      ),
)

pub returns-clause-reports : goal.returns-clause-reports
returns-clause-reports g c =
    let checks = c.args.checks.now in
    let whole = c.loop-link.invariant.1 []
    (subst (λ (seen : List Seen). AreTargetReports (g.L.FindsFiles.reads checks.finder.now) checks.setting
    (g.L.FindsFiles.finds checks.finder.now) (given checks.root) c.args.name.now c.args.anchors.now seen [])
    (sym (at_drop_all (map seen_link) c.args.links.now c.loop-link.link-index c.loop-link-test.false)) refl) in
    (whole.0, whole.1, sym (append-nil (map seen_report c.loop-link.reports.items)) ∙ whole.2)
