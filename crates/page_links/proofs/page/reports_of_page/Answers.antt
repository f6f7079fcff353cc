use Rattle.std.proofs.Common.{List, ◌++◌, ap, map, ◌∙◌}
use Rattle.html_attributes.specs.StartTags.{seen_tag}
use Rattle.page_links.specs.checks.Checks.{given}
use Rattle.page_links.specs.links.Links.{seen_link}
use Rattle.page_links.specs.reports.Reports.{Reported, seen_report}
use Rattle.page_links.proofs.TargetLemmas.{same_reports}
use Rattle.page_links.proofs.page.reports_of_page.Goals as goal

pub returns : goal.returns
returns g c =
    let checks = c.args.checks.now in
    let name = c.args.name.now in
    let seen = map seen_link c.in_ok-links.links.items in
    let shown = map seen_link c.in_ok-shown.shown.items in
    let anchors = c.in_ok-anchors.ensures in
    let targets = rw c.deref-2.ensures.value at c.in_ok-push_target_reports.ensures.reports in
    let html_targets = rw c.deref-5.ensures.value at c.in_ok-push_target_reports-2.ensures.reports in
    let same = same_reports (g.L.FindsFiles.reads checks.finder.now) checks.setting (g.L.FindsFiles.finds checks.finder.now) (given checks.root)
    c.in_ok-anchors.anchors anchors.0 anchors.2 name in record {
      links = seen;
      are_links = c.in_ok-links.ensures.links;
      anchors = anchors.0;
      are_anchors = anchors.1;
      labels = map seen_report c.in_ok-made.made.items;
      are_labels = rw c.deref.ensures.value at c.in_ok-made.ensures;
      targets = targets.0;
      are_targets = same seen targets.0 targets.1;
      tags = map seen_tag c.in_ok-tags.tags.items;
      are_tags = record {
        html = c.in_ok-html.html.items;
        is_html = c.in_ok-html.ensures;
        are_tags = rw c.deref-3.ensures.value at c.in_ok-tags.ensures;
      };
      html_links = shown;
      are_html_links = rw c.deref-4.ensures.value at c.in_ok-shown.ensures;
      html_targets = html_targets.0;
      are_html_targets = same shown html_targets.0 html_targets.1;
      are_reports = html_targets.2 ∙ ap (λ (before : List Reported). before ++ html_targets.0) targets.2;
    }
