use Rattle.std.proofs.Common.{List, ◌≡◌, ◌++◌, drop, map}
use Rattle.page_links.specs.checks.Checks.{AreTargetReports, given}
use Rattle.page_links.specs.checks.private.Pages.{AreAllKept}
use Rattle.page_links.specs.links.Links.{seen_link}
use Rattle.page_links.specs.reports.Reports.{Reported, seen_report}
use Rattle.page_links.proofs.checks.push_target_reports.Given as goal

-- What is kept of other pages are their anchors. However the links that are left are reported, with what is reported so far all links are.
abbrev pub invariant-loop-link : goal.invariant-loop-link
invariant-loop-link g l =
    AreAllKept (g.L.FindsFiles.reads l.checks.finder.now) l.checks.setting l.others
    × ((rest : List Reported)
    → AreTargetReports (g.L.FindsFiles.reads l.checks.finder.now) l.checks.setting (g.L.FindsFiles.finds l.checks.finder.now) (given l.checks.root)
    l.name l.anchors (map seen_link (drop l.link-index l.links)) rest
    → (all : List Reported)
    × AreTargetReports (g.L.FindsFiles.reads l.checks.finder.now) l.checks.setting (g.L.FindsFiles.finds l.checks.finder.now) (given l.checks.root)
    l.name l.anchors (map seen_link l.links) all
    × (map seen_report l.reports.items ++ rest ≡ map seen_report l.fn.reports.items ++ all))
