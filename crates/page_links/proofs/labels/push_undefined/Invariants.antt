-- What is reported and the reports of the links that are left are those of all.
use Rattle.std.proofs.Common.{ℕ, List, ◌≡◌, ◌++◌, drop, map}
use Rattle.std.specs.List.{flat_map}
use Rattle.page_links.specs.label_set.LabelSet.{HasLabels}
use Rattle.page_links.specs.labels.Labels.{not_defined}
use Rattle.page_links.specs.links.Links.{seen_link}
use Rattle.page_links.specs.reports.Reports.{seen_report}
use Rattle.page_links.proofs.labels.push_undefined.Given as goal

abbrev pub invariant-loop-link : goal.invariant-loop-link
invariant-loop-link l = (labels : List (List ℕ)) → HasLabels l.defined labels
    → map seen_report l.reports.items ++ flat_map (not_defined labels) (map seen_link (drop l.link-index l.links))
    ≡ map seen_report l.fn.reports.items ++ flat_map (not_defined labels) (map seen_link l.links)
