use Rattle.std.proofs.Common.{ℕ, List, ◌≡◌, ◌++◌, [], drop, map, take}
use Rattle.page_links.specs.definitions.Definitions.{seen_definition}
use Rattle.page_links.specs.label_set.LabelSet.{HasLabels}
use Rattle.page_links.specs.labels.Labels.{labels_defined, of_definitions}
use Rattle.page_links.specs.reports.Reports.{seen_report}
use Rattle.page_links.proofs.labels.push_definitions.Given as goal

-- Those before are the labels of the definitions that are passed. What is reported and the reports of the definitions that are left, after
-- these, are those of all.
abbrev pub invariant-loop-definition : goal.invariant-loop-definition
invariant-loop-definition l =
    HasLabels l.before (labels_defined (map seen_definition (take l.definition-index l.definitions)))
    × ((labels : List (List ℕ)) → HasLabels l.used labels
    → map seen_report l.reports.items
    ++ of_definitions labels (labels_defined (map seen_definition (take l.definition-index l.definitions)))
    (map seen_definition (drop l.definition-index l.definitions))
    ≡ map seen_report l.fn.reports.items ++ of_definitions labels [] (map seen_definition l.definitions))
