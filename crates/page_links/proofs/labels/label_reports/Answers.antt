use Rattle.std.proofs.Common.{List, [], ◌++◌, ◌∙◌, ap, map}
use Rattle.page_links.specs.definitions.Definitions.{seen_definition}
use Rattle.page_links.specs.labels.Labels.{labels_defined, labels_of, of_definitions}
use Rattle.page_links.specs.links.Links.{seen_link}
use Rattle.page_links.specs.reports.Reports.{Reported}
use Rattle.page_links.proofs.labels.label_reports.Goals as goal

pub returns : goal.returns
returns c =
    let found = map seen_definition c.in_ok-definitions.definitions.items in
    let used = labels_of (map seen_link c.args.links.now) in
    let defined = rw c.deref.ensures.value at c.in_ok-defined.ensures in
    let undefined = (rw (c.deref-2.ensures.value, c.new-reports.ensures.items) at c.in_ok-push_undefined.ensures) (labels_defined found) defined in
    let all = (rw c.deref-3.ensures.value at c.in_ok-push_definitions.ensures) used c.in_ok-used.ensures in record {
      defined = found;
      are_defined = rw c.as_bytes.ensures.value at c.in_ok-definitions.ensures;
      asked = map seen_link c.in_ok-asked.asked.items;
      are_asked = c.in_ok-asked.ensures;
      are_reports = all ∙ ap (λ (before : List Reported). before ++ of_definitions used [] found) undefined;
    }
