-- Those are the labels of the links that are passed.
use Rattle.std.proofs.Common.{map, take}
use Rattle.page_links.specs.label_set.LabelSet.{HasLabels}
use Rattle.page_links.specs.labels.Labels.{labels_of}
use Rattle.page_links.specs.links.Links.{seen_link}
use Rattle.page_links.proofs.labels.labels_of.Given as goal

abbrev pub invariant-loop-link : goal.invariant-loop-link
invariant-loop-link l = HasLabels l.labels (labels_of (map seen_link (take l.link-index l.links)))
