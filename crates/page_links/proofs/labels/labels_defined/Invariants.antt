-- Those are the labels of the definitions that are passed.
use Rattle.std.proofs.Common.{map, take}
use Rattle.page_links.specs.definitions.Definitions.{seen_definition}
use Rattle.page_links.specs.label_set.LabelSet.{HasLabels}
use Rattle.page_links.specs.labels.Labels.{labels_defined}
use Rattle.page_links.proofs.labels.labels_defined.Given as goal

abbrev pub invariant-loop-definition : goal.invariant-loop-definition
invariant-loop-definition l = HasLabels l.labels (labels_defined (map seen_definition (take l.definition-index l.definitions)))
