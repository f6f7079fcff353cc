use Rattle.std.proofs.Common.{◌∙◌}
use Rattle.page_links.proofs.LabelSetLemmas.{found_by_order}
use Rattle.page_links.proofs.label_set.LabelSet.contains.Goals as goal

pub returns : goal.returns
returns c =
    rw (← c.self.view_is, ← c.in_ok-folding.ensures, ← c.as_str.ensures.value)
    (c.contains.ensures ∙ found_by_order c.self.inside.foldings.keys c.as_str.result.now)
