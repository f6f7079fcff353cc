use Rattle.page_links.proofs.LabelSetLemmas.{added_label}
use Rattle.page_links.proofs.label_set.LabelSet.add.Goals as goal

pub returns : goal.returns
returns c = λ labels are.
    added_label c.self.inside.foldings c.insert.new.self c.in_ok-folding.folding c.args.label.now labels c.in_ok-folding.ensures
    c.in_ok-insert.ensures.updates (rw (← c.self.view_is) at are)
