use Rattle.std.proofs.Common.{◌∙◌}
use Rattle.page_links.proofs.LabelSetLemmas.{found_by_order}
use Rattle.page_links.proofs.anchors.Anchors.contains.Goals as goal

pub returns : goal.returns
returns c = rw (← c.self.view_is) (c.contains.ensures ∙ found_by_order c.self.inside.texts.keys c.args.text.now)
