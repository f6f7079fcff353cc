use Rattle.page_links.proofs.AnchorLemmas.{added_anchor}
use Rattle.page_links.proofs.anchors.Anchors.add.Goals as goal

pub returns : goal.returns
returns c = λ anchors are.
    added_anchor c.self.inside.texts c.insert.new.self c.args.anchor anchors c.in_ok-insert.ensures.updates (rw (← c.self.view_is) at are)
