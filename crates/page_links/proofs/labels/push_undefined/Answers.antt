use Rattle.std.proofs.Common.{arith}
use Rattle.page_links.specs.labels.Labels.{not_defined}
use Rattle.page_links.specs.links.Links.{seen_link}
use Rattle.page_links.proofs.TextLemmas.{written_more}
use Rattle.page_links.proofs.labels.push_undefined.Goals as goal

pub loop-link-preserved : goal.loop-link-preserved
loop-link-preserved c = λ labels are.
    written_more seen_link (not_defined labels) c.args.links.now c.loop-link.link-index c.link-item.result _ _ _ (omega arith) c.link-item.is
    (c.loop-link.invariant labels are) (c.in_ok-push_not_defined.ensures labels are)
