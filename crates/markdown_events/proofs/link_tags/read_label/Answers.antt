use Rattle.std.proofs.Common.{◌≡◌, ◌∙◌, drop, sym, ap}
use Rattle.markdown_scanners_tree.specs.linklabel.Label.{Label}
use Rattle.markdown_scanners_tree.proofs.ForCallers.{one_label_unskipped}
use Rattle.markdown_events.proofs.link_tags.read_label.Goals as goal

pub returns-in-Some : goal.returns-in-Some
returns-in-Some c = λ close name is.
    let found = rw c.in-Some.is at c.in_ok-label.ensures.found in
    let same : found.label ≡ is.label = one_label_unskipped (drop c.args.offset c.args.text.now) found.label is.label found.is_label is.is_label in
    found.named ∙ (ap (λ (l : Label). l.text) same ∙ sym is.named)

pub returns-in-None : goal.returns-in-None
returns-in-None c = λ close name is. absurd ((rw c.in-None.is at c.in_ok-label.ensures.none) close name is)
