use Rattle.std.proofs.Common.{not, sym, ◌∙◌, ap}
use Rattle.std.specs.List.{list_all}
use Rattle.markdown_values.specs.strings.Text.{cow_text}
use Rattle.markdown_scanners_tree.specs.scanners.unescaping.private.FirstPiece.{begins_change}
use Rattle.markdown_events.proofs.parts.MeaningLemmas.{means_itself}
use Rattle.markdown_events.proofs.parts.meaning_of.Goals as goal

pub returns-then-means_itself : goal.returns-then-means_itself
returns-then-means_itself c =
    means_itself (cow_text c.args.text) (ap (list_all (λ b. not (begins_change b))) (sym c.as_str.ensures)
    ∙ sym c.means_itself.ensures ∙ c.if-means_itself.true)
