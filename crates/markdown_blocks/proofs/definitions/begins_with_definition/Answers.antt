use Rattle.std.proofs.Common.{sym, ◌∙◌}
use Rattle.markdown_blocks.proofs.definitions.GatherLemmas.{none_scanned}
use Rattle.markdown_blocks.proofs.definitions.LabelEnds.{none_without_label_end}
use Rattle.markdown_blocks.proofs.definitions.begins_with_definition.Goals as goal

pub returns-then-not-has_label_end : goal.returns-then-not-has_label_end
returns-then-not-has_label_end c = λ gone.
    none_without_label_end c.args.content.now (sym c.has_label_end.ensures ∙ c.if-not-has_label_end.true)

pub returns : goal.returns
returns c = λ gone.
    none_scanned c.args.content.now c.scan_definition.result c.scan_definition.ensures.found (sym c.is_some.ensures ∙ gone)
