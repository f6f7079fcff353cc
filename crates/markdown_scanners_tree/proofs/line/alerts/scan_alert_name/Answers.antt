use Rattle.std.proofs.Common.{◌∙◌, sym, ap, arith}
use Rattle.std.proofs.lemmas.Grind.{common_steps}
use Rattle.markdown_scanners_tree.specs.line.Outcome.{is_alert_name}
use Rattle.markdown_scanners_tree.proofs.line.alerts.AlertLemmas.{alert_next}
use Rattle.markdown_scanners_tree.proofs.line.alerts.scan_alert_name.Goals as goal

pub loop-name-preserved : goal.loop-name-preserved
loop-name-preserved c =
    alert_next _ _ _ _ c.loop-name-test.true
    (ap (λ name. is_alert_name name c.args.bytes.now) (sym c.as_bytes.ensures.value)
    ∙ sym c.begins_with_name.ensures.name ∙ c.if-begins_with_name.false)
    c.loop-name.invariant

pub returns-clause-name : goal.returns-clause-name
returns-clause-name c = grind (arith, common_steps)
