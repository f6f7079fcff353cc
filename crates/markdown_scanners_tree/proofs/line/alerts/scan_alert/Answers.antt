use Rattle.std.proofs.Common.{◌∙◌, ap, arith}
use Rattle.std.proofs.lemmas.Grind.{elements}
use Rattle.markdown_scanners_tree.specs.Bytes.{blank_line}
use Rattle.markdown_scanners_tree.proofs.PrefixLemmas.{from_offset}
use Rattle.markdown_scanners_tree.proofs.line.alerts.AlertLemmas.{alert_line-found}
use Rattle.markdown_scanners_tree.proofs.line.alerts.scan_alert.Goals as goal

pub returns-clause-alert : goal.returns-clause-alert
returns-clause-alert c =
    let name = c.in_ok-name.name.now in
    let after = c.in_ok-name.ensures.cases in
    alert_line-found c.args.bytes.now name c.in_ok-kind.kind c.in_ok-kind.length c.in_ok-rest.rest after.0 after.1
    c.in_ok-kind.ensures.name
    (c.in_ok-rest.ensures.line ∙ ap blank_line (from_offset name c.in_ok-kind.length))

pub returns-in_err-rest-clause-alert : goal.returns-in_err-rest-clause-alert
returns-in_err-rest-clause-alert c = grind (arith, elements)
