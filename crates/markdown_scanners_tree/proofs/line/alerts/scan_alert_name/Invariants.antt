-- No alert before the index stands at the front.
use Rattle.std.proofs.Common.{◌≡◌, drop, map}
use Rattle.markdown_scanners_tree.specs.line.Outcome.{alert_among, alert_name}
use Rattle.markdown_scanners_tree.proofs.line.alerts.AlertLemmas.{alert_row}
use Rattle.markdown_scanners_tree.proofs.line.alerts.scan_alert_name.Given as goal

abbrev pub invariant-loop-name : goal.invariant-loop-name
invariant-loop-name l = alert_among (map alert_row (drop l.name-index l.name-items)) l.bytes ≡ alert_name l.bytes
