use Rattle.markdown_blocks.specs.events.Given.{events_left}
use Rattle.markdown_blocks.specs.first_blocks.Alerts.{alert_at}
use Rattle.markdown_blocks.proofs.first_blocks.FirstLemmas.{IsFoundSoFar}
use Rattle.markdown_blocks.proofs.alerts.alerts_of_page_ext.Given as goal

abbrev pub invariant-loop-found : goal.invariant-loop-found
invariant-loop-found l = IsFoundSoFar alert_at l.fn.extensions l.page l.blocks l.firsts l.found.items

abbrev pub decreases-loop-found : goal.decreases-loop-found
decreases-loop-found l = events_left l.blocks
