-- The text may be cut there, and the events of the lines from there on make, after those that are given, the events of all.
use Rattle.std.proofs.Common.{length, ◌-◌}
use Rattle.markdown_events.proofs.page.leaf_content.LineLemmas.{AreGiven}
use Rattle.markdown_events.proofs.page.leaf_content.line_events.Given as goal

abbrev pub invariant-loop-from : goal.invariant-loop-from
invariant-loop-from l = AreGiven l.is_html l.source l.events.items l.from

abbrev pub decreases-loop-from : goal.decreases-loop-from
decreases-loop-from l = length l.text - l.from
