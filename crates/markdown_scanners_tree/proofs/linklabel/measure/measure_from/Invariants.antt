use Rattle.std.proofs.Common.{length, ◌-◌, false}
use Rattle.markdown_scanners_tree.specs.Handler.{Skips}
use Rattle.markdown_scanners_tree.proofs.linklabel.MeasureLemmas.{IsTallied}
use Rattle.markdown_scanners_tree.proofs.linklabel.measure.measure_from.Given as goal

abbrev pub invariant-loop-ix : goal.invariant-loop-ix
invariant-loop-ix g l =
    IsTallied (Skips g.F.Fn l.handler) l.is_in_table l.bytes (length l.bytes) false l.ix l.tally

abbrev pub decreases-loop-ix : goal.decreases-loop-ix
decreases-loop-ix g l = length l.bytes - l.ix
