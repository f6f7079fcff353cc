use Rattle.std.proofs.Common.{length, ◌≤◌, ◌-◌}
use Rattle.markdown_scanners_tree.specs.linklabel.private.Run.{IsRun}
use Rattle.markdown_scanners_tree.proofs.linklabel.word.word_run.Given as goal

abbrev pub invariant-loop-run : goal.invariant-loop-run
invariant-loop-run l = record {
  read : IsRun l.is_in_table l.escaped l.fn.rest l.run.len l.run.escapes;
  within : l.run.len ≤ length l.fn.rest;
}

abbrev pub decreases-loop-run : goal.decreases-loop-run
decreases-loop-run l = length l.fn.rest - l.run.len
