use Rattle.std.proofs.Common.{◌≡◌, ◌≤◌, length}
use Rattle.markdown_scanners_c.specs.private.Searched.{searched}
use Rattle.markdown_scanners_c.proofs.skips.searched.Given as goal

abbrev pub invariant-loop-rest : goal.invariant-loop-rest
invariant-loop-rest l = record {
  fits : length l.rest ≤ length l.skips;
  goes_on : searched l.rest l.offset ≡ searched l.skips l.offset;
}

abbrev pub decreases-loop-rest : goal.decreases-loop-rest
decreases-loop-rest l = length l.rest
