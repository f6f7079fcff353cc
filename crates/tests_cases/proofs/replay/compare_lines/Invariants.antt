-- Each line so far was counted once.
use Rattle.std.proofs.Common.{◌≡◌, ◌+◌}
use Rattle.tests_cases.proofs.replay.compare_lines.Given as goal

abbrev pub invariant-loop-number : goal.invariant-loop-number
invariant-loop-number g l = l.tally.agree + l.tally.differ + 1 ≡ l.number
