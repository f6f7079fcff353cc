-- It is a line of the page that the offset isn't before.
use Rattle.std.proofs.Common.{◌+◌, ◌-◌, ◌≤◌, length}
use Rattle.page_positions.specs.private.Lines.{IsLineOf}
use Rattle.page_positions.proofs.Line.holding.Given as goal

abbrev pub invariant-loop-line : goal.invariant-loop-line
invariant-loop-line l = record { is_line : IsLineOf l.page l.line; begun : l.line.start ≤ l.offset }

abbrev pub decreases-loop-line : goal.decreases-loop-line
decreases-loop-line l = length l.page + 1 - l.line.start
