use Rattle.std.proofs.Common.{length}
use Rattle.program_faults.specs.Faults.{AppendsBefore}
use Rattle.program_faults.specs.Steps.{IsGiven}
use Rattle.program_faults.proofs.complain.Given as goal

-- what the line has before the rest is printed, and giving the rest ends as giving the line does
abbrev pub invariant-loop-rest : goal.invariant-loop-rest
invariant-loop-rest g l = record {
  printed : AppendsBefore (g.V.Write.contents l.fn.faults) (g.V.Write.contents l.faults) l.line l.rest;
  given : (end : _) → IsGiven g.V.StepWriter.writes l.faults l.rest end → IsGiven g.V.StepWriter.writes l.fn.faults l.line end;
}

abbrev pub decreases-loop-rest : goal.decreases-loop-rest
decreases-loop-rest g l = length l.rest
