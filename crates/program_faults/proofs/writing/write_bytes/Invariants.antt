use Rattle.program_faults.specs.Faults.{AppendsBefore}
use Rattle.program_faults.specs.Steps.{AreWrites}
use Rattle.program_faults.proofs.writing.write_bytes.Given as goal

-- what the text has before the rest is written, by as many writes as there were rounds
abbrev pub invariant-loop-round : goal.invariant-loop-round
invariant-loop-round g l = record {
  front : AppendsBefore (g.W.Write.contents l.fn.output) (g.W.Write.contents l.output) l.bytes l.rest;
  writes : AreWrites g.W.StepWriter.writes l._round l.fn.output l.output;
}
