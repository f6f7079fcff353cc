use Rattle.std.proofs.Common.{sym, ◌∙◌}
use Rattle.program_faults.proofs.StepLemmas.{printed-more, given-nothing, given-refused, given-failed, given-taken}
use Rattle.program_faults.proofs.complain.Goals as goal

pub returns-then-count-eq0-clause-given : goal.returns-then-count-eq0-clause-given
returns-then-count-eq0-clause-given g c =
    c.loop-rest.invariant.given _ (given-refused g.V.StepWriter.writes c.loop-rest.faults _ c.loop-rest.rest.now c.in-Ok.count
    (sym c.is_empty.ensures ∙ c.loop-rest-test.true) c.if-count-eq0.true c.in-Ok.ensures.step)

pub loop-rest-preserved : goal.loop-rest-preserved
loop-rest-preserved g c = record {
  printed = printed-more (g.V.Write.contents c.args.faults.now) (g.V.Write.contents c.loop-rest.faults) (g.V.Write.contents c.write_once.new.self) c.args.line.now
      c.loop-rest.rest.now c.in-Ok.count c.loop-rest.invariant.printed c.in-Ok.ensures.bytes;
  given = λ end more. c.loop-rest.invariant.given end (given-taken g.V.StepWriter.writes c.loop-rest.faults c.write_once.new.self end c.loop-rest.rest.now
      c.in-Ok.count c.if-count-eq0.false c.in-Ok.ensures.step more);
}

pub returns-clause-given : goal.returns-clause-given
returns-clause-given g c = c.loop-rest.invariant.given _ (given-nothing g.V.StepWriter.writes _ c.loop-rest.rest.now (sym c.is_empty.ensures
    ∙ c.loop-rest-test.false))

pub returns-in_default-clause-given : goal.returns-in_default-clause-given
returns-in_default-clause-given g c =
    c.loop-rest.invariant.given _ (given-failed g.V.StepWriter.writes c.loop-rest.faults _ c.loop-rest.rest.now c.in_default.field-0
    (sym c.is_empty.ensures ∙ c.loop-rest-test.true) c.in_default.ensures.step)
