use Rattle.std.proofs.Common.{List, ℕ, Bor, inr, refl, sym, subst, ◌∙◌, arith}
use Rattle.program_faults.specs.Faults.{AppendsBefore}
use Rattle.program_faults.specs.Steps.{AreWrites, no_write}
use Rattle.program_faults.proofs.StepLemmas.{printed-none, printed-kept, printed-more, printed-whole, writes-more}
use Rattle.program_faults.proofs.writing.write_bytes.Goals.{in-Ok+else-count-eq0, in-Err+else-ne}
use Rattle.program_faults.proofs.writing.write_bytes.Goals as goal

pub loop-round-init : goal.loop-round-init
loop-round-init g c = record {
  front = printed-none (g.W.Write.contents c.args.output.now) c.args.bytes.now;
  writes = no_write c.args.output.now;
}

pub returns-then-is_empty-clause-written : goal.returns-then-is_empty-clause-written
returns-then-is_empty-clause-written g c =
    printed-whole (g.W.Write.contents c.args.output.now) (g.W.Write.contents c.loop-round.output) c.args.bytes.now c.loop-round.rest.now (sym c.is_empty.ensures
    ∙ c.if-is_empty.true) c.loop-round.invariant.front

pub returns-then-is_empty-clause-front : goal.returns-then-is_empty-clause-front
returns-then-is_empty-clause-front g c = (c.loop-round.rest.now, c.loop-round.invariant.front)

pub returns-then-count-eq0-clause-front : goal.returns-then-count-eq0-clause-front
returns-then-count-eq0-clause-front g c = (
  _,
  printed-more (g.W.Write.contents c.args.output.now) (g.W.Write.contents c.loop-round.output)
      (g.W.Write.contents c.write_once.new.self) c.args.bytes.now c.loop-round.rest.now c.in-Ok.count c.loop-round.invariant.front c.in-Ok.ensures.bytes,
)

pub returns-then-ne-clause-front : goal.returns-then-ne-clause-front
returns-then-ne-clause-front g c = (
  c.loop-round.rest.now,
  printed-kept (g.W.Write.contents c.args.output.now) (g.W.Write.contents c.loop-round.output)
      (g.W.Write.contents c.write_once.new.self) c.args.bytes.now c.loop-round.rest.now c.loop-round.invariant.front c.in-Err.ensures.kept,
)

pub loop-round-preserved : goal.loop-round-preserved
loop-round-preserved g c = record {
  front = elim c.match-write_once.branch [
    | in-Ok+else-count-eq0 w ↦ subst (λ (r : Bor (List ℕ)). AppendsBefore (g.W.Write.contents c.args.output.now)
        (g.W.Write.contents c.write_once.new.self) c.args.bytes.now r.now) (sym w.rest-is)
        (printed-more (g.W.Write.contents c.args.output.now) (g.W.Write.contents c.loop-round.output)
        (g.W.Write.contents c.write_once.new.self) c.args.bytes.now c.loop-round.rest.now w.in-Ok.count c.loop-round.invariant.front w.in-Ok.ensures.bytes)
    | in-Err+else-ne w ↦ subst (λ (r : Bor (List ℕ)). AppendsBefore (g.W.Write.contents c.args.output.now)
        (g.W.Write.contents c.write_once.new.self) c.args.bytes.now r.now) (sym w.rest-is)
        (printed-kept (g.W.Write.contents c.args.output.now) (g.W.Write.contents c.loop-round.output)
        (g.W.Write.contents c.write_once.new.self) c.args.bytes.now c.loop-round.rest.now c.loop-round.invariant.front w.in-Err.ensures.kept)
  ];
  writes = writes-more g.W.StepWriter.writes c.loop-round._round c.args.output.now c.loop-round.output c.write_once.new.self _ _
      c.loop-round.invariant.writes c.write_once.ensures.step;
}

pub returns-clause-front : goal.returns-clause-front
returns-clause-front g c = (c.loop-round.rest.now, c.loop-round.invariant.front)

pub returns-clause-refused : goal.returns-clause-refused
returns-clause-refused g c = inr (
  refl,
  c.args.output.now,
  subst (λ n. AreWrites g.W.StepWriter.writes n c.args.output.now c.loop-round.output) (omega arith) c.loop-round.invariant.writes,
)
