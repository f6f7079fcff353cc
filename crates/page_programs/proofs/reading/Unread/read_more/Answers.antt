use Rattle.std.proofs.Common.{rules, arith, sym, ap, subst, ◌∙◌, Ok, [], ◌++◌, append_assoc, append-nil, take}
use Rattle.program_faults.specs.Steps.{no_read}
use Rattle.page_programs.proofs.ReadingLemmas.{consumes-none, consumes-more, reads_less}
use Rattle.page_programs.proofs.reading.Unread.read_more.Goals as goal

pub loop-self-init : goal.loop-self-init
loop-self-init g c = record {
  seen = ([], consumes-none (g.R.Read.remaining c.args.input.now), sym (append-nil c.args.self.now.text.items));
  fewer = omega arith;
  room = omega arith;
  reads = (0, omega arith, no_read c.args.input.now);
}

pub returns-in-Err-clause-reads : goal.returns-in-Err-clause-reads
returns-in-Err-clause-reads g c =
    reads_less g.R.StepReader.reads c.loop-self.self.reads c.args.self.now.reads c.args.input.now c.loop-self.input c.read_once.new.self _
    c.loop-self-test.true c.loop-self.invariant.reads c.read_once.ensures.step

pub returns-then-count-eq0-clause-reads : goal.returns-then-count-eq0-clause-reads
returns-then-count-eq0-clause-reads g c =
    reads_less g.R.StepReader.reads c.loop-self.self.reads c.args.self.now.reads c.args.input.now c.loop-self.input c.read_once.new.self _
    c.loop-self-test.true c.loop-self.invariant.reads c.read_once.ensures.step

pub returns-in_err-extend_from_slice-clause-read : goal.returns-in_err-extend_from_slice-clause-read
returns-in_err-extend_from_slice-clause-read g c =
    let seen = c.loop-self.invariant.seen in (
      seen.0 ++ take c.in-Ok.count c.read_once.new.buffer,
      consumes-more (g.R.Read.remaining c.args.input.now) (g.R.Read.remaining c.loop-self.input) (g.R.Read.remaining c.read_once.new.self) seen.0
          (take c.in-Ok.count c.read_once.new.buffer) seen.1 c.in-Ok.ensures.bytes,
      search rules,
    )

pub returns-in_err-extend_from_slice-clause-reads : goal.returns-in_err-extend_from_slice-clause-reads
returns-in_err-extend_from_slice-clause-reads g c =
    reads_less g.R.StepReader.reads c.loop-self.self.reads c.args.self.now.reads c.args.input.now c.loop-self.input c.read_once.new.self _
    c.loop-self-test.true c.loop-self.invariant.reads c.read_once.ensures.step

pub returns-then-len-before-clause-reads : goal.returns-then-len-before-clause-reads
returns-then-len-before-clause-reads g c =
    reads_less g.R.StepReader.reads c.loop-self.self.reads c.args.self.now.reads c.args.input.now c.loop-self.input c.read_once.new.self _
    c.loop-self-test.true c.loop-self.invariant.reads c.read_once.ensures.step

pub returns-then-count-eq0-clause-ended : goal.returns-then-count-eq0-clause-ended
returns-then-count-eq0-clause-ended g c = λ has_ended. (
  c.loop-self.input,
  subst (λ n. g.R.StepReader.reads c.loop-self.input (Ok (take n c.read_once.new.buffer)) c.read_once.new.self)
      c.if-count-eq0.true c.in-Ok.ensures.step,
)

pub loop-self-preserved : goal.loop-self-preserved
loop-self-preserved g c =
    let seen = c.loop-self.invariant.seen in
    record {
      seen = (
        seen.0 ++ take c.in-Ok.count c.read_once.new.buffer,
        consumes-more (g.R.Read.remaining c.args.input.now) (g.R.Read.remaining c.loop-self.input) (g.R.Read.remaining c.read_once.new.self) seen.0
            (take c.in-Ok.count c.read_once.new.buffer) seen.1 c.in-Ok.ensures.bytes,
        c.in_ok-extend_from_slice.ensures.items ∙ ap (λ l. l ++ take c.in-Ok.count c.read_once.new.buffer) seen.2
            ∙ append_assoc c.args.self.now.text.items seen.0 (take c.in-Ok.count c.read_once.new.buffer),
      );
      fewer = omega (arith, c.loop-self.invariant.fewer);
      room = search rules;
      reads = reads_less g.R.StepReader.reads c.loop-self.self.reads c.args.self.now.reads c.args.input.now c.loop-self.input c.read_once.new.self _
          c.loop-self-test.true c.loop-self.invariant.reads c.read_once.ensures.step;
    }
