use Rattle.std.proofs.Common.{arith, sym, subst}
use Rattle.std.specs.Io.KnownBytes.{Consumes}
use Rattle.program_faults.specs.Steps.{no_read}
use Rattle.page_programs.proofs.ReadingLemmas.{consumes-none, consumes-more, reads_on, reads_made, reads_all}
use Rattle.page_programs.proofs.ReadingLemmas.{whole_input, by_err}
use Rattle.page_programs.proofs.reading.read_to_end.Goals as goal

pub loop-unread-init : goal.loop-unread-init
loop-unread-init g c = record {
  read = subst (Consumes (g.R.Read.remaining c.args.input.now) (g.R.Read.remaining c.args.input.now)) (sym c.new-unread.ensures.text)
      (consumes-none (g.R.Read.remaining c.args.input.now));
  reads = (0, omega (arith, c.new-unread.ensures.reads), no_read c.args.input.now);
}

pub loop-unread-preserved : goal.loop-unread-preserved
loop-unread-preserved g c =
    let more = c.in_ok-has_ended.ensures.read in
    record {
      read = subst (Consumes (g.R.Read.remaining c.args.input.now) (g.R.Read.remaining c.read_more.new.input)) (sym more.2)
          (consumes-more (g.R.Read.remaining c.args.input.now) (g.R.Read.remaining c.loop-unread.input) (g.R.Read.remaining c.read_more.new.input)
          c.loop-unread.unread.text.items more.0 c.loop-unread.invariant.read more.1);
      reads = reads_on g.R.StepReader.reads c.loop-unread.unread.reads c.read_more.new.self.reads 281474976710655 c.args.input.now c.loop-unread.input
          c.read_more.new.input c.loop-unread.invariant.reads c.read_more.ensures.reads;
    }

pub returns-then-has_ended-clause-page : goal.returns-then-has_ended-clause-page
returns-then-has_ended-clause-page g c =
    let more = c.in_ok-has_ended.ensures.read in
    whole_input (g.R.Read.remaining c.args.input.now) (g.R.Read.remaining c.read_more.new.input) c.read_more.new.self.text.items
    (subst (Consumes (g.R.Read.remaining c.args.input.now) (g.R.Read.remaining c.read_more.new.input)) (sym more.2)
    (consumes-more (g.R.Read.remaining c.args.input.now) (g.R.Read.remaining c.loop-unread.input) (g.R.Read.remaining c.read_more.new.input)
    c.loop-unread.unread.text.items more.0 c.loop-unread.invariant.read more.1))
    (c.in_ok-has_ended.ensures.end c.if-has_ended.true)

pub returns-then-has_ended-clause-reads : goal.returns-then-has_ended-clause-reads
returns-then-has_ended-clause-reads g c =
    reads_made g.R.StepReader.reads c.loop-unread.unread.reads c.read_more.new.self.reads 281474976710655 c.args.input.now c.loop-unread.input
    c.read_more.new.input c.loop-unread.invariant.reads c.read_more.ensures.reads

pub returns-in_err-has_ended-clause-reads : goal.returns-in_err-has_ended-clause-reads
returns-in_err-has_ended-clause-reads g c =
    reads_made g.R.StepReader.reads c.loop-unread.unread.reads c.read_more.new.self.reads 281474976710655 c.args.input.now c.loop-unread.input
    c.read_more.new.input c.loop-unread.invariant.reads c.read_more.ensures.reads

pub returns-in_err-has_ended-clause-failed : goal.returns-in_err-has_ended-clause-failed
returns-in_err-has_ended-clause-failed g c =
    by_err c.from_residual.result c.in_err-has_ended.field-0.0 c.from_residual.ensures.1
    (λ why is. reads_all g.R.StepReader.reads why c.loop-unread.unread.reads c.read_more.new.self.reads 281474976710655 c.args.input.now
    c.loop-unread.input c.read_more.new.input c.loop-unread.invariant.reads c.read_more.ensures.reads (c.in_err-has_ended.ensures.failed why is))
