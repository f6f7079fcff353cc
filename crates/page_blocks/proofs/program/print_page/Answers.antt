use Rattle.std.proofs.Common.{ℕ, ◌+◌, ◌-◌, ◌++◌, ◌≡◌, true, false, IsTrue, length, drop, arith, refl, sym, ap, subst, ◌∙◌}
use Rattle.std.proofs.lemmas.List.{length-drop}
use Rattle.program_faults.specs.Steps.{AreReads, no_read}
use Rattle.page_blocks.specs.Printed.{Printed}
use Rattle.page_programs.specs.declared.reading.TheConstants.{READS}
use Rattle.page_programs.proofs.CutLemmas.{if_err}
use Rattle.page_programs.proofs.ReadingLemmas.{by_err, reads_on, reads_made, reads_all}
use Rattle.page_blocks.proofs.ProgramLemmas.{begun-first, begun-read, begun-written, begun-stopped, begun-done, cut-lines, cut-title}
use Rattle.page_blocks.proofs.program.print_page.Goals as goal

pub loop-printing-init : goal.loop-printing-init
loop-printing-init g c = record {
  begun = begun-first c.args.extensions c.args.form c.args.title.now (g.R.Read.remaining c.args.input.now) (g.W.Write.contents c.args.output.now)
      (g.W.Write.contents c.write_text.new.output) c.new-printing.result c.new-unread.result.text.items c.in_ok-write_text.ensures.written
      c.new-unread.ensures.text c.new-printing.ensures.printed c.new-printing.ensures.form c.new-printing.ensures.asked;
  empty = c.new-printing.ensures.nothing;
  reads = (0, omega (arith, c.new-unread.ensures.reads), no_read c.args.input.now);
  lines = omega (
    arith,
    ap (λ (p : Printed). p.at.lines) c.new-printing.ensures.at,
    ap length c.new-unread.ensures.text,
    c.new-unread.ensures.reads,
  );
  bytes = omega (
    arith,
    ap (λ (p : Printed). p.at.bytes) c.new-printing.ensures.at,
    ap length c.new-unread.ensures.text,
    c.new-unread.ensures.reads,
  );
}

pub returns-in_err-has_ended-clause-begun : goal.returns-in_err-has_ended-clause-begun
returns-in_err-has_ended-clause-begun g c =
    let read = c.in_err-has_ended.ensures.read in
    if_err _ c.from_residual-in_err-has_ended.result (begun-stopped c.args.extensions c.args.form c.args.title.now
    (g.R.Read.remaining c.args.input.now) (g.W.Write.contents c.args.output.now)
    (g.R.Read.remaining c.read_more.new.input) (g.W.Write.contents c.loop-printing.output) c.loop-printing.printing
    (c.loop-printing.unread.text.items ++ read.0)
    (begun-read c.args.extensions c.args.form c.args.title.now (g.R.Read.remaining c.args.input.now) (g.W.Write.contents c.args.output.now)
    (g.R.Read.remaining c.loop-printing.input)
    (g.R.Read.remaining c.read_more.new.input) (g.W.Write.contents c.loop-printing.output) c.loop-printing.printing c.loop-printing.unread.text.items
    (c.loop-printing.unread.text.items ++ read.0) read.0 c.loop-printing.invariant.begun read.1 refl)
    c.loop-printing.invariant.empty)

pub print-requires-clause-lines : goal.print-requires-clause-lines
print-requires-clause-lines g c = omega (arith, c.loop-printing.invariant.lines, c.in_ok-has_ended.ensures.room, ap length c.deref.ensures.value)

pub print-requires-clause-bytes : goal.print-requires-clause-bytes
print-requires-clause-bytes g c = omega (arith, c.loop-printing.invariant.bytes, c.in_ok-has_ended.ensures.room, ap length c.deref.ensures.value)

pub returns-in_err-count-clause-begun : goal.returns-in_err-count-clause-begun
returns-in_err-count-clause-begun g c =
    let read = c.in_ok-has_ended.ensures.read in
    if_err _ c.from_residual-in_err-count.result (begun-stopped c.args.extensions c.args.form c.args.title.now
    (g.R.Read.remaining c.args.input.now) (g.W.Write.contents c.args.output.now)
    (g.R.Read.remaining c.read_more.new.input) (g.W.Write.contents c.loop-printing.output) c.loop-printing.printing
    (c.loop-printing.unread.text.items ++ read.0)
    (begun-read c.args.extensions c.args.form c.args.title.now (g.R.Read.remaining c.args.input.now) (g.W.Write.contents c.args.output.now)
    (g.R.Read.remaining c.loop-printing.input)
    (g.R.Read.remaining c.read_more.new.input) (g.W.Write.contents c.loop-printing.output) c.loop-printing.printing c.loop-printing.unread.text.items
    (c.loop-printing.unread.text.items ++ read.0) read.0 c.loop-printing.invariant.begun read.1 refl)
    c.loop-printing.invariant.empty)

pub returns-then-has_ended-clause-printed : goal.returns-then-has_ended-clause-printed
returns-then-has_ended-clause-printed g c =
    let read = c.in_ok-has_ended.ensures.read in
    begun-done c.args.extensions c.args.form c.args.title.now (g.R.Read.remaining c.args.input.now) (g.W.Write.contents c.args.output.now)
    (g.R.Read.remaining c.read_more.new.input) (g.W.Write.contents c.loop-printing.output) (g.W.Write.contents c.write_text-in-loop-printing.new.output)
    c.loop-printing.printing c.print.new.self c.deref.result.now
    (begun-read c.args.extensions c.args.form c.args.title.now (g.R.Read.remaining c.args.input.now) (g.W.Write.contents c.args.output.now)
    (g.R.Read.remaining c.loop-printing.input)
    (g.R.Read.remaining c.read_more.new.input) (g.W.Write.contents c.loop-printing.output) c.loop-printing.printing c.loop-printing.unread.text.items
    c.deref.result.now read.0 c.loop-printing.invariant.begun read.1 (c.deref.ensures.value ∙ read.2))
    (c.in_ok-count.ensures.ended c.if-has_ended.true)
    (rw c.as_str.ensures.value at c.in_ok-write_text-2.ensures.written) (c.in_ok-has_ended.ensures.end c.if-has_ended.true)

pub loop-printing-preserved : goal.loop-printing-preserved
loop-printing-preserved g c =
    let read = c.in_ok-has_ended.ensures.read in
    let other : ¬ IsTrue c.in_ok-has_ended.has_ended =
    λ ended. let both : true ≡ false = sym ended ∙ c.if-has_ended.false in cc in
    let left : length c.drop_front.new.self.text.items ≡ length c.read_more.new.self.text.items - c.in_ok-count.count =
    ap length c.drop_front.ensures.text ∙ length-drop c.in_ok-count.count c.read_more.new.self.text.items in
    record {
      begun = begun-written c.args.extensions c.args.form c.args.title.now (g.R.Read.remaining c.args.input.now)
          (g.W.Write.contents c.args.output.now)
          (g.R.Read.remaining c.read_more.new.input) (g.W.Write.contents c.loop-printing.output)
          (g.W.Write.contents c.write_text-in-loop-printing.new.output)
          c.loop-printing.printing c.print.new.self _ c.deref.result.now c.drop_front.new.self.text.items c.in_ok-count.count
          (begun-read c.args.extensions c.args.form c.args.title.now (g.R.Read.remaining c.args.input.now)
          (g.W.Write.contents c.args.output.now) (g.R.Read.remaining c.loop-printing.input)
          (g.R.Read.remaining c.read_more.new.input)
          (g.W.Write.contents c.loop-printing.output) c.loop-printing.printing c.loop-printing.unread.text.items
          c.deref.result.now read.0 c.loop-printing.invariant.begun read.1 (c.deref.ensures.value ∙ read.2))
          c.loop-printing.invariant.empty
          (c.in_ok-count.ensures.printed other)
          c.in_ok-count.ensures.form c.in_ok-count.ensures.asked
          (rw c.as_str.ensures.value at c.in_ok-write_text-2.ensures.written)
          refl refl refl refl c.clear.ensures.bytes (c.drop_front.ensures.text ∙ ap (drop c.in_ok-count.count) (sym c.deref.ensures.value));
      empty = c.clear.ensures.bytes;
      reads = subst (λ n. (count : ℕ) × (n + count ≡ READS) × AreReads g.R.StepReader.reads count c.args.input.now c.read_more.new.input)
          (sym c.drop_front.ensures.reads)
          (reads_on g.R.StepReader.reads c.loop-printing.unread.reads c.read_more.new.self.reads READS c.args.input.now
          c.loop-printing.input c.read_more.new.input c.loop-printing.invariant.reads c.read_more.ensures.reads);
      lines = omega (
        arith,
        c.loop-printing.invariant.lines,
        c.in_ok-has_ended.ensures.room,
        ap length c.deref.ensures.value,
        left,
        c.in_ok-count.ensures.within,
        c.in_ok-count.ensures.lines other,
        c.drop_front.ensures.reads,
      );
      bytes = omega (
        arith,
        c.loop-printing.invariant.bytes,
        c.in_ok-has_ended.ensures.room,
        ap length c.deref.ensures.value,
        left,
        c.in_ok-count.ensures.within,
        c.in_ok-count.ensures.bytes other,
        c.drop_front.ensures.reads,
      );
    }

pub returns-in_err-has_ended-clause-reads : goal.returns-in_err-has_ended-clause-reads
returns-in_err-has_ended-clause-reads g c =
    reads_made g.R.StepReader.reads c.loop-printing.unread.reads c.read_more.new.self.reads READS c.args.input.now c.loop-printing.input c.read_more.new.input
    c.loop-printing.invariant.reads c.read_more.ensures.reads

pub returns-in_err-count-clause-reads : goal.returns-in_err-count-clause-reads
returns-in_err-count-clause-reads g c =
    reads_made g.R.StepReader.reads c.loop-printing.unread.reads c.read_more.new.self.reads READS c.args.input.now c.loop-printing.input c.read_more.new.input
    c.loop-printing.invariant.reads c.read_more.ensures.reads

pub returns-in_err-write_text-2-clause-reads : goal.returns-in_err-write_text-2-clause-reads
returns-in_err-write_text-2-clause-reads g c =
    reads_made g.R.StepReader.reads c.loop-printing.unread.reads c.read_more.new.self.reads READS c.args.input.now c.loop-printing.input c.read_more.new.input
    c.loop-printing.invariant.reads c.read_more.ensures.reads

pub returns-then-has_ended-clause-reads : goal.returns-then-has_ended-clause-reads
returns-then-has_ended-clause-reads g c =
    reads_made g.R.StepReader.reads c.loop-printing.unread.reads c.read_more.new.self.reads READS c.args.input.now c.loop-printing.input c.read_more.new.input
    c.loop-printing.invariant.reads c.read_more.ensures.reads

pub returns-in_err-has_ended-clause-failed : goal.returns-in_err-has_ended-clause-failed
returns-in_err-has_ended-clause-failed g c =
    by_err c.from_residual-in_err-has_ended.result c.in_err-has_ended.field-0.0 c.from_residual-in_err-has_ended.ensures.1
    (λ why is. reads_all g.R.StepReader.reads why c.loop-printing.unread.reads c.read_more.new.self.reads READS c.args.input.now c.loop-printing.input
    c.read_more.new.input c.loop-printing.invariant.reads c.read_more.ensures.reads (c.in_err-has_ended.ensures.failed why is))

pub returns-in_err-write_text-clause-reads : goal.returns-in_err-write_text-clause-reads
returns-in_err-write_text-clause-reads g c = (0, no_read c.args.input.now)

pub returns-in_err-write_text-clause-cut : goal.returns-in_err-write_text-clause-cut
returns-in_err-write_text-clause-cut g c =
    if_err _ c.from_residual.result (cut-title c.args.extensions c.args.form c.args.title.now (g.R.Read.remaining c.args.input.now)
    (g.W.Write.contents c.args.output.now) (g.W.Write.contents c.write_text.new.output) c.write_text.ensures.front)

pub returns-in_err-write_text-2-clause-cut : goal.returns-in_err-write_text-2-clause-cut
returns-in_err-write_text-2-clause-cut g c =
    let read = c.in_ok-has_ended.ensures.read in
    if_err _ c.from_residual-in_err-write_text-2.result (cut-lines c.args.extensions c.args.form c.args.title.now (g.R.Read.remaining c.args.input.now)
    (g.W.Write.contents c.args.output.now) c.in_ok-has_ended.has_ended (g.R.Read.remaining c.read_more.new.input)
    (g.W.Write.contents c.loop-printing.output) (g.W.Write.contents c.write_text-in-loop-printing.new.output) c.loop-printing.printing c.print.new.self
    c.deref.result.now c.in_ok-count.count
    (begun-read c.args.extensions c.args.form c.args.title.now (g.R.Read.remaining c.args.input.now) (g.W.Write.contents c.args.output.now)
    (g.R.Read.remaining c.loop-printing.input)
    (g.R.Read.remaining c.read_more.new.input) (g.W.Write.contents c.loop-printing.output) c.loop-printing.printing c.loop-printing.unread.text.items
    c.deref.result.now read.0 c.loop-printing.invariant.begun read.1 (c.deref.ensures.value ∙ read.2))
    (rw c.as_str.ensures.value at c.write_text-in-loop-printing.ensures.front)
    c.in_ok-count.ensures.printed c.in_ok-count.ensures.form c.in_ok-count.ensures.asked c.in_ok-count.ensures.ended c.in_ok-has_ended.ensures.end)
