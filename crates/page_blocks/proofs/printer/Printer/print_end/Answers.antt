use Rattle.std.proofs.Common.{◌-◌, ◌≡◌, suc, string_bytes, arith, ◌∙◌}
use Rattle.page_blocks.specs.Printers.{printed_of}
use Rattle.page_blocks.proofs.PageLemmas.{end_step}
use Rattle.page_blocks.proofs.printer.Printer.print_end.Goals as goal

pub loop-left-preserved : goal.loop-left-preserved
loop-left-preserved c =
    let more : c.loop-left.left ≡ suc (c.loop-left.left - 1) = omega (arith, c.loop-left-test.true) in
    record {
      lines = end_step c.loop-left.self.form c.print.new.self.form (printed_of c.loop-left.self) (printed_of c.print.new.self)
          (string_bytes c.loop-left.self.text) (string_bytes c.print.new.self.text) _ c.loop-left.left (c.loop-left.left - 1) more
          c.in_ok-print.ensures.form c.in_ok-print.ensures.so_far c.in_ok-print.ensures.lines c.loop-left.invariant.lines;
      form = c.in_ok-print.ensures.form ∙ c.loop-left.invariant.form;
    }
