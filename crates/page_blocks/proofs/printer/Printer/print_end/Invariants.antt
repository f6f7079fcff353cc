use Rattle.std.proofs.Common.{◌++◌, ◌≡◌, string_bytes}
use Rattle.page_blocks.specs.Printed.{last_lines}
use Rattle.page_blocks.specs.Printers.{printed_of}
use Rattle.page_blocks.proofs.printer.Printer.print_end.Given as goal

-- with the last lines where so many containers are open, those where all are open are printed
abbrev pub invariant-loop-left : goal.invariant-loop-left
invariant-loop-left l = record {
  lines : string_bytes l.self.text ++ last_lines l.self.form (printed_of l.self) l.left
      ≡ string_bytes l.fn.self.text ++ last_lines l.fn.self.form (printed_of l.fn.self) l.depth;
  form : l.self.form ≡ l.fn.self.form;
}

abbrev pub decreases-loop-left : goal.decreases-loop-left
decreases-loop-left l = l.left
