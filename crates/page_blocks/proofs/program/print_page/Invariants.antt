use Rattle.std.proofs.Common.{ℕ, [], ◌+◌, ◌*◌, ◌≤◌, ◌≡◌, length, string_bytes}
use Rattle.program_faults.specs.Steps.{AreReads}
use Rattle.page_programs.specs.declared.reading.TheConstants.{READS}
use Rattle.page_blocks.proofs.ProgramLemmas.{Begun}
use Rattle.page_blocks.proofs.program.print_page.Given as goal

-- what was read is printed and written as far as the text that is left, by the reads that are no longer left; there are no more lines than reads gave bytes
abbrev pub invariant-loop-printing : goal.invariant-loop-printing
invariant-loop-printing g l = record {
  begun : Begun l.fn.extensions l.fn.form l.title (g.R.Read.remaining l.fn.input) (g.R.Read.remaining l.input)
      (g.W.Write.contents l.fn.output) (g.W.Write.contents l.output)
      l.printing l.unread.text.items;
  empty : string_bytes l.printing.text.printer.text ≡ [];
  reads : (count : ℕ) × (l.unread.reads + count ≡ READS) × AreReads g.R.StepReader.reads count l.fn.input l.input;
  lines : l.printing.text.printer.at.lines + (length l.unread.text.items + 65536 * l.unread.reads) ≤ 18446744073709486080;
  bytes : l.printing.text.printer.at.bytes + (length l.unread.text.items + 65536 * l.unread.reads) ≤ 18446744073709486080;
}

abbrev pub decreases-loop-printing : goal.decreases-loop-printing
decreases-loop-printing g l = l.unread.reads
