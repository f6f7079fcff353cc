use Rattle.std.proofs.Common.{string_bytes}
use Rattle.page_programs.proofs.WholeLemmas.{not_read, not_written}
use Rattle.page_programs.proofs.whole.WholeDoesPages.do_page.Goals as goal

pub returns-in_err-bytes-clause-done : goal.returns-in_err-bytes-clause-done
returns-in_err-bytes-clause-done g c =
    not_read (g.P.PrintsWholePages.mends c.args.self.now.printer) (g.P.PrintsWholePages.is_printed c.args.self.now.printer)
    (g.P.PrintsWholePages.checks c.args.self.now.printer) g.W.Write.contents c.args._pages c.args.name.now (g.R.Read.remaining c.args.input.now)
    (g.R.Read.remaining c.read_to_end.new.input) c.args.outputs.now c.from_residual.result c.in_err-bytes.field-0.0 c.from_residual.ensures.1
    c.in_err-bytes.ensures.unwritten (λ offset is. absurd (c.in_err-bytes.ensures.taken offset is)) c.in_err-bytes.ensures.unreplaced

pub returns-in_err-page-clause-done : goal.returns-in_err-page-clause-done
returns-in_err-page-clause-done g c =
    not_read (g.P.PrintsWholePages.mends c.args.self.now.printer) (g.P.PrintsWholePages.is_printed c.args.self.now.printer)
    (g.P.PrintsWholePages.checks c.args.self.now.printer) g.W.Write.contents c.args._pages c.args.name.now (g.R.Read.remaining c.args.input.now)
    (g.R.Read.remaining c.read_to_end.new.input) c.args.outputs.now c.from_residual-in_err-page.result c.in_err-page.field-0.0
    c.from_residual-in_err-page.ensures.1 c.in_err-page.ensures.unwritten
    (λ offset is. (c.in_ok-bytes.bytes.items, c.in_ok-bytes.ensures.page, rw c.mends_pages.ensures at c.in_err-page.ensures.refused offset is))
    c.in_err-page.ensures.unreplaced

pub returns-in_err-write_text-clause-done : goal.returns-in_err-write_text-clause-done
returns-in_err-write_text-clause-done g c =
    not_written (g.P.PrintsWholePages.mends c.args.self.now.printer) (g.P.PrintsWholePages.is_printed c.args.self.now.printer)
    (g.P.PrintsWholePages.checks c.args.self.now.printer) g.W.Write.contents c.args._pages c.args.name.now (g.R.Read.remaining c.args.input.now)
    (g.R.Read.remaining c.read_to_end.new.input) c.args.outputs.now c.write_text.new.output c.from_residual-in_err-write_text.result
    c.in_err-write_text.field-0.0 c.from_residual-in_err-write_text.ensures.1 c.in_err-write_text.ensures.write (string_bytes c.in_ok-text.text) record {
      page = c.in_ok-bytes.bytes.items;
      is_all = c.in_ok-bytes.ensures.page;
      read = string_bytes c.in_ok-page.page;
      is_read = rw c.mends_pages.ensures at c.in_ok-page.ensures.text;
      printed = rw c.as_str.ensures.value at c.in_ok-text.ensures;
    } (rw c.as_str-2.ensures.value at c.write_text.ensures.front)
