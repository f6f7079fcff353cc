use Rattle.std.proofs.Common.{refl}
use Rattle.page_blocks.proofs.StopLemmas.{not_printed, not_titled, nothing_read}
use Rattle.page_blocks.proofs.program.BlocksDoesPages.do_page.Goals as goal

pub returns-in_err-title-clause-done : goal.returns-in_err-title-clause-done
returns-in_err-title-clause-done g c =
    not_titled c.args.self.now.extensions c.args.self.now.form g.W.Write.contents c.args.pages c.args.name.now (g.R.Read.remaining c.args.input.now)
    (g.R.Read.remaining c.args.input.now) c.args.outputs.now c.from_residual.result c.from_residual.ensures.1

pub returns-in_err-title-clause-read : goal.returns-in_err-title-clause-read
returns-in_err-title-clause-read g c =
    nothing_read g.R.Read.remaining g.R.StepReader.reads c.args.input.now c.from_residual.result c.from_residual.ensures.1

pub returns-in_err-print_page-clause-done : goal.returns-in_err-print_page-clause-done
returns-in_err-print_page-clause-done g c =
    let begun = rw (c.as_str.ensures.value, c.in_ok-title.ensures) at c.in_err-print_page.ensures.begun in
    let cut = rw (c.as_str.ensures.value, c.in_ok-title.ensures) at c.in_err-print_page.ensures.cut in
    not_printed c.args.self.now.extensions c.args.self.now.form g.W.Write.contents c.args.pages c.args.name.now (g.R.Read.remaining c.args.input.now)
    (g.R.Read.remaining c.print_page.new.input) c.args.outputs.now c.print_page.new.output c.from_residual-in_err-print_page.result
    c.in_err-print_page.field-0.0 c.from_residual-in_err-print_page.ensures.1 begun cut c.in_err-print_page.ensures.taken
    c.in_err-print_page.ensures.unreplaced

pub returns-clause-done : goal.returns-clause-done
returns-clause-done g c =
    (rw (c.as_str.ensures.value, c.in_ok-title.ensures) at c.in_ok-print_page.ensures.printed, (refl, refl), refl)
