use Rattle.std.proofs.Common.{refl, sym, ◌∙◌}
use Rattle.page_programs.specs.Tried.{not_opened, of_file}
use Rattle.page_programs.proofs.tries.do_named.Goals as goal

pub returns-in-Err-clause-handled : goal.returns-in-Err-clause-handled
returns-in-Err-clause-handled g c = not_opened (sym c.eq.ensures ∙ c.if-eq.false) refl c.in-Err.reason record {
  refused = c.in-Err.ensures.step;
  kept = c.open_named.ensures.kept;
  same_output = refl;
  same_faults = refl;
} refl

pub returns-clause-handled : goal.returns-clause-handled
returns-clause-handled g c =
    let outputs = c.args.streams.now.outputs in
    of_file (sym c.eq.ensures ∙ c.if-eq.false) refl c.in-Ok.file c.do_page-2.new.input
    record { files = c.open_named.new.self; output = outputs.output; faults = outputs.faults } record {
      opened = c.in-Ok.ensures.step;
      bytes = c.in-Ok.ensures.bytes;
      kept = c.open_named.ensures.kept;
      same_output = refl;
      same_faults = refl;
    } c.do_page-2.ensures.read c.do_page-2.ensures.done
