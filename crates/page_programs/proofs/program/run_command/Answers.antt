use Rattle.std.proofs.Common.{refl, sym}
use Rattle.page_programs.proofs.RunLemmas.{unknown_run}
use Rattle.page_programs.proofs.program.run_command.Goals as goal

pub returns-in-Some : goal.returns-in-Some
returns-in-Some g c = unknown_run c.in-Some.word (sym c.in-Some.ensures) record {
  is_given = c.report_unknown.ensures;
  same_input = refl;
  same_files = refl;
  same_output = refl;
}
