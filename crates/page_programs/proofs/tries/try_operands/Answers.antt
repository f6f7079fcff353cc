use Rattle.std.proofs.Common.{refl}
use Rattle.page_programs.specs.Tried.{in_turn, none_begun}
use Rattle.page_programs.proofs.tries.try_operands.Goals as goal

pub returns-in-Ok-clause-handled : goal.returns-in-Ok-clause-handled
returns-in-Ok-clause-handled g c = in_turn c.try_pages.result (rw (c.deref.ensures.value, c.in-Ok.ensures) at c.try_pages.ensures.tried)

pub returns-in-Err-clause-handled : goal.returns-in-Err-clause-handled
returns-in-Err-clause-handled g c =
    none_begun record { is_given = c.report_stop.ensures; same_input = refl; same_files = refl; same_output = refl }
