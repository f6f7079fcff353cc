use Rattle.std.proofs.Common.{ap, ◌∙◌}
use Rattle.page_tables.specs.Arguments.{task_of}
use Rattle.page_tables.proofs.program.run_program.Goals as goal

pub returns : goal.returns
returns g c = rw (← (c.task_of.ensures ∙ ap task_of c.asked_options.ensures.flags)) c.run_command.ensures
