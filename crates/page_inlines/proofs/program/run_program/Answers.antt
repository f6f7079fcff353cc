use Rattle.page_inlines.proofs.program.run_program.Goals as goal

pub returns : goal.returns
returns g c = rw (← c.asked_options.ensures.extensions) c.run_command.ensures
