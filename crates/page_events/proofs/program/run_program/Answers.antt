use Rattle.page_events.proofs.program.run_program.Goals as goal

pub returns : goal.returns
returns g c = rw (← c.asked_options.ensures.extensions, ← c.usage_of.ensures, ← c.help_of.ensures) c.run_command.ensures
