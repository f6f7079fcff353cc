use Rattle.std.proofs.Common.{ap, ◌∙◌}
use Rattle.page_blocks.specs.Arguments.{form_of}
use Rattle.page_blocks.proofs.program.run_program.Goals as goal

pub returns : goal.returns
returns g c =
    let asked = c.asked_options-asked.ensures in
    rw (← (c.form_of.ensures ∙ ap form_of asked.flags), ← asked.extensions) c.run_command.ensures
