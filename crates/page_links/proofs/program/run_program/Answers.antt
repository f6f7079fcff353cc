use Rattle.std.proofs.Common.{ap, ◌∙◌}
use Rattle.page_programs.specs.declared.asked.Flags.{Flags}
use Rattle.page_links.specs.arguments.Arguments.{form_of}
use Rattle.page_links.proofs.program.run_program.Goals as goal

pub returns : goal.returns
returns g c =
    let asked = c.asked_options-asked.ensures in
    let check = ap (λ (flags : Flags). flags.check) asked.flags in
    rw (← (c.form_of.ensures ∙ ap form_of asked.flags), ← asked.extensions, ← asked.root, ← check) c.run_command.ensures
