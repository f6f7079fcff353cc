-- What the arguments of the command line ask for, beside what those of each program ask for.
use Rattle.std.specs.Prelude.{ℕ, List, ◌∷◌, if◌then◌else◌}
use Rattle.page_programs.specs.Asked.{json}
use Rattle.page_programs.specs.Extensions.{extension_options}
use Rattle.page_programs.specs.declared.asked.Flags.{Flags}
use Rattle.page_blocks.specs.declared.arguments.Form.{Form}
use Rattle.page_blocks.specs.declared.arguments.Form.TheVariants.{Words, Json}

-- the options that the program has of its own
abbrev pub own_options : List (List ℕ)
own_options = json ∷ extension_options

-- blocks are printed as JSON Lines where `--json` asks for them
abbrev pub form_of : Flags → Form
form_of flags = if flags.json then Json else Words
