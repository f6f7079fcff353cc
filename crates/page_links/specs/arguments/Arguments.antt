-- What the arguments of the command line ask for, beside what those of each program ask for.
use Rattle.std.specs.Prelude.{ℕ, List, ◌∷◌, if◌then◌else◌}
use Rattle.page_programs.specs.Asked.{check, json, root}
use Rattle.page_programs.specs.Extensions.{event_options}
use Rattle.page_programs.specs.declared.asked.Flags.{Flags}
use Rattle.page_links.specs.declared.printing.LinkForm.{LinkForm}
use Rattle.page_links.specs.declared.printing.LinkForm.TheVariants as Form

-- the options that the program has of its own
abbrev pub own_options : List (List ℕ)
own_options = json ∷ check ∷ root ∷ event_options

-- a line is a JSON object where `--json` asks for that
abbrev pub form_of : Flags → LinkForm
form_of flags = if flags.json then Form.Json else Form.Words
