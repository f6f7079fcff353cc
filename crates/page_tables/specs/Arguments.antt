-- What the arguments of the command line ask to do with pages.
use Rattle.std.specs.Prelude.{ℕ, Bool, true, false, List, [], ◌∷◌, if◌then◌else◌}
use Rattle.std.specs.Str.{bytes_eq}
use Rattle.page_programs.specs.Arguments.{dash}
use Rattle.page_programs.specs.Asked.{check, write}
use Rattle.page_programs.specs.Extensions.{gfm}
use Rattle.page_programs.specs.declared.asked.Flags.{Flags}
use Rattle.page_tables.specs.declared.arguments.Task.{Task}
use Rattle.page_tables.specs.declared.arguments.Task.TheVariants.{Print, Check, Replace}

-- the options that the program has of its own
abbrev pub own_options : List (List ℕ)
own_options = check ∷ write ∷ gfm ∷ []

-- Where both are asked for nothing is written.
abbrev pub task_of : Flags → Task
task_of flags = if flags.check then Check else if flags.write then Replace else Print

-- a page of standard input is printed where files are replaced
abbrev pub task_for : Task → List ℕ → Task
task_for Replace name = if bytes_eq name dash then Print else Replace
task_for task name = task

abbrev pub is_check : Task → Bool
is_check Check = true
is_check task = false
