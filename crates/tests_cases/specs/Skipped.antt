-- What the handlers of cases skip.
use Rattle.std.specs.Prelude.{ℕ, List, Option, None, Some, ◌==◌, take, codes, nat_eq, if◌then◌else◌}
use Rattle.std.specs.List.{starts_with, prefix_len}
use Rattle.markdown_scanners_tree.specs.Ascii.{space}
use Rattle.tests_cases.specs.declared.skips.Skips.{Skips}
use Rattle.tests_cases.specs.declared.skips.Skips.TheVariants.{Refused, Nothing, Quote, Spaces, Letter}

-- how many bytes of what follows a line ending belong to a container: all of them are ASCII
abbrev pub skipped : Skips → List ℕ → ℕ
skipped Refused rest = 0
skipped Nothing rest = 0
skipped Quote rest = if starts_with nat_eq rest (codes "> ") then 2 else 0
skipped Spaces rest = prefix_len (λ b. b == space) (take 4 rest)
skipped Letter rest = if starts_with nat_eq rest (codes "x") then 1 else 0

abbrev pub skipped_or_none : Skips → List ℕ → Option ℕ
skipped_or_none Refused rest = None
skipped_or_none s rest = Some (skipped s rest)
