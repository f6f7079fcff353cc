-- Which options a page can be read with, and what they ask for.
use Rattle.std.specs.Prelude.{ℕ, false, ◌≡◌, ⊤}
use Rattle.bitflags.specs.Sets.{without}
use Rattle.markdown_values.specs.declared.values.extensions.Extensions.{Extensions}
use Rattle.markdown_values.specs.declared.values.extensions.Options.{Options}
use Rattle.markdown_values.specs.values.Extensions.{asked_by, bits_of, extension_bits}
use Rattle.markdown_events.specs.declared.settings.NewError.{NewError}
use Rattle.markdown_events.specs.declared.settings.NewError.TheVariants.{Unsupported, Refused}

-- those of the extensions that events are built of: footnotes and definition lists are text
abbrev pub built : Extensions → Extensions
built asked = record asked { footnotes = false; definition_lists = false }

-- the bits that are on of options that are not built
abbrev pub not_built : Options → ℕ
not_built options = without 32 (bits_of options) (extension_bits (built (asked_by options)))

-- what an error says of the options: which of them are not built, at least one; or nothing, where memory was refused
abbrev pub Explains : Options → NewError → Type 0
Explains options (Unsupported named) = (bits_of named ≡ not_built options) × ¬ (not_built options ≡ 0)
Explains options (Refused error) = ⊤
