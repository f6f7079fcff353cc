-- The extensions that C callers ask for, by the bits of `enum mds_extension`, which are those of `Options`.
use Rattle.std.specs.Prelude.{ℕ, ◌≡◌}
use Rattle.bitflags.specs.Sets.{without}
use Rattle.markdown_values.specs.declared.values.extensions.Extensions.{Extensions}
use Rattle.markdown_values.specs.declared.values.extensions.Options.{Options}
use Rattle.markdown_values.specs.values.Extensions.{asked_by, extension_bits}
use Rattle.markdown_events.specs.page.Settings.{not_built}

-- the options with these bits
abbrev pub options_of : ℕ → Options
options_of bits = record { 0 = bits }

-- what they ask for
abbrev pub extensions_of : ℕ → Extensions
extensions_of bits = asked_by (options_of bits)

-- those of the bits that ask for nothing
abbrev pub unknown_bits : ℕ → ℕ
unknown_bits bits = without 32 bits (extension_bits (extensions_of bits))

-- Each bit is one of an extension.
abbrev pub AreExtensions : ℕ → Type 0
AreExtensions bits = unknown_bits bits ≡ 0

-- Each is one of an extension of which events are built.
abbrev pub AreBuilt : ℕ → Type 0
AreBuilt bits = not_built (options_of bits) ≡ 0
