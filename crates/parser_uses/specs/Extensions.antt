-- The bits of extensions by their names.
use Rattle.std.specs.Prelude.{ℕ, List, unwrap_or}
use Rattle.bitflags.specs.Sets.{find_name}
use Rattle.markdown_values.specs.values.Extensions.{extension_table}

-- the bits of the extension of this name, and none where no extension has it
unfoldable pub bits_named : List ℕ → ℕ
bits_named name = unwrap_or (find_name extension_table name) 0
