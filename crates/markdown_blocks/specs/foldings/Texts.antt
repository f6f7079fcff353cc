-- The bytes of a key's text.
use Rattle.std.specs.Prelude.{ℕ, List, take, string_bytes}
use Rattle.markdown_blocks.specs.declared.foldings.Text.{Text}
use Rattle.markdown_blocks.specs.declared.foldings.Text.TheVariants.{Short, Long}

abbrev pub bytes_of : Text → List ℕ
bytes_of (Short text) = take text.len text.bytes
bytes_of (Long text) = string_bytes text
