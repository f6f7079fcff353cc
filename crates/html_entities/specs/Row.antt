-- A row of the table of entities.
use Rattle.std.specs.Prelude.{ℕ, List}
use Prim.Native.String.{String}

-- a name, without its `;`, and the characters that it stands for
abbrev pub Row : Type 0
Row = String × List ℕ
