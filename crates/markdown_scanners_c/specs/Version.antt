-- The version of the library, as C gets it.
use Rattle.std.specs.Prelude.{ℕ, ◌+◌, ◌*◌}

abbrev major : ℕ
major = 0

abbrev minor : ℕ
minor = 2

abbrev patch : ℕ
patch = 0

-- the three numbers as one: each but the first has eight bits
abbrev pub version : ℕ
version = 65536 * major + 256 * minor + patch
