-- Handlers of the tests of labels: what they skip at the start of a line.
use Rattle.std.specs.Prelude.{ℕ, ◌-◌, ◌&&◌, ◌==◌, nat_lt, nat_le, List, [], ◌∷◌, length, slice_index, nat_eq, if◌then◌else◌}
use Rattle.std.specs.List.{starts_with}

-- the length of the marker, where it stands at the front and ends in an ASCII byte; else nothing
abbrev pub skipped : List ℕ → List ℕ → ℕ
skipped marker rest =
    if nat_lt 0 (length marker) && nat_le (length marker) (length rest) && starts_with nat_eq rest marker && nat_lt (slice_index rest (length marker - 1)) 128
    then length marker else 0

-- the length of a block quote's marker with a space after it, where it stands at the front; else nothing
abbrev pub quote_len : List ℕ → ℕ
quote_len [] = 0
quote_len (b ∷ []) = 0
quote_len (b ∷ c ∷ bs) = if b == 62 && c == 32 then 2 else 0
