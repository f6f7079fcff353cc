-- Bytes that a caller accepts.
use Rattle.std.specs.Prelude.{ℕ, Bool, List, ◌==◌}
use Rattle.std.specs.List.{list_any}

-- the byte is one of these
abbrev pub is_among : List ℕ → ℕ → Bool
is_among accepted b = list_any (λ a. a == b) accepted
