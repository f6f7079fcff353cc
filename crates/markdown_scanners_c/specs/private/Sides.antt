-- Bytes with which characters of UTF-8 begin.
use Rattle.std.specs.Prelude.{ℕ, Bool, ◌||◌, nat_lt, nat_le}

-- it is no continuation byte
abbrev pub begins_character : ℕ → Bool
begins_character byte = nat_lt byte 128 || nat_le 192 byte
