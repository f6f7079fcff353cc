-- The number that a text begins with, by which most texts are ordered.
use Rattle.std.specs.Prelude.{ℕ, ◌+◌, ◌*◌, ◌<◌, List, [], ◌∷◌, zero, suc, get_or}

-- after this number the next n bytes as digits, the first the highest; zeros where there are fewer
abbrev pub number_after : ℕ → ℕ → List ℕ → ℕ
number_after zero number bytes = number
number_after (suc n) number [] = number_after n (number * 256) []
number_after (suc n) number (byte ∷ bytes) = number_after n (number * 256 + byte) bytes

-- that of the first eight bytes
abbrev pub front_of : List ℕ → ℕ
front_of bytes = number_after 8 0 bytes

-- each of the first n is a byte
abbrev pub HasDigits : ℕ → List ℕ → Type 0
HasDigits n bytes = (k : ℕ) → k < n → get_or bytes k 0 < 256
