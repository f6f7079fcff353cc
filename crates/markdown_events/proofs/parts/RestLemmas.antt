-- The rest of a text from an offset on.
use Rattle.std.proofs.Common.{ℕ, List, ◌≡◌, ◌-◌, take, drop, length, arith}
use Rattle.std.proofs.lemmas.List.{take_all, length-drop}

-- as it is cut out of the text
pub from_offset : (text : List ℕ) (offset : ℕ) → take (length text - offset) (drop offset text) ≡ drop offset text
from_offset text offset = take_all (length text - offset) (drop offset text) (omega (arith, length-drop offset text))
