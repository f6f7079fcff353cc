-- Texts that stand one after another in one text.
use Rattle.std.specs.Prelude.{◌≡◌, ℕ, ◌+◌, ◌-◌, ◌<◌, ◌≤◌, List, [], length, take, drop, get_or, slice_index}
use Rattle.std.specs.Str.{IsCharBoundary}

-- The part stands from start to end, between two characters each.
pub record IsPart (text : List ℕ) (start end : ℕ) (part : List ℕ) : Type 0 where
  pub in_order : start ≤ end
  pub starts : IsCharBoundary text start
  pub ends : IsCharBoundary text end
  pub is : take (end - start) (drop start text) ≡ part

-- Each part stands from its start to the next start.
pub record AreParts (text starts : List ℕ) (parts : List (List ℕ)) : Type 0 where
  pub enough : length parts < length starts
  pub each : (k : ℕ) → k < length parts
      → IsPart text (slice_index starts k) (slice_index starts (k + 1)) (get_or parts k [])
