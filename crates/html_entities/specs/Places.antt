-- Where the row of a name is looked for.
use Rattle.std.specs.Prelude.{◌≡◌, ℕ, ◌+◌, ◌*◌, ◌/◌, ◌%◌, ◌^◌, ◌<◌, List, [], length, get_or, slice_index}
use Rattle.std.specs.List.{fold}

-- a hash, with one byte more
abbrev pub mixed : ℕ → ℕ → ℕ
mixed hash byte = ((hash * 31) % 2 ^ 32 + byte) % 2 ^ 32

unfoldable pub hash_of : List ℕ → ℕ
hash_of name = fold mixed 0 name

-- the number of the only row that can have the name
unfoldable pub row_of : List ℕ → List ℕ → List ℕ → ℕ
row_of seeds places name =
    let hash = hash_of name in
    slice_index places ((hash / 1024 + slice_index seeds (hash % 1024)) % 2125)

-- The tables lead from each name to its number.
pub record LeadToRows (seeds places : List ℕ) (names : List (List ℕ)) : Type 0 where
  pub seed_count : length seeds ≡ 1024
  pub place_count : length places ≡ 2125
  pub inside : (name : List ℕ) → row_of seeds places name < 2125
  pub leads : (k : ℕ) → k < length names → row_of seeds places (get_or names k []) ≡ k
